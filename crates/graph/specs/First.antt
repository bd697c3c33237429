-- The order of checking: of a list of conditions, each with its refusal, the first that holds refuses.
use Rattle.std.specs.Prelude.{Bool, cond, List, [], ◌∷◌, Ok, Err, Result}

abbrev pub refused_first : {F : Type 0} → List (Bool × F) → Result Unit F
refused_first [] = Ok tt
refused_first (c ∷ rest) = cond c.0 (Err c.1) (refused_first rest)
