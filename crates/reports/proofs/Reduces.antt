-- What `reduce` makes of the items of a chain, where its closure computes a function of two items.
--
--   reduced   the answer is what that function makes of the items, from the first on
use Rattle.std.proofs.Common.{◌≡◌, List, [], ◌∷◌, Some, None, Option, refl, ap, subst}
use Rattle.std.specs.Fn.{Called}
use Rattle.std.specs.Iterator.{FoldTurn, ReducesItems, Drains}
use Rattle.std.specs.List.{FoldsTo, reduce}
use Rattle.std.specs.Option.{MatchOption}
use Rattle.std.proofs.lemmas.Iterator.{YieldsList}
use Rattle.std.proofs.lemmas.Iterator.Consumers.{reduce_from_yields_List}
use denote.Param.Members.{Mut}

module _ {A F : Type 0} (g : Mut F (A × (A × Unit {0})) A) (h : A → A → A) (f : F) (acts : (a x b : A) (q : F) → Called g f (a, (x, tt)) b q → (q ≡ f) × (b ≡ h a x)) where
  -- each turn makes of the item so far and the next what h does
  turns : (xs : List A) (p q : F × A) → p.0 ≡ f → FoldsTo {P = F × A} (FoldTurn g) p xs q → FoldsTo (λ a x b. b ≡ h a x) p.1 xs q.1
  turns [] p q a e = ap (λ w. w.1) e
  turns (x ∷ xs) p q a e =
      let m = acts p.1 x e.0.1 e.0.0 (subst (λ w. Called g w (p.1, (x, tt)) e.0.1 e.0.0) a e.1) in
      (e.0.1, m.1, turns xs e.0 q m.0 e.2)

  module _ {S : Type 0} (steps : S → Option A → S → Type 0) (s : S) where
    run : (r : Option A) → ReducesItems steps g s f r
        → MatchOption r (Drains steps s []) (λ y. (x : A) × (xs : List A) × Drains steps s (x ∷ xs) × FoldsTo (λ p z c. c ≡ h p z) x xs y)
    run None e = e
    run (Some y) e = (e.0, e.1, e.3, turns e.1 (f, e.0) (e.2, y) refl e.4)

    pub reduced : {all : List A} (r : Option A) → ReducesItems steps g s f r → YieldsList steps (λ x. x) s all → r ≡ reduce h all
    reduced r e given = reduce_from_yields_List h s r (run r e) given
