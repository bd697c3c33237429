-- The first refusal of a list of conditions, taken apart: what an accepted front and a refused front say.
use Rattle.std.proofs.Common.{◌≡◌, Bool, true, false, cond, List, [], ◌∷◌, ◌++◌, Ok, Err, Result, sym, refl, ap, ◌∙◌}
use Rattle.graph.specs.First.{refused_first}

pub ok_err : {F : Type 0} (f : F) → ◌≡◌ {A = Result Unit F} (Ok tt) (Err f) → ⊥
ok_err f e = cc

-- the first condition does not hold
pub past : {F : Type 0} (b : Bool) (f : F) (x : Result Unit F) → cond b (Err f) x ≡ Ok tt → (b ≡ false) × (x ≡ Ok tt)
past true f x e = absurd (ok_err f (sym e))
past false f x e = (refl, e)

pub first_on : {F : Type 0} (l r : List (Bool × F)) → refused_first l ≡ Ok tt → refused_first (l ++ r) ≡ refused_first r
first_on [] r e = refl
first_on (c ∷ l) r e =
    let p = past c.0 c.1 (refused_first l) e in
    ap (λ b. cond b (Err c.1) (refused_first (l ++ r))) p.0 ∙ first_on l r p.1

pub front_ok : {F : Type 0} (l r : List (Bool × F)) → refused_first (l ++ r) ≡ Ok tt → (refused_first l ≡ Ok tt) × (refused_first r ≡ Ok tt)
front_ok [] r e = (refl, e)
front_ok (c ∷ l) r e =
    let p = past c.0 c.1 (refused_first (l ++ r)) e in
    let q = front_ok l r p.1 in
    (ap (λ b. cond b (Err c.1) (refused_first l)) p.0 ∙ q.0, q.1)

stays : {F : Type 0} (b : Bool) (h f : F) (x y : Result Unit F) → cond b (Err h) x ≡ Err f → (x ≡ Err f → y ≡ Err f) → cond b (Err h) y ≡ Err f
stays true h f x y e k = e
stays false h f x y e k = k e

pub first_off : {F : Type 0} (l r : List (Bool × F)) (f : F) → refused_first l ≡ Err f → refused_first (l ++ r) ≡ Err f
first_off [] r f e = absurd (ok_err f e)
first_off (c ∷ l) r f e = stays c.0 c.1 f (refused_first l) (refused_first (l ++ r)) e (first_off l r f)
