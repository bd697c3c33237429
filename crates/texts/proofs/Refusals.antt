-- A refusal passed on by `?`: what it leaves open.
use Rattle.std.proofs.Common.{◌≡◌, ℕ, IfErr, Ok, Err, Result, sym, ap, ◌∙◌, subst, arith}
use Rattle.std.specs.Result.{IsErrAnd}
use Rattle.std.proofs.lemmas.Result.{err_from_is_err_and}

-- it is the one that the callee gave
pub passed_on : {X E : Type 0} (r : Result X E) (e : E) → IsErrAnd r (λ x. x ≡ e) → r ≡ Err e
passed_on r e h = let p = err_from_is_err_and r h in p.1 ∙ ap (λ x. Err x) p.2

-- what holds of the refusal that a callee gave holds of the one passed on
pub refused_on : {X E : Type 0} (r : Result X E) (x e : E) (P : E → Type 0) → r ≡ Err x → x ≡ e → P e → IfErr r P
refused_on (Ok v) x e P gave is h = let z : ◌≡◌ {A = ℕ} 0 1 = cc in absurd (omega arith)
refused_on (Err y) x e P gave is h = let same : y ≡ e = cc in subst P (sym same) h
