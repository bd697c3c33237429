-- Exactly the fit graphs have a legal build (Whitney).
--
--   some_table          a set that counts something has a table
--   has_build_exactly   the two ways
use Rattle.std.proofs.Common.{◌≡◌, ℕ, zero, suc, ◌≤◌, Bool, true, false, cond, ap, ⊎_elim, arith}
use Rattle.std.proofs.lemmas.Bool.{cases_Bool}
use Rattle.theory.specs.Graph.{count}
use Rattle.disassembly.specs.Laws.{HasBuildExactly}
use Rattle.disassembly.proofs.Corners.{build_fit}
use Rattle.disassembly.proofs.Given.{fit_builds}

pub some_table : (U : ℕ → Bool) (n : ℕ) → 1 ≤ count U n → (r : ℕ) × (U r ≡ true)
some_table U zero h = absurd (omega arith)
some_table U (suc n) h =
    ⊎_elim
    (λ e. (n, e))
    (λ (e : U n ≡ false). some_table U n (let nought : cond {A = ℕ} (U n) 1 0 ≡ 0 = ap (λ b. cond b 1 0) e in omega arith))
    (cases_Bool (U n))

one_at_least : (k : ℕ) → 3 ≤ k → 1 ≤ k
one_at_least k h = omega arith

pub has_build_exactly : HasBuildExactly
has_build_exactly U J s = (
  build_fit U J s,
  (λ fit. let r = some_table U 64 (one_at_least (count U 64) fit.three) in fit_builds U J s r.0 r.1 fit),
)
