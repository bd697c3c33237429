-- The counts of records: where one is set, and in a new catalogue; and that none is out of range.
--
--   set_count       after one record is set: its table's count, or another's
--   new_count       in a new catalogue no count is known
--   set_ranged      a stored number within its range stands for no count out of range
use Rattle.std.proofs.Common.{◌≡◌, ℕ, ◌<◌, ◌≤◌, Bool, true, false, cond, eqb, ltb, List, Some, None, length, get_or, set, replicate, ℤ, pos, negsuc, sym, refl, ap, ◌∙◌, arith}
use Rattle.std.proofs.lemmas.List.{get_or-replicate, get_or-set_same, get_or-set_other}
use Rattle.std.proofs.lemmas.Option.{none-some}
use Rattle.std.proofs.lemmas.Bool.{eqb-true, eqb-false, ltb-true, ltb-false, lt-ltb}
use Rattle.catalogue.specs.Rows.{stored_count, out_of_range, unknown, count_of}
use Rattle.catalogue.specs.declared.catalogue.RowRecord.{RowRecord}

-- by whether it is this table
pub set_count : (l : List RowRecord) (t x : ℕ) (r : RowRecord) → t < 64 → 64 ≤ length l → (b : Bool) → eqb x t ≡ b
    → count_of (set l t r) x ≡ cond b r.count (count_of l x)
set_count l t x r h long true e =
    let is : x ≡ t = eqb-true x t e in
    ap (λ b. cond b (get_or (set l t r) x unknown).count None) (lt-ltb x 64 (omega arith))
    ∙ ap (λ y. (get_or (set l t r) y unknown).count) is
    ∙ ap (λ (s : RowRecord). s.count) (get_or-set_same l t r unknown (omega arith))
set_count l t x r h long false e = ap (λ (s : RowRecord). cond (ltb x 64) s.count None) (get_or-set_other l t x r unknown (eqb-false x t e))

pub new_count : (t : ℕ) → count_of (replicate 64 unknown) t ≡ None
new_count t = by (ltb t 64) refl
  where
    by : (b : Bool) → ltb t 64 ≡ b → cond b (get_or (replicate 64 unknown) t unknown).count None ≡ None
    by true h = ap (λ (r : RowRecord). r.count) (get_or-replicate 64 t unknown unknown (ltb-true t 64 h))
    by false h = refl

stored_ranged : (z : ℤ) (n : ℕ) → out_of_range z ≡ false → stored_count z ≡ Some n → n ≤ 2147483647
stored_ranged (pos k) n h e = let is : k ≡ n = cc in let low : k ≤ 2147483647 = ltb-false 2147483647 k h in omega arith
stored_ranged (negsuc k) n h e = absurd (none-some n e)

abbrev Ranged : List RowRecord → Type 0
Ranged l = (t n : ℕ) → count_of l t ≡ Some n → n ≤ 2147483647

pub set_ranged : (l : List RowRecord) (t : ℕ) (r : RowRecord) (z : ℤ) → r.count ≡ stored_count z → out_of_range z ≡ false → t < 64 → 64 ≤ length l → Ranged l → Ranged (set l t r)
set_ranged l t r z is low h long so x n e = by (eqb x t) refl
  where
    by : (b : Bool) → eqb x t ≡ b → n ≤ 2147483647
    by true q = stored_ranged z n low (sym is ∙ sym (set_count l t x r h long true q) ∙ e)
    by false q = so x n (sym (set_count l t x r h long false q) ∙ e)
