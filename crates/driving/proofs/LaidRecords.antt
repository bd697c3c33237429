-- Records laid over the first of a list.
--
--   records_more   one record more
--   laid_more      laid over the next one
--   kept_more      the later ones stay
--   laid_all       the whole list
--   records_same   by counts that agree
use Rattle.std.proofs.Common.{◌≡◌, ℕ, zero, suc, ◌+◌, ◌<◌, List, [], ◌∷◌, ◌++◌, length, take, drop, set, refl, sym, ap, ap₂, ◌∙◌, arith}
use Rattle.std.proofs.lemmas.List.{take_more_set, take-append-drop, drop-set-lt}
use Rattle.reports.specs.declared.record.ReportRecord.{ReportRecord}
use Rattle.driving.specs.Drive.{record_of, records_from}

records_end : (counts : ℕ → ℕ) (a k : ℕ) → records_from counts a (suc k) ≡ records_from counts a k ++ (record_of (counts (a + k)) ∷ [])
unfolding records_from
records_end counts a zero = let e : a ≡ a + 0 = omega arith in ap (λ (y : ℕ). record_of (counts y) ∷ []) e
records_end counts a (suc k) =
    let e : a + 1 + k ≡ a + suc k = omega arith in
    ap (λ (r : List ReportRecord). record_of (counts a) ∷ r) (records_end counts (a + 1) k ∙ ap (λ (y : ℕ). records_from counts (a + 1) k ++ (record_of (counts y) ∷ [])) e)

pub records_more : (counts : ℕ → ℕ) (k : ℕ) → records_from counts 0 (k + 1) ≡ records_from counts 0 k ++ (record_of (counts k) ∷ [])
records_more counts k =
    let up : k + 1 ≡ suc k = omega arith in
    let e : 0 + k ≡ k = omega arith in
    ap (records_from counts 0) up ∙ records_end counts 0 k ∙ ap (λ (y : ℕ). records_from counts 0 k ++ (record_of (counts y) ∷ [])) e

pub records_none : (counts : ℕ → ℕ) → records_from counts 0 0 ≡ []
unfolding records_from
records_none counts = refl

pub laid_more : (counts : ℕ → ℕ) (l : List ReportRecord) (k : ℕ) (r : ReportRecord) → k < length l → r ≡ record_of (counts k) → take k l ≡ records_from counts 0 k
    → take (k + 1) (set l k r) ≡ records_from counts 0 (k + 1)
laid_more counts l k r room is laid = take_more_set l k r room ∙ ap₂ (λ a b. a ++ (b ∷ [])) laid is ∙ sym (records_more counts k)

drop_one : (l : List ReportRecord) (k : ℕ) → drop (suc k) l ≡ drop 1 (drop k l)
drop_one [] zero = refl
drop_one [] (suc k) = refl
drop_one (x ∷ l) zero = refl
drop_one (x ∷ l) (suc k) = drop_one l k

pub kept_more : (l old : List ReportRecord) (k : ℕ) (r : ReportRecord) → drop k l ≡ drop k old → drop (k + 1) (set l k r) ≡ drop (k + 1) old
kept_more l old k r kept =
    let up : k + 1 ≡ suc k = omega arith in
    drop-set-lt (k + 1) l k r (omega arith) ∙ ap (λ j. drop j l) up ∙ drop_one l k ∙ ap (drop 1) kept ∙ sym (drop_one old k) ∙ ap (λ j. drop j old) (sym up)

pub laid_all : (counts : ℕ → ℕ) (l old : List ReportRecord) (k : ℕ) → take k l ≡ records_from counts 0 k → drop k l ≡ drop k old → l ≡ records_from counts 0 k ++ drop k old
laid_all counts l old k laid kept = sym (take-append-drop k l) ∙ ap₂ (λ a b. a ++ b) laid kept

pub records_same : (counts others : ℕ → ℕ) (a k : ℕ) → ((x : ℕ) → x < a + k → counts x ≡ others x) → records_from counts a k ≡ records_from others a k
unfolding records_from
records_same counts others a zero h = refl
records_same counts others a (suc k) h =
    ap₂ (λ (y : ℕ) (r : List ReportRecord). record_of y ∷ r) (h a (omega arith)) (records_same counts others (a + 1) k (λ x l. h x (omega arith)))
