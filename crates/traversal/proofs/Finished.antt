-- A finished search that discovered all tables, as its survey tells it, and the way through the tables in the order of leaving.
--
--   some_left, few_left       at least one table was left, and at most 64
--   start_last                the start was left as the last
--   way_start, way_on         the low points before the first table, and after one more
--   way_end                   after all but the start, the articulation tables
use Rattle.std.proofs.Common.{◌≡◌, ℕ, zero, suc, ◌+◌, ◌-◌, ◌<◌, ◌≤◌, Bool, true, false, ◌&&◌, ◌||◌, List, [], ◌∷◌, length, get_or, replicate, eqb, sym, ap, ◌∙◌, subst, arith}
use Rattle.std.proofs.lemmas.Bool.Decides.{nat_tests}
use mathlib.Core.Path.{fun_ext}
use Rattle.std.specs.Cmp.{both_ways as same_test}
use Rattle.std.proofs.lemmas.Bool.{both_ways}
use Rattle.disassembly.specs.Search.{has, Visit, searched}
use Rattle.disassembly.specs.Reach.{separates}
use Rattle.disassembly.proofs.Members.{has_head, absent, Distinct}
use Rattle.disassembly.proofs.Searches.{searched_visit}
use Rattle.disassembly.proofs.Visits.{visit_last, kept}
use Rattle.disassembly.proofs.Reach.{separates_exactly}
use Rattle.sets.specs.Set.{bit}
use Rattle.sets.proofs.Bit.{zero_bit}
use Rattle.traversal.specs.Discoveries.{number_in, earlier_in}
use Rattle.sets.specs.Rows.{in_row}
use Rattle.traversal.specs.Folding.{parent_of, touches, cuts_off_by, Folds, Whole}
use Rattle.traversal.specs.declared.survey.Survey.{Survey}
use Rattle.traversal.specs.declared.lows.Lows.{Lows}
use Rattle.traversal.proofs.Stacks.{stacked, stacked_length, stacked_all}
use Rattle.traversal.proofs.Before.{stacked_in, stacked_part}
use Rattle.traversal.specs.Order.{tables_in}
use Rattle.traversal.proofs.Cuts.{Folded, fold_start, Ord, ord_tail, ord_all, fold_more, folded_exactly}

-- a list that begins with r, and is kept in an array
heads : (n : ℕ) (l : List ℕ) (r : ℕ) (L M : List ℕ) → stacked (suc n) l ≡ L → L ≡ r ∷ M → L ≡ r ∷ stacked n l
heads n l r L M kept-so is = let e : ◌≡◌ {A = List ℕ} (get_or l n 0 ∷ stacked n l) (r ∷ M) = kept-so ∙ is in let h : get_or l n 0 ≡ r = cc in sym kept-so ∙ ap (λ (y : ℕ). y ∷ stacked n l) h

module _ (U : ℕ → Bool) (J : ℕ → ℕ → Bool) (r : ℕ) (s : Survey) (w : Whole U J r s) where
  abbrev seen : List ℕ
  seen = (searched U J r).seen

  abbrev gone : List ℕ
  gone = (searched U J r).left

  abbrev count : ℕ
  count = length (tables_in s.left)

  visit : Visit U J (parent_of s) r [] seen gone
  visit = subst (λ (g : ℕ → ℕ). Visit U J g r [] seen gone) (sym (fun_ext w.stands.parents)) (searched_visit U J r w.simple w.root)

  all_left : stacked count (tables_in s.left) ≡ gone
  all_left = stacked_all (tables_in s.left) gone w.stands.left

  pub some_left : 1 ≤ length (tables_in s.left)
  some_left =
      let last = visit_last U J (parent_of s) r w.simple visit in
      let long : length (stacked count (tables_in s.left)) ≡ count = stacked_length count (tables_in s.left) in
      let same : length (stacked count (tables_in s.left)) ≡ suc (length last.0) = ap length (all_left ∙ last.1) in
      omega arith

  pub few_left : length (tables_in s.left) ≤ 64
  few_left = s.few

  -- all but the start
  rest : gone ≡ r ∷ stacked (count - 1) (tables_in s.left)
  rest =
      let last = visit_last U J (parent_of s) r w.simple visit in
      let one : suc (count - 1) ≡ count = omega (arith, some_left) in
      heads (count - 1) (tables_in s.left) r gone last.0 (ap (λ j. stacked j (tables_in s.left)) one ∙ all_left) last.1

  -- the start was left last
  pub start_last : get_or (tables_in s.left) (length (tables_in s.left) - 1) 0 ≡ r
  start_last =
      let one : suc (count - 1) ≡ count = omega (arith, some_left) in
      let e : ◌≡◌ {A = List ℕ} (get_or (tables_in s.left) (count - 1) 0 ∷ stacked (count - 1) (tables_in s.left)) (r ∷ stacked (count - 1) (tables_in s.left)) =
      ap (λ j. stacked j (tables_in s.left)) one ∙ all_left ∙ rest in
      cc

  no_root : has (stacked (count - 1) (tables_in s.left)) r ≡ false
  no_root = let once : Distinct (r ∷ stacked (count - 1) (tables_in s.left)) = subst Distinct rest (kept U J (parent_of s) r w.simple visit).once_left in once.0

  module _ (rows : List ℕ) (k : ℕ) (low : k < length (tables_in s.left) - 1) (lows : Lows)
      (q : Folded J (parent_of s) seen r (stacked k (tables_in s.left)) (touches rows lows) lows.cuts) where
    abbrev v : ℕ
    v = get_or (tables_in s.left) k 0

    here : has (stacked (suc k) (tables_in s.left)) v ≡ true
    here = has_head v (stacked k (tables_in s.left))

    left_seen : has seen v ≡ true
    left_seen = (kept U J (parent_of s) r w.simple visit).gone v
        (subst (λ l. has l v ≡ true) all_left (stacked_in count (suc k) (tables_in s.left) v (omega arith) here))

    not_start : v ≡ r → ⊥
    not_start e = both_ways (has (stacked (count - 1) (tables_in s.left)) r) no_root
        (subst (λ z. has (stacked (count - 1) (tables_in s.left)) z ≡ true) e (stacked_in (count - 1) (suc k) (tables_in s.left) v (omega arith) here))

    start_out : has (stacked k (tables_in s.left)) r ≡ false
    start_out = absent (stacked k (tables_in s.left)) r (λ h. both_ways (has (stacked (count - 1) (tables_in s.left)) r) no_root (stacked_in (count - 1) k (tables_in s.left) r (omega arith) h))

    ordered : Ord U J (parent_of s) r seen gone w.simple w.root visit w.all (v ∷ stacked k (tables_in s.left))
    ordered = stacked_part (Ord U J (parent_of s) r seen gone w.simple w.root visit w.all) (ord_tail U J (parent_of s) r seen gone w.simple w.root visit w.all)
        count (suc k) (tables_in s.left) (omega arith)
        (subst (Ord U J (parent_of s) r seen gone w.simple w.root visit w.all) (sym all_left) (ord_all U J (parent_of s) r seen gone w.simple w.root visit w.all))

    folds : lows.start ≡ r → (lows' : Lows) → Folds rows s v lows lows'
        → Folded J (parent_of s) seen r (stacked (suc k) (tables_in s.left)) (touches rows lows') lows'.cuts
    folds from lows' d = fold_more U J (parent_of s) r seen gone w.simple w.root visit w.all (stacked k (tables_in s.left)) v ordered left_seen not_start start_out
        (touches rows lows) lows.cuts q (earlier_in s.found (parent_of s v)) (number_in s.found v) (w.stands.numbers v) (w.stands.earlier (parent_of s v))
        (touches rows lows') lows'.cuts d.touched
        (λ x. d.cuts x ∙ ap (λ b. (eqb x (parent_of s v) && cuts_off_by s b v (touches rows lows v)) || bit lows.cuts x) from)

    pub way_on : (v' : ℕ) → v' ≡ get_or (tables_in s.left) k 0 → (lows' : Lows) → Folds rows s v' lows lows' → lows.start ≡ r
        → Folded J (parent_of s) seen r (stacked (k + 1) (tables_in s.left)) (touches rows lows') lows'.cuts
    way_on v' same lows' d from =
        let up : suc k ≡ k + 1 = omega arith in
        subst (λ j. Folded J (parent_of s) seen r (stacked j (tables_in s.left)) (touches rows lows') lows'.cuts) up
        (folds from lows' (subst (λ t. Folds rows s t lows lows') same d))

  pub way_end : (k cuts : ℕ) (T : ℕ → ℕ → Bool) → k ≡ length (tables_in s.left) - 1 → Folded J (parent_of s) seen r (stacked k (tables_in s.left)) T cuts → (x : ℕ) → bit cuts x ≡ separates U J x
  way_end k cuts T e q x =
      let q' : Folded J (parent_of s) seen r (stacked (count - 1) (tables_in s.left)) T cuts = subst (λ j. Folded J (parent_of s) seen r (stacked j (tables_in s.left)) T cuts) e q in
      let a = folded_exactly U J (parent_of s) r seen gone w.simple w.root visit w.all (stacked (count - 1) (tables_in s.left)) T cuts q' rest x in
      let b = separates_exactly U J w.simple x in
      same_test (bit cuts x) (separates U J x) (λ h. b.1 (a.0 h)) (λ h. a.1 (b.0 h))

-- none gone through
no_rows : (n x y : ℕ) → in_row (replicate n 0) x y ≡ false
no_rows zero x y = zero_bit y
no_rows (suc n) zero y = zero_bit y
no_rows (suc n) (suc x) y = no_rows n x y

module _ (lows : Lows) (none_below : lows.below ≡ replicate 64 0) (no_cuts : lows.cuts ≡ 0) where
  alone : (a b : Bool) → b ≡ false → (a || b) ≡ a
  alone a b h = grind (arith, nat_tests)

  pub way_start : (U : ℕ → Bool) (rows : List ℕ) (r : ℕ) (s : Survey)
      → Folded (in_row rows) (parent_of s) (searched U (in_row rows) r).seen r (stacked 0 (tables_in s.left)) (touches rows lows) lows.cuts
  way_start U rows r s = fold_start (in_row rows) (parent_of s) (searched U (in_row rows) r).seen r (touches rows lows) lows.cuts
      (λ x y. alone (in_row rows x y) (in_row lows.below x y) (ap (λ l. in_row l x y) none_below ∙ no_rows 64 x y)) no_cuts
