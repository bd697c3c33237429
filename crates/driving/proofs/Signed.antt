-- The counters, one more of them; and what they amount to.
--
--   counts_more             one more
--   cross_fits              no cross count is over 2016
--   may_move, moves_to      a counter may be added, and what comes of it
--   counter_is              a counter as it is kept
--   moves_along             the counter of a table is what the cross count moves by
use Rattle.std.proofs.Common.{◌≡◌, ℕ, ◌+◌, ◌-◌, ◌*◌, ◌<◌, ◌≤◌, ◌≤ℤ◌, w32, to_z, of_z, mul-le-mul, Bool, true, false, not, ◌&&◌, List, length, get_or, set, ℤ, pos, ◌+ℤ◌, ◌-ℤ◌, sym, ap, ap₂, ◌∙◌, ⊎_elim, arith}
use Rattle.std.proofs.lemmas.Bool.{cases_eq, cases_Bool}
use Rattle.std.proofs.lemmas.Int.{ints}
use Rattle.std.proofs.lemmas.List.{get_or-set_same, get_or-set_other}
use Rattle.theory.specs.Graph.{Graph, Simple, joined, table_count, count}
use Rattle.theory.proofs.Sizes.{pairs_most}
use Rattle.spanning.specs.Crossing.{cross, cross_count}
use Rattle.spanning.specs.Laws.{TellsUnder, unmarked, parent_in as parent_of}
use Rattle.spanning.proofs.Along.{count_along}
use Rattle.spanning.proofs.DriveLeaving.{root_parent}
use Rattle.sets.specs.Rows.{in_row}
use Rattle.traversal.specs.Discoveries.{parent_in}
use Rattle.traversal.specs.declared.survey.Survey.{Survey}
use Rattle.driving.specs.Counting.{how_many}
use Rattle.driving.specs.Marked.{Marked}
use Rattle.driving.specs.Counters.{gained_by, lost_by, unmarked_in, Counts}
use Rattle.driving.proofs.Counted.{how_many_same, counted_to}

module _ (joins marks : List ℕ) (s : Survey) (under : List ℕ) where
  abbrev due : ℕ → ℤ
  due x = pos (gained_by joins marks (in_row under x) (parent_in s.found x)) -ℤ pos (lost_by joins marks (in_row under x) x)

  pub counts_more : (i : ℕ) (l : List ℤ) (v : ℤ) → 1 ≤ i → i < length l
      → v ≡ pos (gained_by joins marks (in_row under i) (parent_in s.found i)) -ℤ pos (lost_by joins marks (in_row under i) i)
      → Counts joins marks s under i l → Counts joins marks s under (i + 1) (set l i v)
  counts_more i l v some low is q = record {
    root = get_or-set_other l i 0 v (pos 0) (λ e. omega arith) ∙ q.root;
    marked = λ x x0 h. ⊎_elim
        (λ (e : x ≡ i). ap (λ k. get_or (set l i v) k (pos 0)) e ∙ get_or-set_same l i v (pos 0) low ∙ is ∙ ap due (sym e))
        (λ (ne : x ≡ i → ⊥). get_or-set_other l i x v (pos 0) ne ∙ q.marked x x0 (omega arith))
        (cases_eq x i);
  }

few_pairs : (p n : ℕ) → p * 2 ≤ n * (n - 1) → n ≤ 64 → p ≤ 2016
few_pairs p n h k =
    let less : n - 1 ≤ 63 = omega arith in
    let all : n * (n - 1) ≤ 64 * 63 = mul-le-mul k less in
    omega arith

pub cross_fits : (m t : Graph) → Simple m → (x : ℕ) → cross_count m t x ≤ 2016
cross_fits m t s x = few_pairs (cross_count m t x) (table_count m) (pairs_most (cross m t x) (table_count m)) s.few

-- ---- how a counter is added

fits_so : (P S : ℕ) (c : ℤ) → pos P +ℤ c ≡ pos S → P ≤ 2016 → S ≤ 2016 → to_z w32 (of_z w32 c) ≡ c
fits_so P S c e p s = omega (arith, ints)

pub may_move : (P S x : ℕ) (c : ℤ) → x ≡ P → pos P +ℤ c ≡ pos S → P ≤ 2016 → S ≤ 2016
    → (x ≤ 2016) × ((pos 0 ≤ℤ (pos x +ℤ to_z w32 (of_z w32 c))) × ((pos x +ℤ to_z w32 (of_z w32 c)) ≤ℤ pos 2016))
may_move P S x c e is p s = let k = fits_so P S c is p s in (omega (arith, ints), (omega (arith, ints), omega (arith, ints)))

pub moves_to : (P S x r : ℕ) (c : ℤ) → x ≡ P → pos P +ℤ c ≡ pos S → P ≤ 2016 → S ≤ 2016 → pos r ≡ pos x +ℤ to_z w32 (of_z w32 c) → r ≡ S
moves_to P S x r c e is p s g = let k = fits_so P S c is p s in omega (arith, ints)

pub counter_is : (c : ℤ) (G L : ℕ) → c ≡ pos G -ℤ pos L → G ≤ 64 → L ≤ 64 → to_z w32 (of_z w32 c) ≡ pos G -ℤ pos L
counter_is c G L e g l = omega (arith, ints)

-- ---- what the cross count moves by

moved_by : (P G S L : ℕ) (c : ℤ) → S + L ≡ P + G → c ≡ pos G -ℤ pos L → pos P +ℤ c ≡ pos S
moved_by P G S L c e is = omega (arith, ints)

stays : (P S : ℕ) (c : ℤ) → P ≡ S → c ≡ pos 0 → pos P +ℤ c ≡ pos S
stays P S c e is = omega (arith, ints)

module _ (m t : Graph) (joins marks : List ℕ) (s : Survey) (h : Marked m t joins marks s) where
  abbrev n : ℕ
  n = table_count m

  beyond : (p y : ℕ) → n ≤ y → unmarked m t p y ≡ false
  beyond p y l = ap (λ j. j && not (joined t p y)) (⊎_elim
      (λ (e : joined m p y ≡ true). let z : y < n = h.tree.simple.within y p (h.tree.simple.symmetric y p ∙ e) in absurd (omega arith))
      (λ (e : joined m p y ≡ false). e)
      (cases_Bool (joined m p y)))

  as_rows : (p y : ℕ) → unmarked_in joins marks p y ≡ unmarked m t p y
  as_rows p y = ap₂ (λ i j. i && not j) (h.joins_of p y) (h.marks_of p y)

  counted : (p : ℕ) (u : ℕ → Bool) → how_many (λ y. unmarked_in joins marks p y && u y) ≡ count (λ y. unmarked m t p y && u y) n
  counted p u = how_many_same (λ y. unmarked_in joins marks p y && u y) (λ y. unmarked m t p y && u y) (λ y. ap (λ b. b && u y) (as_rows p y))
      ∙ counted_to (λ y. unmarked m t p y && u y) n h.tree.simple.few (λ y l. ap (λ b. b && u y) (beyond p y l))

  pub moves_along : (under : List ℕ) (l : List ℤ) → TellsUnder t (in_row under) → Counts joins marks s under (table_count m) l → (x : ℕ) → x < table_count m
      → pos (cross_count m t (parent_of t x)) +ℤ get_or l x (pos 0) ≡ pos (cross_count m t x)
  moves_along under l tells q x xn = ⊎_elim
      (λ (e : x ≡ 0). stays (cross_count m t (parent_of t x)) (cross_count m t x) (get_or l x (pos 0))
      (ap (cross_count m t) (ap (parent_of t) e ∙ root_parent t ∙ sym e)) (ap (λ k. get_or l k (pos 0)) e ∙ q.root))
      (λ (ne : x ≡ 0 → ⊥).
      let some : 0 < x = omega arith in
      moved_by (cross_count m t (parent_of t x)) _ (cross_count m t x) _ (get_or l x (pos 0))
      (count_along m t h.tree (in_row under) tells x some xn)
      (q.marked x some xn ∙ ap₂ (λ a b. pos a -ℤ pos b)
      (ap (gained_by joins marks (in_row under x)) (h.search.tells.parents x) ∙ counted (parent_of t x) (in_row under x))
      (counted x (λ y. not (in_row under x y)))))
      (cases_eq x 0)
