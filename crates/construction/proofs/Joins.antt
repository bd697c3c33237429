-- Whether a graph has joins, and when a join or an unjoin is accepted.
use Rattle.std.proofs.Common.{◌≡◌, ℕ, ◌+◌, ◌<◌, ◌≤◌, Bool, true, false, not, ◌&&◌, ◌||◌, eqb, leb, length, get_or, Ok, sym, ap, ◌∙◌, ⊎_elim, zero-add, arith}
use Rattle.std.specs.Bool.{MatchBool}
use Rattle.std.specs.List.{AllWithin, HoldsAt, range_with_len}
use Rattle.std.proofs.lemmas.List.FromFn.{length-range_with_len, get_or-range_with_len}
use Rattle.std.proofs.lemmas.Bool.Decides.{nat_tests}
use Rattle.std.proofs.lemmas.Bool.{cases_Bool, both_ways, lt-ltb, ne_eqb, lt-leb, leb-false, not-false, eqb-true, or_right}
use Rattle.theory.specs.Graph.{Graph, Simple, same_pair, joined, joining, unjoining, is_table, size, some_join}
use Rattle.theory.proofs.Sizes.{pairs_same, no_joins_size, joining_simple, joining_size, unjoining_size}
use Rattle.graph.specs.Store.{join_answer}
use Rattle.construction.proofs.First.{past}

-- ---- any join at all

pub other_end : (m : Graph) (a b : ℕ) → Simple m → m.adj a b ≡ true → b < m.tables
other_end m a b s e = s.within b a (s.symmetric b a ∙ e)

pub ends_apart : (m : Graph) (a b : ℕ) → Simple m → m.adj a b ≡ true → a ≡ b → ⊥
ends_apart m a b s e same = both_ways (m.adj a b) (ap (λ x. m.adj a x) (sym same) ∙ s.loopless a) e

pub one_join : (m : Graph) (a b : ℕ) → Simple m → m.adj a b ≡ true → 1 ≤ size m
one_join m a b s e =
    let less : size m ≡ size (unjoining m a b) + 1 = unjoining_size m a b (s.within a b e) (other_end m a b s e) (ends_apart m a b s e) s e in
    omega arith

pub some_yes : (m : Graph) (a b : ℕ) → Simple m → m.adj a b ≡ true → true ≡ some_join m
some_yes m a b s e = let l : 1 ≤ size m = one_join m a b s e in grind (arith, nat_tests)

pub no_size : (m : Graph) → ((a b : ℕ) → m.adj a b ≡ false) → size m ≡ 0
no_size m none = pairs_same m.adj (λ _ _. false) m.tables (λ x y _ _. none x y) ∙ no_joins_size m.tables

-- joins start at a table, so that looking at each table's is enough
pub some_none : (m : Graph) → Simple m → ((a b : ℕ) → a < m.tables → m.adj a b ≡ false) → false ≡ some_join m
some_none m s none =
    let z : size m ≡ 0 = no_size m (λ a b. ⊎_elim (λ e. absurd (both_ways (m.adj a b) (none a b (s.within a b e)) e)) (λ e. e) (cases_Bool (m.adj a b))) in
    grind (arith, nat_tests)

-- what the look at each table finds
pub found : (m : Graph) → Simple m → (r : Bool) → MatchBool r ((k : ℕ) × (k < length (range_with_len 0 m.tables)) × HoldsAt (λ t. (x : ℕ) × (m.adj t x ≡ true)) (range_with_len 0 m.tables) k)
    (AllWithin (λ t. (x : ℕ) → m.adj t x ≡ false) (range_with_len 0 m.tables) 0 (length (range_with_len 0 m.tables))) → r ≡ some_join m
found m s true at = some_yes m (get_or (range_with_len 0 m.tables) at.0 0) (at.2 0).0 s (at.2 0).1
found m s false none =
    some_none m s (λ a b l. let at : get_or (range_with_len 0 m.tables) a 0 ≡ 0 + a = get_or-range_with_len 0 m.tables a 0 l in
    ap (λ t. m.adj t b) (sym (at ∙ zero-add a)) ∙ none a 0 (omega arith) (omega (arith, length-range_with_len 0 m.tables)) b)

pub all_clear : (m : Graph) → Simple m → some_join m ≡ false → (a b : ℕ) → m.adj a b ≡ false
all_clear m s e a b =
    ⊎_elim (λ j. let l : 1 ≤ size m = one_join m a b s j in let z : size m ≡ 0 = eqb-true (size m) 0 (not-false (eqb (size m) 0) e) in absurd (omega arith))
    (λ f. f) (cases_Bool (m.adj a b))

-- ---- accepted edits

pub join_ok : (m : Graph) (c a b : ℕ) → a < m.tables → b < m.tables → (a ≡ b → ⊥) → m.adj a b ≡ false → size m < c → join_answer m c a b ≡ Ok tt
join_ok m c a b ha hb ne free room = rw (lt-ltb a m.tables ha, lt-ltb b m.tables hb, ne_eqb a b ne, free, lt-leb c (size m) room)

-- there is room where a join has been accepted
pub join_room : (m : Graph) (c a b : ℕ) → join_answer m c a b ≡ Ok tt → size m < c
join_room m c a b e =
    let e₁ = (past (not (is_table m a)) _ _ e).1 in
    let e₂ = (past (not (is_table m b)) _ _ e₁).1 in
    let e₃ = (past (eqb a b) _ _ e₂).1 in
    let e₄ = (past (joined m a b) _ _ e₃).1 in
    leb-false c (size m) (past (leb c (size m)) _ _ e₄).0

-- the third edit of a node step finds its pair free
pub third_free : (m : Graph) (u v w : ℕ) → (u ≡ v → ⊥) → (u ≡ w → ⊥) → (v ≡ w → ⊥) → m.adj u w ≡ false → (unjoining (joining m u v) v w).adj u w ≡ false
third_free m u v w uv uw vw free = ap (λ x. not (same_pair v w u w) && (same_pair u v u w || x)) free ∙ apart
  where
    apart : (not (same_pair v w u w) && (same_pair u v u w || false)) ≡ false
    apart = grind (arith, nat_tests)

-- and is accepted where the first is
pub third_ok : (m : Graph) (c u v w : ℕ) → Simple m → u < m.tables → v < m.tables → w < m.tables
    → (u ≡ v → ⊥) → (u ≡ w → ⊥) → (v ≡ w → ⊥) → ((x : ℕ) → m.adj u x ≡ false) → m.adj v w ≡ true
    → size m < c → join_answer (unjoining (joining m u v) v w) c u w ≡ Ok tt
third_ok m c u v w s hu hv hw uv uw vw alone held room =
    let s₁ : Simple (joining m u v) = joining_simple m u v hu hv uv s in
    let more : size (joining m u v) ≡ size m + 1 = joining_size m u v hu hv uv s (alone v) in
    let held₁ : (joining m u v).adj v w ≡ true = or_right (same_pair u v v w) (m.adj v w) held in
    let less : size (joining m u v) ≡ size (unjoining (joining m u v) v w) + 1 = unjoining_size (joining m u v) v w hv hw vw s₁ held₁ in
    join_ok (unjoining (joining m u v) v w) c u w hu hw uw (third_free m u v w uv uw vw (alone w)) (omega arith)
