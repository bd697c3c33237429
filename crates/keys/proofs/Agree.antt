-- Two fit graphs that agree on every pair of tables are the same graph: every table has a join, so the pairs tell the tables, too.
use Rattle.std.proofs.Common.{◌≡◌, ℕ, ◌<◌, ◌≤◌, true, ◌↔◌, sym, refl, ap, ◌∙◌, ⊎_elim, arith}
use Rattle.std.proofs.lemmas.Bool.{cases_eq, cases_lt, lt-ltb}
use Rattle.theory.specs.Graph.{Graph, Simple, joined, is_table, table_count}
use Rattle.disassembly.specs.Walks.{Walk, here, on, Leads}
use Rattle.disassembly.specs.Laws.{Fit}
use Rattle.disassembly.proofs.Keys.{same_key}
use Rattle.assembly.specs.Build.{list_of}
use Rattle.assembly.proofs.Verdict.{fit_tables}

leaves : (m : Graph) {a b : ℕ} → Walk (Leads (is_table m) (joined m)) a b → (a ≡ b → ⊥) → (y : ℕ) × (joined m a y ≡ true)
leaves m here n = absurd (n refl)
leaves m (on {b = y} h w) n = (y, h.0)

-- a table of a fit graph has a join
has_join : (m : Graph) → Simple m → Fit (is_table m) (joined m) → (x : ℕ) → x < table_count m → (y : ℕ) × (joined m x y ≡ true)
has_join m s fit x l =
    let many : 3 ≤ table_count m = fit_tables m s fit in
    let to : (b : ℕ) → b < table_count m → (x ≡ b → ⊥) → (y : ℕ) × (joined m x y ≡ true)
    = λ b k. leaves m (fit.connected x b (lt-ltb x (table_count m) l) (lt-ltb b (table_count m) k)) in
    ⊎_elim (λ (e : x ≡ 0). to 1 (omega arith) (λ q. omega arith)) (λ ne. to 0 (omega arith) ne) (cases_eq x 0)

not_fewer : (m k : Graph) → Simple m → Simple k → Fit (is_table k) (joined k) → ((x y : ℕ) → joined m x y ≡ joined k x y) → table_count m < table_count k → ⊥
not_fewer m k s t fit same l =
    let q = has_join k t fit (table_count m) l in
    let z : table_count m < table_count m = s.within (table_count m) q.0 (same (table_count m) q.0 ∙ q.1) in
    omega arith

pub agree : (m k : Graph) → Simple m → Simple k → Fit (is_table m) (joined m) → Fit (is_table k) (joined k) → ((x y : ℕ) → joined m x y ≡ joined k x y) → m ≡ k
agree m k s t f g same =
    let n : table_count m ≡ table_count k =
    ⊎_elim (λ (l : table_count m < table_count k). absurd (not_fewer m k s t g same l))
    (λ (le : table_count k ≤ table_count m). ⊎_elim (λ (l : table_count k < table_count m). absurd (not_fewer k m t s f (λ x y. sym (same x y)) l)) (λ (ge : table_count m ≤ table_count k). omega arith) (cases_lt (table_count k) (table_count m)))
    (cases_lt (table_count m) (table_count k)) in
    λ i. record { tables = n i; adj = λ x y. same x y i }

-- the keys of two fit graphs are equal exactly when the graphs agree on every pair
pub keys_agree : (m k : Graph) → Simple m → Simple k → Fit (is_table m) (joined m) → Fit (is_table k) (joined k)
    → (list_of m ≡ list_of k) ↔ ((x y : ℕ) → joined m x y ≡ joined k x y)
keys_agree m k s t f g = (
  (λ e. let z : m ≡ k = (same_key m k s t f g).0 e in λ x y. ap (λ h. joined h x y) z),
  (λ same. (same_key m k s t f g).1 (agree m k s t f g same)),
)
