-- Where marks lead, by the test and by labels.
--
--   leads_walk, walk_leads     the test finds exactly where the marks lead
--   apart_walk                 where it is false, they do not
--   Told t label               labels tell what the test tells
--   told_labelled, labelled_told
--                              such labels are those that tell where the marks lead
--   told_start, told_join      without marks, and with one more
--   put_means                  what a store means that was asked to join tables that are not connected
use Rattle.std.proofs.Common.{◌≡◌, ℕ, ◌<◌, ◌≤◌, true, false, cond, eqb, Result, sym, ap, ◌∙◌, arith, eqb-true, eq-eqb}
use Rattle.std.specs.Cmp.{both_ways as same_test}
use Rattle.std.proofs.lemmas.Bool.{both_ways, lt-ltb}
use Rattle.theory.specs.Graph.{Graph, Simple, joined, is_table, table_count, joining, no_joins}
use Rattle.theory.proofs.Sizes.{no_joins_simple}
use Rattle.graph.specs.Store.{join_answer, after}
use Rattle.graph.specs.declared.fault.StoreFault.{StoreFault}
use Rattle.disassembly.specs.Walks.{Reaches}
use Rattle.disassembly.proofs.Reach.{reached_exactly}
use Rattle.disassembly.proofs.Keys.{graph_on}
use Rattle.spanning.proofs.Forests.{Forest, apart_tables, apart_unmarked, forest_join}
use Rattle.spanning.proofs.Labels.{Labelled, labels_start, labels_join}
use Rattle.trees.specs.Tree.{leads}
use Rattle.trees.proofs.First.{joins_ok}

module _ (t : Graph) (s : Simple t) (a b : ℕ) (an : a < table_count t) where
  pub leads_walk : leads t a b ≡ true → Reaches (is_table t) (joined t) a b
  leads_walk e = (reached_exactly (is_table t) (joined t) a (graph_on t s) (lt-ltb a (table_count t) an) b).0 e

  pub walk_leads : Reaches (is_table t) (joined t) a b → leads t a b ≡ true
  walk_leads w = (reached_exactly (is_table t) (joined t) a (graph_on t s) (lt-ltb a (table_count t) an) b).1 w

  pub apart_walk : leads t a b ≡ false → Reaches (is_table t) (joined t) a b → ⊥
  apart_walk e w = both_ways (leads t a b) e (walk_leads w)

-- ---- labels

abbrev pub Told : Graph → (ℕ → ℕ) → Type 0
Told t label = (x y : ℕ) → x < table_count t → y < table_count t → eqb (label x) (label y) ≡ leads t x y

pub told_labelled : (t : Graph) → Simple t → (label : ℕ → ℕ) → Told t label → Labelled t label
told_labelled t s label h x y xn yn = (
  (λ e. leads_walk t s x y xn (sym (h x y xn yn) ∙ eq-eqb (label x) (label y) e)),
  (λ w. eqb-true (label x) (label y) (h x y xn yn ∙ walk_leads t s x y xn w)),
)

pub labelled_told : (t : Graph) → Simple t → (label : ℕ → ℕ) → Labelled t label → Told t label
labelled_told t s label h x y xn yn = same_test (eqb (label x) (label y)) (leads t x y)
    (λ e. walk_leads t s x y xn ((h x y xn yn).0 (eqb-true (label x) (label y) e)))
    (λ e. eq-eqb (label x) (label y) ((h x y xn yn).1 (leads_walk t s x y xn e)))

-- labels that agree on the tables tell the same
told_same : (t : Graph) (k l : ℕ → ℕ) → ((x : ℕ) → x < table_count t → k x ≡ l x) → Told t l → Told t k
told_same t k l e h x y xn yn = ap (λ z. eqb z (k y)) (e x xn) ∙ ap (λ z. eqb (l x) z) (e y yn) ∙ h x y xn yn

pub told_start : (n : ℕ) → 1 ≤ n → n ≤ 64 → (label : ℕ → ℕ) → ((x : ℕ) → x < 64 → label x ≡ x) → Told (no_joins n) label
told_start n some few label own = told_same (no_joins n) label (λ x. x) (λ x l. own x (omega arith))
    (labelled_told (no_joins n) (no_joins_simple n some few) (λ x. x) (labels_start n))

pub told_join : (t : Graph) → Forest t → (label : ℕ → ℕ) → Told t label → (a b : ℕ) → a < table_count t → b < table_count t → leads t a b ≡ false
    → (new : ℕ → ℕ) → ((x : ℕ) → x < 64 → new x ≡ cond (eqb (label x) (label b)) (label a) (label x)) → Told (joining t a b) new
told_join t f label h a b an bn e new is =
    let few : table_count t ≤ 64 = f.simple.few in
    told_same (joining t a b) new (λ x. cond (eqb (label x) (label b)) (label a) (label x)) (λ x l. is x (omega arith))
    (labelled_told (joining t a b) (forest_join t f a b an bn (apart_walk t f.simple a b an e)).simple
    (λ x. cond (eqb (label x) (label b)) (label a) (label x))
    (labels_join t label (told_labelled t f.simple label h) a b an bn))

-- ---- a mark put in

pub put_means : (t : Graph) → Simple t → (a b : ℕ) → a < table_count t → b < table_count t → leads t a b ≡ false
    → (u : Graph) (r : Result Unit StoreFault) → r ≡ join_answer t 2016 a b → u ≡ after r (joining t a b) t → u ≡ joining t a b
put_means t s a b an bn e u r answered meant =
    let apart = apart_walk t s a b an e in
    meant ∙ ap (λ z. after z (joining t a b) t) (answered ∙ joins_ok t a b s an bn (apart_tables t a b apart) (apart_unmarked t s a b apart))
