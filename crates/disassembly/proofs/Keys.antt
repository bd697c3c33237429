-- The build list as a key: two fit graphs have the same list given exactly where they are the same graph.
--
--   graph_on     what holds of a graph's joins, said over its set of tables
--   first_in     each graph has the table 0
--   given_legal  the list given for a fit graph, searched from table 0, is a legal build of it
--   same_key     equal lists are given for equal graphs, and for no others
use Rattle.std.proofs.Common.{◌≡◌, ◌<◌, ◌≤◌, true, ◌↔◌, sym, ap, subst, arith}
use Rattle.std.proofs.lemmas.Bool.{ltb-true, lt-ltb}
use Rattle.theory.specs.Graph.{Graph, Simple, is_table, joined}
use Rattle.theory.specs.Build.{LegalBuild}
use Rattle.disassembly.specs.Walks.{SimpleOn}
use Rattle.disassembly.specs.Disassembly.{given}
use Rattle.disassembly.specs.Laws.{Fit}
use Rattle.disassembly.proofs.Given.{given_builds}
use Rattle.disassembly.proofs.Lengths.{one_graph}

pub graph_on : (m : Graph) → Simple m → SimpleOn (is_table m) (joined m)
graph_on m s = record {
  few = λ a h. let l : a < m.tables = ltb-true a m.tables h in let f : m.tables ≤ 64 = s.few in omega arith;
  symmetric = s.symmetric;
  loopless = s.loopless;
  within = λ a b h. lt-ltb a m.tables (s.within a b h);
}

pub first_in : (m : Graph) → Simple m → is_table m 0 ≡ true
first_in m s = lt-ltb 0 m.tables (let some : 1 ≤ m.tables = s.some in omega arith)

pub given_legal : (m : Graph) → Simple m → Fit (is_table m) (joined m) → LegalBuild m (given (is_table m) (joined m) 0).triangle (given (is_table m) (joined m) 0).steps
given_legal m s fit = given_builds (is_table m) (joined m) 0 (graph_on m s) (first_in m s) fit

pub same_key : (m k : Graph) → Simple m → Simple k → Fit (is_table m) (joined m) → Fit (is_table k) (joined k)
    → (given (is_table m) (joined m) 0 ≡ given (is_table k) (joined k) 0) ↔ (m ≡ k)
same_key m k s t fit suits = (
  (λ e. one_graph m k (given (is_table m) (joined m) 0).triangle (given (is_table m) (joined m) 0).steps (given_legal m s fit)
      (subst (λ g. LegalBuild k g.triangle g.steps) (sym e) (given_legal k t suits))),
  (λ e. ap (λ g. given (is_table g) (joined g) 0) e),
)
