-- What an accepted query is: its text read, its graph with a list, and the list's text no longer than the query's.
use Rattle.std.proofs.Common.{◌≡◌, ℕ, ◌+◌, ◌-◌, ◌≤◌, List, length, take, Ok, Err, Result, sym, refl, ap, ◌∙◌, arith}
use Rattle.theory.specs.Build.{LegalBuild}
use Rattle.theory.specs.Graph.{Graph, joined, is_table, table_count, size}
use Rattle.theory.specs.declared.mark.Mark.{Mark}
use Rattle.theory.specs.declared.step.Step.{Step}
use Rattle.disassembly.specs.Laws.{Fit}
use Rattle.disassembly.proofs.Keys.{given_legal}
use Rattle.refusals.specs.declared.build.BuildFault.{BuildFault}
use Rattle.assembly.specs.Build.{list_of, built_of, build_judged, build_answer}
use Rattle.assembly.specs.declared.build.Built.{Built}
use Rattle.assembly.proofs.Laws.{There, there}
use Rattle.assembly.proofs.Verdict.{fit_size, fit_tables}
use Rattle.texts.specs.ListText.{Listable}
use Rattle.texts.specs.ListWrite.{list_length}
use Rattle.rejections.specs.declared.fault.QueryFault.{QueryFault}
use Rattle.queries.specs.declared.query.QueryHead.{QueryHead}
use Rattle.outcomes.specs.declared.fault.ProgramFault.{ProgramFault}
use Rattle.assembler.specs.Assemble.{query_in, query_then, build_last, assemble_told, steps_left, listed_of, listed}
use Rattle.assembler.specs.declared.assemble.Listed.{Listed}
use Rattle.assembler.proofs.Able.{legal_able}
use Rattle.assembler.proofs.Told.{given_is, build_kept}
use Rattle.assembler.proofs.Queried.{WasRead, was_read}

module _ (text : List ℕ) (steps : List Step) (marks : List Mark) where
  pub record Accepted (m : Graph) : Type 0 where
    pub head : QueryHead
    pub read : (query_in text marks).told ≡ Ok head
    pub graph : m ≡ (query_in text marks).graph
    pub answer : build_answer m (length steps) ≡ Ok (built_of m)
    pub was : WasRead text marks head m
    pub fit : Fit (is_table m) (joined m)
    pub legal : LegalBuild m (list_of m).triangle (list_of m).steps
    pub able : Listable (table_count m) (list_of m).triangle (list_of m).steps
    -- the list's text is 34 bytes shorter than the query's, at least
    pub room : list_length (list_of m).steps + 34 ≤ length text
    pub number : size m - 3 ≡ length (list_of m).steps
    -- its steps fill the first records
    pub laid : take (size m - 3) (steps_left text steps marks) ≡ (list_of m).steps

  accepted_by : (m : Graph) (q : Result QueryHead QueryFault) (r : Result Built BuildFault) → (query_in text marks).told ≡ q → build_answer (query_in text marks).graph (length steps) ≡ r
      → query_then q (build_last r (query_in text marks).graph) ≡ Ok m → Accepted m
  accepted_by m (Ok h) (Ok b) read built e =
      let is : (query_in text marks).graph ≡ m = cc in
      let was = was_read text marks h m read is in
      let good : build_answer m (length steps) ≡ Ok b = sym (ap (λ g. build_answer g (length steps)) is) ∙ built in
      let same : b ≡ built_of m = given_is (build_judged m (length steps)) m b good in
      let answer : build_answer m (length steps) ≡ Ok (built_of m) = good ∙ ap (λ (x : Built). Ok x) same in
      let t : There m was.simple steps (built_of m) = there m was.simple steps (built_of m) answer in
      let many = fit_size m was.simple t.fit in
      let legal = given_legal m was.simple t.fit in
      record {
        head = h;
        read = read;
        graph = sym is;
        answer = answer;
        was = was;
        fit = t.fit;
        legal = legal;
        able = legal_able m was.simple (fit_tables m was.simple t.fit) (list_of m).triangle (list_of m).steps legal;
        room = omega (arith, many, was.long);
        number = omega (arith, many);
        laid = sym (ap (take (size m - 3)) (build_kept text steps marks h read m (sym is))) ∙ t.steps;
      }
  accepted_by m (Ok h) (Err f) read built e = cc
  accepted_by m (Err f) r read built e = cc

  pub accepted : (m : Graph) → assemble_told text steps marks ≡ Ok m → Accepted m
  unfolding assemble_told
  accepted m e = accepted_by m (query_in text marks).told (build_answer (query_in text marks).graph (length steps)) refl refl e

-- a list that was given is that of the graph told
pub listed_back : (r : Result Graph ProgramFault) (q : Listed) → Ok q ≡ listed r → (m : Graph) × (r ≡ Ok m) × (q ≡ listed_of m)
listed_back (Ok m) q e = (m, refl, (let g : q ≡ listed_of m = cc in g))
listed_back (Err f) q e = cc

pub refused_back : (r : Result Graph ProgramFault) (f : ProgramFault) → Err f ≡ listed r → r ≡ Err f
refused_back (Ok m) f e = cc
refused_back (Err g) f e = let same : g ≡ f = cc in ap (λ x. Err x) same
