-- The program's answer, exit by exit.
--
--   query_off    a query that is refused
--   build_off    a build request that is refused
--   build_on     a list that is given
--   build_near   what a build request's refusal names is small
use Rattle.std.proofs.Common.{◌≡◌, ℕ, ◌<◌, ◌≤◌, List, length, Ok, Err, Result, sym, ap, ◌∙◌, arith}
use Rattle.std.proofs.lemmas.Bool.{ltb-true}
use Rattle.theory.specs.Graph.{Graph, Simple, table_count}
use Rattle.theory.specs.declared.mark.Mark.{Mark}
use Rattle.theory.specs.declared.step.Step.{Step}
use Rattle.theory.proofs.Sizes.{size_most}
use Rattle.refusals.specs.Build.{build_value}
use Rattle.refusals.specs.declared.build.BuildFault.{BuildFault}
use Rattle.refusals.specs.declared.build.BuildFault.TheVariants.{TooSmall, Unreached, Articulation, TooFewRecords}
use Rattle.assembly.specs.Build.{built_of, build_judged, built_after, build_answer, records_after}
use Rattle.assembly.specs.BuildLaw.{NamedBy}
use Rattle.assembly.specs.declared.build.Built.{Built}
use Rattle.rejections.specs.declared.fault.QueryFault.{QueryFault}
use Rattle.queries.specs.declared.query.QueryHead.{QueryHead}
use Rattle.outcomes.specs.declared.fault.ProgramFault.{ProgramFault}
use Rattle.outcomes.specs.declared.fault.ProgramFault.TheVariants.{Query, Build}
use Rattle.assembler.specs.Assemble.{query_in, query_then, build_last, assemble_told, steps_by, steps_left, listed_of, listed}
use Rattle.assembler.specs.declared.assemble.Listed.{Listed}

-- what is given is the list of the graph
pub given_is : (r : Result Unit BuildFault) (m : Graph) (b : Built) → built_after r m ≡ Ok b → b ≡ built_of m
given_is (Ok u) m b e = cc
given_is (Err f) m b e = cc

module _ (text : List ℕ) (steps : List Step) (marks : List Mark) where
  abbrev then_built : Result Graph ProgramFault
  then_built = build_last (build_answer (query_in text marks).graph (length steps)) (query_in text marks).graph

  module _ (f : QueryFault) (bad : (query_in text marks).told ≡ Err f) where
    pub query_off : assemble_told text steps marks ≡ Err (Query f)
    unfolding assemble_told
    query_off = ap (λ r. query_then r then_built) bad

    pub query_kept : steps ≡ steps_left text steps marks
    unfolding steps_left
    query_kept = sym (ap (λ r. steps_by r (query_in text marks).graph steps) bad)

  module _ (h : QueryHead) (read : (query_in text marks).told ≡ Ok h) (m : Graph) (is : m ≡ (query_in text marks).graph) where
    told_on : assemble_told text steps marks ≡ build_last (build_answer m (length steps)) m
    unfolding assemble_told
    told_on = ap (λ r. query_then r then_built) read ∙ sym (ap (λ k. build_last (build_answer k (length steps)) k) is)

    pub build_kept : records_after m steps ≡ steps_left text steps marks
    unfolding steps_left
    build_kept = ap (λ k. records_after k steps) is ∙ sym (ap (λ r. steps_by r (query_in text marks).graph steps) read)

    pub build_off : (f : BuildFault) → build_answer m (length steps) ≡ Err f → assemble_told text steps marks ≡ Err (Build f)
    build_off f bad = told_on ∙ ap (λ r. build_last r m) bad

    pub build_on : (b : Built) → build_answer m (length steps) ≡ Ok b → (n : ℕ) → n ≡ table_count m
        → Ok (record { tables = n; triangle = b.triangle; steps = b.steps }) ≡ listed (assemble_told text steps marks)
    build_on b good n tables =
        let same : b ≡ built_of m = given_is (build_judged m (length steps)) m b good in
        let list : ◌≡◌ {A = Listed} (record { tables = n; triangle = b.triangle; steps = b.steps }) (listed_of m) =
        λ i. record { tables = tables i; triangle = (same i).triangle; steps = (same i).steps } in
        ap (λ (q : Listed). Ok q) list ∙ sym (ap (λ (q : Result Graph ProgramFault). listed q) (told_on ∙ ap (λ r. build_last r m) good))

pub build_near : (m : Graph) (room : ℕ) (f : BuildFault) → Simple m → NamedBy m room f → build_value f ≤ 99999
build_near m room TooSmall s h = omega arith
build_near m room (Unreached x) s h = let few : m.tables ≤ 64 = s.few in let low : x < table_count m = h.1 in omega arith
build_near m room (Articulation x) s h =
    let few : m.tables ≤ 64 = s.few in
    let low : x < m.tables = ltb-true x m.tables h.2.0 in omega arith
build_near m room (TooFewRecords k) s h = omega (arith, size_most m s.few, h.0)
