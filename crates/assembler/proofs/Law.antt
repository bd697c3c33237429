-- What is printed, from what was read.
--
--   law_given     a query that is accepted
--   law_refused   a text that is refused, as a query or by its graph
use Rattle.std.proofs.Common.{◌≡◌, ℕ, ◌≤◌, ◌⊎◌, List, length, Ok, Err, Result, sym, refl, subst, inl, inr, arith}
use Rattle.theory.specs.Graph.{Graph, Simple, joined, is_table}
use Rattle.theory.specs.declared.mark.Mark.{Mark}
use Rattle.theory.specs.declared.step.Step.{Step}
use Rattle.theory.proofs.Sizes.{size_most}
use Rattle.disassembly.specs.Disassembly.{Disassembly}
use Rattle.disassembly.proofs.Given.{stands}
use Rattle.disassembly.proofs.Keys.{graph_on, first_in}
use Rattle.disassembly.proofs.Only.{only_list}
use Rattle.refusals.specs.Build.{build_number, build_value}
use Rattle.refusals.specs.declared.build.BuildFault.{BuildFault}
use Rattle.refusals.specs.declared.build.BuildFault.TheVariants.{TooSmall, Unreached, Articulation, TooFewRecords}
use Rattle.assembly.specs.Build.{list_of, build_answer}
use Rattle.assembly.specs.BuildLaw.{NamedBy}
use Rattle.assembly.specs.declared.build.Built.{Built}
use Rattle.assembly.proofs.Laws.{refused_exactly, named}
use Rattle.rejections.specs.declared.fault.QueryFault.{QueryFault}
use Rattle.queries.specs.declared.query.QueryHead.{QueryHead}
use Rattle.outcomes.specs.Fault.{fault_place}
use Rattle.outcomes.specs.declared.fault.ProgramFault.{ProgramFault}
use Rattle.outcomes.specs.declared.fault.ProgramFault.TheVariants.{Query, Build}
use Rattle.assembler.specs.Assemble.{query_in, query_then, build_last, assemble_told, printed}
use Rattle.assembler.specs.AssembleLaw.{GivesList, RefusesQuery, RefusesBuild}
use Rattle.assembler.proofs.Queried.{WasRead, was_read, graph_so, query_so, refuses_query}
use Rattle.assembler.proofs.Accepted.{Accepted}

module _ (text : List ℕ) (steps : List Step) (marks : List Mark) (records : length steps ≡ 2013) (lent : length marks ≡ 63) where
  -- ---- accepted

  pub law_given : (m : Graph) → Accepted text steps marks m → GivesList text (printed (Ok m))
  law_given m a =
      let s = a.was.simple in
      let apart : Disassembly (is_table m) (joined m) 0 (list_of m).triangle (list_of m).steps = stands (is_table m) (joined m) 0 (graph_on m s) (first_in m s) a.fit in
      record {
        js = a.was.stands.js;
        ms = a.was.stands.ms;
        rs = a.was.stands.rs;
        graph = m;
        graph_is = graph_so text marks lent a.head m a.was;
        query = query_so text marks lent a.head m a.was;
        triangle = (list_of m).triangle;
        steps = (list_of m).steps;
        apart = apart;
        only = λ t l d. only_list (is_table m) (joined m) 0 (graph_on m s) (first_in m s) a.fit t (list_of m).triangle l (list_of m).steps d apart;
        legal = a.legal;
        prints = refl;
      }

  -- ---- refused

  -- there are records for any list
  which_so : (m : Graph) → Simple m → (f : BuildFault) → NamedBy m (length steps) f → (build_number f ≡ 6) ⊎ ((build_number f ≡ 7) ⊎ (build_number f ≡ 8))
  which_so m s TooSmall h = inl refl
  which_so m s (Unreached x) h = inr (inl refl)
  which_so m s (Articulation x) h = inr (inr refl)
  which_so m s (TooFewRecords k) h = absurd (omega (arith, size_most m s.few, h.0, h.1))

  build_refused : (h : QueryHead) (m : Graph) (f : BuildFault) → WasRead text marks h m → build_answer m (length steps) ≡ Err f → build_value f ≤ 99999
      → RefusesBuild text (printed (Err (Build f)))
  build_refused h m f was bad near =
      let s = was.simple in
      let name : NamedBy m (length steps) f = named m s steps f bad in
      let which = which_so m s f name in
      record {
        js = was.stands.js;
        ms = was.stands.ms;
        rs = was.stands.rs;
        graph = m;
        graph_is = graph_so text marks lent h m was;
        query = query_so text marks lent h m was;
        none = (refused_exactly m s steps).0 (f, bad, which);
        fault = f;
        which = which;
        named = subst (λ k. NamedBy m k f) records name;
        small = near;
        prints = refl;
      }

  refused_by : (f : ProgramFault) (q : Result QueryHead QueryFault) (r : Result Built BuildFault) → (query_in text marks).told ≡ q → build_answer (query_in text marks).graph (length steps) ≡ r
      → query_then q (build_last r (query_in text marks).graph) ≡ Err f → fault_place f ≤ 99999 → RefusesQuery text (printed (Err f)) ⊎ RefusesBuild text (printed (Err f))
  refused_by f (Ok h) (Ok b) read built e near = cc
  refused_by f (Ok h) (Err g) read built e near =
      let same : Build g ≡ f = cc in
      subst (λ x. RefusesQuery text (printed (Err x)) ⊎ RefusesBuild text (printed (Err x))) same
      (inr (build_refused h (query_in text marks).graph g (was_read text marks h (query_in text marks).graph read refl) built (subst (λ x. fault_place x ≤ 99999) (sym same) near)))
  refused_by f (Err g) r read built e near =
      let same : Query g ≡ f = cc in
      subst (λ x. RefusesQuery text (printed (Err x)) ⊎ RefusesBuild text (printed (Err x))) same
      (inl (refuses_query text marks lent g read (subst (λ x. fault_place x ≤ 99999) (sym same) near)))

  pub law_refused : (f : ProgramFault) → assemble_told text steps marks ≡ Err f → fault_place f ≤ 99999 → RefusesQuery text (printed (Err f)) ⊎ RefusesBuild text (printed (Err f))
  unfolding assemble_told
  law_refused f e near = refused_by f (query_in text marks).told (build_answer (query_in text marks).graph (length steps)) refl refl e near
