-- A legal build of a graph can be written: every number in it is that of a table.
use Rattle.std.proofs.Common.{◌≡◌, ℕ, ◌<◌, ◌≤◌, Bool, true, List, arith}
use Rattle.std.proofs.lemmas.Bool.{ltb-true}
use Rattle.lines.specs.Text.{Fits}
use Rattle.texts.specs.ListText.{step_line, EachFits, none, more, Listable}
use Rattle.theory.specs.Build.{Part, triangle, Allowed, after, Builds, done, next, whole, LegalBuild}
use Rattle.theory.specs.Graph.{Graph, Simple, table_count}
use Rattle.theory.specs.declared.step.Step.{Step}
use Rattle.theory.specs.declared.step.Step.TheVariants.{Edge, Node}
use Rattle.theory.specs.declared.step.Triangle.{Triangle}
use Rattle.theory.proofs.Sizes.{size_most}
use Rattle.disassembly.proofs.Steps.{with_table_keeps, with_table_new}
use Rattle.disassembly.proofs.Lengths.{builds_grow, corner_in, build_length}

abbrev Small : (ℕ → Bool) → Type 0
Small U = (x : ℕ) → U x ≡ true → x ≤ 99999

step_fits : (s : Step) (p : Part) → Allowed s p → Small (after s p).in_use → Fits (step_line s).fields
step_fits (Edge v w) p ok h = (h v ok.0, h w ok.1)
step_fits (Node u v w) p ok h = (h u (with_table_new u p.in_use), h v (with_table_keeps u p.in_use v ok.1), h w (with_table_keeps u p.in_use w ok.2))

each_fits : {p q : Part} {l : List Step} → Builds p l q → Small q.in_use → EachFits l
each_fits done h = none
each_fits (next {p = p} {s = s} ok b) h = more (step_fits s p ok (λ x i. h x (builds_grow b x i))) (each_fits b h)

pub legal_able : (m : Graph) → Simple m → 3 ≤ table_count m → (t : Triangle) (l : List Step) → LegalBuild m t l → Listable (table_count m) t l
legal_able m s three t l legal =
    let b : Builds (triangle t) l (whole m) = legal.1 in
    let few : m.tables ≤ 64 = s.few in
    let small : Small (whole m).in_use = λ x i. let k : x < m.tables = ltb-true x m.tables i in let z : x ≤ 99999 = omega arith in z in
    record {
      least = three;
      most = few;
      few = omega (arith, build_length m s t l legal, size_most m few);
      triangle_fits = (small t.a (builds_grow b t.a (corner_in t).0), small t.b (builds_grow b t.b (corner_in t).1), small t.c (builds_grow b t.c (corner_in t).2));
      steps_fit = each_fits b small;
    }
