use Rattle.std.proofs.Common.{◌≡◌, ℕ, ◌<◌, length, arith, cond, [], ◌∷◌, ◌++◌, get_or, sym, ap, ◌∙◌}
use Rattle.theory.specs.declared.step.Step.{Step}
use Rattle.sets.specs.Set.{tables_of}
use Rattle.sets.specs.Rows.{in_row}
use Rattle.disassembly.specs.Disassembly.{edge, node, edges, nearest, noted}
use Rattle.traversal.specs.Discoveries.{parent_in, number_in}
use Rattle.traversal.specs.declared.discovery.Discovery.{Discovery}
use Rattle.traversal.specs.declared.survey.Survey.{Survey}
use Rattle.traversal.proofs.Handing.{found_at}
use Rattle.notes.specs.Notes.{part_in, others, any}
use Rattle.notes.proofs.Poured.{lays_as, lays_more}
use Rattle.notes.proofs.Turns.{noted_in, taken_in, notes_in, joins_after, joins_then, symmetric_then, any_noted}
use Rattle.notes.proofs.notes.Part.take_away.Goals as goal

-- the parent, as it is read
is_parent : (s : Survey) (u : ℕ) (d : Discovery) → u < length s.found → (get_or s.found u d).parent ≡ parent_in s.found u
is_parent s u d l = ap (λ (d : Discovery). d.parent) (found_at s.found u d l)

pub invariant_of-self : goal.invariant_of-self
invariant_of-self c =
    let s = c.args.survey.now in
    let u = c.args.u in
    let d = c.index-survey-u.result in
    let low : (get_or s.found u d).parent < 64 = omega (arith, s.small u, is_parent s u d (omega arith)) in
    record {
      symmetric = symmetric_then (in_row c.args.self.now.rows) _ _ u (get_or s.found u d).parent c.nearest-a.result low c.nearest-a.ensures.within
          c.strip.ensures.joins c.join.ensures c.args.self.now.symmetric;
    }

pub returns-clause-part : goal.returns-clause-part
returns-clause-part c =
    let s = c.args.survey.now in
    let parent = parent_in s.found in
    let rank = number_in s.found in
    let u = c.args.u in
    let d = c.index-survey-u.result in
    let f = (get_or s.found u d).parent in
    let is : f ≡ parent u = is_parent s u d (omega arith) in
    let rows = c.args.self.now.rows in
    sym
    (taken_in parent rank u c.args.self.now.tables c.without-self.result rows c.join.new.self c.without-self.ensures
    (λ x y. joins_then (in_row rows) _ _ u f c.nearest-a.result (omega (arith, s.small u, is)) c.nearest-a.ensures.within c.strip.ensures.joins c.join.ensures x y
    ∙ ap (λ a. joins_after (in_row rows) u f a x y) (c.nearest-a.ensures.is ∙ ap (λ r. nearest rank f (tables_of r)) c.row.ensures)
    ∙ ap (λ g. joins_after (in_row rows) u g (nearest rank g (tables_of (get_or rows u 0))) x y) is))

pub returns-clause-notes : goal.returns-clause-notes
returns-clause-notes c =
    let s = c.args.survey.now in
    let parent = parent_in s.found in
    let rank = number_in s.found in
    let u = c.args.u in
    let d = c.index-survey-u.result in
    let f = (get_or s.found u d).parent in
    let a = c.nearest-a.result in
    let rows = c.args.self.now.rows in
    let first = edges u (others (in_row rows) u f a) in
    let found = any c.then_some-ends.result in
    let last = c.node.result ∷ [] in
    lays_as c.args.notes.now c.lay.new.notes (first ++ (found ++ last)) (noted parent rank u (part_in c.args.self.now.tables rows))
    (ap (λ (x : Step). first ++ (found ++ (x ∷ []))) c.node.ensures
    ∙ ap (λ l. first ++ (l ++ (node u f a ∷ [])))
    (any_noted c.then_some-ends.result c.joined.result c.edge.result c.then_some-ends.ensures
    ∙ ap (λ (x : Step). cond c.joined.result (x ∷ []) []) c.edge.ensures
    ∙ ap (λ b. cond b (edge f a ∷ []) []) c.joined.ensures)
    ∙ ap (notes_in (in_row rows) u f) (c.nearest-a.ensures.is ∙ ap (λ r. nearest rank f (tables_of r)) c.row.ensures)
    ∙ ap (λ g. notes_in (in_row rows) u g (nearest rank g (tables_of (get_or rows u 0)))) (is_parent s u d (omega arith))
    ∙ sym (noted_in parent rank u c.args.self.now.tables rows))
    (lays_more c.args.notes.now c.strip.new.notes c.lay.new.notes first (found ++ last) c.strip.ensures.notes
    (lays_more c.strip.new.notes c.lay_any.new.notes c.lay.new.notes found last c.lay_any.ensures c.lay.ensures))
