use Rattle.std.proofs.Common.{◌≡◌, ◌+◌, ◌-◌, ◌∷◌, ◌++◌, length, get_or, take, drop, sym, ap, ◌∙◌}
use Rattle.std.proofs.lemmas.List.{drop_more, drop_all}
use Rattle.disassembly.specs.Disassembly.{remaining, all_notes, noted}
use Rattle.disassembly.proofs.Away.{remaining_none, remaining_more, notes_none, notes_more}
use Rattle.traversal.specs.Discoveries.{parent_in, number_in}
use Rattle.notes.specs.Notes.{part_in, away_in}
use Rattle.notes.proofs.Poured.{lays_as, laid_on, laid_end}
use Rattle.notes.proofs.notes.Part.take_all.Goals as goal

pub loop-u-preserved : goal.loop-u-preserved
loop-u-preserved c =
    let s = c.args.survey.now in
    let parent = parent_in s.found in
    let rank = number_in s.found in
    let items = take c.saturating_sub.result c.as_slice-left.result.now in
    let i = c.loop-u.u-index in
    let u = get_or items i 0 in
    let was = part_in c.loop-u.self.tables c.loop-u.self.rows in
    let left = drop (i + 1) items in
    let next : drop i items ≡ u ∷ left = drop_more items i 0 c.loop-u-test.true in
    record {
      part = ap (remaining parent rank left) c.take_away.ensures.part
          ∙ sym (ap (λ l. remaining parent rank l was) next ∙ remaining_more parent rank u left was)
          ∙ c.loop-u.invariant.part;
      notes = laid_on c.args.notes.now c.loop-u.notes c.take_away.new.notes (all_notes parent rank (drop i items) was) (noted parent rank u was) _ _ c.loop-u.invariant.notes
          (ap (λ l. all_notes parent rank l was) next ∙ notes_more parent rank u left was
          ∙ ap (λ p. noted parent rank u was ++ all_notes parent rank left p) (sym c.take_away.ensures.part))
          c.take_away.ensures.notes;
    }

pub returns : goal.returns
returns c =
    let s = c.args.survey.now in
    let parent = parent_in s.found in
    let rank = number_in s.found in
    let items = take c.saturating_sub.result c.as_slice-left.result.now in
    let i = c.loop-u.u-index in
    let part = part_in c.args.self.now.tables c.args.self.now.rows in
    let now = part_in c.loop-u.self.tables c.loop-u.self.rows in
    let none = drop_all i items c.loop-u-test.false in
    let away : items ≡ away_in s = ap (λ n. take n c.as_slice-left.result.now) c.saturating_sub.ensures ∙ ap (λ l. take (length l - 3) l) c.as_slice-left.ensures.value in
    record {
      part = sym (ap (λ l. remaining parent rank l now) none ∙ remaining_none parent rank now) ∙ c.loop-u.invariant.part ∙ ap (λ l. remaining parent rank l part) away;
      notes = lays_as c.args.notes.now c.loop-u.notes (all_notes parent rank items part) (all_notes parent rank (away_in s) part) (ap (λ l. all_notes parent rank l part) away)
          (laid_end c.args.notes.now c.loop-u.notes (all_notes parent rank (drop i items) now) (all_notes parent rank items part) c.loop-u.invariant.notes
          (ap (λ l. all_notes parent rank l now) none ∙ notes_none parent rank now));
    }
