use Rattle.std.proofs.Common.{◌≡◌, ℕ, ◌≤◌, List, length, Err, Result, sym, ap, subst}
use Rattle.std.proofs.lemmas.List.{get_or_past}
use Rattle.lines.specs.Text.{layout}
use Rattle.lines.specs.Read.{bad, line_in, line_at}
use Rattle.lines.specs.Form.{LineRead}
use Rattle.lines.specs.declared.line.Line.{Line}
use Rattle.lines.specs.declared.line.BadByte.{BadByte}
use Rattle.lines.proofs.Lines.{line_read}
use Rattle.columns.proofs.read.read_line.Goals as goal

-- past the end there is no letter
past : (text : List ℕ) (at : ℕ) → length text ≤ at → Err (bad at) ≡ line_at text at
unfolding line_at
past text at h = sym (ap (λ b. line_in text at (layout b)) (get_or_past text at 0 h))

form_of : (text : List ℕ) (at : ℕ) (r : Result Line BadByte) → r ≡ line_at text at → LineRead text at r
form_of text at r e = subst (LineRead text at) (sym e) (line_read text at)

pub returns-then-at-text : goal.returns-then-at-text
returns-then-at-text c =
    let text = c.args.text.now in
    let e = c.line.ensures.answer in
    record { answer = e; form = form_of text c.args.at c.line.result e; within = c.line.ensures.within }

pub returns-else-at-text : goal.returns-else-at-text
returns-else-at-text c =
    let text = c.args.text.now in
    let e = past text c.args.at c.if-at-text.false in
    record { answer = e; form = form_of text c.args.at (Err (bad c.args.at)) e; within = tt }
