use Rattle.std.proofs.Common.{◌≡◌, ◌+◌, ◌++◌, length, take, drop, sym, ap, ap₂, ◌∙◌, arith, rules}
use borrow.Rule.Slice.PartMut.{Post-is}
use Rattle.lines.specs.Text.{optional_text}
use Rattle.lines.proofs.Bytes.{optional_length}
use Rattle.writer.proofs.Lays.{laid_parts}
use Rattle.writer.proofs.line.put_column.Goals as goal

-- the bytes before the column, the column, and the bytes after it
pub returns-in-None : goal.returns-in-None
returns-in-None c =
    let out = c.args.out.now in
    let at = c.args.at in
    let text = optional_text c.args.content in
    let five : length text ≡ 5 = optional_length c.args.content in
    let copied : c.copy_from_slice.new.self ≡ text = search rules in
    let after = Post-is at (at + 5) out (omega arith) ∙ ap (λ n. drop (at + n) out) (sym five) in
    ap₂ (λ ys rest. take at out ++ (ys ++ rest)) copied after ∙ sym (laid_parts out at text (omega (arith, five, c.requires)))
