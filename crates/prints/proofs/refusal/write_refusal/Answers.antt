-- The line is laid whole, since its numbers are small enough and there is room for it.
use Rattle.std.proofs.Common.{◌≤◌, length, sym, ◌∙◌, arith}
use Rattle.prints.proofs.Writes.{refusal_fits, refusal_full}
use Rattle.prints.proofs.refusal.write_refusal.Goals as goal

pub returns : goal.returns
returns c =
    let r = c.args.number in
    let l = c.args.layer in
    let p = c.args.place in
    let out = c.args.out.now in
    let hr : r ≤ 99999 = omega arith in
    let hl : l ≤ 99999 = omega arith in
    let hp : p ≤ 99999 = omega arith in
    let room : 17 ≤ length out = omega arith in
    record {
      answer = sym (refusal_fits r l p out hr hl hp room);
      written = c.put_line.ensures ∙ refusal_full r l p out hr hl hp room;
    }
