use Rattle.std.proofs.Common.{◌≡◌, Err, rules}
use Rattle.texts.specs.declared.fault.TextFault.TheVariants.{Misplaced}
use Rattle.texts.specs.ListRead.{end_at}
use Rattle.texts.proofs.Refused.{follows_so}
use Rattle.texts.proofs.reader.Reader.end.Goals as goal

pub returns-in_err-read_line-clause-follows : goal.returns-in_err-read_line-clause-follows
returns-in_err-read_line-clause-follows c =
    let r = c.args.self.now in
    let a : c.from_residual.result ≡ end_at r.text.now r.at = search rules in
    follows_so r.text.now r.at c.from_residual.result a

pub returns-clause-follows : goal.returns-clause-follows
returns-clause-follows c =
    let r = c.args.self.now in
    let a : Err (Misplaced r.at) ≡ end_at r.text.now r.at = search rules in
    follows_so r.text.now r.at (Err (Misplaced r.at)) a
