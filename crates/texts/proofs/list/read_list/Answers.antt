use Rattle.std.proofs.Common.{length, sym, ap}
use Rattle.texts.specs.ListRead.{ListTold}
use Rattle.texts.proofs.Near.{near_list}
use Rattle.texts.proofs.Told.{same_so, refused_so}
use Rattle.texts.proofs.list.read_list.Goals as goal

pub returns : goal.returns
returns c =
    let text = c.args.text.now in
    let at = c.args.at in
    let l = c.args.records.now in
    let r = c.list.result in
    let after = c.list.new.records in
    let refused = refused_so text at l r after c.list.ensures in
    record {
      answer = sym (ap (λ (q : ListTold). q.told) c.list.ensures);
      filled = sym (ap (λ (q : ListTold). q.records) c.list.ensures);
      same = same_so text at l r after c.list.ensures;
      refused = refused;
      near = near_list text at (length l) r refused;
    }
