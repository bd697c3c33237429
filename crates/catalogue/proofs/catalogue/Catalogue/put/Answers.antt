use Rattle.std.proofs.Common.{◌≡◌, ◌≤◌, sym, subst, length-set, rules}
use Rattle.catalogue.specs.Rows.{stored_count}
use Rattle.catalogue.proofs.Counts.{set_ranged}
use Rattle.catalogue.proofs.catalogue.Catalogue.put.Goals as goal

pub invariant_of-self : goal.invariant_of-self
invariant_of-self c =
    let l = c.args.self.now.records in
    let r = c.store.new.self in
    let is : r.count ≡ stored_count c.args.stored = search rules in
    record {
      full = subst (λ k. 64 ≤ k) (sym (length-set l c.args.table r)) c.args.self.now.full;
      ranged = set_ranged l c.args.table r c.args.stored is c.requires.1 c.requires.0 c.args.self.now.full c.args.self.now.ranged;
    }
