-- The start is alone on the path.
use Rattle.std.proofs.Common.{◌≡◌, ◌<◌, [], ◌∷◌, ◌++◌, length, ap, ◌∙◌, subst, sym, arith, ◌+◌, ◌≤◌, refl}
use Rattle.memory.specs.Stack.{held}
use Rattle.sets.specs.Set.{bits_set}
use Rattle.sets.proofs.Bit.{bit_small}
use Rattle.traversal.proofs.Sets.{taken_fewer, set_most}
use Rattle.traversal.proofs.Stacks.{Small, more_small, held_more}
use Rattle.traversal.proofs.Moves.{start_stands, start_seen}
use Rattle.traversal.proofs.walk.Walk.new.Goals as goal

pub invariant_of-result : goal.invariant_of-result
invariant_of-result c =
    let low : c.args.start < 64 = bit_small c.args.tables 64 c.args.start (omega arith) c.requires in
    let long : length c.new-path.result.slots.now ≡ 64 = ap length c.new-path.ensures.kept ∙ c.told-slots in
    let more = held_more c.new-path.result.slots.now c.push.new.self.slots.now c.new-path.result.len c.push.new.self.len c.args.start (omega (arith, c.new-path.ensures.empty)) c.push.ensures.kept c.push.ensures.height in
    let fewer : bits_set c.args.tables ≡ bits_set c.new-survey.result.unreached + 1 = taken_fewer c.args.tables c.new-survey.result.unreached c.args.start low c.requires c.new-survey.ensures.unreached in
    let most : bits_set c.args.tables ≤ 64 = set_most c.args.tables in
    record {
      way = subst (Small 64) (sym (more.0 ∙ ap (λ k. held c.new-path.result.slots.now k ++ (c.args.start ∷ [])) c.new-path.ensures.empty)) (more_small 64 [] c.args.start (λ _. omega arith) low);
      shares = omega (arith, more.1, c.new-path.ensures.empty, ap length c.new-survey.ensures.left);
      room = omega arith;
      wide = more.2 ∙ long;
      untold = c.new-survey.ensures.articulations;
    }

pub returns : goal.returns
returns c =
    let low : c.args.start < 64 = bit_small c.args.tables 64 c.args.start (omega arith) c.requires in
    let long : length c.new-path.result.slots.now ≡ 64 = ap length c.new-path.ensures.kept ∙ c.told-slots in
    let more = held_more c.new-path.result.slots.now c.push.new.self.slots.now c.new-path.result.len c.push.new.self.len c.args.start (omega (arith, c.new-path.ensures.empty)) c.push.ensures.kept c.push.ensures.height in
    record {
      stands = start_stands c.args.tables c.args.start low c.new-survey.result c.new-survey.ensures;
      path = more.0 ∙ ap (λ k. held c.new-path.result.slots.now k ++ (c.args.start ∷ [])) c.new-path.ensures.empty;
      next = refl;
      seen = start_seen c.args.tables c.args.start low c.with.result c.new.result c.new.ensures c.with.ensures;
    }
