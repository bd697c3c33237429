-- Each way through a turn is one move of the place that the search stands at.
use Rattle.std.proofs.Common.{◌≡◌, ◌+◌, ◌<◌, Bool, true, ◌&&◌, List, ◌++◌, length, ◌∷◌, [], sym, ap, ap₂, ◌∙◌, subst, arith, length-append, ◌≤◌, ℕ, refl}
use Rattle.std.proofs.lemmas.Bool.Decides.{nat_tests}
use Rattle.theory.specs.Graph.{Lowest}
use Rattle.memory.specs.Stack.{held, slots_after, height_after}
use Rattle.sets.specs.Set.{bit, bits_set}
use Rattle.sets.specs.Rows.{in_row}
use Rattle.traversal.specs.Standing.{to_discover, Discovers, way_of}
use Rattle.traversal.specs.declared.discovery.Discovery.{Discovery}
use Rattle.traversal.specs.declared.survey.Survey.{Survey}
use Rattle.traversal.specs.declared.walk.Walk.{Walk}
use Rattle.traversal.proofs.Stacks.{Small, more_small, fewer_small, held_more, top_small, some_on_top}
use Rattle.traversal.proofs.Moves.{turn_on, turn_back, discover_less}
use Rattle.traversal.specs.Order.{tables_in}
use Rattle.traversal.proofs.walk.Walk.turn.Goals as goal

pub leave-requires : goal.leave-requires
leave-requires c =
    let w = c.args.self.now in (
      top_small w.path.slots.now w.path.len c.args.table 64 w.path.fits c.requires w.way,
      omega (arith, w.shares, w.room, some_on_top w.path.slots.now w.path.len c.args.table w.path.fits c.requires),
    )

pub invariant_of-self : goal.invariant_of-self
invariant_of-self c =
    let w = c.args.self.now in
    let some : 0 < w.path.len = some_on_top w.path.slots.now w.path.len c.args.table w.path.fits c.requires in
    let more : length (tables_in c.leave.new.self.left) ≡ length (tables_in w.survey.left) + 1 = ap length c.leave.ensures.left ∙ length-append (tables_in w.survey.left) (c.args.table ∷ []) in
    record {
      way = fewer_small 64 w.path.slots.now c.pop.new.self.slots.now w.path.len c.pop.new.self.len c.pop.ensures.kept c.pop.ensures.height w.way;
      shares = omega (arith, w.shares, c.pop.ensures.height);
      room = subst (λ x. bits_set x + w.next ≤ 64) (sym c.leave.ensures.unreached) w.room;
      wide = ap length c.pop.ensures.kept ∙ w.wide;
      untold = c.leave.ensures.articulations ∙ w.untold;
    }

-- the move on to the lowest undiscovered neighbour u of t
module _ (w : Walk) (rows : List ℕ) (t u : ℕ) (low : u < 64) (lowest : Lowest (to_discover rows w.survey t) 0 u) where
  right_true : (a b : Bool) → (a && b) ≡ true → b ≡ true
  right_true a b h = grind (arith, nat_tests)

  -- then one table less is to be discovered, and it is put on the path, which had room
  went_on : (s' : Survey) (how : Discovery) → Discovers w.survey u how s' → (slots' : List ℕ) (k' : ℕ)
      → slots' ≡ slots_after w.path.slots.now w.path.len u → k' ≡ height_after w.path.slots.now w.path.len
      → (bits_set w.survey.unreached ≡ bits_set s'.unreached + 1) × (held slots' k' ≡ way_of w ++ (u ∷ [])) × (k' ≡ w.path.len + 1) × (length slots' ≡ 64)
  went_on s' how d slots' k' kept height =
      let less : bits_set w.survey.unreached ≡ bits_set s'.unreached + 1 =
      discover_less w.survey s' u how d low (right_true (in_row rows t u) (bit w.survey.unreached u) lowest.holds) in
      let more = held_more w.path.slots.now slots' w.path.len k' u (omega (arith, w.shares, w.room, w.wide)) kept height in
      (less, more.0, more.1, more.2 ∙ w.wide)

pub discover-requires : goal.discover-requires
discover-requires c =
    let w = c.args.self.now in (
      c.in-Some.ensures.within,
      top_small w.path.slots.now w.path.len c.args.table 64 w.path.fits c.requires w.way,
    )

pub invariant_of-self-in-Some : goal.invariant_of-self-in-Some
invariant_of-self-in-Some c =
    let w = c.args.self.now in
    let u = c.in-Some.neighbour in
    let next = c.in-Some.ensures in
    let on = went_on w c.args.rows.now c.args.table u next.within next.lowest c.discover.new.self _ c.discover.ensures _ _ c.push.ensures.kept c.push.ensures.height in
    record {
      way = subst (Small 64) (sym on.1) (more_small 64 (way_of w) u w.way next.within);
      shares = omega (arith, w.shares, on.2, ap length c.discover.ensures.left);
      room = omega (arith, w.room, on.0);
      wide = on.3;
      untold = c.discover.ensures.articulations ∙ w.untold;
    }

pub returns-in-None-clause-moves : goal.returns-in-None-clause-moves
returns-in-None-clause-moves c = λ U p few q.
    let w = c.args.self.now in
    turn_back U c.args.rows.now few p w c.args.table q c.requires c.in-None.ensures.lowest _ c.leave.ensures
    (ap₂ held c.pop.ensures.kept c.pop.ensures.height) refl refl

pub returns-in-Some-clause-moves : goal.returns-in-Some-clause-moves
returns-in-Some-clause-moves c = λ U p few q.
    let w = c.args.self.now in
    let u = c.in-Some.neighbour in
    let next = c.in-Some.ensures in
    let on = went_on w c.args.rows.now c.args.table u next.within next.lowest c.discover.new.self _ c.discover.ensures _ _ c.push.ensures.kept c.push.ensures.height in
    turn_on U c.args.rows.now few p w c.args.table q c.requires u next.lowest
    (omega arith) _ c.discover.ensures on.1 refl c.with-self.ensures

pub returns-in-Some-clause-fewer : goal.returns-in-Some-clause-fewer
returns-in-Some-clause-fewer c =
    let w = c.args.self.now in
    let next = c.in-Some.ensures in
    let on = went_on w c.args.rows.now c.args.table c.in-Some.neighbour next.within next.lowest c.discover.new.self _ c.discover.ensures _ _ c.push.ensures.kept c.push.ensures.height in
    omega (arith, on.0, on.2)
