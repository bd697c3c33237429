use Rattle.std.proofs.Common.{◌≡◌, ℕ, ◌<◌, length, false, cond, ltb, List, [], ◌∷◌, get_or, sym, refl, ap, ◌∙◌, arith}
use Rattle.std.proofs.lemmas.Bool.{cond_below, le-ltb}
use Rattle.disassembly.specs.Disassembly.{nearest}
use Rattle.traversal.specs.Discoveries.{number_in}
use Rattle.traversal.specs.declared.discovery.Discovery.{Discovery}
use Rattle.traversal.proofs.Handing.{found_at}
use Rattle.sets.specs.Set.{tables_of}
use Rattle.sets.proofs.Masks.{first_below}
use Rattle.notes.proofs.notes.nearest.Goals as goal

pub bounds-found-x : goal.bounds-found-x
bounds-found-x c = first_below c.loop-x.x-iterator.left c.in-Some.x (tables_of c.next.new.self.left) c.in-Some.ensures.steps

-- no number is lower than 0
none-lower : (rank : ℕ → ℕ) (b : ℕ) (l : List ℕ) → rank b ≡ 0 → nearest rank b l ≡ b
none-lower rank b [] e = refl
none-lower rank b (x ∷ l) e =
    let h : ltb (rank x) (rank b) ≡ false = le-ltb (rank x) (rank b) (omega arith) in
    rw h (none-lower rank b l e)

pub returns-then-low-eq0-clause-is : goal.returns-then-low-eq0-clause-is
returns-then-low-eq0-clause-is c =
    let rank = number_in c.args.found.now in
    sym (none-lower rank c.loop-x.best (tables_of c.loop-x.x-iterator.left) (sym c.loop-x.invariant.lowest ∙ c.if-low-eq0.true)) ∙ c.loop-x.invariant.nearest_left

-- the number, as it is read
number_read : (found : List Discovery) (x : ℕ) (d : Discovery) → x < length found → (get_or found x d).number ≡ number_in found x
number_read found x d l = ap (λ (d : Discovery). d.number) (found_at found x d l)

pub listed-in-loop-x : goal.listed-in-loop-x
listed-in-loop-x c = omega (arith, first_below c.loop-x.x-iterator.left c.in-Some.x (tables_of c.next.new.self.left) c.in-Some.ensures.steps)

pub loop-x-preserved-then-number-low : goal.loop-x-preserved-then-number-low
loop-x-preserved-then-number-low c =
    let found = c.args.found.now in
    let rank = number_in found in
    let x = c.in-Some.x in
    let best = c.loop-x.best in
    let left = tables_of c.next.new.self.left in
    let low : x < 64 = first_below c.loop-x.x-iterator.left x left c.in-Some.ensures.steps in
    let number = number_read found x c.index-found-x.result (omega (arith, low)) in
    let lower : rank x < rank best = omega (arith, c.if-number-low.true, c.loop-x.invariant.lowest, number) in
    let chosen : x ≡ cond (ltb (rank x) (rank best)) x best = cond_below (rank x) (rank best) x best lower in
    record {
      nearest_left = ap (λ b. nearest rank b left) chosen ∙ sym (ap (nearest rank best) c.in-Some.ensures.steps) ∙ c.loop-x.invariant.nearest_left;
      within = low;
      lowest = number;
    }

pub loop-x-preserved : goal.loop-x-preserved
loop-x-preserved c =
    let found = c.args.found.now in
    let rank = number_in found in
    let x = c.in-Some.x in
    let best = c.loop-x.best in
    let left = tables_of c.next.new.self.left in
    let low : x < 64 = first_below c.loop-x.x-iterator.left x left c.in-Some.ensures.steps in
    let number = number_read found x c.index-found-x.result (omega (arith, low)) in
    let chosen : ltb (rank x) (rank best) ≡ false = le-ltb (rank x) (rank best) (omega (arith, c.if-number-low.false, c.loop-x.invariant.lowest, number)) in
    record {
      nearest_left = sym (ap (λ b. nearest rank (cond b x best) left) chosen) ∙ sym (ap (nearest rank best) c.in-Some.ensures.steps) ∙ c.loop-x.invariant.nearest_left;
      within = c.loop-x.invariant.within;
      lowest = c.loop-x.invariant.lowest;
    }
