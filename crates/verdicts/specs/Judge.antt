-- The judgement of a build request over sets of tables.
--
--   unless_named o f next                   a table that is named refuses by f; where there is none, what follows
--   room_judged needed room                 9 where fewer records are lent than needed
--   sets_judged n unreached cuts k room     6, 7, 8 and 9 in this order, or accepted
use Rattle.std.specs.Prelude.{ℕ, cond, Some, None, Ok, Err, Option, Result, nat_lt}
use Rattle.sets.specs.Set.{lowest_in}
use Rattle.refusals.specs.declared.build.BuildFault.{BuildFault}
use Rattle.refusals.specs.declared.build.BuildFault.TheVariants.{TooSmall, Unreached, Articulation, TooFewRecords}

-- a table that is named refuses; where there is none, what follows
abbrev pub unless_named : Option ℕ → (ℕ → BuildFault) → Result Unit BuildFault → Result Unit BuildFault
unless_named (Some x) f next = Err (f x)
unless_named None f next = next

abbrev pub room_judged : ℕ → ℕ → Result Unit BuildFault
room_judged needed room = cond (nat_lt room needed) (Err (TooFewRecords needed)) (Ok tt)

abbrev pub sets_judged : ℕ → ℕ → ℕ → ℕ → ℕ → Result Unit BuildFault
sets_judged n unreached cuts needed room =
    cond (nat_lt n 3) (Err TooSmall)
    (unless_named (lowest_in unreached) Unreached
    (unless_named (lowest_in cuts) Articulation
    (room_judged needed room)))
