-- The number of each of a build request's refusals, the table or the amount that it names, and the layer of all of them.
use Rattle.std.specs.Prelude.{ℕ}
use Rattle.refusals.specs.declared.build.BuildFault.{BuildFault}
use Rattle.refusals.specs.declared.build.BuildFault.TheVariants.{TooSmall, Unreached, Articulation, TooFewRecords}

abbrev pub build_number : BuildFault → ℕ
build_number TooSmall = 6
build_number (Unreached t) = 7
build_number (Articulation t) = 8
build_number (TooFewRecords k) = 9

-- 0 where it names none
abbrev pub build_value : BuildFault → ℕ
build_value TooSmall = 0
build_value (Unreached t) = t
build_value (Articulation t) = t
build_value (TooFewRecords k) = k

abbrev pub build_layer : BuildFault → ℕ
build_layer f = 3
