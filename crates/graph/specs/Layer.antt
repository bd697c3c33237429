-- The number of each layer that a refusal comes from.
use Rattle.std.specs.Prelude.{ℕ}
use Rattle.graph.specs.declared.layer.Layer.{Layer}
use Rattle.graph.specs.declared.layer.Layer.TheVariants.{Text, Store, Replay, Rows}

abbrev pub layer_number : Layer → ℕ
layer_number Text = 1
layer_number Store = 2
layer_number Replay = 3
layer_number Rows = 4
