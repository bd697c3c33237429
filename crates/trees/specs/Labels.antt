-- What labels mean.
--
--   label l x   the label of table x
use Rattle.std.specs.Prelude.{ℕ, slice_index}
use Rattle.trees.specs.declared.labels.Labels.{Labels}

abbrev pub label : Labels → ℕ → ℕ
label l x = slice_index l.labels x
