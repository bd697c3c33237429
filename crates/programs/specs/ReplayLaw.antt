-- What the program `replay` amounts to, in bytes: it prints a graph exactly where the text read is that of a legal build.
--
--   BuildsGraph input out    the input is the text of a legal build of a graph, and that graph's text is printed
--   Refuses input out        the input is the text of no legal build, and one line is printed: that of a refusal
--   Replays input out        the one or the other
use Rattle.std.specs.Prelude.{◌≡◌, ℕ, ◌≤◌, ◌⊎◌, List}
use Rattle.lines.specs.Text.{line_text}
use Rattle.prints.specs.GraphText.{text_of_graph}
use Rattle.prints.specs.Refusal.{refusal_line}
use Rattle.texts.specs.ListText.{list_text, Listable}
use Rattle.theory.specs.Build.{LegalBuild}
use Rattle.theory.specs.Graph.{Graph, Simple, table_count}
use Rattle.theory.specs.declared.step.Step.{Step}
use Rattle.theory.specs.declared.step.Triangle.{Triangle}

pub record BuildsGraph (input out : List ℕ) : Type 0 where
  pub graph : Graph
  pub triangle : Triangle
  pub steps : List Step
  pub simple : Simple graph
  pub listable : Listable (table_count graph) triangle steps
  pub reads : input ≡ list_text (table_count graph) triangle steps
  pub legal : LegalBuild graph triangle steps
  pub prints : out ≡ text_of_graph graph

pub record Refuses (input out : List ℕ) : Type 0 where
  pub none : (g : Graph) (t : Triangle) (l : List Step) → Listable (table_count g) t l → input ≡ list_text (table_count g) t l → LegalBuild g t l → ⊥
  pub number : ℕ
  pub layer : ℕ
  pub place : ℕ
  pub small : (number ≤ 99999) × (layer ≤ 99999) × (place ≤ 99999)
  pub prints : out ≡ line_text (refusal_line number layer place)

abbrev pub Replays : List ℕ → List ℕ → Type 0
Replays input out = BuildsGraph input out ⊎ Refuses input out
