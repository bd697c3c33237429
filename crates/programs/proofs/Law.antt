-- A graph is printed exactly where the text read is that of a legal build.
--
--   law_built     an accepted text is the text of a legal build of the graph told
--   built_length  the graph's text is 34 bytes longer than the list's
--   is_accepted   the text of a legal build is accepted
--   law_refused   a refused text is the text of no legal build
use Rattle.std.proofs.Common.{◌≡◌, ℕ, ◌+◌, ◌*◌, ◌≤◌, Bool, true, false, cond, eqb, List, ◌++◌, length, get_or, take, drop, Ok, Err, Result, sym, refl, ap, ◌∙◌, subst, arith}
use Rattle.std.proofs.lemmas.List.{take_all, take_at}
use Rattle.std.proofs.lemmas.Bool.{eqb-true, eq-eqb}
use Rattle.construction.specs.Replay.{replayed}
use Rattle.refusals.specs.declared.fault.ReplayFault.{ReplayFault}
use Rattle.construction.proofs.Laws.{told_laws, accepted_size, replayed_tables}
use Rattle.lines.specs.Read.{line_at}
use Rattle.lines.specs.declared.line.BadByte.{BadByte}
use Rattle.lines.specs.Text.{line_text}
use Rattle.prints.specs.GraphText.{text_of_graph, graph_length}
use Rattle.prints.specs.Refusal.{refusal_line}
use Rattle.texts.specs.ListLaw.{SameText, ListStands}
use Rattle.texts.specs.ListRead.{list_read, end_at, end_of, ListTold}
use Rattle.texts.specs.ListText.{list_text, Listable}
use Rattle.texts.specs.ListWrite.{list_length}
use Rattle.texts.specs.declared.fault.TextFault.{TextFault}
use Rattle.texts.specs.declared.list.Heading.{Heading}
use Rattle.texts.proofs.Back.{list_reads_back}
use Rattle.texts.proofs.Lists.{same_text}
use Rattle.texts.proofs.Stands.{list_text_length}
use Rattle.theory.proofs.Sizes.{clamped_same}
use Rattle.theory.specs.Build.{LegalBuild}
use Rattle.theory.specs.Graph.{Graph, Simple, table_count, size, no_joins, clamped}
use Rattle.theory.specs.declared.step.Step.{Step}
use Rattle.theory.specs.declared.step.Triangle.{Triangle}
use Rattle.outcomes.specs.Fault.{fault_number, fault_layer, fault_place}
use Rattle.programs.specs.Replay.{text_then, replay_last, left_by, left, list_played, replay_told}
use Rattle.programs.specs.ReplayLaw.{BuildsGraph, Refuses}
use Rattle.outcomes.specs.declared.fault.ProgramFault.{ProgramFault}
use Rattle.programs.proofs.Prints.{number_small, layer_small}
use Rattle.programs.proofs.Told.{clamped_simple, play_last}

-- what is accepted was read, ended and played
pub record Accepted (text : List ℕ) (l : List Step) (g : Graph) : Type 0 where
  pub heading : Heading
  pub read : (list_read text 0 l).told ≡ Ok heading
  pub ended : heading.end ≡ length text
  pub told : (list_played heading (list_read text 0 l).records).told ≡ Ok tt
  pub left_graph : (list_played heading (list_read text 0 l).records).graph ≡ g

left_back : (r : Result Unit ReplayFault) (g h : Graph) → replay_last (left_by r g) ≡ Ok h → (r ≡ Ok tt) × (g ≡ h)
left_back (Ok u) g h e = (refl, cc)
left_back (Err f) g h e = cc

end_back : (text : List ℕ) (at : ℕ) (b : Bool) (r : Result Graph ProgramFault) (g : Graph) → eqb at (length text) ≡ b
    → text_then (cond b (Ok tt) (end_of at (line_at text at))) (λ _. r) ≡ Ok g → (at ≡ length text) × (r ≡ Ok g)
end_back text at true r g test e = (eqb-true at (length text) test, e)
end_back text at false r g test e = let z : ◌≡◌ {A = ℕ} 0 1 = ended_none (line_at text at) e in absurd (omega arith)
  where
    ended_none : (q : Result _ BadByte) → text_then (end_of at q) (λ _. r) ≡ Ok g → ◌≡◌ {A = ℕ} 0 1
    ended_none (Ok x) e = cc
    ended_none (Err x) e = cc

accepted_by : (text : List ℕ) (l : List Step) (g : Graph) (q : Result Heading TextFault) → (list_read text 0 l).told ≡ q
    → text_then q (λ h. text_then (end_at text h.end) (λ _. replay_last (left (list_played h (list_read text 0 l).records)))) ≡ Ok g → Accepted text l g
accepted_by text l g (Ok h) read e =
    let p = list_played h (list_read text 0 l).records in
    let ended = end_back text h.end (eqb h.end (length text)) (replay_last (left p)) g refl e in
    let done = left_back p.told p.graph g ended.1 in
    record { heading = h; read = read; ended = ended.0; told = done.0; left_graph = done.1 }
accepted_by text l g (Err f) read e = cc

accepted : (text : List ℕ) (l : List Step) (g : Graph) → replay_told text l ≡ Ok g → Accepted text l g
unfolding replay_told
accepted text l g e = accepted_by text l g (list_read text 0 l).told refl e

pub law_built : (text : List ℕ) (l : List Step) (g : Graph) → Simple g → replay_told text l ≡ Ok g → BuildsGraph text (text_of_graph g)
law_built text l g simple e =
    let a = accepted text l g e in
    let h = a.heading in
    let after = (list_read text 0 l).records in
    let steps = take h.steps after in
    let stands : ListStands text 0 l after h = subst (SameText text 0 l after) a.read (same_text text 0 l) in
    let able = stands.listable in
    let m = no_joins (clamped h.tables) in
    let n : table_count g ≡ h.tables =
    sym (ap (λ x. table_count x) a.left_graph) ∙ replayed_tables 2016 m h.triangle steps ∙ clamped_same h.tables (omega (arith, able.least)) able.most in
    let long : 34 + 17 * h.steps ≡ length text = let e = stands.ends in let f = a.ended in omega arith in
    let whole : text ≡ list_text h.tables h.triangle steps = sym (take_all (34 + 17 * h.steps) text (omega arith)) ∙ stands.stands in
    record {
      graph = g;
      triangle = h.triangle;
      steps = steps;
      simple = simple;
      listable = subst (λ k. Listable k h.triangle steps) (sym n) able;
      reads = whole ∙ ap (λ k. list_text k h.triangle steps) (sym n);
      legal = ((told_laws 2016 m h.triangle steps (clamped_simple h.tables) (replayed 2016 m h.triangle steps).told g refl (sym a.left_graph)).accepted refl).0 a.told;
      prints = refl;
    }

-- a graph's text has 34 bytes more than the list's
pub built_length : (text : List ℕ) (l : List Step) (g : Graph) → Simple g → replay_told text l ≡ Ok g → graph_length g ≡ length text + 34
unfolding law_built accepted
built_length text l g simple e =
    let a = accepted text l g e in
    let h = a.heading in
    let b = law_built text l g simple e in
    let m = no_joins (clamped h.tables) in
    let many : size g ≡ 3 + length b.steps =
    sym (ap size a.left_graph) ∙ accepted_size 2016 m h.triangle b.steps (clamped_simple h.tables) refl a.told in
    let long : length text ≡ list_length b.steps = ap length b.reads ∙ list_text_length (table_count g) b.triangle b.steps in
    omega arith

-- the text of a legal build is accepted
module _ (text : List ℕ) (l : List Step) (room : 2013 ≤ length l) (g : Graph) (t : Triangle) (s : List Step) (able : Listable (table_count g) t s)
    (reads : text ≡ list_text (table_count g) t s) (legal : LegalBuild g t s) where
  the_heading : Heading
  the_heading = record { tables = table_count g; triangle = t; steps = length s; end = list_length s }

  read_whole : list_read text 0 l ≡ record { told = Ok the_heading; records = s ++ drop (length s) l }
  unfolding the_heading
  read_whole =
      let few : length s + 3 ≤ 2016 = able.few in
      list_reads_back (table_count g) t s text able (λ j h. ap (λ x. get_or x j 0) (sym reads) ∙ ap (λ i. get_or text i 0) (omega arith)) l (omega arith)

  ends : end_at text (list_length s) ≡ Ok tt
  ends =
      let long : list_length s ≡ length text = sym (ap length reads ∙ list_text_length (table_count g) t s) in
      ap (λ b. cond b (Ok tt) (end_of (list_length s) (line_at text (list_length s)))) (eq-eqb (list_length s) (length text) long)

  abbrev m : Graph
  m = no_joins (clamped (table_count g))

  plays : (replayed 2016 m t s).told ≡ Ok tt
  plays =
      let few : length s + 3 ≤ 2016 = able.few in
      ((told_laws 2016 m t s (clamped_simple (table_count g)) (replayed 2016 m t s).told (replayed 2016 m t s).graph refl refl).room refl (omega arith)).1
      (g, sym (clamped_same (table_count g) (omega (arith, able.least)) able.most), legal)

  pub is_accepted : replay_told text l ≡ Ok (replayed 2016 m t s).graph
  unfolding the_heading
  is_accepted =
      let told : (list_read text 0 l).told ≡ Ok the_heading = ap (λ (x : ListTold). x.told) read_whole in
      let same : take (length s) (list_read text 0 l).records ≡ s = ap (λ (x : ListTold). take (length s) x.records) read_whole ∙ take_at s (drop (length s) l) (length s) refl in
      play_last text l the_heading told tt ends
      ∙ ap (λ x. replay_last (left (replayed 2016 m t x))) same
      ∙ ap (λ r. replay_last (left_by r (replayed 2016 m t s).graph)) plays

pub law_refused : (text : List ℕ) (l : List Step) (f : ProgramFault) → 2013 ≤ length l → fault_place f ≤ 99999 → replay_told text l ≡ Err f
    → Refuses text (line_text (refusal_line (fault_number f) (fault_layer f) (fault_place f)))
law_refused text l f room near e = record {
  none = λ g t s able reads legal.
      let y = is_accepted text l room g t s able reads legal in
      cc;
  number = fault_number f;
  layer = fault_layer f;
  place = fault_place f;
  small = (number_small f, layer_small f, near);
  prints = refl;
}
