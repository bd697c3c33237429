-- A whole run of the program: what is shown is laid over the text, and the law of replays holds of it.
--
--   shown_within   what is shown fits
--   done_built     a text that is accepted
--   done_refused   a text that is refused
use Rattle.std.proofs.Common.{◌≡◌, ℕ, ◌+◌, ◌≤◌, min, Bool, true, false, cond, ltb, List, [], length, take, Ok, Err, Result, sym, refl, ap, ◌∙◌, subst, inl, inr, ⊎_elim, arith, length-take}
use Rattle.std.proofs.lemmas.Bool.{ltb-false}
use Rattle.writer.specs.Laid.{laid}
use Rattle.lines.proofs.Bytes.{line_length}
use Rattle.prints.specs.GraphText.{graph_length}
use Rattle.prints.specs.Refusal.{refusal_line}
use Rattle.texts.specs.ListRead.{list_read}
use Rattle.texts.specs.declared.fault.TextFault.TheVariants.{TooFew}
use Rattle.texts.proofs.Laying.{laid_front, laid_length}
use Rattle.theory.specs.Graph.{Graph, Simple, size}
use Rattle.theory.specs.declared.step.Step.{Step}
use Rattle.theory.proofs.Sizes.{size_most}
use Rattle.programs.specs.Done.{Done, Room}
use Rattle.outcomes.specs.Fault.{fault_number, fault_layer, fault_place}
use Rattle.programs.specs.Replay.{printed, roomed, shown, looked_at, replay_told}
use Rattle.programs.specs.ReplayLaw.{Replays}
use Rattle.outcomes.specs.declared.fault.ProgramFault.{ProgramFault}
use Rattle.outcomes.specs.declared.fault.ProgramFault.TheVariants.{Text}
use Rattle.programs.proofs.Law.{law_built, built_length, law_refused}
use Rattle.programs.proofs.Prints.{graph_bytes, shown_graph, shown_refusal}

line_within : (b : ℕ) (f : ProgramFault) → 17 ≤ b → length (printed (Err f)) ≤ b
line_within b f h = let bytes = line_length (refusal_line (fault_number f) (fault_layer f) (fault_place f)) in omega arith

graph_within : (b : ℕ) (g : Graph) (c : Bool) → Simple g → 17 ≤ b → ltb b (graph_length g) ≡ c → length (printed (cond c (Err (Text (TooFew (graph_length g)))) (Ok g))) ≤ b
graph_within b g true s h test = line_within b (Text (TooFew (graph_length g))) h
graph_within b g false s h test = let fits = ltb-false b (graph_length g) test in let bytes = graph_bytes g s in omega arith

roomed_within : (b : ℕ) (r : Result Graph ProgramFault) → ((g : Graph) → r ≡ Ok g → Simple g) → 17 ≤ b → length (printed (roomed b r)) ≤ b
roomed_within b (Ok g) s h = graph_within b g (ltb b (graph_length g)) (s g refl) h refl
roomed_within b (Err f) s h = line_within b f h

shown_by : (b : ℕ) (c : Bool) (out : List ℕ) → ltb b 17 ≡ c → (17 ≤ b → length out ≤ b) → length (cond c [] out) ≤ b
shown_by b true out test h = omega arith
shown_by b false out test h = h (ltb-false b 17 test)

pub shown_within : (b : ℕ) (r : Result Graph ProgramFault) → ((g : Graph) → r ≡ Ok g → Simple g) → length (shown b r) ≤ b
shown_within b r s = shown_by b (ltb b 17) (printed (roomed b r)) refl (roomed_within b r s)

-- no more is looked at than was read
looked_most : (text : List ℕ) (len : ℕ) → length (looked_at text len) ≤ len
looked_most text len = let cut = length-take (min (min len (length text)) 36465) text in omega arith

module _ (text : List ℕ) (len : ℕ) (steps : List Step) (r : ℕ) (text' : List ℕ) (steps' : List Step) (told : Result Graph ProgramFault)
    (answer : told ≡ replay_told (looked_at text len) steps) (filled : steps' ≡ (list_read (looked_at text len) 0 steps).records)
    (count : r ≡ length (shown (length text) told)) (lies : text' ≡ laid text 0 (shown (length text) told)) where
  done_so : ((g : Graph) → told ≡ Ok g → Simple g) → (Room len (length text) → Replays (looked_at text len) (shown (length text) told)) → Done text len steps r text' steps'
  done_so simple law =
      let b = length text in
      let fits : length (shown b told) ≤ b = shown_within b told simple in
      let long : length text' ≡ b = ap length lies ∙ laid_length text 0 (shown b told) in
      record {
        count = count ∙ ap (λ q. length (shown b q)) answer;
        within = omega arith;
        lies = lies ∙ ap (λ q. laid text 0 (shown b q)) answer;
        filled = filled;
        law = λ room. subst (Replays (looked_at text len)) (sym (ap (take r) lies ∙ laid_front text (shown b told) r count fits)) (law room);
      }

  pub done_built : (g : Graph) → told ≡ Ok g → Simple g → Done text len steps r text' steps'
  done_built g ok simple =
      let b = length text in
      let part = looked_at text len in
      let few : size g ≤ 2016 = size_most g simple.few in
      let long : graph_length g ≡ length part + 34 = built_length part steps g simple (sym answer ∙ ok) in
      let most : length part ≤ len = looked_most text len in
      let fits : Room len b → graph_length g ≤ b =
      ⊎_elim (λ (h : 34289 ≤ b). let k : graph_length g ≤ b = omega arith in k) (λ (h : len + 34 ≤ b). let k : graph_length g ≤ b = omega arith in k) in
      done_so (λ h e. let same : g ≡ h = ok_same h (sym ok ∙ e) in subst Simple same simple)
      (λ room. subst (Replays part) (sym (ap (shown b) ok ∙ shown_graph g b (fits room))) (inl (law_built part steps g simple (sym answer ∙ ok))))
    where
      ok_same : (h : Graph) → ◌≡◌ {A = Result Graph ProgramFault} (Ok g) (Ok h) → g ≡ h
      ok_same h e = cc

  pub done_refused : (f : ProgramFault) → told ≡ Err f → fault_place f ≤ 99999 → 2013 ≤ length steps → Done text len steps r text' steps'
  done_refused f bad near records =
      let b = length text in
      let part = looked_at text len in
      let line : Room len b → 17 ≤ b =
      ⊎_elim (λ (h : 34289 ≤ b). let k : 17 ≤ b = omega arith in k) (λ (h : len + 34 ≤ b). let k : 17 ≤ b = omega arith in k) in
      done_so (λ g e. none g (sym bad ∙ e))
      (λ room. subst (Replays part) (sym (ap (shown b) bad ∙ shown_refusal f b (line room))) (inr (law_refused part steps f records near (sym answer ∙ bad))))
    where
      none : (g : Graph) → ◌≡◌ {A = Result Graph ProgramFault} (Err f) (Ok g) → Simple g
      none g e = cc
