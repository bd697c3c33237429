-- A whole run of the program: what is shown is laid over the text, and the laws hold of it.
--
--   steps_fit, list_fits          the list that is laid: within the records, and its text within the text
--   done_listed                   a query that is accepted
--   done_refused                  a query that is refused
use Rattle.std.proofs.Common.{◌≡◌, ℕ, ◌-◌, ◌≤◌, min, Bool, true, false, cond, ltb, ◌↔◌, List, [], length, take, Ok, Err, Result, sym, refl, ap, ◌∙◌, subst, inl, inr, arith, length-take}
use Rattle.std.proofs.lemmas.Bool.{le-ltb, ltb-false}
use Rattle.theory.specs.Graph.{Graph, joined, table_count, size}
use Rattle.theory.specs.Listing.{joins_of, ListsJoins}
use Rattle.theory.specs.declared.mark.Mark.{Mark}
use Rattle.theory.specs.declared.step.Step.{Step}
use Rattle.writer.specs.Laid.{laid}
use Rattle.lines.proofs.Bytes.{line_length}
use Rattle.assembly.specs.Build.{list_of}
use Rattle.assembly.proofs.Laws.{ok_err}
use Rattle.texts.specs.ListText.{list_text, Listable}
use Rattle.texts.specs.ListWrite.{list_length}
use Rattle.texts.proofs.Laying.{laid_front, laid_length}
use Rattle.texts.proofs.Stands.{list_text_length}
use Rattle.prints.specs.GraphText.{text_of_graph}
use Rattle.prints.specs.Refusal.{refusal_line}
use Rattle.outcomes.specs.Fault.{fault_number, fault_layer, fault_place}
use Rattle.outcomes.specs.declared.fault.ProgramFault.{ProgramFault}
use Rattle.programs.specs.Replay.{looked_at, replay_prints}
use Rattle.assembler.specs.Assemble.{query_in, assemble_told, steps_left, listed_of, listed, printed, shown, assemble_prints}
use Rattle.assembler.specs.AssembleLaw.{GivesList, Assembles, OneKeyInBytes, ReplaysToJoins}
use Rattle.assembler.specs.Assembled.{Assembled}
use Rattle.assembler.specs.declared.assemble.Listed.{Listed}
use Rattle.assembler.proofs.Accepted.{Accepted, accepted, listed_back, refused_back}
use Rattle.assembler.proofs.Law.{law_given, law_refused}
use Rattle.assembler.proofs.Agreeing.{one_key}
use Rattle.assembler.proofs.Replays.{prints_joins}

-- no more is looked at than there is
looked_most : (text : List ℕ) (len : ℕ) → length (looked_at text len) ≤ length text
looked_most text len = let cut = length-take (min (min len (length text)) 36465) text in omega arith

same_graph : (m k : Graph) → ◌≡◌ {A = Result Graph ProgramFault} (Ok m) (Ok k) → m ≡ k
same_graph m k e = cc

-- a list that is given is shown
shown_list : (text : List ℕ) (len : ℕ) (steps : List Step) (marks : List Mark) (m : Graph) → Accepted (looked_at text len) steps marks m → shown (length text) (Ok m) ≡ printed (Ok m)
shown_list text len steps marks m a =
    let most = looked_most text len in let fits = a.room in ap (λ c. cond c [] (printed (Ok m))) (le-ltb (length text) 17 (omega arith))

module _ (text : List ℕ) (len : ℕ) (steps : List Step) (marks : List Mark) where
  module _ (m : Graph) (ok : assemble_told (looked_at text len) steps marks ≡ Ok m) where
    is_found : Accepted (looked_at text len) steps marks m
    is_found = accepted (looked_at text len) steps marks m ok

    law_key : OneKeyInBytes (assemble_told (looked_at text len) steps marks) (printed (Ok m))
    law_key g e other len' steps' marks' k f =
        let same : m ≡ g = same_graph m g (sym ok ∙ e) in
        let b = accepted (looked_at other len') steps' marks' k f in
        let shows = ap (λ r. shown (length other) r) f ∙ shown_list other len' steps' marks' k b in
        subst (λ (x : Graph). (printed (Ok m) ≡ assemble_prints other len' steps' marks') ↔ ((x' y : ℕ) → joined x x' y ≡ joined k x' y)) same
        (subst (λ o. (printed (Ok m) ≡ o) ↔ ((x y : ℕ) → joined m x y ≡ joined k x y)) (sym shows)
        (one_key (looked_at text len) steps marks m is_found (looked_at other len') steps' marks' k b))

    law_replays : ReplaysToJoins (assemble_told (looked_at text len) steps marks) (printed (Ok m))
    law_replays g e other records begins room enough =
        let same : m ≡ g = same_graph m g (sym ok ∙ e) in
        subst (λ (x : Graph). (replay_prints other (length (printed (Ok m))) records ≡ text_of_graph x) × ListsJoins x (joins_of x)) same
        (prints_joins (looked_at text len) steps marks m is_found other records begins room enough)

  -- `part` is what was read
  module _ {part : List ℕ} (cut : part ≡ looked_at text len)
      (q : Listed) (steps' : List Step) (told : Ok q ≡ listed (assemble_told part steps marks)) (left : steps' ≡ steps_left part steps marks) where
    answer : Ok q ≡ listed (assemble_told (looked_at text len) steps marks)
    answer = told ∙ ap (λ p. listed (assemble_told p steps marks)) cut

    filled : steps' ≡ steps_left (looked_at text len) steps marks
    filled = left ∙ ap (λ p. steps_left p steps marks) cut

    graph_of : Graph
    graph_of = (listed_back (assemble_told (looked_at text len) steps marks) q answer).0

    told_is : assemble_told (looked_at text len) steps marks ≡ Ok graph_of
    unfolding graph_of
    told_is = (listed_back (assemble_told (looked_at text len) steps marks) q answer).1

    q_is : q ≡ listed_of graph_of
    unfolding graph_of
    q_is = (listed_back (assemble_told (looked_at text len) steps marks) q answer).2

    found : Accepted (looked_at text len) steps marks graph_of
    found = accepted (looked_at text len) steps marks graph_of told_is

    -- the records that are lent on are the list's steps
    steps_are : take q.steps steps' ≡ (list_of graph_of).steps
    steps_are =
        ap (λ (x : Listed). take x.steps steps') q_is
        ∙ ap (take (size graph_of - 3)) filled
        ∙ found.laid

    pub steps_within : q.steps ≤ length steps'
    steps_within =
        let n : q.steps ≡ size graph_of - 3 = ap (λ (x : Listed). x.steps) q_is in
        let k : length (take q.steps steps') ≡ length (list_of graph_of).steps = ap length steps_are in
        let cut = length-take q.steps steps' in
        omega (arith, n, k, cut, found.number)

    pub list_able : Listable q.tables q.triangle (take q.steps steps')
    list_able =
        subst (λ (x : Listed). Listable x.tables x.triangle (take q.steps steps')) (sym q_is)
        (subst (λ l. Listable (table_count graph_of) (list_of graph_of).triangle l) (sym steps_are) found.able)

    pub list_fits : list_length (take q.steps steps') ≤ length text
    list_fits = let k : length (take q.steps steps') ≡ length (list_of graph_of).steps = ap length steps_are in omega (arith, k, found.room, looked_most text len)

    list_is : list_text q.tables q.triangle (take q.steps steps') ≡ printed (Ok graph_of)
    list_is =
        ap (λ (x : Listed). list_text x.tables x.triangle (take q.steps steps')) q_is
        ∙ ap (λ l. list_text (table_count graph_of) (list_of graph_of).triangle l) steps_are

    text_is : list_text q.tables q.triangle (take q.steps steps') ≡ shown (length text) (assemble_told (looked_at text len) steps marks)
    text_is =
        list_is
        ∙ sym (shown_list text len steps marks graph_of found)
        ∙ sym (ap (λ r. shown (length text) r) told_is)

    pub done_listed : (marks' : List Mark) (r : ℕ) (text' : List ℕ) → marks' ≡ (query_in part marks).marks
        → r ≡ list_length (take q.steps steps') → text' ≡ laid text 0 (list_text q.tables q.triangle (take q.steps steps'))
        → length steps ≡ 2013 → length marks ≡ 63 → Assembled text len steps marks r text' steps' marks'
    done_listed marks' r text' marked count lies records lent =
        let lay = take q.steps steps' in
        let bytes = list_text_length q.tables q.triangle lay in
        let long : length text' ≡ length text = ap length lies ∙ laid_length text 0 (list_text q.tables q.triangle lay) in
        let out : take r text' ≡ printed (Ok graph_of) =
        ap (take r) lies ∙ laid_front text (list_text q.tables q.triangle lay) r (count ∙ sym bytes) (omega (arith, bytes, list_fits)) ∙ list_is in
        record {
          count = count ∙ sym bytes ∙ ap length text_is;
          within = omega (arith, count, list_fits, long);
          lies = lies ∙ ap (laid text 0) text_is;
          filled = filled;
          marked = marked ∙ ap (λ p. (query_in p marks).marks) cut;
          law = λ _. inl (subst (λ o. GivesList (looked_at text len) o) (sym out) (law_given (looked_at text len) steps marks records lent graph_of found));
          key = subst (λ o. OneKeyInBytes (assemble_told (looked_at text len) steps marks) o) (sym out) (law_key graph_of told_is);
          replays = subst (λ o. ReplaysToJoins (assemble_told (looked_at text len) steps marks) o) (sym out) (law_replays graph_of told_is);
        }

  module _ {part : List ℕ} (cut : part ≡ looked_at text len) (f : ProgramFault) (told : Err f ≡ listed (assemble_told part steps marks)) where
    told_off : assemble_told (looked_at text len) steps marks ≡ Err f
    told_off = refused_back (assemble_told (looked_at text len) steps marks) f (told ∙ ap (λ p. listed (assemble_told p steps marks)) cut)

    shown_by : (c : Bool) → ltb (length text) 17 ≡ c → length (cond c [] (printed (Err f))) ≤ length text
    shown_by true test = omega arith
    shown_by false test =
        let fits = ltb-false (length text) 17 test in
        let bytes = line_length (refusal_line (fault_number f) (fault_layer f) (fault_place f)) in omega arith

    pub done_refused : (steps' : List Step) (marks' : List Mark) (r : ℕ) (text' : List ℕ) → steps' ≡ steps_left part steps marks → marks' ≡ (query_in part marks).marks
        → r ≡ length (shown (length text) (Err f)) → text' ≡ laid text 0 (shown (length text) (Err f))
        → length steps ≡ 2013 → length marks ≡ 63 → fault_place f ≤ 99999 → Assembled text len steps marks r text' steps' marks'
    done_refused steps' marks' r text' left marked count lies records lent near =
        let b = length text in
        let out : take r text' ≡ shown b (Err f) = ap (take r) lies ∙ laid_front text (shown b (Err f)) r count (shown_by (ltb b 17) refl) in
        let same : shown b (Err f) ≡ shown b (assemble_told (looked_at text len) steps marks) = sym (ap (λ r. shown b r) told_off) in
        let long : length text' ≡ length text = ap length lies ∙ laid_length text 0 (shown b (Err f)) in
        record {
          count = count ∙ ap length same;
          within = omega (arith, count, shown_by (ltb b 17) refl, long);
          lies = lies ∙ ap (laid text 0) same;
          filled = left ∙ ap (λ p. steps_left p steps marks) cut;
          marked = marked ∙ ap (λ p. (query_in p marks).marks) cut;
          law = λ line. subst (λ o. Assembles (looked_at text len) o) (sym (out ∙ ap (λ c. cond c [] (printed (Err f))) (le-ltb b 17 line)))
              (inr (law_refused (looked_at text len) steps marks records lent f told_off near));
          key = λ m e. absurd (ok_err m f (sym e ∙ told_off));
          replays = λ m e. absurd (ok_err m f (sym e ∙ told_off));
        }
