-- A text that is refused as a query is the text of no query, and no text is that of two.
--
--   same_begun   lines of a query that end at the same place of a text are the same lines
--   goes_on      lines that end before those of a query do are followed by one that is due and accepted
--   no_query     a text with a line amiss is the text of no query
--   one_query    two queries with one text are the same
use Rattle.std.proofs.Common.{◌≡◌, ℕ, ◌+◌, ◌<◌, ◌≤◌, Bool, false, cond, not, eqb, ltb, leb, ◌⊎◌, List, [], ◌∷◌, ◌++◌, length, ℤ, Ok, Err, Result, sym, refl, ap, ◌∙◌, subst, inl, inr, ⊎_elim, arith, length-append}
use Rattle.std.proofs.lemmas.List.{length_push}
use Rattle.std.proofs.lemmas.Bool.{cases_lt, false≢true, lt-ltb, lt-leb, ne_eqb, not_from_true}
use Rattle.std.specs.List.{flat_map as all_of}
use Rattle.theory.specs.Graph.{Simple, joined, is_table, size, joining}
use Rattle.theory.specs.declared.mark.Mark.{Mark}
use Rattle.theory.proofs.Sizes.{joining_size, size_most}
use Rattle.graph.specs.Store.{join_answer}
use Rattle.graph.specs.declared.fault.StoreFault.TheVariants.{UnknownTable, SameTable, AlreadyJoined, Full}
use Rattle.catalogue.specs.Rows.{out_of_range, row_answer}
use Rattle.catalogue.specs.declared.fault.RowFault.TheVariants as row-faults
use Rattle.lines.specs.Form.{Longest}
use Rattle.lines.specs.Read.{line_at}
use Rattle.lines.specs.Text.{line_text}
use Rattle.lines.specs.declared.line.BadByte.{BadByte}
use Rattle.lines.specs.declared.line.Fields.{Fields}
use Rattle.lines.specs.declared.line.Fields.TheVariants.{LastTwo, FirstTwo, Counted}
use Rattle.lines.specs.declared.line.Line.{Line}
use Rattle.lines.proofs.Bytes.{line_length}
use Rattle.lines.proofs.Lines.{reads_back}
use Rattle.texts.specs.ListLaw.{Here}
use Rattle.texts.specs.declared.fault.TextFault.TheVariants.{BadForm, Misplaced, OutOfLimits, TooFew}
use Rattle.texts.proofs.Writing.{joined_length}
use Rattle.queries.specs.QueryRead.{outside_limits}
use Rattle.queries.specs.QueryLaw.{head_line, join_line, mark_line, row_line, join_text, mark_text, row_text, query_text, lines_graph, Due, NothingOwed, GoodHead, GoodJoin, GoodRow, place_after, Begun, headed, joined_by, marked_by, counted_by, HeadAmiss, Amiss}
use Rattle.rejections.specs.declared.fault.QueryFault.{QueryFault}
use Rattle.rejections.specs.declared.fault.QueryFault.TheVariants.{Text, Join, Row}
use Rattle.texts.proofs.Near.{here_inside}
use Rattle.queries.proofs.Whole.{begun_inside}
use Rattle.assembly.proofs.Laws.{ok_err}
use Rattle.assembler.specs.AssembleLaw.{IsQuery, LineAmiss}
use Rattle.assembler.proofs.Begun.{begun_simple}

-- ---- one line

one_line : (l k : Line) → ◌≡◌ {A = Result Line BadByte} (Ok l) (Ok k) → l ≡ k
one_line l k e = cc

-- one line stands at a place
same_line : (text : List ℕ) (p q : ℕ) (l k : Line) → p ≡ q → Here text p l → Here text q k → l ≡ k
same_line text p q l k e h g =
    one_line l k (sym (reads_back text p l h.written h.agrees) ∙ ap (λ x. line_at text x) e ∙ reads_back text q k g.written g.agrees)

-- where a line stands, no beginning of one ends
no_longest : (text : List ℕ) (p q : ℕ) (l : Line) → Longest text p q → Here text p l → ⊥
no_longest text p q l far h = let short = far.short in far.no_more (l, h.written, λ j b. h.agrees j (omega arith))

letters : (l k : Line) → l ≡ k → l.letter ≡ k.letter
letters l k e = ap (λ (x : Line). x.letter) e

pair_of : (p q : ℕ × ℕ) → join_line p ≡ join_line q → p ≡ q
pair_of p q e =
    let f : ◌≡◌ {A = Fields} (LastTwo p.0 p.1) (LastTwo q.0 q.1) = ap (λ (x : Line). x.fields) e in
    let a : p.0 ≡ q.0 = cc in
    let b : p.1 ≡ q.1 = cc in
    λ i. (a i, b i)

mark_of : (k l : Mark) → mark_line k ≡ mark_line l → k ≡ l
mark_of k l e =
    let f : ◌≡◌ {A = Fields} (LastTwo k.v k.w) (LastTwo l.v l.w) = ap (λ (x : Line). x.fields) e in
    let a : k.v ≡ l.v = cc in
    let b : k.w ≡ l.w = cc in
    λ i. record { v = a i; w = b i }

row_of : (r s : ℕ × ℤ) → row_line r ≡ row_line s → r ≡ s
row_of r s e =
    let f : ◌≡◌ {A = Fields} (Counted r.0 r.1) (Counted s.0 s.1) = ap (λ (x : Line). x.fields) e in
    let a : r.0 ≡ s.0 = cc in
    let b : r.1 ≡ s.1 = cc in
    λ i. (a i, b i)

head_of : (n m k j : ℕ) → head_line n m ≡ head_line k j → (n ≡ k) × (m ≡ j)
head_of n m k j e =
    let f : ◌≡◌ {A = Fields} (FirstTwo n m) (FirstTwo k j) = ap (λ (x : Line). x.fields) e in
    ((let a : n ≡ k = cc in a), (let b : m ≡ j = cc in b))

-- a join that the store accepts, a row count that the catalogue accepts
passes : {F : Type 0} (b : Bool) (f : F) (r : Result Unit F) → b ≡ false → cond b (Err f) r ≡ r
passes b f r e = ap (λ c. cond c (Err f) r) e

join_good : (n : ℕ) (js : List (ℕ × ℕ)) (p : ℕ × ℕ) → Simple (lines_graph n js) → GoodJoin n js p → join_answer (lines_graph n js) 2016 p.0 p.1 ≡ Ok tt
join_good n js p s g =
    let m = lines_graph n js in
    let a = p.0 in
    let b = p.1 in
    let few : size (joining m a b) ≤ 2016 = size_most (joining m a b) s.few in
    let more : size (joining m a b) ≡ size m + 1 = joining_size m a b g.first g.second g.apart s g.fresh in
    passes (not (is_table m a)) (UnknownTable a) _ (not_from_true (ltb a n) (lt-ltb a n g.first))
    ∙ passes (not (is_table m b)) (UnknownTable b) _ (not_from_true (ltb b n) (lt-ltb b n g.second))
    ∙ passes (eqb a b) (SameTable a) _ (ne_eqb a b g.apart)
    ∙ passes (joined m a b) (AlreadyJoined a b) _ g.fresh
    ∙ passes (leb 2016 (size m)) (Full 2016) _ (lt-leb 2016 (size m) (omega arith))

row_good : (n : ℕ) (r : ℕ × ℤ) → GoodRow n r → row_answer n r.0 r.1 ≡ Ok tt
row_good n r g =
    passes (leb n r.0) (row-faults.UnknownTable r.0) _ (lt-leb n r.0 g.table)
    ∙ passes (out_of_range r.1) (row-faults.OutOfRange r.0 r.1) _ g.in_range

-- ---- lines, one after another

module _ (text : List ℕ) (at room n m : ℕ) where
  head_here : {js : List (ℕ × ℕ)} {ms : List Mark} {rs : List (ℕ × ℤ)} → Begun text at room n m js ms rs → GoodHead text at room n m
  head_here (headed g) = g
  head_here (joined_by p b d h g) = head_here b
  head_here (marked_by k b d h) = head_here b
  head_here (counted_by r b d h g) = head_here b

  -- two lines at one place have one letter
  apart : (p q : ℕ) (l k : Line) → p ≡ q → Here text p l → Here text q k → (l.letter ≡ k.letter → ⊥) → ⊥
  apart p q l k e h g no-letter = no-letter (letters l k (same_line text p q l k e h g))

  abbrev Same : List (ℕ × ℕ) → List Mark → List (ℕ × ℤ) → List (ℕ × ℕ) → List Mark → List (ℕ × ℤ) → Type 0
  Same js ms rs js' ms' rs' = (js ≡ js') × (ms ≡ ms') × (rs ≡ rs')

  same_begun : {js : List (ℕ × ℕ)} {ms : List Mark} {rs : List (ℕ × ℤ)} → Begun text at room n m js ms rs
      → {js' : List (ℕ × ℕ)} {ms' : List Mark} {rs' : List (ℕ × ℤ)} → Begun text at room n m js' ms' rs'
      → place_after at js ms rs ≡ place_after at js' ms' rs' → Same js ms rs js' ms' rs'
  same_begun (headed g) (headed g') e = (refl, refl, refl)
  same_begun (headed g) (joined_by {js = js'} p' b' d' h' g') e = let y = length_push js' p' in absurd (omega arith)
  same_begun (headed g) (marked_by {js = js'} {ms = ms'} k' b' d' h') e = let y = length_push ms' k' in absurd (omega arith)
  same_begun (headed g) (counted_by {js = js'} {ms = ms'} {rs = rs'} r' b' d' h' g') e = let y = length_push rs' r' in absurd (omega arith)
  same_begun (joined_by {js} p b d h g) (headed g') e = let x = length_push js p in absurd (omega arith)
  same_begun (joined_by {js} p b d h g) (joined_by {js = js'} p' b' d' h' g') e =
      let x = length_push js p in
      let y = length_push js' p' in
      let prev : place_after at js [] [] ≡ place_after at js' [] [] = omega arith in
      let before = same_begun b b' prev in
      let last : p ≡ p' = pair_of p p' (same_line text (place_after at js [] []) (place_after at js' [] []) (join_line p) (join_line p') prev h h') in
      ((λ i. before.0 i ++ last i ∷ []), refl, refl)
  same_begun (joined_by {js} p b d h g) (marked_by {js = js'} {ms = ms'} k' b' d' h') e =
      let x = length_push js p in
      let y = length_push ms' k' in
      absurd (apart (place_after at js [] []) (place_after at js' ms' []) (join_line p) (mark_line k') (omega arith) h h' (λ z. omega arith))
  same_begun (joined_by {js} p b d h g) (counted_by {js = js'} {ms = ms'} {rs = rs'} r' b' d' h' g') e =
      let x = length_push js p in
      let y = length_push rs' r' in
      absurd (apart (place_after at js [] []) (place_after at js' ms' rs') (join_line p) (row_line r') (omega arith) h h' (λ z. omega arith))
  same_begun (marked_by {js} {ms} k b d h) (headed g') e = let x = length_push ms k in absurd (omega arith)
  same_begun (marked_by {js} {ms} k b d h) (joined_by {js = js'} p' b' d' h' g') e =
      let x = length_push ms k in
      let y = length_push js' p' in
      absurd (apart (place_after at js ms []) (place_after at js' [] []) (mark_line k) (join_line p') (omega arith) h h' (λ z. omega arith))
  same_begun (marked_by {js} {ms} k b d h) (marked_by {js = js'} {ms = ms'} k' b' d' h') e =
      let x = length_push ms k in
      let y = length_push ms' k' in
      let prev : place_after at js ms [] ≡ place_after at js' ms' [] = omega arith in
      let before = same_begun b b' prev in
      let last : k ≡ k' = mark_of k k' (same_line text (place_after at js ms []) (place_after at js' ms' []) (mark_line k) (mark_line k') prev h h') in
      (before.0, (λ i. before.1 i ++ last i ∷ []), refl)
  same_begun (marked_by {js} {ms} k b d h) (counted_by {js = js'} {ms = ms'} {rs = rs'} r' b' d' h' g') e =
      let x = length_push ms k in
      let y = length_push rs' r' in
      absurd (apart (place_after at js ms []) (place_after at js' ms' rs') (mark_line k) (row_line r') (omega arith) h h' (λ z. omega arith))
  same_begun (counted_by {js} {ms} {rs} r b d h g) (headed g') e = let x = length_push rs r in absurd (omega arith)
  same_begun (counted_by {js} {ms} {rs} r b d h g) (joined_by {js = js'} p' b' d' h' g') e =
      let x = length_push rs r in
      let y = length_push js' p' in
      absurd (apart (place_after at js ms rs) (place_after at js' [] []) (row_line r) (join_line p') (omega arith) h h' (λ z. omega arith))
  same_begun (counted_by {js} {ms} {rs} r b d h g) (marked_by {js = js'} {ms = ms'} k' b' d' h') e =
      let x = length_push rs r in
      let y = length_push ms' k' in
      absurd (apart (place_after at js ms rs) (place_after at js' ms' []) (row_line r) (mark_line k') (omega arith) h h' (λ z. omega arith))
  same_begun (counted_by {js} {ms} {rs} r b d h g) (counted_by {js = js'} {ms = ms'} {rs = rs'} r' b' d' h' g') e =
      let x = length_push rs r in
      let y = length_push rs' r' in
      let prev : place_after at js ms rs ≡ place_after at js' ms' rs' = omega arith in
      let before = same_begun b b' prev in
      let last : r ≡ r' = row_of r r' (same_line text (place_after at js ms rs) (place_after at js' ms' rs') (row_line r) (row_line r') prev h h') in
      (before.0, before.1, (λ i. before.2 i ++ last i ∷ []))

  -- the line after these, due and accepted
  abbrev JoinsNext : List (ℕ × ℕ) → List Mark → List (ℕ × ℤ) → Type 0
  JoinsNext js ms rs = (p : ℕ × ℕ) × Here text (place_after at js ms rs) (join_line p) × Due n m (length js) (length ms) (length rs) 74 × GoodJoin n js p

  abbrev MarksNext : List (ℕ × ℕ) → List Mark → List (ℕ × ℤ) → Type 0
  MarksNext js ms rs = (k : Mark) × Here text (place_after at js ms rs) (mark_line k) × Due n m (length js) (length ms) (length rs) 77

  abbrev CountsNext : List (ℕ × ℕ) → List Mark → List (ℕ × ℤ) → Type 0
  CountsNext js ms rs = (r : ℕ × ℤ) × Here text (place_after at js ms rs) (row_line r) × Due n m (length js) (length ms) (length rs) 82 × GoodRow n r

  abbrev Next : List (ℕ × ℕ) → List Mark → List (ℕ × ℤ) → Type 0
  Next js ms rs = JoinsNext js ms rs ⊎ (MarksNext js ms rs ⊎ CountsNext js ms rs)

  moved : (P : List (ℕ × ℕ) → List Mark → List (ℕ × ℤ) → Type 0) {js : List (ℕ × ℕ)} {ms : List Mark} {rs : List (ℕ × ℤ)} {js' : List (ℕ × ℕ)} {ms' : List Mark} {rs' : List (ℕ × ℤ)}
      → Same js ms rs js' ms' rs' → P js ms rs → P js' ms' rs'
  moved P {ms = ms} {rs = rs} {js' = js'} {ms' = ms'} e h = subst (P js' ms') e.2 (subst (λ x. P js' x rs) e.1 (subst (λ x. P x ms rs) e.0 h))

  goes_on : {js : List (ℕ × ℕ)} {ms : List Mark} {rs : List (ℕ × ℤ)} → Begun text at room n m js ms rs
      → {js' : List (ℕ × ℕ)} {ms' : List Mark} {rs' : List (ℕ × ℤ)} → Begun text at room n m js' ms' rs'
      → place_after at js' ms' rs' < place_after at js ms rs → Next js' ms' rs'
  goes_on (headed g) {js'} {ms'} {rs'} b' less = absurd (omega arith)
  goes_on (joined_by {js} p b d h g) {js'} {ms'} {rs'} b' less =
      let x = length_push js p in
      let again : place_after at js' ms' rs' < place_after at js [] [] → Next js' ms' rs' = λ l. goes_on b b' l in
      ⊎_elim again
      (λ (l : place_after at js [] [] ≤ place_after at js' ms' rs').
      let e : place_after at js [] [] ≡ place_after at js' ms' rs' = omega arith in moved Next (same_begun b b' e) (inl (p, h, d, g)))
      (cases_lt (place_after at js' ms' rs') (place_after at js [] []))
  goes_on (marked_by {js} {ms} k b d h) {js'} {ms'} {rs'} b' less =
      let x = length_push ms k in
      let again : place_after at js' ms' rs' < place_after at js ms [] → Next js' ms' rs' = λ l. goes_on b b' l in
      ⊎_elim again
      (λ (l : place_after at js ms [] ≤ place_after at js' ms' rs').
      let e : place_after at js ms [] ≡ place_after at js' ms' rs' = omega arith in moved Next (same_begun b b' e) (inr (inl (k, h, d))))
      (cases_lt (place_after at js' ms' rs') (place_after at js ms []))
  goes_on (counted_by {js} {ms} {rs} r b d h g) {js'} {ms'} {rs'} b' less =
      let x = length_push rs r in
      let again : place_after at js' ms' rs' < place_after at js ms rs → Next js' ms' rs' = λ l. goes_on b b' l in
      ⊎_elim again
      (λ (l : place_after at js ms rs ≤ place_after at js' ms' rs').
      let e : place_after at js ms rs ≡ place_after at js' ms' rs' = omega arith in moved Next (same_begun b b' e) (inr (inr (r, h, d, g))))
      (cases_lt (place_after at js' ms' rs') (place_after at js ms rs))

  -- ---- nothing is amiss with a line that is due and accepted

  module _ (js : List (ℕ × ℕ)) (ms : List Mark) (rs : List (ℕ × ℤ)) (simple : Simple (lines_graph n js)) where
    abbrev p : ℕ
    p = place_after at js ms rs

    due_amiss : (l : Line) → Here text p l → Due n m (length js) (length ms) (length rs) l.letter → (k : Line) → Here text p k → (Due n m (length js) (length ms) (length rs) k.letter → ⊥) → ⊥
    due_amiss l h d k g no_due = no_due (subst (λ c. Due n m (length js) (length ms) (length rs) c) (letters l k (same_line text p p l k refl h g)) d)

    fine : Next js ms rs → (f : QueryFault) → Amiss text p n m js (length ms) (length rs) f → ⊥
    fine (inl (q, h, d, g)) (Text (BadForm z)) a = no_longest text p z (join_line q) a.0 h
    fine (inl (q, h, d, g)) (Text (Misplaced z)) a = due_amiss (join_line q) h d a.1 a.2 a.3
    fine (inl (q, h, d, g)) (Text (OutOfLimits z)) a = a
    fine (inl (q, h, d, g)) (Text (TooFew z)) a = a
    fine (inl (q, h, d, g)) (Join z f) a =
        let e : q ≡ a.1 = pair_of q a.1 (same_line text p p (join_line q) (join_line a.1) refl h a.2) in
        ok_err tt f (sym (join_good n js q simple g) ∙ ap (λ (x : ℕ × ℕ). join_answer (lines_graph n js) 2016 x.0 x.1) e ∙ a.4)
    fine (inl (q, h, d, g)) (Row z f) a = apart p p (join_line q) (row_line a.1) refl h a.2 (λ y. omega arith)
    fine (inr (inl (k, h, d))) (Text (BadForm z)) a = no_longest text p z (mark_line k) a.0 h
    fine (inr (inl (k, h, d))) (Text (Misplaced z)) a = due_amiss (mark_line k) h d a.1 a.2 a.3
    fine (inr (inl (k, h, d))) (Text (OutOfLimits z)) a = a
    fine (inr (inl (k, h, d))) (Text (TooFew z)) a = a
    fine (inr (inl (k, h, d))) (Join z f) a = apart p p (mark_line k) (join_line a.1) refl h a.2 (λ y. omega arith)
    fine (inr (inl (k, h, d))) (Row z f) a = apart p p (mark_line k) (row_line a.1) refl h a.2 (λ y. omega arith)
    fine (inr (inr (r, h, d, g))) (Text (BadForm z)) a = no_longest text p z (row_line r) a.0 h
    fine (inr (inr (r, h, d, g))) (Text (Misplaced z)) a = due_amiss (row_line r) h d a.1 a.2 a.3
    fine (inr (inr (r, h, d, g))) (Text (OutOfLimits z)) a = a
    fine (inr (inr (r, h, d, g))) (Text (TooFew z)) a = a
    fine (inr (inr (r, h, d, g))) (Join z f) a = apart p p (row_line r) (join_line a.1) refl h a.2 (λ y. omega arith)
    fine (inr (inr (r, h, d, g))) (Row z f) a =
        let e : r ≡ a.1 = row_of r a.1 (same_line text p p (row_line r) (row_line a.1) refl h a.2) in
        ok_err tt f (sym (row_good n r g) ∙ ap (λ (x : ℕ × ℤ). row_answer n x.0 x.1) e ∙ a.4)

    -- nor with the text's end, where nothing is owed
    ended : p ≡ length text → NothingOwed n m (length js) (length ms) → (f : QueryFault) → Amiss text p n m js (length ms) (length rs) f → ⊥
    ended e none (Text (BadForm z)) a = a.1 e none
    ended e none (Text (Misplaced z)) a = let within = here_inside text p a.1 a.2 in omega arith
    ended e none (Text (OutOfLimits z)) a = a
    ended e none (Text (TooFew z)) a = a
    ended e none (Join z f) a = let within = here_inside text p (join_line a.1) a.2 in omega arith
    ended e none (Row z f) a = let within = here_inside text p (row_line a.1) a.2 in omega arith

  -- nor with a head that is accepted
  headed_well : GoodHead text at room n m → (f : QueryFault) → HeadAmiss text at room f → ⊥
  headed_well g (Text (BadForm z)) a = no_longest text at z (head_line n m) a g.here
  headed_well g (Text (Misplaced z)) a = a.3 (sym (letters (head_line n m) a.1 (same_line text at at (head_line n m) a.1 refl g.here a.2)))
  headed_well g (Text (OutOfLimits z)) a =
      let e = head_of n m a.1 a.2 (same_line text at at (head_line n m) (head_line a.1 a.2) refl g.here a.3) in
      false≢true (sym g.inside ∙ ap (λ x. outside_limits x m) e.0 ∙ ap (λ x. outside_limits a.1 x) e.1 ∙ a.4)
  headed_well g (Text (TooFew z)) a =
      let e = head_of n m a.0 a.1 (same_line text at at (head_line n m) (head_line a.0 a.1) refl g.here a.2) in
      let enough = g.enough in
      omega (arith, e.0, a.4, a.5)
  headed_well g (Join z f) a = a
  headed_well g (Row z f) a = a

-- ---- the whole text

query_length : (n m : ℕ) (js : List (ℕ × ℕ)) (ms : List Mark) (rs : List (ℕ × ℤ)) → length (query_text n m js ms rs) ≡ place_after 0 js ms rs
query_length n m js ms rs =
    let a = length-append (line_text (head_line n m)) (all_of join_text js ++ (all_of mark_text ms ++ all_of row_text rs)) in
    let b = length-append (all_of join_text js) (all_of mark_text ms ++ all_of row_text rs) in
    let c = length-append (all_of mark_text ms) (all_of row_text rs) in
    let h = line_length (head_line n m) in
    let x = joined_length join_line js in
    let y = joined_length mark_line ms in
    let z = joined_length row_line rs in
    omega arith

module _ (input : List ℕ) (n : ℕ) (js : List (ℕ × ℕ)) (ms : List Mark) (rs : List (ℕ × ℤ)) (q : IsQuery input n js ms rs) where
  long : length input ≡ place_after 0 js ms rs
  long = ap length q.whole ∙ query_length n (length js) js ms rs

  no_line : (f : QueryFault) (js' : List (ℕ × ℕ)) (ms' : List Mark) (rs' : List (ℕ × ℤ)) → Begun input 0 63 n (length js) js' ms' rs'
      → Amiss input (place_after 0 js' ms' rs') n (length js) js' (length ms') (length rs') f → ⊥
  no_line f js' ms' rs' b a =
      let m = length js in
      let within : place_after 0 js' ms' rs' ≤ length input = begun_inside input 0 b in
      ⊎_elim
      (λ (l : place_after 0 js' ms' rs' < place_after 0 js ms rs). fine input 0 63 n m js' ms' rs' (begun_simple b) (goes_on input 0 63 n m q.begun b l) f a)
      (λ (l : place_after 0 js ms rs ≤ place_after 0 js' ms' rs').
      let e : place_after 0 js ms rs ≡ place_after 0 js' ms' rs' = omega (arith, long) in
      let same = same_begun input 0 63 n m q.begun b e in
      let none : NothingOwed n m (length js') (length ms') =
      moved input 0 63 n m (λ x y z. NothingOwed n m (length x) (length y)) same (refl, q.marks_owed) in
      ended input 0 63 n m js' ms' rs' (begun_simple b) (omega (arith, long)) none f a)
      (cases_lt (place_after 0 js' ms' rs') (place_after 0 js ms rs))

  pub no_query : (f : QueryFault) → LineAmiss input f → ⊥
  no_query f (inl a) = headed_well input 0 63 n (length js) (head_here input 0 63 n (length js) q.begun) f a
  no_query f (inr a) =
      let m = length js in
      let g = head_here input 0 63 a.tables a.joins a.begun in
      let h = head_here input 0 63 n m q.begun in
      let e = head_of a.tables a.joins n m (same_line input 0 0 (head_line a.tables a.joins) (head_line n m) refl g.here h.here) in
      no_line f a.js a.ms a.rs
      (subst (λ x. Begun input 0 63 n x a.js a.ms a.rs) e.1 (subst (λ x. Begun input 0 63 x a.joins a.js a.ms a.rs) e.0 a.begun))
      (subst (λ x. Amiss input (place_after 0 a.js a.ms a.rs) n x a.js (length a.ms) (length a.rs) f) e.1
      (subst (λ x. Amiss input (place_after 0 a.js a.ms a.rs) x a.joins a.js (length a.ms) (length a.rs) f) e.0 a.amiss))

  pub one_query : (k : ℕ) (js' : List (ℕ × ℕ)) (ms' : List Mark) (rs' : List (ℕ × ℤ)) → IsQuery input k js' ms' rs'
      → (n ≡ k) × (js ≡ js') × (ms ≡ ms') × (rs ≡ rs')
  one_query k js' ms' rs' r =
      let g = head_here input 0 63 n (length js) q.begun in
      let h = head_here input 0 63 k (length js') r.begun in
      let e = head_of n (length js) k (length js') (same_line input 0 0 (head_line n (length js)) (head_line k (length js')) refl g.here h.here) in
      let other : Begun input 0 63 n (length js) js' ms' rs' =
      subst (λ x. Begun input 0 63 n x js' ms' rs') (sym e.1) (subst (λ x. Begun input 0 63 x (length js') js' ms' rs') (sym e.0) r.begun) in
      let ends : place_after 0 js ms rs ≡ place_after 0 js' ms' rs' = sym long ∙ ap length r.whole ∙ query_length k (length js') js' ms' rs' in
      let same = same_begun input 0 63 n (length js) q.begun other ends in
      (e.0, same.0, same.1, same.2)
