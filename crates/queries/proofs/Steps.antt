-- Lines read one after another: one more, one that is refused, and the end; that J lines keep the tables; and that mark records
-- past those that are filled keep their contents.
use Rattle.std.proofs.Common.{◌≡◌, ℕ, zero, suc, ◌+◌, ◌-◌, ◌*◌, ◌<◌, ◌≤◌, List, ◌++◌, length, take, drop, set, Ok, Err, Result, sym, refl, ap, ◌∙◌, arith, length-set, take-append-drop}
use Rattle.std.proofs.lemmas.List.{length-take-le, set-append_left}
use Rattle.theory.specs.Graph.{Graph, joining}
use Rattle.graph.specs.Store.{join_answer}
use Rattle.graph.specs.declared.fault.StoreFault.{StoreFault}
use Rattle.theory.specs.declared.mark.Mark.{Mark}
use Rattle.texts.specs.declared.fault.TextFault.{TextFault}
use Rattle.queries.specs.QueryRead.{Told, of_text, join_judged, join_step, joins_read, pair_at, mark_read, mark_step, onward, lines_read, marks_read}
use Rattle.rejections.specs.declared.fault.QueryFault.{QueryFault}
use Rattle.rejections.specs.declared.fault.QueryFault.TheVariants.{Text}

-- n lines, of which i are read
module _ {S : Type 0} (step : ℕ → S → Told S) (whole : Told S) (n i : ℕ) (s : S) (inv : whole ≡ lines_read step i (n - i) s) where
  -- the next of them
  lines_next : i < n → (r : Result Unit QueryFault) (t : S) → step i s ≡ record { told = r; left = t } → whole ≡ onward r t (λ t. lines_read step (i + 1) (n - (i + 1)) t)
  unfolding lines_read
  lines_next more r t did =
      let k : n - i ≡ suc (n - (i + 1)) = omega arith in
      inv ∙ ap (λ k. lines_read step i k s) k ∙ ap (λ (q : Told S). onward q.told q.left (λ t. lines_read step (i + 1) (n - (i + 1)) t)) did

  pub lines_on : i < n → (r : Result Unit QueryFault) (t : S) → step i s ≡ record { told = r; left = t } → r ≡ Ok tt → whole ≡ lines_read step (i + 1) (n - (i + 1)) t
  lines_on more r t did ok = lines_next more r t did ∙ ap (λ r. onward r t (λ t. lines_read step (i + 1) (n - (i + 1)) t)) ok

  pub lines_off : i < n → (r : Result Unit QueryFault) (t : S) → step i s ≡ record { told = r; left = t } → (e : QueryFault) → r ≡ Err e
      → (q : Result Unit QueryFault) → q ≡ Err e → whole ≡ record { told = q; left = t }
  lines_off more r t did e bad q is =
      lines_next more r t did ∙ ap (λ r. onward r t (λ t. lines_read step (i + 1) (n - (i + 1)) t)) bad ∙ ap (λ q. record { told = q; left = t }) (sym is)

  pub lines_end : n ≤ i → whole ≡ record { told = Ok tt; left = s }
  unfolding lines_read
  lines_end all = let k : n - i ≡ 0 = omega arith in inv ∙ ap (λ k. lines_read step i k s) k

-- lines of which each keeps something keep it
onward_kept : {S X : Type 0} (f : S → X) (r : Result Unit QueryFault) (t : S) (more : S → Told S) → ((u : S) → f (more u).left ≡ f u) → f (onward r t more).left ≡ f t
onward_kept f (Ok u) t more same = same t
onward_kept f (Err e) t more same = refl

lines_kept : {S X : Type 0} (f : S → X) (step : ℕ → S → Told S) → ((i : ℕ) (s : S) → f (step i s).left ≡ f s) → (i k : ℕ) (s : S) → f (lines_read step i k s).left ≡ f s
unfolding lines_read
lines_kept f step one i zero s = refl
lines_kept f step one i (suc k) s = onward_kept f (step i s).told (step i s).left (lines_read step (i + 1) k) (lines_kept f step one (i + 1) k) ∙ one i s

-- J lines keep the tables
module _ (cap at : ℕ) (m : Graph) where
  judged_tables : (a : Result Unit StoreFault) (v w : ℕ) → (join_judged at a (joining m v w) m).left.tables ≡ m.tables
  judged_tables (Ok u) v w = refl
  judged_tables (Err f) v w = refl

  pair_tables : (q : Result (ℕ × ℕ) TextFault) → (of_text q m (λ p. join_judged at (join_answer m cap p.0 p.1) (joining m p.0 p.1) m)).left.tables ≡ m.tables
  pair_tables (Ok p) = judged_tables (join_answer m cap p.0 p.1) p.0 p.1
  pair_tables (Err e) = refl

pub joins_tables : (cap : ℕ) (text : List ℕ) (at k : ℕ) (m g : Graph) (r : Result Unit QueryFault) → joins_read cap text at k m ≡ record { told = r; left = g } → g.tables ≡ m.tables
joins_tables cap text at k m g r did =
    ap (λ (s : Told Graph). s.left.tables) (sym did)
    ∙ lines_kept (λ (m : Graph). m.tables) (join_step cap text at) (λ i s. pair_tables cap (at + 17 * i) s (pair_at text (at + 17 * i) 74)) 0 k m

-- an M line
pub mark_on : (text : List ℕ) (at i : ℕ) (l : List Mark) (v w : ℕ) → pair_at text at 77 ≡ Ok (v, w)
    → mark_read i l (pair_at text at 77) ≡ record { told = Ok tt; left = set l i (record { v = v; w = w }) }
mark_on text at i l v w ok = ap (mark_read i l) ok

pub mark_off : (text : List ℕ) (at i : ℕ) (l : List Mark) (e : TextFault) → pair_at text at 77 ≡ Err e
    → mark_read i l (pair_at text at 77) ≡ record { told = Err (Text e); left = l }
mark_off text at i l e bad = ap (mark_read i l) bad

-- ---- records enough

-- s, with other records behind its own
abbrev before : Told (List Mark) → List Mark → Told (List Mark)
before s rest = record { told = s.told; left = s.left ++ rest }

before_on : (f g : List Mark → Told (List Mark)) (l rest : List Mark) → ((m : List Mark) → length m ≡ length l → f (m ++ rest) ≡ before (g m) rest)
    → (i : ℕ) → i < length l → (r : Result (ℕ × ℕ) TextFault)
    → onward (mark_read i (l ++ rest) r).told (mark_read i (l ++ rest) r).left f ≡ before (onward (mark_read i l r).told (mark_read i l r).left g) rest
before_on f g l rest more i h (Ok p) =
    let m : Mark = record { v = p.0; w = p.1 } in
    ap f (set-append_left l rest i m h) ∙ more (set l i m) (length-set l i m)
before_on f g l rest more i h (Err e) = refl

-- records past those that are filled keep their contents
marks_before : (text : List ℕ) (at k i : ℕ) (l rest : List Mark) → i + k ≤ length l
    → lines_read (mark_step text at) i k (l ++ rest) ≡ before (lines_read (mark_step text at) i k l) rest
unfolding lines_read
marks_before text at zero i l rest h = refl
marks_before text at (suc k) i l rest h =
    before_on (lines_read (mark_step text at) (i + 1) k) (lines_read (mark_step text at) (i + 1) k) l rest
    (λ m same. marks_before text at k (i + 1) m rest (omega arith)) i (omega arith) (pair_at text (at + 17 * i) 77)

pub marks_front : (text : List ℕ) (at k : ℕ) (l : List Mark) (s : Told (List Mark)) → k ≤ length l → marks_read text at (length (take k l)) (take k l) ≡ s
    → marks_read text at k l ≡ record { told = s.told; left = s.left ++ drop k l }
marks_front text at k l s h is =
    let many : length (take k l) ≡ k = length-take-le k l h in
    ap (lines_read (mark_step text at) 0 k) (sym (take-append-drop k l))
    ∙ marks_before text at k 0 (take k l) (drop k l) (omega arith)
    ∙ ap (λ n. before (lines_read (mark_step text at) 0 n (take k l)) (drop k l)) (sym many)
    ∙ ap (λ s. before s (drop k l)) is
