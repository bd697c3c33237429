-- There is one build list: a list that stands in the relation is the one given.
--
--   discovery_apart   different discovered tables have different discovery numbers
--   takes_one         what taking one table away gives is what the function gives
--   takes_same        the same for tables taken away one after another
--   only_given        a list in the relation is the list given
--   only_list         so any two are equal
use Rattle.std.proofs.Common.{◌≡◌, ℕ, suc, ◌<◌, ◌≤◌, Bool, true, false, List, [], ◌∷◌, ◌++◌, length, sym, refl, ap, ◌∙◌, subst, ap₂, ⊎_elim, arith, length-append}
use Rattle.std.proofs.lemmas.Bool.{cases_eq, false≢true}
use Rattle.std.proofs.lemmas.Bool.Decides.{nat_tests}
use Rattle.theory.specs.Build.{Part}
use Rattle.theory.specs.declared.step.Step.{Step}
use Rattle.theory.specs.declared.step.Triangle.{Triangle}
use Rattle.disassembly.specs.Walks.{SimpleOn}
use Rattle.disassembly.specs.Search.{has, discovery, searched}
use Rattle.disassembly.specs.Tree.{Hangs}
use Rattle.disassembly.specs.Disassembly.{Disassembly, TakesAway, TakesAll, no_more, one_more, RisingList, other, notes_of, part_after, passing, nearest_of, taken, noted, remaining, all_notes, reversed, past, part_of, given, given_at}
use Rattle.disassembly.specs.Laws.{Fit, OnlyList}
use Rattle.disassembly.proofs.Members.{has_cases, has_more, has_head}
use Rattle.disassembly.proofs.Depth.{discovery_below}
use Rattle.disassembly.proofs.Searches.{searched_visit, visit_unique}
use Rattle.disassembly.proofs.Reach.{connected_seen, fit_hangs_in}
use Rattle.disassembly.proofs.Undo.{SimplePart, ends_in}
use Rattle.disassembly.proofs.Passing.{passing_rising, rising_unique}
use Rattle.disassembly.proofs.Nearest.{nearest_joined, nearest_lowest}
use Rattle.disassembly.proofs.Away.{taken_in_use}
use Rattle.disassembly.proofs.Walks.{without_true}
use Rattle.disassembly.proofs.Whole.{In, Joined, hangs_simple, AllReady, taken_hangs, all_within, taken_within}
use Rattle.disassembly.proofs.Final.{Ends, corners_are}
use Rattle.disassembly.proofs.Given.{ends_of}

-- ---- lists

below_length : (l : List ℕ) (a : ℕ) → has l a ≡ true → discovery l a < length l
below_length = discovery_below (λ _ _. false) (λ x. x) 0

discovery_head : (z x : ℕ) (l : List ℕ) → x ≡ z → discovery (z ∷ l) x ≡ length l
discovery_head z x l e = grind (arith, nat_tests)

discovery_tail : (z x : ℕ) (l : List ℕ) → (x ≡ z → ⊥) → discovery (z ∷ l) x ≡ discovery l x
discovery_tail z x l n = grind (arith, nat_tests)

pub discovery_apart : (l : List ℕ) (x y : ℕ) → has l x ≡ true → has l y ≡ true → discovery l x ≡ discovery l y → x ≡ y
discovery_apart [] x y h k e = absurd (false≢true h)
discovery_apart (z ∷ l) x y h k e =
    let again : has l x ≡ true → has l y ≡ true → discovery l x ≡ discovery l y → x ≡ y = discovery_apart l x y in
    let in_tail : (w : ℕ) → has (z ∷ l) w ≡ true → (w ≡ z → ⊥) → has l w ≡ true = λ w m n. ⊎_elim (λ q. absurd (n q)) (λ q. q) (has_cases z l w m) in
    ⊎_elim
    (λ (ex : x ≡ z).
    ⊎_elim
    (λ (ey : y ≡ z). ex ∙ sym ey)
    (λ ny. absurd (omega (arith, discovery_head z x l ex, discovery_tail z y l ny, below_length l y (in_tail y k ny))))
    (cases_eq y z))
    (λ nx.
    ⊎_elim
    (λ (ey : y ≡ z). absurd (omega (arith, discovery_head z y l ey, discovery_tail z x l nx, below_length l x (in_tail x h nx))))
    (λ ny. again (in_tail x h nx) (in_tail y k ny) (sym (discovery_tail z x l nx) ∙ e ∙ discovery_tail z y l ny))
    (cases_eq y z))
    (cases_eq x z)

-- two ways to part one list with ends of the same length are one
same_part : (l k m n : List ℕ) → l ++ m ≡ k ++ n → length m ≡ length n → l ≡ k
same_part [] [] m n e h = refl
same_part [] (y ∷ k) m n e h = let z : length m ≡ suc (length (k ++ n)) = ap length e in absurd (omega (arith, length-append k n))
same_part (x ∷ l) [] m n e h = let z : suc (length (l ++ m)) ≡ length n = ap length e in absurd (omega (arith, length-append l m))
same_part (x ∷ l) (y ∷ k) m n e h = let first : x ≡ y = cc in let rest : l ++ m ≡ k ++ n = cc in ap₂ ◌∷◌ first (same_part l k m n rest h)

-- ---- taking away, in the relation and by the function

-- what makes the taking away of the tables us from p one: p hangs on the tree, each table is a leaf in its turn, tables of p
-- differ in rank, and the parents f are those of the tree
record Settled (f g : ℕ → ℕ) (r : ℕ) (rank : ℕ → ℕ) (us : List ℕ) (p : Part) : Type 0 where
  hangs : Hangs (In p) (Joined p) g r rank
  few : (x : ℕ) → In p x → x < 64
  ready : AllReady g r rank us p
  apart : (x y : ℕ) → In p x → In p y → rank x ≡ rank y → x ≡ y
  agree : (u : ℕ) → has us u ≡ true → f u ≡ g u

joined_other : (u f a : ℕ) (p : Part) (x : ℕ) → other u f a p x ≡ true → p.joins u x ≡ true
joined_other u f a p x h = grind (arith, nat_tests)

module _ (f g : ℕ → ℕ) (r : ℕ) (rank : ℕ → ℕ) where
  takes_one : (u : ℕ) (us : List ℕ) (p q : Part) (notes : List Step) → Settled f g r rank (u ∷ us) p → TakesAway f rank u p notes q → (notes ≡ noted g rank u p) × (q ≡ taken g rank u p)
  unfolding noted taken
  takes_one u us p q notes s t =
      let simple : SimplePart p = hangs_simple p s.hangs s.few in
      let ef : f u ≡ g u = s.agree u (has_head u us) in
      let uf : p.joins u (g u) ≡ true = s.hangs.same (g u) u (s.hangs.tree u s.ready.0.there s.ready.0.not_root) in
      let ua : p.joins u (nearest_of g rank u p) ≡ true = nearest_joined g rank u p uf in
      let low : rank t.a ≤ rank (nearest_of g rank u p) = t.nearest_root (nearest_of g rank u p) ua in
      let high : rank (nearest_of g rank u p) ≤ rank t.a = nearest_lowest g rank u p simple t.a t.neighbour in
      let ea : t.a ≡ nearest_of g rank u p = s.apart t.a (nearest_of g rank u p) (ends_in p simple u t.a t.neighbour).1 (ends_in p simple u (nearest_of g rank u p) ua).1 (omega (arith, low, high)) in
      let listed : RisingList (other u (g u) (nearest_of g rank u p) p) (passing (other u (g u) (nearest_of g rank u p) p)) =
      passing_rising (other u (g u) (nearest_of g rank u p) p) (λ x o. s.few x (ends_in p simple u x (joined_other u (g u) (nearest_of g rank u p) p x o)).1) in
      let eo : t.others ≡ passing (other u (g u) (nearest_of g rank u p) p) =
      rising_unique (other u (g u) (nearest_of g rank u p) p) t.others (passing (other u (g u) (nearest_of g rank u p) p))
      (subst (λ a. RisingList (other u (g u) a p) t.others) ea (subst (λ v. RisingList (other u v t.a p) t.others) ef t.rising)) listed in
      (t.noted_so ∙ (λ i. notes_of u (ef i) (ea i) (eo i) p), t.leaves ∙ (λ i. part_after u (ef i) (ea i) (eo i) p))

  settled_next : (u : ℕ) (us : List ℕ) (p : Part) → Settled f g r rank (u ∷ us) p → Settled f g r rank us (taken g rank u p)
  settled_next u us p s =
      let inside : (x : ℕ) → In (taken g rank u p) x → In p x = λ x m. (without_true u p.in_use x (sym (ap (λ U. U x) (taken_in_use g rank u p)) ∙ m)).0 in
      record {
        hangs = taken_hangs g r rank u p s.hangs s.few s.ready.0;
        few = taken_within g r rank u p s.hangs s.few s.ready.0;
        ready = s.ready.1;
        apart = λ x y m n. s.apart x y (inside x m) (inside y n);
        agree = λ w h. s.agree w (has_more u us w h);
      }

  takes_same : {us : List ℕ} {p : Part} {notes : List Step} {q : Part} → TakesAll f rank us p notes q → Settled f g r rank us p → (notes ≡ all_notes g rank us p) × (q ≡ remaining g rank us p)
  unfolding all_notes remaining
  takes_same no_more s = (refl, refl)
  takes_same (one_more {u = u} {us = us} {p = p} {q = q} {z = z} {notes = notes} {more = more} t rest) s =
      let one : (notes ≡ noted g rank u p) × (q ≡ taken g rank u p) = takes_one u us p q notes s t in
      let on : Settled f g r rank us q = subst (λ k. Settled f g r rank us k) (sym one.1) (settled_next u us p s) in
      let ih : (more ≡ all_notes g rank us q) × (z ≡ remaining g rank us q) = takes_same rest on in
      (ap₂ ◌++◌ one.0 (ih.0 ∙ ap (all_notes g rank us) one.1), ih.1 ∙ ap (remaining g rank us) one.1)

-- ---- one list

module _ (U : ℕ → Bool) (J : ℕ → ℕ → Bool) (r : ℕ) (s : SimpleOn U J) (ur : U r ≡ true) (fit : Fit U J) (t : Triangle) (l : List Step) (d : Disassembly U J r t l) where
  abbrev g : ℕ → ℕ
  g = (searched U J r).parent

  abbrev seen : List ℕ
  seen = (searched U J r).seen

  abbrev left : List ℕ
  left = (searched U J r).left

  abbrev e : Ends U J (searched U J r).parent r (searched U J r).seen (searched U J r).left
  e = ends_of U J r s ur fit

  same_seen : d.seen ≡ seen
  same_seen = (visit_unique U J r s ur d.search).0

  same_left : d.left ≡ left
  same_left = (visit_unique U J r s ur d.search).1

  seen_is : (x : ℕ) → has seen x ≡ U x
  seen_is = connected_seen U J s g r ur (searched_visit U J r s ur) fit.connected

  same_away : d.away ≡ reversed (past 3 left)
  same_away = same_part d.away (reversed (past 3 left)) d.last e.last (sym d.order ∙ ap reversed same_left ∙ e.order) (d.three ∙ sym e.three)

  ready_there : (us : List ℕ) (p : Part) → AllReady g r (discovery seen) us p → ((x : ℕ) → In p x → U x ≡ true) → (u : ℕ) → has us u ≡ true → (U u ≡ true) × (u ≡ r → ⊥)
  ready_there [] p a in-u u h = absurd (false≢true h)
  ready_there (v ∷ us) p a in-u u h =
      ⊎_elim
      (λ (q : u ≡ v). (rw q (in-u v a.0.there), rw q a.0.not_root))
      (λ q. ready_there us (taken g (discovery seen) v p) a.1 (λ x m. in-u x (without_true v p.in_use x (sym (ap (λ V. V x) (taken_in_use g (discovery seen) v p)) ∙ m)).0) u q)
      (has_cases v us u h)

  agreed : (u : ℕ) → has (reversed (past 3 left)) u ≡ true → d.parent u ≡ g u
  agreed u h =
      let k : (U u ≡ true) × (u ≡ r → ⊥) = ready_there (reversed (past 3 left)) (part_of U J) e.ready (λ x m. m) u h in
      (visit_unique U J r s ur d.search).2 u (ap (λ D. has D u) same_seen ∙ seen_is u ∙ k.0) k.1

  settled : Settled d.parent g r (discovery seen) (reversed (past 3 left)) (part_of U J)
  settled = record {
    hangs = fit_hangs_in U J s fit g r ur (searched_visit U J r s ur);
    few = s.few;
    ready = e.ready;
    apart = λ x y m n. discovery_apart seen x y (seen_is x ∙ m) (seen_is y ∙ n);
    agree = agreed;
  }

  took : TakesAll d.parent (discovery seen) (reversed (past 3 left)) (part_of U J) d.notes d.remains
  took = subst (λ D. TakesAll d.parent (discovery D) (reversed (past 3 left)) (part_of U J) d.notes d.remains) same_seen
      (subst (λ A. TakesAll d.parent (discovery d.seen) A (part_of U J) d.notes d.remains) same_away d.takes)

  abbrev q : Part
  q = remaining g (discovery seen) (reversed (past 3 left)) (part_of U J)

  same_both : (d.notes ≡ all_notes g (discovery seen) (reversed (past 3 left)) (part_of U J)) × (d.remains ≡ q)
  same_both = takes_same d.parent g r (discovery seen) took settled

  pub only_given : (t ≡ (given U J r).triangle) × (l ≡ (given U J r).steps)
  unfolding given given_at
  only_given = (
    sym (corners_are q.in_use (all_within g r (discovery seen) (reversed (past 3 left)) (part_of U J) settled.hangs s.few e.ready) t d.ascending
        (λ x. d.corner x ∙ ap (λ p. p.in_use x) same_both.1)),
    d.list ∙ ap reversed same_both.0,
  )

pub only_list : OnlyList
only_list U J r simple ur fit s t k l c d =
    let first : (s ≡ (given U J r).triangle) × (k ≡ (given U J r).steps) = only_given U J r simple ur fit s k c in
    let second : (t ≡ (given U J r).triangle) × (l ≡ (given U J r).steps) = only_given U J r simple ur fit t l d in
    (first.0 ∙ sym second.0, first.1 ∙ sym second.1)
