-- The end of a search, and the build list that its order of leaving gives.
--
--   remaining_in_use   which tables are left when some are taken away
--   has_reversed       a list and its reverse have the same tables
--   corners_are        where three tables are in use, they are listed as the corners of a triangle
--   left_is            a finished search of a fit graph has left exactly the tables of it
--   Ends, ends         what taking away all but the last three tables that were left gives: a triangle and a legal build from it
use Rattle.std.proofs.Common.{◌≡◌, ℕ, zero, suc, ◌+◌, ◌<◌, ◌≤◌, Bool, true, false, cond, not, ◌&&◌, ◌||◌, eqb, ◌⊎◌, List, [], ◌∷◌, ◌++◌, length, get_or, sym, refl, ap, ◌∙◌, subst, inl, inr, ⊎_elim, arith}
use Rattle.std.specs.Cmp.{both_ways as same_test}
use Rattle.std.proofs.lemmas.Bool.{cases_eq, cases_order, both_ways}
use Rattle.std.proofs.lemmas.Bool.Decides.{nat_tests}
use Rattle.theory.specs.Graph.{count}
use Rattle.theory.specs.Build.{Part, Ascending, triangle, Builds}
use Rattle.theory.specs.declared.step.Triangle.{Triangle}
use Rattle.theory.proofs.Sizes.{count_same}
use Rattle.disassembly.specs.Walks.{SimpleOn, without}
use Rattle.disassembly.specs.Search.{has, discovery, Visit}
use Rattle.disassembly.specs.Laws.{Fit}
use Rattle.disassembly.specs.Tree.{Hangs}
use Rattle.disassembly.specs.Disassembly.{reversed, passing, taken, remaining, all_notes, past, corners, part_of, TakesAll}
use Rattle.disassembly.proofs.Members.{has_cases, has_more, has_head, has_not, absent, Distinct}
use Rattle.disassembly.proofs.Visits.{visit_in, Orderly, Kept, kept, visit_left, visit_last}
use Rattle.disassembly.proofs.Reach.{connected_seen, fit_hangs_in}
use Rattle.disassembly.proofs.Undo.{append_more}
use Rattle.disassembly.proofs.Away.{taken_in_use}
use Rattle.disassembly.proofs.Passing.{passing_rising, rising_unique}
use Rattle.disassembly.proofs.Whole.{In, Joined, hangs_simple, Ready, AllReady, all_hangs, all_within, all_away, all_builds, three_full, full_triangle}

-- ---- lists

has_push : (l : List ℕ) (u x : ℕ) → has (l ++ (u ∷ [])) x ≡ (eqb x u || has l x)
has_push [] u x = refl
has_push (v ∷ l) u x = let ih = has_push l u x in rw ih (grind (arith, nat_tests))

pub has_reversed : (l : List ℕ) (x : ℕ) → has (reversed l) x ≡ has l x
has_reversed [] x = refl
has_reversed (u ∷ l) x = has_push (reversed l) u x ∙ ap (λ b. eqb x u || b) (has_reversed l x)

-- tests that differ at one number count at most one more
count_more : (p q : ℕ → Bool) (a n : ℕ) → ((k : ℕ) → (k ≡ a → ⊥) → p k ≡ q k) → count q n ≤ count p n + 1
count_more p q a zero h = omega arith
count_more p q a (suc n) h =
    ⊎_elim
    (λ (e : n ≡ a).
    let below : count p n ≡ count q n = count_same p q n (λ k l. h k (omega arith)) in
    let one : cond {A = ℕ} (q n) 1 0 ≤ 1 = elim (q n) as (λ b. cond {A = ℕ} b 1 0 ≤ 1) [ true ↦ omega arith | false ↦ omega arith ] in
    omega arith)
    (λ (ne : n ≡ a → ⊥).
    let ih : count q n ≤ count p n + 1 = count_more p q a n h in
    let here : cond (p n) 1 0 ≡ cond {A = ℕ} (q n) 1 0 = ap (λ b. cond b 1 0) (h n ne) in
    omega arith)
    (cases_eq n a)

count_nothing : (n : ℕ) → count (λ _. false) n ≡ 0
count_nothing zero = refl
count_nothing (suc n) = let ih : count (λ _. false) n ≡ 0 = count_nothing n in omega arith

has_other : (x : ℕ) (l : List ℕ) (k : ℕ) → (k ≡ x → ⊥) → has l k ≡ has (x ∷ l) k
has_other x l k n = grind (arith, nat_tests)

-- a list has no more tables than it is long
count_has : (l : List ℕ) (n : ℕ) → count (has l) n ≤ length l
count_has [] n = let e : count (has []) n ≡ 0 = count_nothing n in omega arith
count_has (x ∷ l) n =
    let ih : count (has l) n ≤ length l = count_has l n in
    let more : count (has (x ∷ l)) n ≤ count (has l) n + 1 = count_more (has l) (has (x ∷ l)) x n (has_other x l) in
    omega arith

long_enough : (a b c : ℕ) → a ≡ b → 3 ≤ b → a ≤ c → 3 ≤ c
long_enough a b c e h k = omega arith

first_three : (l : List ℕ) → 3 ≤ length l → (x y z : ℕ) × (m : List ℕ) × (l ≡ x ∷ y ∷ z ∷ m)
first_three [] h = absurd (omega arith)
first_three (x ∷ []) h = absurd (omega arith)
first_three (x ∷ y ∷ []) h = absurd (omega arith)
first_three (x ∷ y ∷ z ∷ m) h = (x, y, z, m, refl)

-- ---- three tables in rising order

abbrev Among : ℕ → ℕ → ℕ → ℕ → Type 0
Among x y z w = (w ≡ x) ⊎ ((w ≡ y) ⊎ (w ≡ z))

record Ordered (x y z : ℕ) : Type 0 where
  t : Triangle
  up : Ascending t
  to : (w : ℕ) → Among x y z w → Among t.a t.b t.c w
  back : (w : ℕ) → Among t.a t.b t.c w → Among x y z w

swap_first : (x y z w : ℕ) → Among x y z w → Among y x z w
swap_first x y z w = ⊎_elim (λ e. inr (inl e)) (⊎_elim inl (λ e. inr (inr e)))

swap_last : (x y z w : ℕ) → Among x y z w → Among x z y w
swap_last x y z w = ⊎_elim inl (⊎_elim (λ e. inr (inr e)) (λ e. inr (inl e)))

ordered_as_is : (x y z : ℕ) → x < y → y < z → Ordered x y z
ordered_as_is x y z l m = record { t = record { a = x; b = y; c = z }; up = (l, m); to = λ w k. k; back = λ w k. k }

ordered_first : (x y z : ℕ) → Ordered y x z → Ordered x y z
ordered_first x y z o = record { t = o.t; up = o.up; to = λ w k. o.to w (swap_first x y z w k); back = λ w k. swap_first y x z w (o.back w k) }

ordered_last : (x y z : ℕ) → Ordered x z y → Ordered x y z
ordered_last x y z o = record { t = o.t; up = o.up; to = λ w k. o.to w (swap_last x y z w k); back = λ w k. swap_last x z y w (o.back w k) }

less_or : (x y : ℕ) → (x ≡ y → ⊥) → (x < y) ⊎ (y < x)
less_or x y n = ⊎_elim (λ e. absurd (n e)) (λ l. l) (cases_order x y)

-- z is put in its place among x < y
ordered_into : (x y z : ℕ) → x < y → (x ≡ z → ⊥) → (y ≡ z → ⊥) → Ordered x y z
ordered_into x y z l n m =
    ⊎_elim
    (λ k. ordered_as_is x y z l k)
    (λ k. ordered_last x y z (⊎_elim (λ j. ordered_as_is x z y j k) (λ j. ordered_first x z y (ordered_as_is z x y j l)) (less_or x z n)))
    (less_or y z m)

ordered : (x y z : ℕ) → (x ≡ y → ⊥) → (x ≡ z → ⊥) → (y ≡ z → ⊥) → Ordered x y z
ordered x y z n m k = ⊎_elim (λ l. ordered_into x y z l m k) (λ l. ordered_first x y z (ordered_into y x z l k m)) (less_or x y n)

triangle_in : (t : Triangle) (w : ℕ) → Among t.a t.b t.c w → (triangle t).in_use w ≡ true
triangle_in t w h = grind (arith, nat_tests)

in_triangle : (t : Triangle) (w : ℕ) → (triangle t).in_use w ≡ true → Among t.a t.b t.c w
in_triangle t w h = grind (arith, nat_tests)

-- the corners as a list
abbrev three_of : Triangle → List ℕ
three_of t = t.a ∷ t.b ∷ t.c ∷ []

three_rise : (t : Triangle) → Ascending t → (i j : ℕ) → i < j → j < 3 → get_or (three_of t) i 0 < get_or (three_of t) j 0
three_rise t up zero zero h k = absurd (omega arith)
three_rise t up zero (suc zero) h k = up.0
three_rise t up zero (suc (suc zero)) h k = let l = up.0 in let m = up.1 in omega arith
three_rise t up (suc zero) (suc (suc zero)) h k = up.1
three_rise t up (suc i) zero h k = absurd (omega arith)
three_rise t up (suc i) (suc zero) h k = absurd (omega arith)
three_rise t up (suc (suc i)) (suc (suc zero)) h k = absurd (omega arith)
three_rise t up i (suc (suc (suc j))) h k = absurd (omega arith)

three_only : (t : Triangle) (x : ℕ) → has (three_of t) x ≡ (triangle t).in_use x
three_only t x = grind (arith, nat_tests)

-- where three tables are in use, they are listed as the corners of a triangle
pub corners_are : (U : ℕ → Bool) → ((x : ℕ) → U x ≡ true → x < 64) → (t : Triangle) → Ascending t → ((x : ℕ) → (triangle t).in_use x ≡ U x) → corners (passing U) ≡ t
corners_are U few t up same =
    ap corners (rising_unique U (passing U) (three_of t) (passing_rising U few) (record { only = λ x. three_only t x ∙ same x; rises = three_rise t up }))

-- ---- tables that are left

pub remaining_in_use : (f rank : ℕ → ℕ) (us : List ℕ) (p : Part) (x : ℕ) → (remaining f rank us p).in_use x ≡ (not (has us x) && p.in_use x)
unfolding remaining
remaining_in_use f rank [] p x = refl
remaining_in_use f rank (u ∷ us) p x =
    let e : (remaining f rank us (taken f rank u p)).in_use x ≡ (not (has us x) && (taken f rank u p).in_use x) = remaining_in_use f rank us (taken f rank u p) x in
    let k : (taken f rank u p).in_use x ≡ without u p.in_use x = ap (λ U. U x) (taken_in_use f rank u p) in
    e ∙ rw k (grind (arith, nat_tests))

kept_on : (m h g u : Bool) → m ≡ (not h && u) → h ≡ g → u ≡ true → g ≡ false → m ≡ true
kept_on m h g u e k p n = grind arith

on_kept : (m h g u : Bool) → m ≡ (not h && u) → h ≡ g → m ≡ true → (u ≡ true) × (g ≡ false)
on_kept m h g u e k p = (grind arith, grind arith)

ready_push : (f : ℕ → ℕ) (r : ℕ) (rank : ℕ → ℕ) (us : List ℕ) (u : ℕ) (p : Part) → AllReady f r rank us p → Ready f r u (remaining f rank us p) → AllReady f r rank (us ++ (u ∷ [])) p
unfolding remaining
ready_push f r rank [] u p a k = (k, tt)
ready_push f r rank (v ∷ us) u p a k = (a.0, ready_push f r rank us u (taken f rank v p) a.1 k)

-- ---- the end of a search

pub record Ends (U : ℕ → Bool) (J : ℕ → ℕ → Bool) (f : ℕ → ℕ) (r : ℕ) (seen left : List ℕ) : Type 0 where
  pub ready : AllReady f r (discovery seen) (reversed (past 3 left)) (part_of U J)
  pub last : List ℕ
  pub order : reversed left ≡ reversed (past 3 left) ++ last
  pub three : length last ≡ 3
  pub takes : TakesAll f (discovery seen) (reversed (past 3 left)) (part_of U J) (all_notes f (discovery seen) (reversed (past 3 left)) (part_of U J))
      (remaining f (discovery seen) (reversed (past 3 left)) (part_of U J))
  pub ascending : Ascending (corners (passing (remaining f (discovery seen) (reversed (past 3 left)) (part_of U J)).in_use))
  pub corner : (x : ℕ) → (triangle (corners (passing (remaining f (discovery seen) (reversed (past 3 left)) (part_of U J)).in_use))).in_use x
      ≡ (remaining f (discovery seen) (reversed (past 3 left)) (part_of U J)).in_use x
  pub builds : Builds (triangle (corners (passing (remaining f (discovery seen) (reversed (past 3 left)) (part_of U J)).in_use)))
      (reversed (all_notes f (discovery seen) (reversed (past 3 left)) (part_of U J))) (part_of U J)

module _ (U : ℕ → Bool) (J : ℕ → ℕ → Bool) (f : ℕ → ℕ) (r : ℕ) (D : List ℕ) (s : SimpleOn U J) (ur : U r ≡ true) (fit : Fit U J) where
  abbrev G : Part
  G = part_of U J

  all_in : (L : List ℕ) → Visit U J f r [] D L → (x : ℕ) → U x ≡ true → has D x ≡ true
  all_in L v x h = connected_seen U J s f r ur v fit.connected x ∙ h

  pub left_is : (L : List ℕ) → Visit U J f r [] D L → (x : ℕ) → has L x ≡ U x
  left_is L v x = same_test (has L x) (U x) (λ h. visit_in U J f r s ur v x ((kept U J f r s v).gone x h)) (λ h. visit_left U J f r s v x (all_in L v x h))

  -- r is left last, y and z before it
  module _ (y z : ℕ) (M : List ℕ) (v : Visit U J f r [] D (r ∷ y ∷ z ∷ M)) where
    abbrev lefts : List ℕ
    lefts = r ∷ y ∷ z ∷ M

    abbrev K : Kept U J f r s [] D lefts
    K = kept U J f r s v

    tree_hangs : Hangs (In G) (Joined G) f r (discovery D)
    tree_hangs = fit_hangs_in U J s fit f r ur v

    yr : y ≡ r → ⊥
    yr e = (has_not y (z ∷ M) r K.once_left.0).0 (sym e)

    zr : z ≡ r → ⊥
    zr e = (has_not z M r (has_not y (z ∷ M) r K.once_left.0).1).0 (sym e)

    yz : y ≡ z → ⊥
    yz = (has_not z M y K.once_left.1.0).0

    -- what is in the graph and is not taken away is left, and nothing else
    stays : (O : List ℕ) (x : ℕ) → U x ≡ true → has O x ≡ false → In (remaining f (discovery D) (reversed O) G) x
    stays O x h n = kept_on ((remaining f (discovery D) (reversed O) G).in_use x) (has (reversed O) x) (has O x) (U x) (remaining_in_use f (discovery D) (reversed O) G x) (has_reversed O x) h n

    stayed : (O : List ℕ) (x : ℕ) → In (remaining f (discovery D) (reversed O) G) x → (U x ≡ true) × (has O x ≡ false)
    stayed O x m = on_kept ((remaining f (discovery D) (reversed O) G).in_use x) (has (reversed O) x) (has O x) (U x) (remaining_in_use f (discovery D) (reversed O) G x) (has_reversed O x) m

    in_left : (x : ℕ) → has lefts x ≡ true → U x ≡ true
    in_left x h = sym (left_is lefts v x) ∙ h

    uy : U y ≡ true
    uy = in_left y (has_more r (y ∷ z ∷ M) y (has_head y (z ∷ M)))

    uz : U z ≡ true
    uz = in_left z (has_more r (y ∷ z ∷ M) z (has_more y (z ∷ M) z (has_head z M)))

    -- the tables of an older part of M, taken away in the order of leaving
    all_ready : (O : List ℕ) → Distinct O → Orderly U J f r s D O → ((x : ℕ) → has O x ≡ true → (U x ≡ true) × (x ≡ r → ⊥) × (x ≡ y → ⊥)) → AllReady f r (discovery D) (reversed O) G
    all_ready [] d o h = tt
    all_ready (u ∷ O) d o h =
        ready_push f r (discovery D) (reversed O) u G (all_ready O d.1 o.1 (λ x k. h x (has_more u O x k)))
        (record {
          there = stays O u (h u (has_head u O)).0 d.0;
          not_root = (h u (has_head u O)).1;
          leaf = λ w iw wr e. let k = stayed O w iw in both_ways (has O w) k.1 (o.0 w (all_in lefts v w k.0) wr e);
          third = (y, stays O y uy (absent O y (λ k. (h y (has_more u O y k)).2 refl)), (λ e. (h u (has_head u O)).2 (sym e)), yr);
        })

    below : (x : ℕ) → has M x ≡ true → (U x ≡ true) × (x ≡ r → ⊥) × (x ≡ y → ⊥)
    below x k = (
      in_left x (has_more r (y ∷ z ∷ M) x (has_more y (z ∷ M) x (has_more z M x k))),
      (λ (e : x ≡ r). both_ways (has (y ∷ z ∷ M) r) K.once_left.0 (has_more y (z ∷ M) r (has_more z M r (rw e at k)))),
      (λ (e : x ≡ y). both_ways (has (z ∷ M) y) K.once_left.1.0 (has_more z M y (rw e at k))),
    )

    ready : AllReady f r (discovery D) (reversed M) G
    ready = all_ready M K.once_left.1.1.1 K.orderly.1.1.1 below

    abbrev q : Part
    q = remaining f (discovery D) (reversed M) G

    hangs : Hangs (In q) (Joined q) f r (discovery D)
    hangs = all_hangs f r (discovery D) (reversed M) G tree_hangs s.few ready

    few_left : (x : ℕ) → In q x → x < 64
    few_left = all_within f r (discovery D) (reversed M) G tree_hangs s.few ready

    in_r : In q r
    in_r = stays M r ur (has_not z M r (has_not y (z ∷ M) r K.once_left.0).1).1

    in_y : In q y
    in_y = stays M y uy (has_not z M y K.once_left.1.0).1

    in_z : In q z
    in_z = stays M z uz K.once_left.1.1.0

    just_three : (x : ℕ) → In q x → Among r y z x
    just_three x m =
        let k = stayed M x m in
        ⊎_elim inl
        (λ k1. inr (⊎_elim inl (λ k2. inr (⊎_elim (λ e. e) (λ k3. absurd (both_ways (has M x) k.1 k3)) (has_cases z M x k2))) (has_cases y (z ∷ M) x k1)))
        (has_cases r (y ∷ z ∷ M) x (left_is lefts v x ∙ k.0))

    three_there : (x : ℕ) → Among r y z x → In q x
    three_there x = ⊎_elim (λ e. rw e in_r) (⊎_elim (λ e. rw e in_y) (λ e. rw e in_z))

    abbrev o : Ordered r y z
    o = ordered r y z (λ e. yr (sym e)) (λ e. zr (sym e)) yz

    uses : (x : ℕ) → (triangle o.t).in_use x ≡ q.in_use x
    uses x = same_test ((triangle o.t).in_use x) (q.in_use x) (λ h. three_there x (o.back x (in_triangle o.t x h))) (λ h. triangle_in o.t x (o.to x (just_three x h)))

    is_corners : corners (passing q.in_use) ≡ o.t
    is_corners = corners_are q.in_use few_left o.t o.up uses

    triangle_is : triangle o.t ≡ q
    triangle_is = full_triangle q (hangs_simple q hangs few_left) (three_full f r (discovery D) q hangs y z in_y in_z yr zr yz just_three) o.t o.up uses

    all_ends : Ends U J f r D (r ∷ y ∷ z ∷ M)
    all_ends = record {
      ready = ready;
      last = z ∷ y ∷ r ∷ [];
      order = append_more (reversed M ++ (z ∷ [])) (y ∷ []) (r ∷ []) ∙ append_more (reversed M) (z ∷ []) (y ∷ r ∷ []);
      three = refl;
      takes = all_away f r (discovery D) (reversed M) G tree_hangs s.few ready;
      ascending = subst Ascending (sym is_corners) o.up;
      corner = λ x. ap (λ t. (triangle t).in_use x) is_corners ∙ uses x;
      builds = subst (λ t. Builds (triangle t) (reversed (all_notes f (discovery D) (reversed M) G)) G) (sym is_corners)
          (subst (λ p. Builds p (reversed (all_notes f (discovery D) (reversed M) G)) G) (sym triangle_is)
          (all_builds f r (discovery D) (reversed M) G tree_hangs s.few ready));
    }

  pub ends : (L : List ℕ) → Visit U J f r [] D L → Ends U J f r D L
  ends L v =
      let same : count (has L) 64 ≡ count U 64 = count_same (has L) U 64 (λ x _. left_is L v x) in
      let long : 3 ≤ length L = long_enough (count (has L) 64) (count U 64) (length L) same fit.three (count_has L 64) in
      let t = first_three L long in
      let e : L ≡ t.0 ∷ t.1 ∷ t.2 ∷ t.3 = t.4 in
      let e0 : L ≡ r ∷ (visit_last U J f r s v).0 = (visit_last U J f r s v).1 in
      let x0 : t.0 ≡ r = cc in
      let e1 : L ≡ r ∷ t.1 ∷ t.2 ∷ t.3 = e ∙ ap (λ x. x ∷ t.1 ∷ t.2 ∷ t.3) x0 in
      subst (λ l. Ends U J f r D l) (sym e1) (all_ends t.1 t.2 t.3 (subst (λ l. Visit U J f r [] D l) e1 v))
