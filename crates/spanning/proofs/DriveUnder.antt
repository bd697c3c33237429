-- Which tables lie under which, gathered in the order in which a search leaves the tables: each hands on to its parent what lies under
-- it. T s x says that x was gathered under s.
--
--   Gathered f n L T   T once the tables of L have handed on
--   none_gathered      at the beginning
--   under_all, under_sound, under_inside
--                      what lies under the next table v: v itself and what was gathered
--   gathered_more      once v has handed on, too
--   gathered_exactly   at the end x was gathered under s exactly where it lies there
use Rattle.std.proofs.Common.{◌≡◌, ℕ, ◌<◌, Bool, true, false, ◌&&◌, ◌||◌, eqb, ◌⊎◌, ◌↔◌, List, [], ◌∷◌, sym, refl, ap, ◌∙◌, subst, inl, inr, ⊎_elim, arith}
use Rattle.std.proofs.lemmas.Bool.{cases_eq, false≢true, eqb-true, eq-eqb, both_ways}
use Rattle.std.proofs.lemmas.Bool.Decides.{nat_tests}
use Rattle.disassembly.specs.Search.{has}
use Rattle.disassembly.specs.Tree.{Over, self, up}
use Rattle.disassembly.proofs.Members.{has_cases, has_more, has_head}
use Rattle.disassembly.proofs.Trees.{over_trans, over_in}
use Rattle.disassembly.proofs.LowPoints.{over_child}
use Rattle.spanning.proofs.DriveLeaving.{MayLeave}

either : (a b c d : Bool) → ((a || b) && c || d) ≡ true → ((a ≡ true) × (c ≡ true)) ⊎ (((b ≡ true) × (c ≡ true)) ⊎ (d ≡ true))
either true b true d h = inl (refl, refl)
either true b false d h = inr (inr h)
either false true true d h = inr (inl (refl, refl))
either false true false d h = inr (inr h)
either false false c d h = inr (inr h)

at_parent : (a b c d : Bool) → a ≡ true → c ≡ true → ((a || b) && c || d) ≡ true
at_parent a b c d h k = grind (arith, nat_tests)

at_table : (a b c d : Bool) → b ≡ true → c ≡ true → ((a || b) && c || d) ≡ true
at_table a b c d h k = grind (arith, nat_tests)

as_before : (a b c d : Bool) → d ≡ true → ((a || b) && c || d) ≡ true
as_before a b c d h = grind (arith, nat_tests)

or_cases : (a b : Bool) → (a || b) ≡ true → (a ≡ true) ⊎ (b ≡ true)
or_cases true b h = inl refl
or_cases false b h = inr h

or_left : (a b : Bool) → a ≡ true → (a || b) ≡ true
or_left a b h = grind (arith, nat_tests)

or_right : (a b : Bool) → b ≡ true → (a || b) ≡ true
or_right a b h = grind (arith, nat_tests)

module _ (f : ℕ → ℕ) (n : ℕ) where
  pub record Gathered (L : List ℕ) (T : ℕ → ℕ → Bool) : Type 0 where
    pub sound : (s x : ℕ) → T s x ≡ true → Over f 0 s x
    pub inside : (s x : ℕ) → T s x ≡ true → has L x ≡ true
    pub full : (s x : ℕ) → has L s ≡ true → x < n → Over f 0 s x → T s x ≡ true
    pub handed : (c x : ℕ) → has L c ≡ true → (c ≡ 0 → ⊥) → x < n → Over f 0 c x → T (f c) x ≡ true

  pub none_gathered : (T : ℕ → ℕ → Bool) → ((s x : ℕ) → T s x ≡ false) → Gathered [] T
  none_gathered T none = record {
    sound = λ s x h. absurd (both_ways (T s x) (none s x) h);
    inside = λ s x h. absurd (both_ways (T s x) (none s x) h);
    full = λ s x h. absurd (false≢true h);
    handed = λ c x h. absurd (false≢true h);
  }

  pub gathered_exactly : (L : List ℕ) (T : ℕ → ℕ → Bool) → Gathered L T → (s x : ℕ) → has L s ≡ true → x < n → (T s x ≡ true) ↔ Over f 0 s x
  gathered_exactly L T q s x h l = (q.sound s x, q.full s x h l)

  -- the next table v
  module _ (climbs : (x : ℕ) → x < n → (x ≡ 0 → ⊥) → f x < n) (root : f 0 ≡ 0) (L : List ℕ) (T : ℕ → ℕ → Bool) (q : Gathered L T) (v : ℕ) (w : MayLeave f n L v) where
    abbrev pub below : ℕ → Bool
    below x = eqb x v || T v x

    pub under_all : (x : ℕ) → x < n → Over f 0 v x → (eqb x v || T v x) ≡ true
    under_all x l o = ⊎_elim
        (λ (e : x ≡ v). or_left (eqb x v) (T v x) (eq-eqb x v e))
        (λ k. let c = k.0 in
        let child : has L c ≡ true = w.children c (over_in f 0 (λ y. y < n) climbs k.3 l) k.1 k.2 in
        or_right (eqb x v) (T v x) (subst (λ y. T y x ≡ true) k.2 (q.handed c x child k.1 l k.3)))
        (over_child f 0 o)

    pub under_sound : (x : ℕ) → (eqb x v || T v x) ≡ true → Over f 0 v x
    under_sound x h = ⊎_elim
        (λ e. subst (λ y. Over f 0 v y) (sym (eqb-true x v e)) self)
        (λ k. q.sound v x k)
        (or_cases (eqb x v) (T v x) h)

    pub under_inside : (x : ℕ) → (eqb x v || T v x) ≡ true → has (v ∷ L) x ≡ true
    under_inside x h = ⊎_elim
        (λ e. subst (λ y. has (v ∷ L) y ≡ true) (sym (eqb-true x v e)) (has_head v L))
        (λ k. has_more v L x (q.inside v x k))
        (or_cases (eqb x v) (T v x) h)

    parent_over : Over f 0 (f v) v
    parent_over = ⊎_elim
        (λ (e : v ≡ 0). subst (λ y. Over f 0 y v) (sym (ap f e ∙ root)) (subst (λ y. Over f 0 0 y) (sym e) self))
        (λ ne. up {b = v} ne self)
        (cases_eq v 0)

    pub gathered_more : (T' : ℕ → ℕ → Bool) → ((s x : ℕ) → T' s x ≡ (((eqb s (f v) || eqb s v) && (eqb x v || T v x)) || T s x)) → Gathered (v ∷ L) T'
    gathered_more T' is = record {
      sound = λ s x h. ⊎_elim
          (λ k. subst (λ y. Over f 0 y x) (sym (eqb-true s (f v) k.0)) (over_trans f 0 parent_over (under_sound x k.1)))
          (λ m. ⊎_elim (λ k. subst (λ y. Over f 0 y x) (sym (eqb-true s v k.0)) (under_sound x k.1)) (λ k. q.sound s x k) m)
          (either (eqb s (f v)) (eqb s v) (eqb x v || T v x) (T s x) (sym (is s x) ∙ h));
      inside = λ s x h. ⊎_elim
          (λ k. under_inside x k.1)
          (λ m. ⊎_elim (λ k. under_inside x k.1) (λ k. has_more v L x (q.inside s x k)) m)
          (either (eqb s (f v)) (eqb s v) (eqb x v || T v x) (T s x) (sym (is s x) ∙ h));
      full = λ s x h l o. is s x ∙ ⊎_elim
          (λ (e : s ≡ v). at_table (eqb s (f v)) (eqb s v) (eqb x v || T v x) (T s x) (eq-eqb s v e) (under_all x l (subst (λ y. Over f 0 y x) e o)))
          (λ k. as_before (eqb s (f v)) (eqb s v) (eqb x v || T v x) (T s x) (q.full s x k l o))
          (has_cases v L s h);
      handed = λ c x h c0 l o. is (f c) x ∙ ⊎_elim
          (λ (e : c ≡ v). at_parent (eqb (f c) (f v)) (eqb (f c) v) (eqb x v || T v x) (T (f c) x) (eq-eqb (f c) (f v) (ap f e)) (under_all x l (subst (λ y. Over f 0 y x) e o)))
          (λ k. as_before (eqb (f c) (f v)) (eqb (f c) v) (eqb x v || T v x) (T (f c) x) (q.handed c x k c0 l o))
          (has_cases v L c h);
    }
