-- Which tables the marks connect, told by labels: two tables have the same label exactly where the marks lead from one to the other.
--
--   Labelled t label   label tells it for the marks of t
--   merged label a b   the label of b becomes that of a
--   labels_start       without marks, each table is its own label
--   labels_join        after the mark of a and b, the merged labels tell it
--   labels_apart       other labels: the marks do not connect
use Rattle.std.proofs.Common.{◌≡◌, ℕ, ◌<◌, cond, eqb, ◌↔◌, sym, refl, ap, ◌∙◌, inl, inr, ⊎_elim, arith}
use Rattle.std.proofs.lemmas.Bool.{cases_eq, false≢true, lt-ltb}
use Rattle.std.proofs.lemmas.Bool.Decides.{nat_tests}
use Rattle.theory.specs.Graph.{Graph, joined, is_table, table_count, joining, no_joins}
use Rattle.disassembly.specs.Walks.{here, on, Reaches}
use Rattle.disassembly.proofs.Walks.{stays}
use Rattle.spanning.proofs.Forests.{Across, across_one, one_across}

abbrev pub Labelled : Graph → (ℕ → ℕ) → Type 0
Labelled t label = (x y : ℕ) → x < table_count t → y < table_count t → (label x ≡ label y) ↔ Reaches (is_table t) (joined t) x y

abbrev pub merged : (ℕ → ℕ) → ℕ → ℕ → ℕ → ℕ
merged label a b x = cond (eqb (label x) (label b)) (label a) (label x)

no_walk : (n : ℕ) {x y : ℕ} → Reaches (is_table (no_joins n)) (joined (no_joins n)) x y → x ≡ y
no_walk n here = refl
no_walk n (on l w) = absurd (false≢true l.0)

pub labels_start : (n : ℕ) → Labelled (no_joins n) (λ x. x)
labels_start n x y xn yn = (stays, no_walk n)

pub labels_apart : (t : Graph) (label : ℕ → ℕ) → Labelled t label → (a b : ℕ) → a < table_count t → b < table_count t → (label a ≡ label b → ⊥)
    → Reaches (is_table t) (joined t) a b → ⊥
labels_apart t label h a b an bn n w = n ((h a b an bn).1 w)

-- a merged label: that of a for what has the label of b, and else as it was
merged_at : (label : ℕ → ℕ) (a b x : ℕ) → label x ≡ label b → merged label a b x ≡ label a
merged_at label a b x e = grind (arith, nat_tests)

merged_off : (label : ℕ → ℕ) (a b x : ℕ) → (label x ≡ label b → ⊥) → merged label a b x ≡ label x
merged_off label a b x n = grind (arith, nat_tests)

merged_like : (label : ℕ → ℕ) (a b x : ℕ) → label x ≡ label a → merged label a b x ≡ label a
merged_like label a b x e = grind (arith, nat_tests)

module _ (t : Graph) (label : ℕ → ℕ) (h : Labelled t label) (a b : ℕ) (an : a < table_count t) (bn : b < table_count t) where
  to_walk : (x y : ℕ) → x < table_count t → y < table_count t → merged label a b x ≡ merged label a b y → Across (is_table t) (joined t) a b x y
  to_walk x y xn yn e = ⊎_elim
      (λ p. ⊎_elim
      (λ q. inl ((h x y xn yn).0 (p ∙ sym q)))
      (λ q. inr (inr ((h x b xn bn).0 p, (h a y an yn).0 (sym (merged_at label a b x p) ∙ e ∙ merged_off label a b y q))))
      (cases_eq (label y) (label b)))
      (λ p. ⊎_elim
      (λ q. inr (inl ((h x a xn an).0 (sym (merged_off label a b x p) ∙ e ∙ merged_at label a b y q), (h b y bn yn).0 (sym q))))
      (λ q. inl ((h x y xn yn).0 (sym (merged_off label a b x p) ∙ e ∙ merged_off label a b y q)))
      (cases_eq (label y) (label b)))
      (cases_eq (label x) (label b))

  to_label : (x y : ℕ) → x < table_count t → y < table_count t → Across (is_table t) (joined t) a b x y → merged label a b x ≡ merged label a b y
  to_label x y xn yn = ⊎_elim
      (λ w. ap (λ k. cond (eqb k (label b)) (label a) k) ((h x y xn yn).1 w))
      (⊎_elim
      (λ q. merged_like label a b x ((h x a xn an).1 q.0) ∙ sym (merged_at label a b y (sym ((h b y bn yn).1 q.1))))
      (λ q. merged_at label a b x ((h x b xn bn).1 q.0) ∙ sym (merged_like label a b y (sym ((h a y an yn).1 q.1)))))

  pub labels_join : Labelled (joining t a b) (λ x. cond (eqb (label x) (label b)) (label a) (label x))
  labels_join x y xn yn = (
    (λ e. one_across (is_table t) (joined t) a b (lt-ltb a (table_count t) an) (lt-ltb b (table_count t) bn) (to_walk x y xn yn e)),
    (λ w. to_label x y xn yn (across_one (is_table t) (joined t) a b w)),
  )
