-- Counts summed along the tree: the tables are taken from the last that the search left to the first.
--
--   parent_summed   the count of the next table's parent is there
--   sum_more        and so, with the counter, that of the table
--   sum_all         in the end all are there
use Rattle.std.proofs.Common.{◌≡◌, ℕ, suc, ◌<◌, true, false, ◌⊎◌, List, ◌∷◌, length, get_or, set, refl, sym, ap, ◌∙◌, subst, inl, inr, ⊎_elim, arith}
use Rattle.std.proofs.lemmas.Bool.{cases_eq}
use Rattle.std.proofs.lemmas.List.{get_or-set_same, get_or-set_other}
use Rattle.theory.specs.Graph.{Graph, joined, is_table, table_count}
use Rattle.disassembly.specs.Search.{has, discovery, searched}
use Rattle.disassembly.proofs.Members.{absent, has_cases}
use Rattle.std.proofs.lemmas.Bool.{both_ways}
use Rattle.spanning.specs.Spanning.{Spanning}
use Rattle.spanning.specs.Laws.{parent_in}
use Rattle.spanning.proofs.Rooted.{Rooted, climbs}
use Rattle.spanning.proofs.Along.{seen_from_zero}
use Rattle.spanning.proofs.DriveLeaving.{Ordered, parent_later, root_parent}
use Rattle.traversal.specs.Survey.{Searches}
use Rattle.traversal.specs.declared.survey.Survey.{Survey}
use Rattle.traversal.proofs.Stacks.{stacked}
use Rattle.traversal.specs.Order.{tables_in}
use Rattle.driving.proofs.Order.{in_order}

module _ (t : Graph) (g : Spanning t) (s : Survey) (q : Searches t 0 s) (counts : ℕ → ℕ) where
  abbrev f : ℕ → ℕ
  f = parent_in t

  abbrev rank : ℕ → ℕ
  rank = discovery (searched (is_table t) (joined t) 0).seen

  hangs : Rooted t f 0 rank
  hangs = seen_from_zero t g

  -- what is known when the first k are still to be taken
  abbrev pub Summed : ℕ → List ℕ → Type 0
  Summed k l = (x : ℕ) → x < table_count t → (x ≡ 0) ⊎ (has (stacked k (tables_in s.left)) x ≡ false) → get_or l x 0 ≡ counts x

  pub sum_begins : (l : List ℕ) → get_or l 0 0 ≡ counts 0 → (k : ℕ) → ((x : ℕ) → x < table_count t → has (stacked k (tables_in s.left)) x ≡ true) → Summed k l
  sum_begins l e k all x xn c = ⊎_elim
      (λ (z : x ≡ 0). subst (λ y. get_or l y 0 ≡ counts y) (sym z) e)
      (λ h. absurd (both_ways (has (stacked k (tables_in s.left)) x) h (all x xn)))
      c

  module _ (k : ℕ) (low : k < length (tables_in s.left)) (l : List ℕ) (h : (x : ℕ) → x < table_count t → (x ≡ 0) ⊎ (has (stacked (suc k) (tables_in s.left)) x ≡ false) → get_or l x 0 ≡ counts x) where
    abbrev v : ℕ
    v = get_or (tables_in s.left) k 0

    order : Ordered f (table_count t) (stacked (suc k) (tables_in s.left))
    order = in_order t g s q (suc k) (omega arith)

    pub next_table : get_or (tables_in s.left) k 0 < table_count t
    next_table = order.0.table

    pub parent_summed : get_or l (parent_in t (get_or (tables_in s.left) k 0)) 0 ≡ counts (parent_in t (get_or (tables_in s.left) k 0))
    parent_summed = ⊎_elim
        (λ (e : v ≡ 0). let z : f v ≡ 0 = ap f e ∙ root_parent t in h (f v) (subst (λ y. y < table_count t) (sym z) hangs.root) (inl z))
        (λ (ne : v ≡ 0 → ⊥). h (f v) (climbs t g.simple f 0 rank hangs v next_table ne)
        (inr (parent_later f (table_count t) (stacked k (tables_in s.left)) v order ne (λ e. let r = hangs.rises v next_table ne in let z : rank (f v) ≡ rank v = ap rank e in omega arith))))
        (cases_eq v 0)

    pub sum_more : (r : ℕ) → get_or (tables_in s.left) k 0 < length l → r ≡ counts (get_or (tables_in s.left) k 0) → Summed k (set l (get_or (tables_in s.left) k 0) r)
    sum_more r room is x xn c = ⊎_elim
        (λ (e : x ≡ v). subst (λ y. get_or (set l v r) y 0 ≡ counts y) (sym e) (get_or-set_same l v r 0 room ∙ is))
        (λ (ne : x ≡ v → ⊥). get_or-set_other l v x r 0 ne ∙ h x xn (⊎_elim inl (λ out. inr (absent (v ∷ stacked k (tables_in s.left)) x
        (λ k'. ⊎_elim ne (λ z. both_ways (has (stacked k (tables_in s.left)) x) out z) (has_cases v (stacked k (tables_in s.left)) x k')))) c))
        (cases_eq x v)

  pub sum_all : (l : List ℕ) → Summed 0 l → (x : ℕ) → x < table_count t → get_or l x 0 ≡ counts x
  sum_all l h x xn = h x xn (inr refl)
