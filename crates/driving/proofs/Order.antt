-- The order in which a search of the marks left the tables, as its survey keeps it.
--
--   in_order, all_told   the first tables were left each after its children; all tables were left
--   parent_told          the parent that is kept of a table
--   turn_told            one more table gone through
--   end_told             all
use Rattle.std.proofs.Common.{◌≡◌, ℕ, suc, ◌+◌, ◌<◌, ◌≤◌, true, not, ◌&&◌, List, ◌∷◌, length, get_or, sym, ap, ap₂, ◌∙◌, subst, arith}
use Rattle.std.proofs.lemmas.List.{get_or_default}
use Rattle.theory.specs.Graph.{Graph, joined, is_table, table_count}
use Rattle.disassembly.specs.Search.{has, searched}
use Rattle.spanning.specs.Spanning.{Spanning}
use Rattle.spanning.specs.Laws.{parent_in}
use Rattle.spanning.proofs.DriveLeaving.{Ordered, tree_leaves, tree_all_left}
use Rattle.sets.specs.Set.{bit}
use Rattle.sets.specs.Rows.{in_row}
use Rattle.traversal.specs.Discoveries.{undiscovered}
use Rattle.traversal.specs.Survey.{Searches}
use Rattle.traversal.specs.declared.survey.Survey.{Survey}
use Rattle.traversal.specs.declared.discovery.Discovery.{Discovery}
use Rattle.traversal.proofs.Stacks.{stacked, stacked_all}
use Rattle.traversal.proofs.Before.{stacked_part}
use Rattle.driving.specs.Marked.{Marked}
use Rattle.driving.specs.Subtrees.{Gathers, TellsTree}
use Rattle.driving.specs.declared.subtrees.Subtrees.{Subtrees}
use Rattle.traversal.specs.Order.{tables_in}
use Rattle.driving.proofs.Gathering.{Gone, gone_more, gone_all}

module _ (t : Graph) (g : Spanning t) (s : Survey) (q : Searches t 0 s) where
  abbrev items : List ℕ
  items = (tables_in s.left)

  left_is : stacked (length (tables_in s.left)) (tables_in s.left) ≡ (searched (is_table t) (joined t) 0).left
  left_is = stacked_all items (searched (is_table t) (joined t) 0).left q.tells.left

  pub in_order : (k : ℕ) → k ≤ length (tables_in s.left) → Ordered (parent_in t) (table_count t) (stacked k (tables_in s.left))
  in_order k h = stacked_part (Ordered (parent_in t) (table_count t)) (λ x M o. o.1) (length items) k items h
      (subst (Ordered (parent_in t) (table_count t)) (sym left_is) (tree_leaves t g))

  pub all_told : (x : ℕ) → x < table_count t → has (stacked (length (tables_in s.left)) (tables_in s.left)) x ≡ true
  all_told x l = subst (λ M. has M x ≡ true) (sym left_is) (tree_all_left t g x l)

  pub parent_told : (v : ℕ) (d : Discovery) → v < length s.found → (get_or s.found v d).parent ≡ parent_in t v
  parent_told v d h = ap (λ (e : Discovery). e.parent) (get_or_default s.found v d undiscovered h) ∙ q.tells.parents v

module _ (m t : Graph) (joins marks : List ℕ) (s : Survey) (h : Marked m t joins marks s) where
  pub turn_told : (k v : ℕ) → k < length (tables_in s.left) → v ≡ get_or (tables_in s.left) k 0 → (b b' : Subtrees) → Gone m t (stacked k (tables_in s.left)) b
      → (row p : ℕ) → ((x : ℕ) → bit row x ≡ (in_row joins v x && not (in_row marks v x))) → p ≡ parent_in t v → Gathers row p v b b'
      → Gone m t (stacked (k + 1) (tables_in s.left)) b'
  turn_told k v l e b b' q row p is_row is_parent g =
      let up : suc k ≡ k + 1 = omega arith in
      let order : Ordered (parent_in t) (table_count m) (stacked (suc k) (tables_in s.left)) = subst (λ n. Ordered (parent_in t) n (stacked (suc k) (tables_in s.left))) h.tree.same
      (in_order t h.tree.spanning s h.search (suc k) (omega arith)) in
      let here : Ordered (parent_in t) (table_count m) (v ∷ stacked k (tables_in s.left)) = subst (λ y. Ordered (parent_in t) (table_count m) (y ∷ stacked k (tables_in s.left))) (sym e) order in
      let g' : Gathers row (parent_in t v) v b b' = subst (λ y. Gathers row y v b b') is_parent g in
      let more : Gone m t (v ∷ stacked k (tables_in s.left)) b' =
      gone_more m t h.tree (stacked k (tables_in s.left)) v here b q row (λ x. is_row x ∙ ap₂ (λ i j. i && not j) (h.joins_of v x) (h.marks_of v x)) b' g' in
      subst (λ j. Gone m t (stacked j (tables_in s.left)) b') up (subst (λ y. Gone m t (y ∷ stacked k (tables_in s.left)) b') e more)

  pub end_told : (k : ℕ) → k ≡ length (tables_in s.left) → (b : Subtrees) → Gone m t (stacked k (tables_in s.left)) b → TellsTree m t b
  end_told k e b q = gone_all m t h.tree (stacked k (tables_in s.left)) b q
      (λ x l. subst (λ j. has (stacked j (tables_in s.left)) x ≡ true) (sym e) (all_told t h.tree.spanning s h.search x (rw h.tree.same l)))
