-- The order in which the search of a spanning tree from table 0 leaves the tables: each once, and after its children. L lists the
-- tables left so far, the most recent first; n is the number of tables, and f tells the parents.
--
--   MayLeave f n L v           v is a table that was not left before, and its children were
--   Ordered f n L              each table of L was left so
--   closed, small              the children of a table that was left were left; only tables are left
--   parent_later               a parent is left after each of its children
--   root_parent                the parent kept for table 0 is table 0
--   tree_leaves, tree_all_left the search leaves the tables so, and all of them
use Rattle.std.proofs.Common.{◌≡◌, ℕ, zero, suc, ◌<◌, Bool, true, false, eqb, List, [], ◌∷◌, refl, sym, ◌∙◌, subst, ⊎_elim, arith}
use Rattle.std.proofs.lemmas.Bool.{false≢true, both_ways, ltb-true, lt-ltb, ne_eqb, cond-false}
use Rattle.theory.specs.Graph.{Graph, joined, is_table, table_count}
use Rattle.disassembly.specs.Search.{has, Visit, fresh, lowest_from, move, moved, moved_from, moves, Place, searched}
use Rattle.disassembly.specs.Walks.{SimpleOn}
use Rattle.disassembly.proofs.Members.{has_cases, has_more, has_head, absent, Distinct, lowest_cases, lowest_some}
use Rattle.disassembly.proofs.Visits.{Orderly, kept, fresh_true, visit_left}
use Rattle.disassembly.proofs.Searches.{searched_visit}
use Rattle.disassembly.proofs.Reach.{connected_seen}
use Rattle.disassembly.proofs.Keys.{graph_on}
use Rattle.spanning.specs.Spanning.{Spanning}
use Rattle.spanning.specs.Laws.{parent_in}

module _ (f : ℕ → ℕ) (n : ℕ) where
  pub record MayLeave (L : List ℕ) (v : ℕ) : Type 0 where
    pub table : v < n
    pub new : has L v ≡ false
    pub children : (w : ℕ) → w < n → (w ≡ 0 → ⊥) → f w ≡ v → has L w ≡ true

  abbrev pub Ordered : List ℕ → Type 0
  Ordered [] = Unit {0}
  Ordered (v ∷ L) = MayLeave L v × Ordered L

  pub closed : (L : List ℕ) → Ordered L → (w : ℕ) → w < n → (w ≡ 0 → ⊥) → has L (f w) ≡ true → has L w ≡ true
  closed [] o w l n0 h = h
  closed (v ∷ L) o w l n0 h = ⊎_elim
      (λ (e : f w ≡ v). has_more v L w (o.0.children w l n0 e))
      (λ k. has_more v L w (closed L o.1 w l n0 k))
      (has_cases v L (f w) h)

  pub small : (L : List ℕ) → Ordered L → (x : ℕ) → has L x ≡ true → x < n
  small [] o x h = absurd (false≢true h)
  small (v ∷ L) o x h = ⊎_elim (λ (e : x ≡ v). subst (λ y. y < n) (sym e) o.0.table) (λ k. small L o.1 x k) (has_cases v L x h)

  pub parent_later : (L : List ℕ) (v : ℕ) → Ordered (v ∷ L) → (v ≡ 0 → ⊥) → (f v ≡ v → ⊥) → has (v ∷ L) (f v) ≡ false
  parent_later L v o n0 other = absent (v ∷ L) (f v) (λ h. ⊎_elim other
      (λ k. both_ways (has L v) o.0.new (closed L o.1 v o.0.table n0 k)) (has_cases v L (f v) h))

-- ---- the parent kept for the root

module _ (U : ℕ → Bool) (J : ℕ → ℕ → Bool) (r : ℕ) where
  pub record Rooting (p : Place) : Type 0 where
    pub none : p.parent r ≡ 0
    pub seen : has p.seen r ≡ true

  move_rooting : (p : Place) (t : ℕ) (st : List ℕ) → Rooting p → Rooting (move (lowest_from 0 64 (fresh U J p.seen t)) t st p)
  move_rooting p t st q = ⊎_elim
      (λ s. let u = s.0 in
      let new : has p.seen u ≡ false = (fresh_true U J p.seen t u (lowest_some 0 64 (fresh U J p.seen t) u s.1).0.holds).2 in
      let ne : r ≡ u → ⊥ = λ (e : r ≡ u). both_ways (has p.seen u) new (subst (λ y. has p.seen y ≡ true) e q.seen) in
      subst (λ o. Rooting (move o t st p)) (sym s.1) (record {
        none = cond-false (eqb r u) t (p.parent r) (ne_eqb r u ne) ∙ q.none;
        seen = has_more u p.seen r q.seen;
      }))
      (λ e. subst (λ o. Rooting (move o t st p)) (sym e) (record { none = q.none; seen = q.seen }))
      (lowest_cases 0 64 (fresh U J p.seen t))

  moved_rooting : (l : List ℕ) (p : Place) → Rooting p → Rooting (moved_from U J l p)
  moved_rooting [] p q = q
  moved_rooting (t ∷ st) p q = move_rooting p t st q

  pub moves_rooting : (k : ℕ) (p : Place) → Rooting p → Rooting (moves k U J p)
  unfolding moves
  moves_rooting zero p q = q
  moves_rooting (suc k) p q = moves_rooting k (moved U J p) (moved_rooting p.stack p q)

pub root_parent : (t : Graph) → parent_in t 0 ≡ 0
root_parent t = (moves_rooting (is_table t) (joined t) 0 128 _ (record { none = refl; seen = refl })).none

-- ---- a spanning tree

module _ (t : Graph) (g : Spanning t) where
  abbrev U : ℕ → Bool
  U = is_table t

  abbrev f : ℕ → ℕ
  f = parent_in t

  abbrev seen : List ℕ
  seen = (searched U (joined t) 0).seen

  abbrev left : List ℕ
  left = (searched U (joined t) 0).left

  simple_on : SimpleOn U (joined t)
  simple_on = graph_on t g.simple

  in_use : U 0 ≡ true
  in_use = lt-ltb 0 (table_count t) (let some = g.simple.some in omega arith)

  visit : Visit U (joined t) f 0 [] seen left
  visit = searched_visit U (joined t) 0 simple_on in_use

  all_seen : (x : ℕ) → x < table_count t → has seen x ≡ true
  all_seen x l = connected_seen U (joined t) simple_on f 0 in_use visit g.connected x ∙ lt-ltb x (table_count t) l

  seen_table : (x : ℕ) → has seen x ≡ true → x < table_count t
  seen_table x h = ltb-true x (table_count t) (sym (connected_seen U (joined t) simple_on f 0 in_use visit g.connected x) ∙ h)

  ordered : (L : List ℕ) → Orderly U (joined t) f 0 simple_on seen L → Distinct L → ((x : ℕ) → has L x ≡ true → has seen x ≡ true) → Ordered f (table_count t) L
  ordered [] o d h = tt
  ordered (v ∷ L) o d h = (
    record {
      table = seen_table v (h v (has_head v L));
      new = d.0;
      children = λ w l n0 e. o.0 w (all_seen w l) n0 e;
    },
    ordered L o.1 d.1 (λ x k. h x (has_more v L x k)),
  )

  pub tree_leaves : Ordered (parent_in t) (table_count t) (searched (is_table t) (joined t) 0).left
  tree_leaves = let k = kept U (joined t) f 0 simple_on visit in ordered left k.orderly k.once_left k.gone

  pub tree_all_left : (x : ℕ) → x < table_count t → has (searched (is_table t) (joined t) 0).left x ≡ true
  tree_all_left x l = visit_left U (joined t) f 0 simple_on visit x (all_seen x l)
