-- A spanning tree as seen from a root: every other table has a parent, and the marks are exactly the edges to parents.
--
--   Rooted t parent r rank   the tree t hangs from r by these parents, and each parent has a lower rank
--   climbs                   a parent is a table
--   over_table               an ancestor of a table is a table
--   not_over_parent          no table is an ancestor of its parent
--   stays_below              a marked walk from below a table that avoids it stays below
--   below_walk, beside_walk  marked walks down: from a table, and from the root to a table that is not below another
--   over_on, on_over         ancestors are exactly the tables on the marked path from the root
--   spanning_rooted          a spanning tree hangs from each of its tables by the parents that a search from there finds
use Rattle.std.proofs.Common.{◌≡◌, ℕ, ◌<◌, Bool, true, ◌⊎◌, List, sym, ap, ◌∙◌, subst, inl, inr, ⊎_elim, arith}
use Rattle.std.proofs.lemmas.Bool.{cases_eq, both_ways, lt-ltb}
use Rattle.std.proofs.lemmas.Bool.Decides.{nat_tests}
use Rattle.theory.specs.Graph.{Graph, Simple, joined, is_table, table_count}
use Rattle.theory.specs.Build.{without_join}
use Rattle.disassembly.specs.Walks.{here, on, Leads, Reaches, without, SimpleOn}
use Rattle.disassembly.specs.Tree.{Over, self, up}
use Rattle.disassembly.specs.Search.{has, discovery, searched}
use Rattle.disassembly.specs.Depth.{Search}
use Rattle.disassembly.proofs.Walks.{join_walks, turned, one, true_without, without_true, leads_turned}
use Rattle.disassembly.proofs.Trees.{over_father, over_root, over_in, over_rank}
use Rattle.disassembly.proofs.Depth.{search_rises, search_tree, search_rooted, search_no_cross}
use Rattle.disassembly.proofs.Visits.{visit_search}
use Rattle.disassembly.proofs.Searches.{searched_visit}
use Rattle.disassembly.proofs.Reach.{connected_seen}
use Rattle.disassembly.proofs.LowPoints.{over_decide}
use Rattle.disassembly.proofs.Keys.{graph_on}
use Rattle.spanning.specs.Spanning.{Spanning}
use Rattle.spanning.specs.Crossing.{OnPath}

pub record Rooted (t : Graph) (f : ℕ → ℕ) (r : ℕ) (rank : ℕ → ℕ) : Type 0 where
  pub root : r < table_count t
  pub rooted : (x : ℕ) → x < table_count t → Over f r r x
  pub rises : (x : ℕ) → x < table_count t → (x ≡ r → ⊥) → rank (f x) < rank x
  pub mark : (x : ℕ) → x < table_count t → (x ≡ r → ⊥) → joined t (f x) x ≡ true
  pub marks : (a b : ℕ) → joined t a b ≡ true → ((a ≡ r → ⊥) × (f a ≡ b)) ⊎ ((b ≡ r → ⊥) × (f b ≡ a))

module _ (t : Graph) (s : Simple t) (f : ℕ → ℕ) (r : ℕ) (rank : ℕ → ℕ) (h : Rooted t f r rank) where
  pub climbs : (x : ℕ) → x < table_count t → (x ≡ r → ⊥) → f x < table_count t
  climbs x l n = s.within (f x) x (h.mark x l n)

  pub over_table : {a b : ℕ} → Over f r a b → b < table_count t → a < table_count t
  over_table o l = over_in f r (λ x. x < table_count t) climbs o l

  pub not_over_parent : (a : ℕ) → a < table_count t → (a ≡ r → ⊥) → Over f r a (f a) → ⊥
  not_over_parent a l n o =
      let k : rank (f a) < rank a = h.rises a l n in
      ⊎_elim (λ (e : a ≡ f a). let z : rank a ≡ rank (f a) = ap rank e in omega arith) (λ m. omega arith)
      (over_rank f r (λ x. x < table_count t) rank climbs h.rises o (climbs a l n))

  abbrev Off : ℕ → ℕ → ℕ → Type 0
  Off a = Reaches (without a (is_table t)) (joined t)

  off_turn : (a c d : ℕ) → Leads (without a (is_table t)) (joined t) c d → Leads (without a (is_table t)) (joined t) d c
  off_turn a = leads_turned (is_table t) (joined t) (graph_on t s) (without a (is_table t))

  off : (a x : ℕ) → x < table_count t → (x ≡ a → ⊥) → without a (is_table t) x ≡ true
  off a x l n = true_without a (is_table t) x (lt-ltb x (table_count t) l) n

  -- one step of a marked walk that does not leave from a stays below a
  step_below : (a c d : ℕ) → joined t c d ≡ true → (c ≡ a → ⊥) → Over f r a c → Over f r a d
  step_below a c d j n o =
      ⊎_elim (λ m. subst (λ x. Over f r a x) m.1 (over_father f r o (λ e. n (sym e))))
      (λ m. up m.0 (subst (λ x. Over f r a x) (sym m.1) o)) (h.marks c d j)

  pub stays_below : (a : ℕ) {c d : ℕ} → Reaches (without a (is_table t)) (joined t) c d → Over f r a c → Over f r a d
  stays_below a here o = o
  stays_below a (on {a = c} {b = d} l w) o = stays_below a w (step_below a c d l.0 (without_true a (is_table t) c l.1).1 o)

  -- down from a, past any table p that is not below a
  pub below_walk : (a p : ℕ) → (Over f r a p → ⊥) → {b : ℕ} → Over f r a b → b < table_count t → Reaches (without p (is_table t)) (joined t) a b
  below_walk a p n self l = here
  below_walk a p n (up {b = b} br o) l =
      join_walks (below_walk a p n o (climbs b l br))
      (one (
        h.mark b l br,
        off p (f b) (climbs b l br) (λ e. n (subst (λ x. Over f r a x) e o)),
        off p b l (λ e. n (subst (λ x. Over f r a x) e (up {b = b} br o))),
      ))

  pub beside_walk : (a : ℕ) {b : ℕ} → Over f r r b → b < table_count t → (Over f r a b → ⊥) → Reaches (without a (is_table t)) (joined t) r b
  beside_walk a self l k = here
  beside_walk a (up {b = b} br o) l k =
      join_walks (beside_walk a o (climbs b l br) (λ z. k (up br z)))
      (one (
        h.mark b l br,
        off a (f b) (climbs b l br) (λ e. k (up br (subst (λ x. Over f r a x) (sym e) self))),
        off a b l (λ e. k (subst (λ x. Over f r a x) (sym e) self)),
      ))

  pub over_on : (a b : ℕ) → Over f r a b → OnPath t r a b
  over_on a b o = ⊎_elim (λ (e : r ≡ a). inl e) (λ n. inr (inr (λ w. n (sym (over_root f r (stays_below a (turned (off_turn a) w) o)))))) (cases_eq r a)

  pub on_over : (a b : ℕ) → b < table_count t → OnPath t r a b → Over f r a b
  on_over a b l p =
      ⊎_elim (λ (e : r ≡ a). subst (λ x. Over f r x b) e (h.rooted b l))
      (⊎_elim (λ (e : b ≡ a). subst (λ x. Over f r x b) e self)
      (λ n. ⊎_elim (λ o. o) (λ no-o. absurd (n (beside_walk a (h.rooted b l) l no-o))) (over_decide f r a (h.rooted b l))))
      p

-- ---- a spanning tree

module _ (t : Graph) (g : Spanning t) (r : ℕ) (rn : r < table_count t) where
  abbrev parent : ℕ → ℕ
  parent = (searched (is_table t) (joined t) r).parent

  abbrev seen : List ℕ
  seen = (searched (is_table t) (joined t) r).seen

  simple_on : SimpleOn (is_table t) (joined t)
  simple_on = graph_on t g.simple

  in_use : is_table t r ≡ true
  in_use = lt-ltb r (table_count t) rn

  search : Search (joined t) parent r seen
  search = visit_search (is_table t) (joined t) parent r simple_on (searched_visit (is_table t) (joined t) r simple_on in_use)

  all_seen : (x : ℕ) → x < table_count t → has seen x ≡ true
  all_seen x l = connected_seen (is_table t) (joined t) simple_on parent r in_use (searched_visit (is_table t) (joined t) r simple_on in_use) g.connected x ∙ lt-ltb x (table_count t) l

  up_one : (x : ℕ) → x < table_count t → (x ≡ r → ⊥) → parent x < table_count t
  up_one x l n = g.simple.within (parent x) x (search_tree (joined t) parent r search x (all_seen x l) n)

  ranks : (x : ℕ) → x < table_count t → (x ≡ r → ⊥) → discovery seen (parent x) < discovery seen x
  ranks x l n = search_rises (joined t) parent r search x (all_seen x l) n

  not_the_pair : (a b x y : ℕ) (J : ℕ → ℕ → Bool) → J x y ≡ true → ((b ≡ y) → (x ≡ a) → ⊥) → (y ≡ a → ⊥) → without_join a b J x y ≡ true
  not_the_pair a b x y J j n m = grind (arith, nat_tests)

  -- down from a to x the edges to parents are other marks than a–b, where a is not the parent of b
  round : (a b : ℕ) → (parent b ≡ a → ⊥) → {x : ℕ} → Over parent r a x → x < table_count t → Reaches (is_table t) (without_join a b (joined t)) a x
  round a b n self l = here
  round a b n (up {b = x} xr o) l =
      join_walks (round a b n o (up_one x l xr))
      (one (
        not_the_pair a b (parent x) x (joined t) (search_tree (joined t) parent r search x (all_seen x l) xr) (λ e k. n (ap parent e ∙ k)) above,
        lt-ltb (parent x) (table_count t) (up_one x l xr),
        lt-ltb x (table_count t) l,
      ))
    where
      above : x ≡ a → ⊥
      above e =
          let k : discovery seen (parent x) < discovery seen x = ranks x l xr in
          let z : discovery seen x ≡ discovery seen a = ap (discovery seen) e in
          ⊎_elim (λ (q : a ≡ parent x). let y : discovery seen a ≡ discovery seen (parent x) = ap (discovery seen) q in omega arith) (λ m. omega arith)
          (over_rank parent r (λ y. y < table_count t) (discovery seen) up_one ranks o (up_one x l xr))

  -- a mark between a table and an ancestor of it is the edge to its parent
  edge : (a b : ℕ) → joined t a b ≡ true → b < table_count t → Over parent r a b → (b ≡ r → ⊥) × (parent b ≡ a)
  edge a b j l o = (λ e. ne (over_root parent r (subst (λ x. Over parent r a x) e o) ∙ sym e), ⊎_elim (λ e. e) (λ n. absurd (g.acyclic a b j (round a b n o l))) (cases_eq (parent b) a))
    where
      ne : a ≡ b → ⊥
      ne e = both_ways (joined t a a) (g.simple.loopless a) (subst (λ x. joined t a x ≡ true) (sym e) j)

  pub spanning_rooted : Rooted t (searched (is_table t) (joined t) r).parent r (discovery (searched (is_table t) (joined t) r).seen)
  spanning_rooted = record {
    root = rn;
    rooted = λ x l. search_rooted (joined t) parent r search x (all_seen x l);
    rises = ranks;
    mark = λ x l n. search_tree (joined t) parent r search x (all_seen x l) n;
    marks = λ a b j.
        let an : a < table_count t = g.simple.within a b j in
        let k : joined t b a ≡ true = g.simple.symmetric b a ∙ j in
        let bn : b < table_count t = g.simple.within b a k in
        ⊎_elim (λ o. inr (edge a b j bn o)) (λ o. inl (edge b a k an o))
        (search_no_cross (joined t) parent r (λ x y z. g.simple.symmetric y x ∙ z) search a b (all_seen a an) (all_seen b bn) j);
  }
