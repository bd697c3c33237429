-- A graph without articulation tables hangs on the tree of a depth-first search.
--
--   escape         a walk that leaves the tables below v does so by a join to an ancestor of v
--   search_hangs   what a search discovers hangs on its tree, where it stays connected without any one table
use Rattle.std.proofs.Common.{◌≡◌, ℕ, Bool, true, ◌⊎◌, List, sym, ⊎_elim}
use Rattle.std.proofs.lemmas.Bool.{cases_eq}
use Rattle.disassembly.specs.Walks.{Walk, here, on}
use Rattle.disassembly.specs.Tree.{Less, Over, self, Hangs}
use Rattle.disassembly.specs.Search.{has, discovery}
use Rattle.disassembly.specs.Depth.{Search}
use Rattle.disassembly.proofs.Walks.{LeadsIn, Biconnected}
use Rattle.disassembly.proofs.Trees.{over_trans, over_father, over_both, over_root}
use Rattle.disassembly.proofs.Depth.{search_climbs, search_root, search_no_cross, search_rises, search_tree, search_rooted}

module _ (P : ℕ → Type 0) (J : ℕ → ℕ → Type 0) (f : ℕ → ℕ) (r : ℕ) (no_cross : (a b : ℕ) → J a b → Over f r a b ⊎ Over f r b a) where
  pub escape : (v x : ℕ) {c t : ℕ} → Walk (LeadsIn (Less P x) J) c t → Over f r v c → (Over f r v t → ⊥)
      → (d e : ℕ) × J d e × Over f r v d × Over f r e (f v) × (e ≡ x → ⊥)
  escape v x here o n = absurd (n o)
  escape v x {t = t} (on {a = c} {b = d} j w) o n =
      let again : Over f r v d → (d e : ℕ) × J d e × Over f r v d × Over f r e (f v) × (e ≡ x → ⊥) = λ k. escape v x w k n in
      ⊎_elim (λ k. again (over_trans f r o k))
      (λ k. ⊎_elim (λ dv. ⊎_elim (λ e. again (rw e self)) (λ ne. (c, d, j.0, o, over_father f r dv ne, j.2.1)) (cases_eq d v)) again (over_both f r k o))
      (no_cross c d j.0)

module _ (J : ℕ → ℕ → Bool) (f : ℕ → ℕ) (r : ℕ) (l : List ℕ) (s : Search J f r l)
    (same : (a b : ℕ) → J a b ≡ true → J b a ≡ true) (apart : (a b : ℕ) → J a b ≡ true → a ≡ b → ⊥) (within : (a b : ℕ) → J a b ≡ true → has l a ≡ true)
    (bicon : Biconnected (λ a. has l a ≡ true) (λ a b. J a b ≡ true)) where
  pub search_hangs : Hangs (λ a. has l a ≡ true) (λ a b. J a b ≡ true) f r (discovery l)
  search_hangs = record {
    same = same;
    apart = apart;
    within = within;
    root = search_root J f r s;
    rooted = search_rooted J f r s;
    climbs = search_climbs J f r s;
    rises = search_rises J f r s;
    tree = search_tree J f r s;
    no_cross = nc;
    low = λ v pv vr fr.
        let vf : v ≡ f v → ⊥ = λ e. apart (f v) v (search_tree J f r s v pv vr) (sym e) in
        let t = escape (λ a. has l a ≡ true) (λ a b. J a b ≡ true) f r nc v (f v)
        (bicon (f v) v r (pv, vf) (search_root J f r s, λ e. fr (sym e))) self (λ o. vr (over_root f r o)) in
        (t.0, t.1, t.2, t.3, over_father f r t.4 t.5);
    one_son = λ v w pv pw vr wr fv fw. ⊎_elim (λ e. e) (λ ne.
        let t = escape (λ a. has l a ≡ true) (λ a b. J a b ≡ true) f r nc v r
        (bicon r v w (pv, vr) (pw, wr)) self (λ o. vr (over_root f r (rw fw at (over_father f r o ne)))) in
        absurd (t.5 (over_root f r (rw fv at t.4)))) (cases_eq v w);
  }
    where
      nc : (a b : ℕ) → J a b ≡ true → Over f r a b ⊎ Over f r b a
      nc a b j = search_no_cross J f r same s a b (within a b j) (within b a (same a b j)) j
