-- Construction sequences: a triangle, then steps, each allowed where it stands, and what they build.
-- Everything is said over a set of tables in use and a test on pairs, so that a whole graph is one case among others.
--
--   Part               what has been built so far: the tables in use, and the joins between them
--   triangle t         the part that a triangle makes
--   Ascending t        a triangle is named in rising order, by three different tables
--   Allowed s p        step s may be taken from part p
--   after s p          the part that step s makes of p
--   Builds p l q       the steps l, each allowed in its turn, lead from part p to part q
--   whole m            a graph as a part: all of its tables in use, and its joins
--   LegalBuild m t l   triangle t and steps l are a legal build of the graph m
use Rattle.std.specs.Prelude.{◌≡◌, ℕ, ◌<◌, Bool, true, false, not, ◌&&◌, ◌||◌, List, [], ◌∷◌, ◌==◌, ◌≢◌}
use Rattle.theory.specs.Graph.{Graph, same_pair, is_table}
use Rattle.theory.specs.declared.step.Step.{Step}
use Rattle.theory.specs.declared.step.Step.TheVariants.{Edge, Node}
use Rattle.theory.specs.declared.step.Triangle.{Triangle}

pub record Part : Type 0 where
  pub in_use : ℕ → Bool
  pub joins : ℕ → ℕ → Bool

abbrev pub with_join : ℕ → ℕ → (ℕ → ℕ → Bool) → ℕ → ℕ → Bool
with_join v w J a b = same_pair v w a b || J a b

abbrev pub without_join : ℕ → ℕ → (ℕ → ℕ → Bool) → ℕ → ℕ → Bool
without_join v w J a b = not (same_pair v w a b) && J a b

abbrev pub with_table : ℕ → (ℕ → Bool) → ℕ → Bool
with_table u U a = u == a || U a

abbrev pub triangle : Triangle → Part
triangle t = record {
  in_use = with_table t.a (with_table t.b (with_table t.c (λ _. false)));
  joins = with_join t.b t.c (with_join t.a t.c (with_join t.a t.b (λ _ _. false)));
}

abbrev pub Ascending : Triangle → Type 0
Ascending t = (t.a < t.b) × (t.b < t.c)

abbrev pub Allowed : Step → Part → Type 0
-- two different tables in use that are not joined
Allowed (Edge v w) p = (p.in_use v ≡ true) × (p.in_use w ≡ true) × (v ≢ w) × (p.joins v w ≡ false)
-- a table not in use, and two different tables in use that are joined
Allowed (Node u v w) p = (p.in_use u ≡ false) × (p.in_use v ≡ true) × (p.in_use w ≡ true) × (v ≢ w) × (p.joins v w ≡ true)

abbrev pub after : Step → Part → Part
after (Edge v w) p = record { in_use = p.in_use; joins = with_join v w p.joins }
after (Node u v w) p = record {
  in_use = with_table u p.in_use;
  joins = with_join u w (with_join u v (without_join v w p.joins));
}

pub data Builds : Part → List Step → Part → Type 0 where
  done : {p : Part} → Builds p [] p
  next : {p q : Part} {s : Step} {l : List Step} → Allowed s p → Builds (after s p) l q → Builds p (s ∷ l) q

abbrev pub whole : Graph → Part
whole m = record { in_use = is_table m; joins = m.adj }

-- each step is allowed, all tables end in use, and the joins at the end are exactly the graph's
abbrev pub LegalBuild : Graph → Triangle → List Step → Type 0
LegalBuild m t l = Ascending t × Builds (triangle t) l (whole m)
