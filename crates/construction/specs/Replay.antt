-- What a replay answers and leaves, for every graph, triangle and list of steps: a start, steps, and a close.
-- Conditions stand in their order of checking. `Law` says in other words what this amounts to.
--
--   Building               a build under way: the graph, and the tables in use
--   start_answer m cap t   10 the graph has joins, 11 no triangle, 5 no room for three joins, or accepted
--   started m t            the build after an accepted triangle
--   step_answer cap k b s  the answer to step s, the k-th, of a build b in a graph of capacity cap
--   step_after b s         the build after an accepted step
--   close_answer b         14 with the lowest table not in use, or accepted
--   steps_from cap k b l   steps l, the first of them the k-th, and the close
--   replayed cap m t l     the whole replay: what it tells, and the graph that it leaves
use Rattle.std.specs.Prelude.{ℕ, zero, suc, ◌+◌, Bool, cond, not, ◌&&◌, List, [], ◌∷◌, Ok, Err, Result, ◌==◌, nat_le, nat_lt}
use Rattle.theory.specs.Graph.{Graph, joined, is_table, table_count, joining, unjoining, size, some_join}
use Rattle.theory.specs.Build.{triangle, with_table}
use Rattle.theory.specs.declared.step.Step.{Step}
use Rattle.theory.specs.declared.step.Step.TheVariants.{Edge, Node}
use Rattle.theory.specs.declared.step.Triangle.{Triangle}
use Rattle.graph.specs.First.{refused_first}
use Rattle.graph.specs.declared.fault.StoreFault.TheVariants.{UnknownTable, SameTable, AlreadyJoined, NotJoined, Full}
use Rattle.refusals.specs.declared.fault.ReplayFault.{ReplayFault}
use Rattle.refusals.specs.declared.fault.ReplayFault.TheVariants.{Store, HasJoins, NotTriangle, InUse, NotInUse, Unused}

pub record Building : Type 0 where
  pub graph : Graph
  pub used : ℕ → Bool

pub record Played : Type 0 where
  pub told : Result Unit ReplayFault
  pub graph : Graph

abbrev pub start_answer : Graph → ℕ → Triangle → Result Unit ReplayFault
start_answer m capacity t = refused_first
    ((some_join m, HasJoins)
    ∷ (not (nat_lt t.a t.b && (nat_lt t.b t.c && is_table m t.c)), NotTriangle)
    ∷ (nat_lt capacity 3, Store 0 (Full capacity))
    ∷ [])

abbrev pub started : Graph → Triangle → Building
started m t = record {
  graph = joining (joining (joining m t.a t.b) t.a t.c) t.b t.c;
  used = (triangle t).in_use;
}

unfoldable pub step_answer : ℕ → ℕ → Building → Step → Result Unit ReplayFault
step_answer capacity k b (Edge v w) = refused_first
    ((not (is_table b.graph v), Store k (UnknownTable v))
    ∷ (not (is_table b.graph w), Store k (UnknownTable w))
    ∷ ((v == w), Store k (SameTable v))
    ∷ (not (b.used v), NotInUse k v)
    ∷ (not (b.used w), NotInUse k w)
    ∷ (joined b.graph v w, Store k (AlreadyJoined v w))
    ∷ (nat_le capacity (size b.graph), Store k (Full capacity))
    ∷ [])
step_answer capacity k b (Node u v w) = refused_first
    ((not (is_table b.graph u), Store k (UnknownTable u))
    ∷ (not (is_table b.graph v), Store k (UnknownTable v))
    ∷ (not (is_table b.graph w), Store k (UnknownTable w))
    ∷ ((u == v), Store k (SameTable u))
    ∷ ((u == w), Store k (SameTable u))
    ∷ ((v == w), Store k (SameTable v))
    ∷ (b.used u, InUse k u)
    ∷ (not (b.used v), NotInUse k v)
    ∷ (not (b.used w), NotInUse k w)
    ∷ (not (joined b.graph v w), Store k (NotJoined v w))
    ∷ (nat_le capacity (size b.graph), Store k (Full capacity))
    ∷ [])

unfoldable pub step_after : Building → Step → Building
step_after b (Edge v w) = record { graph = joining b.graph v w; used = b.used }
step_after b (Node u v w) = record {
  graph = joining (unjoining (joining b.graph u v) v w) u w;
  used = with_table u b.used;
}

-- tables are looked at in rising number, from `from` on
abbrev pub close_from : ℕ → ℕ → (ℕ → Bool) → Result Unit ReplayFault
close_from from zero used = Ok tt
close_from from (suc left) used = cond (used from) (close_from (from + 1) left used) (Err (Unused from))

abbrev pub close_answer : Building → Result Unit ReplayFault
close_answer b = close_from 0 (table_count b.graph) b.used

-- a refusal ends the replay, with the graph as it is then
abbrev pub onward : Result Unit ReplayFault → Graph → Played → Played
onward (Ok u) now' rest = rest
onward (Err f) now' rest = record { told = Err f; graph = now' }

unfoldable pub steps_from : ℕ → ℕ → Building → List Step → Played
steps_from capacity k b [] = record { told = close_answer b; graph = b.graph }
steps_from capacity k b (s ∷ l) = onward (step_answer capacity k b s) b.graph (steps_from capacity (k + 1) (step_after b s) l)

unfoldable pub replayed : ℕ → Graph → Triangle → List Step → Played
replayed capacity m t l = onward (start_answer m capacity t) m (steps_from capacity 1 (started m t) l)
