-- What the replay's inner functions answer and leave.
--
--   building m U             the build of a graph and the tables in use
--   under_way m used         the same by a set
--   left r changed same      what an accepted change and a refused one leave
--   WithinUse m U            every join is between tables in use
--   corners t                the three tables of a triangle
--   used_answer U k v w      13 where v, or else w, is not in use at step k
--   edge_used n U k v w      the same where v and w are two tables
--   named_answer n u v w     1 and 2 for the three tables of a node step
--   node_conditions          what can be wrong with the tables of a node step, in order of checking
--   node_judged              the first of these, or accepted
--   held_answer m v w        4 where v and w are not joined
--   splice_conditions        what can be wrong with the joins of a node step
--   splice_answer            the first of these, or accepted
--   spliced m u v w          the graph after a node step
use Rattle.std.specs.Prelude.{◌≡◌, ℕ, Bool, true, cond, not, ◌&&◌, List, [], ◌∷◌, Ok, Err, Result, ◌==◌, nat_le, nat_lt}
use Rattle.theory.specs.Graph.{Graph, joined, joining, unjoining, size}
use Rattle.theory.specs.Build.{triangle}
use Rattle.theory.specs.declared.step.Triangle.{Triangle}
use Rattle.graph.specs.First.{refused_first}
use Rattle.graph.specs.declared.fault.StoreFault.{StoreFault}
use Rattle.graph.specs.declared.fault.StoreFault.TheVariants.{UnknownTable, SameTable, NotJoined, Full}
use Rattle.sets.specs.Set.{bit}
use Rattle.construction.specs.Replay.{Building}
use Rattle.refusals.specs.declared.fault.ReplayFault.{ReplayFault}
use Rattle.refusals.specs.declared.fault.ReplayFault.TheVariants.{Store, InUse, NotInUse}

abbrev pub building : Graph → (ℕ → Bool) → Building
building m U = record { graph = m; used = U }

abbrev pub under_way : Graph → ℕ → Building
under_way m used = building m (bit used)

abbrev pub left : {X : Type 0} → Result Unit ReplayFault → X → X → X
left (Ok u) changed same = changed
left (Err f) changed same = same

abbrev pub WithinUse : Graph → (ℕ → Bool) → Type 0
WithinUse m U = (x y : ℕ) → joined m x y ≡ true → U x ≡ true

abbrev pub corners : Triangle → ℕ → Bool
corners t = (triangle t).in_use

abbrev pub used_answer : (ℕ → Bool) → ℕ → ℕ → ℕ → Result Unit ReplayFault
used_answer U k v w = refused_first ((not (U v), NotInUse k v) ∷ (not (U w), NotInUse k w) ∷ [])

abbrev pub edge_used : ℕ → (ℕ → Bool) → ℕ → ℕ → ℕ → Result Unit ReplayFault
edge_used n U k v w = cond (nat_lt v n && (nat_lt w n && not (v == w))) (used_answer U k v w) (Ok tt)

abbrev pub named_answer : ℕ → ℕ → ℕ → ℕ → Result Unit StoreFault
named_answer n u v w = refused_first
    ((not (nat_lt u n), UnknownTable u)
    ∷ (not (nat_lt v n), UnknownTable v)
    ∷ (not (nat_lt w n), UnknownTable w)
    ∷ ((u == v), SameTable u)
    ∷ ((u == w), SameTable u)
    ∷ ((v == w), SameTable v)
    ∷ [])

abbrev pub node_conditions : ℕ → (ℕ → Bool) → ℕ → ℕ → ℕ → ℕ → List (Bool × ReplayFault)
node_conditions n U k u v w =
    ((not (nat_lt u n), Store k (UnknownTable u))
    ∷ (not (nat_lt v n), Store k (UnknownTable v))
    ∷ (not (nat_lt w n), Store k (UnknownTable w))
    ∷ ((u == v), Store k (SameTable u))
    ∷ ((u == w), Store k (SameTable u))
    ∷ ((v == w), Store k (SameTable v))
    ∷ (U u, InUse k u)
    ∷ (not (U v), NotInUse k v)
    ∷ (not (U w), NotInUse k w)
    ∷ [])

abbrev pub node_judged : ℕ → (ℕ → Bool) → ℕ → ℕ → ℕ → ℕ → Result Unit ReplayFault
node_judged n U k u v w = refused_first (node_conditions n U k u v w)

abbrev pub held_answer : Graph → ℕ → ℕ → Result Unit StoreFault
held_answer m v w = refused_first ((not (joined m v w), NotJoined v w) ∷ [])

abbrev pub splice_conditions : Graph → ℕ → ℕ → ℕ → ℕ → List (Bool × ReplayFault)
splice_conditions m capacity k v w =
    ((not (joined m v w), Store k (NotJoined v w))
    ∷ (nat_le capacity (size m), Store k (Full capacity))
    ∷ [])

abbrev pub splice_answer : Graph → ℕ → ℕ → ℕ → ℕ → Result Unit ReplayFault
splice_answer m capacity k v w = refused_first (splice_conditions m capacity k v w)

abbrev pub spliced : Graph → ℕ → ℕ → ℕ → Graph
spliced m u v w = joining (unjoining (joining m u v) v w) u w
