-- Two lists given in two runs are equal exactly when their graphs agree: when on every pair the last accepted call was a join in both, or in
-- neither.
use Rattle.std.proofs.Common.{◌≡◌, ℕ, ◌<◌, ◌≤◌, Bool, true, false, ◌↔◌, List, [], ◌∷◌, length, take, drop, Some, Ok, Result, sym, refl, ap, ◌∙◌, subst, arith}
use Rattle.std.proofs.lemmas.Option.{slice_get_within}
use Rattle.theory.specs.Graph.{Graph, Simple, joined, is_table, no_joins}
use Rattle.theory.specs.Build.{LegalBuild}
use Rattle.theory.specs.declared.step.Step.{Step}
use Rattle.theory.specs.declared.step.Triangle.{Triangle}
use Rattle.theory.proofs.Sizes.{no_joins_simple}
use Rattle.disassembly.specs.Disassembly.{Disassembly}
use Rattle.disassembly.specs.Laws.{Fit}
use Rattle.disassembly.proofs.Corners.{build_fit}
use Rattle.disassembly.proofs.Keys.{graph_on}
use Rattle.disassembly.proofs.Lengths.{one_graph}
use Rattle.refusals.specs.declared.build.BuildFault.{BuildFault}
use Rattle.assembly.specs.declared.build.Built.{Built}
use Rattle.keys.proofs.Agree.{agree}
use Rattle.ledger.specs.declared.call.Answer.{Answer}
use Rattle.ledger.specs.declared.call.Answer.TheVariants as answers
use Rattle.ledger.specs.declared.call.Call.{Call}
use Rattle.ledger.specs.declared.call.Call.TheVariants.{Build}
use Rattle.ledger.specs.declared.call.Turn.{Turn}
use Rattle.ledger.specs.Ledger.{ledger_step, ledger}
use Rattle.ledger.specs.Run.{calls_of}
use Rattle.ledger.specs.RunLaw.{Run, ledger_at, JoinedLast, room, steps_from, BuildTold, Foretells, ListAt, OneKeyBetween}
use Rattle.ledger.proofs.Requests.{step_simple}

ledger_simple : (capacity : ℕ) (m : Graph) (l : List Call) → Simple m → Simple (ledger capacity m l)
unfolding ledger
ledger_simple capacity m [] s = s
ledger_simple capacity m (c ∷ l) s = ledger_simple capacity (ledger_step capacity m c) l (step_simple capacity m c s)

-- a list given, with all that is told of it
pub record Stands (m : Graph) (t : Triangle) (l : List Step) : Type 0 where
  pub listed : Disassembly (is_table m) (joined m) 0 t l
  pub alone : (s : Triangle) (k : List Step) → Disassembly (is_table m) (joined m) 0 s k → (s ≡ t) × (k ≡ l)
  pub legal : LegalBuild m t l

same_built : (a b : ℕ) (r k : Result Built BuildFault) → answers.Built a r ≡ answers.Built b k → (a ≡ b) × (r ≡ k)
same_built a b r k e = (cc, cc)

some_answer : (x y : Answer) → Some x ≡ Some y → x ≡ y
some_answer x y e = cc

stands_at : (R : Run) → Foretells R → (i : ℕ) (t : Triangle) (l : List Step) → ListAt R i t l → Stands (ledger_at R i) t l
stands_at R f i t l h =
    let turn : Turn = record { call = Build h.records; answer = Some (answers.Built h.from (Ok h.built)) } in
    let a = f.answered i turn h.turn in
    let told : BuildTold (ledger_at R i) (steps_from R i) (room (steps_from R i) h.records R.steps) (drop (steps_from R i) R.steps) a.0 = a.2 in
    let q = same_built h.from (steps_from R i) (Ok h.built) told.outcome (some_answer _ _ a.1 ∙ told.answered) in
    let listed = told.listed h.built (sym q.1) in
    let legal = told.legal h.built (sym q.1) in
    let place : take h.built.steps (drop (steps_from R i) R.steps) ≡ l = ap (λ n. take h.built.steps (drop n R.steps)) (sym q.0) ∙ sym h.steps in
    subst (λ z. Stands (ledger_at R i) z l) (sym h.corners)
    (subst (λ z. Stands (ledger_at R i) h.built.triangle z) place (record { listed = listed.0; alone = listed.1; legal = legal.0 }))

fit_of : (m : Graph) → Simple m → (t : Triangle) (l : List Step) → Stands m t l → Fit (is_table m) (joined m)
fit_of m s t l h = build_fit (is_table m) (joined m) (graph_on m s) (t, l, h.legal.0, h.legal.1)

one_list : (m k : Graph) → Simple m → Simple k → (t s : Triangle) (l n : List Step) → Stands m t l → Stands k s n
    → ((t ≡ s) × (l ≡ n)) ↔ ((a b : ℕ) → joined m a b ≡ joined k a b)
one_list m k x y t s l n g h = (
  (λ e.
      let legal : LegalBuild k t l = subst (λ z. LegalBuild k z l) (sym e.0) (subst (λ z. LegalBuild k s z) (sym e.1) h.legal) in
      let same : m ≡ k = one_graph m k t l g.legal legal in
      λ a b. ap (λ z. joined z a b) same),
  (λ e.
      let same : m ≡ k = agree m k x y (fit_of m x t l g) (fit_of k y s n h) e in
      h.alone t l (subst (λ z. Disassembly (is_table z) (joined z) 0 t l) same g.listed)),
)

same_test : (x y : Bool) → ((x ≡ true) → (y ≡ true)) → ((y ≡ true) → (x ≡ true)) → x ≡ y
same_test true true f g = refl
same_test false false f g = refl
same_test true false f g = sym (f refl)
same_test false true f g = g refl

place_in : (R : Run) (i : ℕ) (t : Triangle) (l : List Step) → ListAt R i t l → i ≤ length R.turns
place_in R i t l h = let k : i < length R.turns = slice_get_within R.turns i (record { call = Build h.records; answer = Some (answers.Built h.from (Ok h.built)) }) h.turn in omega arith

ledger_at_simple : (R : Run) → Foretells R → (i : ℕ) → Simple (ledger_at R i)
ledger_at_simple R f i = ledger_simple R.capacity (no_joins R.tables) (take i (calls_of R.turns)) (no_joins_simple R.tables f.some f.few)

pub one_key : (A B : Run) → Foretells A → Foretells B → OneKeyBetween A B
one_key A B f g = record { equal_exactly = equal }
  where
    equal : (i j : ℕ) (t s : Triangle) (l n : List Step) → ListAt A i t l → ListAt B j s n → ((t ≡ s) × (l ≡ n)) ↔ ((a b : ℕ) → JoinedLast A i a b ↔ JoinedLast B j a b)
    equal i j t s l n p q =
        let one = one_list (ledger_at A i) (ledger_at B j) (ledger_at_simple A f i) (ledger_at_simple B g j) t s l n
        (stands_at A f i t l p) (stands_at B g j s n q) in
        let keepA = λ (a : ℕ) (b : ℕ). f.ledger_pairs i (place_in A i t l p) a b in
        let keepB = λ (a : ℕ) (b : ℕ). g.ledger_pairs j (place_in B j s n q) a b in (
          (λ e a b.
              let same : joined (ledger_at A i) a b ≡ joined (ledger_at B j) a b = one.0 e a b in
              ((λ h. (keepB a b).0 (sym same ∙ (keepA a b).1 h)), (λ h. (keepA a b).0 (same ∙ (keepB a b).1 h)))),
          (λ e. one.1 (λ a b. same_test (joined (ledger_at A i) a b) (joined (ledger_at B j) a b)
              (λ h. (keepB a b).1 ((e a b).0 ((keepA a b).0 h)))
              (λ h. (keepA a b).1 ((e a b).1 ((keepB a b).0 h))))),
        )
