-- What a build request's judgement tells of the graph.
--
--   judged_by       a judgement by its cases
--   table_number    the tables of a graph are as many as it says
--   fit_size        the joins of a fit graph: three, and one a step of its list
--   fit_tables      a fit graph has three tables at least
--   Verdict, judged what each answer tells: accepted, and refused by 9, the graph is fit; by 6, 7 or 8 it is not
use Rattle.std.proofs.Common.{◌≡◌, ℕ, zero, suc, ◌+◌, ◌-◌, ◌<◌, ◌≤◌, Bool, true, false, cond, ltb, length, Some, None, Ok, Err, Option, Result, sym, refl, ◌∙◌, subst, ⊎_elim, arith}
use Rattle.std.proofs.lemmas.Bool.{cases_lt, ltb-true, lt-ltb, le-ltb, false≢true}
use Rattle.theory.specs.Graph.{Graph, Simple, joined, is_table, table_count, size, count}
use Rattle.disassembly.specs.Walks.{SimpleOn}
use Rattle.disassembly.specs.Reach.{lowest_unreached, lowest_separating}
use Rattle.disassembly.specs.Laws.{Fit}
use Rattle.disassembly.proofs.Reach.{unreached_none, unreached_some, separating_none, separating_some}
use Rattle.disassembly.proofs.Keys.{graph_on, first_in, given_legal}
use Rattle.disassembly.proofs.Lengths.{build_length}
use Rattle.refusals.specs.declared.build.BuildFault.{BuildFault}
use Rattle.refusals.specs.declared.build.BuildFault.TheVariants.{TooSmall, Unreached, Articulation, TooFewRecords}
use Rattle.assembly.specs.Build.{list_of, build_judged}
use Rattle.verdicts.specs.Judge.{unless_named, room_judged}
use Rattle.assembly.specs.BuildLaw.{NamedBy}

pub judged_by : (P : Result Unit BuildFault → Type 0) (small : Bool) (un cut : Option ℕ) (needed room : ℕ)
    → (small ≡ true → P (Err TooSmall))
    → (small ≡ false → (x : ℕ) → un ≡ Some x → P (Err (Unreached x)))
    → (small ≡ false → un ≡ None → (x : ℕ) → cut ≡ Some x → P (Err (Articulation x)))
    → (small ≡ false → un ≡ None → cut ≡ None → room < needed → P (Err (TooFewRecords needed)))
    → (small ≡ false → un ≡ None → cut ≡ None → needed ≤ room → P (Ok tt))
    → P (cond small (Err TooSmall) (unless_named un Unreached (unless_named cut Articulation (room_judged needed room))))
judged_by P true un cut needed room a b c d e = a refl
judged_by P false (Some x) cut needed room a b c d e = b refl x refl
judged_by P false None (Some x) needed room a b c d e = c refl refl x refl
judged_by P false None None needed room a b c d e =
    ⊎_elim (λ (l : room < needed). rw (lt-ltb room needed l) (d refl refl refl l)) (λ (l : needed ≤ room). rw (le-ltb room needed l) (e refl refl refl l)) (cases_lt room needed)

count_below : (k n : ℕ) → n ≤ k → count (λ a. ltb a n) k ≡ n
count_below zero n l = omega arith
count_below (suc k) n l =
    ⊎_elim
    (λ (h : k < n). let all = count_all k n (omega arith) in let e = lt-ltb k n h in rw e (omega (arith, all)))
    (λ (h : n ≤ k). let ih = count_below k n h in let e = le-ltb k n h in rw e (omega (arith, ih)))
    (cases_lt k n)
  where
    count_all : (k n : ℕ) → k ≤ n → count (λ a. ltb a n) k ≡ k
    count_all zero n l = refl
    count_all (suc k) n l = let ih = count_all k n (omega arith) in let e = lt-ltb k n (omega arith) in rw e (omega (arith, ih))

pub table_number : (m : Graph) → Simple m → count (is_table m) 64 ≡ table_count m
table_number m s = count_below 64 m.tables s.few

-- a fit graph has three joins at least: those of its triangle, and one a step
pub fit_size : (m : Graph) → Simple m → Fit (is_table m) (joined m) → size m ≡ 3 + length (list_of m).steps
fit_size m s fit =
    build_length m s (list_of m).triangle (list_of m).steps (given_legal m s fit)

abbrev pub Verdict : Graph → ℕ → Result Unit BuildFault → Type 0
Verdict m room (Ok u) = Fit (is_table m) (joined m) × (size m - 3 ≤ room)
Verdict m room (Err TooSmall) = (Fit (is_table m) (joined m) → ⊥) × NamedBy m room TooSmall
Verdict m room (Err (Unreached x)) = (Fit (is_table m) (joined m) → ⊥) × NamedBy m room (Unreached x)
Verdict m room (Err (Articulation x)) = (Fit (is_table m) (joined m) → ⊥) × NamedBy m room (Articulation x)
Verdict m room (Err (TooFewRecords k)) = Fit (is_table m) (joined m) × NamedBy m room (TooFewRecords k)

pub fit_tables : (m : Graph) → Simple m → Fit (is_table m) (joined m) → 3 ≤ table_count m
fit_tables m s f = subst (λ k. 3 ≤ k) (table_number m s) f.three

too_few : (n : ℕ) → n < 3 → 3 ≤ n → ⊥
too_few n l h = omega arith

module _ (m : Graph) (s : Simple m) (room : ℕ) where
  abbrev U : ℕ → Bool
  U = is_table m

  abbrev J : ℕ → ℕ → Bool
  J = joined m

  on : SimpleOn U J
  on = graph_on m s

  zero_in : U 0 ≡ true
  zero_in = first_in m s

  many : ltb (table_count m) 3 ≡ false → 3 ≤ table_count m
  many h = ⊎_elim (λ (l : table_count m < 3). absurd (false≢true (sym h ∙ lt-ltb (table_count m) 3 l))) (λ l. l) (cases_lt (table_count m) 3)

  fit : ltb (table_count m) 3 ≡ false → lowest_unreached U J 0 ≡ None → lowest_separating U J ≡ None → Fit U J
  fit h un cut = record {
    three = subst (λ k. 3 ≤ k) (sym (table_number m s)) (many h);
    connected = unreached_none U J on 0 zero_in un;
    no_articulation = separating_none U J on cut;
  }

  pub judged : Verdict m room (build_judged m room)
  unfolding build_judged
  judged = judged_by (Verdict m room) (ltb (table_count m) 3) (lowest_unreached U J 0) (lowest_separating U J) (size m - 3) room
      (λ h. let l : table_count m < 3 = ltb-true (table_count m) 3 h in ((λ f. too_few (table_count m) l (fit_tables m s f)), l))
      (λ h x e. let q = unreached_some U J on 0 zero_in x e in
      let xn : x < table_count m = ltb-true x (table_count m) q.0 in (
        (λ f. q.1 (f.connected 0 x zero_in q.0)),
        (many h, xn, q.1, λ y l. q.2 y l (lt-ltb y (table_count m) (omega arith))),
      ))
      (λ h un x e. let q = separating_some U J on x e in
      ((λ f. f.no_articulation x q.0), (many h, unreached_none U J on 0 zero_in un, q.0, q.1)))
      (λ h un cut l. let f = fit h un cut in (f, (omega (arith, fit_size m s f), l)))
      (λ h un cut l. (fit h un cut, l))
