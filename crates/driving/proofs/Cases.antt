-- The judgement of a driving request, case by case.
--
--   judged_other, judged_missing, judged_few, judged_accepted
--                   what is answered in each case
--   Case, judged    one of the cases is at hand
use Rattle.std.proofs.Common.{◌≡◌, ℕ, ◌<◌, ◌≤◌, Bool, true, false, cond, not, eqb, ltb, Some, None, Ok, Err, Option, Result, ap, ◌∙◌, ⊎_elim, arith}
use Rattle.std.proofs.lemmas.Bool.{cases_eq, cases_lt, lt-ltb, cond-true, cond-false}
use Rattle.std.proofs.lemmas.Bool.Decides.{nat_tests}
use Rattle.theory.specs.Graph.{Graph, table_count}
use Rattle.driving.specs.Drive.{lowest_missing, unless_missing, drive_judged}
use Rattle.driving.specs.declared.fault.DriveFault.{DriveFault}
use Rattle.driving.specs.declared.fault.DriveFault.TheVariants.{OtherCount, NotJoined, TooFewRecords}
use Rattle.driving.proofs.Missing.{lowest_either}

abbrev Answer : Type 0
Answer = Result Unit DriveFault

other_test : (a b : ℕ) → (a ≡ b → ⊥) → not (eqb a b) ≡ true
other_test a b n = grind (arith, nat_tests)

same_test : (a b : ℕ) → a ≡ b → not (eqb a b) ≡ false
same_test a b e = grind (arith, nat_tests)

not_less : (a b : ℕ) → b ≤ a → ltb a b ≡ false
not_less a b h = grind (arith, nat_tests)

first : (c : Bool) (x y : Answer) → c ≡ true → cond c x y ≡ x
first c x y e = cond-true c x y e

second : (c : Bool) (x y : Answer) → c ≡ false → cond c x y ≡ y
second c x y e = cond-false c x y e

module _ (m t : Graph) (room : ℕ) where
  abbrev last : Answer
  last = cond (ltb room (table_count m)) (Err (TooFewRecords (table_count m))) (Ok tt)

  abbrev later : Option ℕ → Answer
  later o = unless_missing o (cond (ltb room (table_count m)) (Err (TooFewRecords (table_count m))) (Ok tt))

  abbrev other_count : Answer
  other_count = Err (OtherCount (table_count t) (table_count m))

  pub judged_other : (table_count t ≡ table_count m → ⊥) → drive_judged m t room ≡ Err (OtherCount (table_count t) (table_count m))
  unfolding drive_judged
  judged_other n = first (not (eqb (table_count t) (table_count m))) other_count (later (lowest_missing m t)) (other_test (table_count t) (table_count m) n)

  pub judged_missing : table_count t ≡ table_count m → (x : ℕ) → lowest_missing m t ≡ Some x → drive_judged m t room ≡ Err (NotJoined x)
  unfolding drive_judged
  judged_missing e x k = second (not (eqb (table_count t) (table_count m))) other_count (later (lowest_missing m t)) (same_test (table_count t) (table_count m) e) ∙ ap later k

  pub judged_few : table_count t ≡ table_count m → lowest_missing m t ≡ None → room < table_count m → drive_judged m t room ≡ Err (TooFewRecords (table_count m))
  unfolding drive_judged
  judged_few e k l = second (not (eqb (table_count t) (table_count m))) other_count (later (lowest_missing m t)) (same_test (table_count t) (table_count m) e) ∙ ap later k
      ∙ first (ltb room (table_count m)) (Err (TooFewRecords (table_count m))) (Ok tt) (lt-ltb room (table_count m) l)

  pub judged_accepted : table_count t ≡ table_count m → lowest_missing m t ≡ None → table_count m ≤ room → drive_judged m t room ≡ Ok tt
  unfolding drive_judged
  judged_accepted e k l = second (not (eqb (table_count t) (table_count m))) other_count (later (lowest_missing m t)) (same_test (table_count t) (table_count m) e) ∙ ap later k
      ∙ second (ltb room (table_count m)) (Err (TooFewRecords (table_count m))) (Ok tt) (not_less room (table_count m) l)

  -- the cases, in their order
  pub data Case : Type 0 where
    other : (table_count t ≡ table_count m → ⊥) → drive_judged m t room ≡ Err (OtherCount (table_count t) (table_count m)) → Case
    absent : table_count t ≡ table_count m → (x : ℕ) → lowest_missing m t ≡ Some x → drive_judged m t room ≡ Err (NotJoined x) → Case
    few : table_count t ≡ table_count m → lowest_missing m t ≡ None → room < table_count m → drive_judged m t room ≡ Err (TooFewRecords (table_count m)) → Case
    accepted : table_count t ≡ table_count m → lowest_missing m t ≡ None → table_count m ≤ room → drive_judged m t room ≡ Ok tt → Case

  pub judged : Case
  judged = ⊎_elim
      (λ (e : table_count t ≡ table_count m). ⊎_elim
      (λ k. absent e k.0 k.1 (judged_missing e k.0 k.1))
      (λ k. ⊎_elim (λ l. few e k l (judged_few e k l)) (λ l. accepted e k l (judged_accepted e k l)) (cases_lt room (table_count m)))
      (lowest_either m t))
      (λ (n : table_count t ≡ table_count m → ⊥). other n (judged_other n))
      (cases_eq (table_count t) (table_count m))
