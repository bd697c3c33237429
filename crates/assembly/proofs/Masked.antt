-- The judgement over sets of tables is the one over the graph that was surveyed.
use Rattle.std.proofs.Common.{◌≡◌, ℕ, ◌-◌, ◌^◌, ◌<◌, Bool, cond, not, ◌&&◌, ltb, Some, None, Err, Option, Result, sym, refl, ap, ◌∙◌, ⊎_elim, arith}
use lib.Count.{count_trailing_zeros}
use Rattle.std.proofs.lemmas.Bool.{cases_eq, eq-eqb, ne_eqb}
use Rattle.theory.specs.Graph.{Graph, is_table, joined, table_count, size}
use Rattle.sets.specs.Set.{bit, lowest_in}
use Rattle.sets.proofs.Bit.{zero_bit}
use Rattle.sets.proofs.Lowest.{lowest_below, lowest_bit}
use Rattle.disassembly.specs.Search.{lowest_from}
use Rattle.disassembly.specs.Reach.{reached, separates, lowest_unreached, lowest_separating}
use Rattle.disassembly.proofs.Members.{lowest_is, none_is}
use Rattle.refusals.specs.declared.build.BuildFault.{BuildFault}
use Rattle.refusals.specs.declared.build.BuildFault.TheVariants.{TooSmall, Unreached, Articulation}
use Rattle.traversal.specs.Survey.{Surveys}
use Rattle.traversal.specs.declared.survey.Survey.{Survey}
use Rattle.assembly.specs.Build.{build_judged}
use Rattle.verdicts.specs.Judge.{unless_named, room_judged, sets_judged}

-- the lowest table of a set
pub lowest_bits : (w : ℕ) → w < 2 ^ 64 → (p : ℕ → Bool) → ((x : ℕ) → bit w x ≡ p x) → lowest_in w ≡ lowest_from 0 64 p
lowest_bits w h p same = ⊎_elim
    (λ (e : w ≡ 0). ap (λ b. cond b None (Some (count_trailing_zeros 64 w))) (eq-eqb w 0 e)
    ∙ sym (none_is 0 64 p (λ x _ _. sym (same x) ∙ ap (λ v. bit v x) e ∙ zero_bit x)))
    (λ ne.
    let some : 0 < w = omega (arith, ne) in
    let lowest = lowest_bit w h some in
    ap (λ b. cond b None (Some (count_trailing_zeros 64 w))) (ne_eqb w 0 ne)
    ∙ sym (lowest_is 0 64 p (count_trailing_zeros 64 w)
    (record { holds = sym (same (count_trailing_zeros 64 w)) ∙ lowest.holds; above = lowest.above; none = λ j a l. sym (same j) ∙ lowest.none j a l }) (lowest_below w h some)))
    (cases_eq w 0)

-- what comes after a table that is named does not matter
unless : (un cut cut' : Option ℕ) (next : Option ℕ → Result Unit BuildFault) → (un ≡ None → cut ≡ cut') → unless_named un Unreached (next cut) ≡ unless_named un Unreached (next cut')
unless (Some x) cut cut' next f = refl
unless None cut cut' next f = ap next (f refl)

module _ (m : Graph) (s : Survey) (h : Surveys m 0 s) (small : s.unreached < 2 ^ 64) (little : s.articulations < 2 ^ 64) (room : ℕ) where
  un_is : lowest_in s.unreached ≡ lowest_unreached (is_table m) (joined m) 0
  un_is = lowest_bits s.unreached small (λ x. is_table m x && not (reached (is_table m) (joined m) 0 x)) h.unreached

  zero_none : lowest_in s.unreached ≡ None → s.unreached ≡ 0
  zero_none e = ⊎_elim (λ q. q)
      (λ ne. let z : Some (count_trailing_zeros 64 s.unreached) ≡ None = sym (ap (λ b. cond b None (Some (count_trailing_zeros 64 s.unreached))) (ne_eqb s.unreached 0 ne)) ∙ e in
      let y : ◌≡◌ {A = ℕ} 0 1 = cc in absurd (omega arith))
      (cases_eq s.unreached 0)

  cut_is : lowest_in s.unreached ≡ None → lowest_in s.articulations ≡ lowest_separating (is_table m) (joined m)
  cut_is e = lowest_bits s.articulations little (separates (is_table m) (joined m)) (h.articulations (zero_none e))

  pub sets_are : sets_judged (table_count m) s.unreached s.articulations (size m - 3) room ≡ build_judged m room
  unfolding build_judged
  sets_are =
      ap (λ r. cond (ltb (table_count m) 3) (Err TooSmall) r)
      (unless (lowest_in s.unreached) (lowest_in s.articulations) (lowest_separating (is_table m) (joined m)) (λ o. unless_named o Articulation (room_judged (size m - 3) room)) cut_is
      ∙ ap (λ o. unless_named o Unreached (unless_named (lowest_separating (is_table m) (joined m)) Articulation (room_judged (size m - 3) room))) un_is)
