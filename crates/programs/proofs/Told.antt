-- The program's answer, exit by exit.
--
--   clamped_simple         a new graph is simple, whatever number of tables was asked for
--   play_near              what a replay that is refused names
--   list_off, end_off      a text that is refused: the list, or what follows it
--   play_last              a text that is accepted, and the replay of its list
use Rattle.std.proofs.Common.{◌≡◌, ℕ, ◌+◌, ◌≤◌, List, length, IfErr, Ok, Err, Result, sym, ap, ◌∙◌, arith}
use Rattle.std.proofs.lemmas.Bool.Decides.{nat_tests}
use Rattle.bits.specs.declared.table.BitTable.{BitTable}
use Rattle.construction.specs.Replay.{replayed}
use Rattle.refusals.specs.declared.fault.ReplayFault.{ReplayFault}
use Rattle.texts.specs.ListRead.{list_read, end_at}
use Rattle.texts.specs.declared.fault.TextFault.{TextFault}
use Rattle.texts.specs.declared.list.Heading.{Heading}
use Rattle.texts.proofs.Refusals.{refused_on}
use Rattle.theory.specs.Graph.{Graph, Simple, no_joins, clamped}
use Rattle.theory.specs.declared.step.Step.{Step}
use Rattle.theory.specs.declared.step.Triangle.{Triangle}
use Rattle.theory.proofs.Sizes.{no_joins_simple}
use Rattle.refusals.specs.Fault.{replay_place}
use Rattle.programs.specs.Replay.{meant, text_then, replay_last, left, list_played, replay_told}
use Rattle.outcomes.specs.declared.fault.ProgramFault.{ProgramFault}
use Rattle.outcomes.specs.declared.fault.ProgramFault.TheVariants.{Text, Replay}
use Rattle.programs.proofs.Near.{replay_near}

at_least : (n : ℕ) → 1 ≤ clamped n
at_least n = grind (arith, nat_tests)

at_most : (n : ℕ) → clamped n ≤ 64
at_most n = grind (arith, nat_tests)

pub clamped_simple : (n : ℕ) → Simple (no_joins (clamped n))
clamped_simple n = no_joins_simple (clamped n) (at_least n) (at_most n)

module _ (m : Graph) (n : ℕ) (t : Triangle) (l : List Step) (r : Result Unit ReplayFault) (f x : ReplayFault) (final : Result BitTable ReplayFault)
    (new : m ≡ no_joins (clamped n)) (answer : r ≡ (replayed 2016 m t l).told) (was : r ≡ Err f) (gave : final ≡ Err x) (is : x ≡ f) where
  told : (replayed 2016 (no_joins (clamped n)) t l).told ≡ Err f
  told = sym (ap (λ g. (replayed 2016 g t l).told) new) ∙ sym answer ∙ was

  pub play_near : IfErr final (λ e. replay_place e ≤ 64 + length l)
  play_near = refused_on final x f (λ e. replay_place e ≤ 64 + length l) gave is (replay_near 2016 (clamped n) t l f (clamped_simple n) told)

module _ (text : List ℕ) (l : List Step) where
  pub list_off : (e : TextFault) → (list_read text 0 l).told ≡ Err e → replay_told text l ≡ Err (Text e)
  unfolding replay_told
  list_off e bad = ap (λ r. text_then r (λ h. text_then (end_at text h.end) (λ _. replay_last (left (list_played h (list_read text 0 l).records))))) bad

  module _ (h : Heading) (read : (list_read text 0 l).told ≡ Ok h) where
    ending : replay_told text l ≡ text_then (end_at text h.end) (λ _. replay_last (left (list_played h (list_read text 0 l).records)))
    unfolding replay_told
    ending = ap (λ r. text_then r (λ h. text_then (end_at text h.end) (λ _. replay_last (left (list_played h (list_read text 0 l).records))))) read

    pub end_off : (e : TextFault) → end_at text h.end ≡ Err e → replay_told text l ≡ Err (Text e)
    end_off e bad = ending ∙ ap (λ r. text_then r (λ _. replay_last (left (list_played h (list_read text 0 l).records)))) bad

    pub play_last : (u : Unit) → end_at text h.end ≡ Ok u → replay_told text l ≡ replay_last (left (list_played h (list_read text 0 l).records))
    play_last u good = ending ∙ ap (λ r. text_then r (λ _. replay_last (left (list_played h (list_read text 0 l).records)))) good

-- an answer of the replay's layer, in the program's
pub carried : (r : Result BitTable ReplayFault) (final : Result BitTable ProgramFault) (f : ReplayFault) (x : ProgramFault) → r ≡ Err f → final ≡ Err x → x ≡ Replay f
    → meant final ≡ replay_last (meant r)
carried r final f x was gave is =
    ap (λ (q : Result BitTable ProgramFault). meant q) (gave ∙ ap (λ e. Err e) is) ∙ sym (ap (λ (q : Result BitTable ReplayFault). replay_last (meant q)) was)
