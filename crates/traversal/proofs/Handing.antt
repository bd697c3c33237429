-- What one table hands on to its parent.
--
--   found_at          what is kept of a table, read with any default
--   handed_touched    what is touched after a table handed on what it touches
--   put_cut, no_cut   the articulation tables then, where the parent is one and where it is none
--   folds_on          so the low points are as they are after that table
use Rattle.std.proofs.Common.{◌≡◌, ℕ, ◌<◌, Bool, true, false, cond, ◌&&◌, ◌||◌, eqb, ltb, List, length, get_or, set, refl, ap, ◌∙◌, arith}
use mathlib.Core.Path.{fun_ext}
use Rattle.std.proofs.lemmas.List.{get_or_default}
use Rattle.std.proofs.lemmas.Bool.{eqb-true}
use Rattle.std.proofs.lemmas.Bool.Decides.{nat_tests}
use Rattle.sets.specs.Set.{bit}
use Rattle.sets.specs.Rows.{in_row}
use Rattle.traversal.specs.Discoveries.{undiscovered, discovery_of}
use Rattle.traversal.specs.Folding.{parent_of, touches, cuts_off_by, Folds}
use Rattle.traversal.specs.declared.discovery.Discovery.{Discovery}
use Rattle.traversal.specs.declared.survey.Survey.{Survey}
use Rattle.traversal.specs.declared.lows.Lows.{Lows}
use Rattle.traversal.proofs.Stacks.{get_or_set, of_either}

pub found_at : (found : List Discovery) (x : ℕ) (d : Discovery) → x < length found → get_or found x d ≡ discovery_of found x
found_at found x d l = get_or_default found x d undiscovered l

module _ (rows below : List ℕ) (v f t u : ℕ) (low : f < length below)
    (touched : (y : ℕ) → bit t y ≡ (in_row rows v y || in_row below v y)) (more : (y : ℕ) → bit u y ≡ (in_row below f y || bit t y)) where
  row_after : (x y : ℕ) → in_row (set below f u) x y ≡ cond (eqb x f) (in_row below f y || (in_row rows v y || in_row below v y)) (in_row below x y)
  row_after x y =
      ap (λ m. bit m y) (get_or_set below f u x 0 low) ∙ of_either (λ m. bit m y) (eqb x f) u (get_or below x 0)
      ∙ ap (λ b. cond (eqb x f) b (in_row below x y)) (more y ∙ ap (λ b. in_row below f y || b) (touched y))

  at_parent : (c r b p a n : Bool) → n ≡ cond c (p || a) b → (c ≡ true → b ≡ p) → (r || n) ≡ ((c && a) || (r || b))
  at_parent true r b p a n e same = let s : b ≡ p = same refl in grind (arith, nat_tests)
  at_parent false r b p a n e same = grind (arith, nat_tests)

  pub handed_touched : (x y : ℕ) → (in_row rows x y || in_row (set below f u) x y)
      ≡ ((eqb x f && (in_row rows v y || in_row below v y)) || (in_row rows x y || in_row below x y))
  handed_touched x y = at_parent (eqb x f) (in_row rows x y) (in_row below x y) (in_row below f y) (in_row rows v y || in_row below v y) (in_row (set below f u) x y)
      (row_after x y) (λ e. ap (λ k. in_row below k y) (eqb-true x f e))

-- an articulation table put in, or none
pub put_cut : (x f : ℕ) (cut b b' : Bool) → f < 64 → cut ≡ true → b' ≡ ((eqb x f && ltb x 64) || b) → b' ≡ ((eqb x f && cut) || b)
put_cut x f cut b b' low on e = grind (arith, nat_tests)

pub no_cut : (e cut b b' : Bool) → cut ≡ false → b' ≡ b → b' ≡ ((e && cut) || b)
no_cut e cut b b' off same = grind (arith, nat_tests)

pub folds_on : (rows : List ℕ) (s : Survey) (v : ℕ) (w w' : Lows) (f t u : ℕ) (cut : Bool) → f ≡ parent_of s v → f < length w.below
    → ((y : ℕ) → bit t y ≡ touches rows w v y) → ((y : ℕ) → bit u y ≡ (in_row w.below f y || bit t y)) → cut ≡ cuts_off_by s w.start v (bit t)
    → w'.start ≡ w.start → w'.below ≡ set w.below f u → ((x : ℕ) → bit w'.cuts x ≡ ((eqb x f && cut) || bit w.cuts x)) → Folds rows s v w w'
folds_on rows s v w w' f t u cut is low touched more test start below cuts =
    let found : cut ≡ cuts_off_by s w.start v (touches rows w v) = test ∙ ap (cuts_off_by s w.start v) (fun_ext touched) in
    record {
      start = start;
      touched = λ x y. ap (λ l. in_row rows x y || in_row l x y) below ∙ handed_touched rows w.below v f t u low touched more x y
          ∙ ap (λ k. (eqb x k && touches rows w v y) || touches rows w x y) is;
      cuts = λ x. cuts x ∙ ap (λ b. (eqb x f && b) || bit w.cuts x) found ∙ ap (λ k. (eqb x k && cuts_off_by s w.start v (touches rows w v)) || bit w.cuts x) is;
    }
