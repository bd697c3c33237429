-- The lists printed for two graphs are equal exactly when the graphs agree.
--
--   same_lists   the texts of two lists are equal only where the lists are
--   one_key      what is printed for two accepted queries is equal exactly when their graphs agree on every pair
use Rattle.std.proofs.Common.{◌≡◌, ℕ, ◌≤◌, ◌↔◌, List, ◌++◌, length, get_or, take, drop, Ok, Result, sym, refl, ap, ◌∙◌, arith, length-append}
use Rattle.std.proofs.lemmas.List.{take_at}
use Rattle.theory.specs.Graph.{Graph, joined, table_count}
use Rattle.theory.specs.declared.mark.Mark.{Mark}
use Rattle.theory.specs.declared.step.Step.{Step}
use Rattle.theory.specs.declared.step.Triangle.{Triangle}
use Rattle.assembly.specs.Build.{list_of}
use Rattle.keys.proofs.Agree.{agree, keys_agree}
use Rattle.texts.specs.ListRead.{ListTold, list_read}
use Rattle.texts.specs.ListText.{list_text, Listable}
use Rattle.texts.specs.ListWrite.{list_length}
use Rattle.texts.specs.declared.fault.TextFault.{TextFault}
use Rattle.texts.specs.declared.list.Heading.{Heading}
use Rattle.texts.proofs.Back.{list_reads_back}
use Rattle.assembler.specs.Assemble.{printed}
use Rattle.assembler.proofs.Accepted.{Accepted}

abbrev heading_of : ℕ → Triangle → List Step → Heading
heading_of n t l = record { tables = n; triangle = t; steps = length l; end = list_length l }

abbrev told_of : ℕ → Triangle → List Step → List Step → ListTold
told_of n t l records = record { told = Ok (heading_of n t l); records = l ++ drop (length l) records }

-- a text of a list reads back as that list
back : (n : ℕ) (t : Triangle) (l : List Step) (text : List ℕ) → Listable n t l → text ≡ list_text n t l → (records : List Step) → length l ≤ length records
    → list_read text 0 records ≡ told_of n t l records
back n t l text able e records room =
    list_reads_back n t l text able (λ j h. ap (λ x. get_or x j 0) (sym e) ∙ ap (λ i. get_or text i 0) (omega arith)) records room

same_heading : (h k : Heading) → ◌≡◌ {A = Result Heading TextFault} (Ok h) (Ok k) → h ≡ k
same_heading h k e = cc

pub same_lists : (n k : ℕ) (t u : Triangle) (l s : List Step) → Listable n t l → Listable k u s → list_text n t l ≡ list_text k u s → (t ≡ u) × (l ≡ s)
same_lists n k t u l s able fit e =
    let records = l ++ s in
    let long = length-append l s in
    let both : told_of n t l records ≡ told_of k u s records =
    sym (back n t l (list_text n t l) able refl records (omega (arith, long))) ∙ back k u s (list_text n t l) fit e records (omega (arith, long)) in
    let heads : heading_of n t l ≡ heading_of k u s = same_heading (heading_of n t l) (heading_of k u s) (ap (λ (x : ListTold). x.told) both) in
    let count : length l ≡ length s = ap (λ (x : Heading). x.steps) heads in
    let laid : l ++ drop (length l) records ≡ s ++ drop (length s) records = ap (λ (x : ListTold). x.records) both in (
      ap (λ (x : Heading). x.triangle) heads,
      sym (take_at l (drop (length l) records) (length l) refl) ∙ ap (take (length l)) laid ∙ take_at s (drop (length s) records) (length l) (sym count),
    )

module _ (text : List ℕ) (steps : List Step) (marks : List Mark) (m : Graph) (a : Accepted text steps marks m)
    (other : List ℕ) (steps' : List Step) (marks' : List Mark) (k : Graph) (b : Accepted other steps' marks' k) where
  pub one_key : (printed (Ok m) ≡ printed (Ok k)) ↔ ((x y : ℕ) → joined m x y ≡ joined k x y)
  one_key =
      let s = a.was.simple in
      let t = b.was.simple in (
        (λ e.
            let same = same_lists (table_count m) (table_count k) (list_of m).triangle (list_of k).triangle (list_of m).steps (list_of k).steps a.able b.able e in
            let lists : list_of m ≡ list_of k = λ i. record { triangle = same.0 i; steps = same.1 i } in
            (keys_agree m k s t a.fit b.fit).0 lists),
        (λ h. ap (λ (g : Graph). printed (Ok g)) (agree m k s t a.fit b.fit h)),
      )
