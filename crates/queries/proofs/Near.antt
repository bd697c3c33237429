-- No place or amount that a query's refusal names is far beyond the text.
use Rattle.std.proofs.Common.{◌≡◌, ℕ, ◌+◌, ◌-◌, ◌≤◌, false, ◌⊎◌, List, length, IfErr, Ok, Err, Result, inl, inr, arith}
use Rattle.std.proofs.lemmas.Bool.Decides.{nat_tests}
use Rattle.theory.specs.Graph.{Graph}
use Rattle.theory.specs.declared.mark.Mark.{Mark}
use Rattle.catalogue.specs.declared.catalogue.RowRecord.{RowRecord}
use Rattle.texts.specs.declared.fault.TextFault.TheVariants.{BadForm, Misplaced, OutOfLimits, TooFew}
use Rattle.rejections.specs.Fault.{query_place}
use Rattle.rejections.specs.declared.fault.QueryFault.{QueryFault}
use Rattle.rejections.specs.declared.fault.QueryFault.TheVariants.{Text, Join, Row}
use Rattle.queries.specs.QueryRead.{outside_limits}
use Rattle.queries.specs.QueryLaw.{HeadAmiss, HeadRefused, Amiss, LineRefused, QueryRefused}
use Rattle.queries.specs.declared.query.QueryHead.{QueryHead}
use Rattle.queries.proofs.Whole.{begun_inside}

few_marks : (n m : ℕ) → outside_limits n m ≡ false → n - 1 ≤ 63
few_marks n m q = grind (arith, nat_tests)

head_near : (text : List ℕ) (at room : ℕ) (f : QueryFault) → HeadAmiss text at room f → query_place f ≤ at + 63
head_near text at room (Text (BadForm p)) h = let is = h.is_place in omega (arith, h.short)
head_near text at room (Text (Misplaced p)) h = let is = h.0 in omega arith
head_near text at room (Text (OutOfLimits p)) h = let is = h.0 in omega arith
head_near text at room (Text (TooFew k)) h = let is = h.4 in omega (arith, few_marks h.0 h.1 h.3)
head_near text at room (Join p f) h = absurd h
head_near text at room (Row p f) h = absurd h

line_near : (text : List ℕ) (p n m : ℕ) (js : List (ℕ × ℕ)) (k r : ℕ) (f : QueryFault) → Amiss text p n m js k r f → query_place f ≤ p + 16
line_near text p n m js k r (Text (BadForm q)) h = let is = h.0.is_place in omega (arith, h.0.short)
line_near text p n m js k r (Text (Misplaced q)) h = let is = h.0 in omega arith
line_near text p n m js k r (Text (OutOfLimits q)) h = absurd h
line_near text p n m js k r (Text (TooFew q)) h = absurd h
line_near text p n m js k r (Join q f) h = let is = h.0 in omega arith
line_near text p n m js k r (Row q f) h = let is = h.0 in omega arith

module _ (text : List ℕ) (at : ℕ) (l : List Mark) (rows : List RowRecord) (g : Graph) (ms : List Mark) (rs : List RowRecord) where
  by_refusal : (f : QueryFault) → HeadRefused text at l rows f g ms rs ⊎ LineRefused text at l rows f g ms rs → query_place f ≤ at + length text + 63
  by_refusal f (inl h) = omega (arith, head_near text at (length l) f h.amiss)
  by_refusal f (inr h) = omega (arith, line_near text _ h.tables h.joins h.js _ _ f h.amiss, begun_inside text at h.begun)

  pub near_query : (r : Result QueryHead QueryFault) → QueryRefused text at l rows r g ms rs → IfErr r (λ f. query_place f ≤ at + length text + 63)
  near_query (Ok h) p = tt
  near_query (Err f) p = by_refusal f p
