-- A whole text written, or refused for want of room.
--
--   room_yes, room_no             as many bytes as are needed are lent, or fewer
--   graph_laid                    the G line and the lines of all rows, laid one after another, are the whole text of a graph
--   graph_few, graph_kept         a graph refused: the answer, and the bytes lent, which stay as they were
--   graph_enough, graph_full      a graph written: the answer, and the bytes lent afterwards
--   refusal_fits, refusal_full    the line of a refusal written: the answer, and the bytes lent afterwards
use Rattle.std.proofs.Common.{◌≡◌, ℕ, ◌+◌, ◌*◌, ◌<◌, ◌≤◌, false, ◌||◌, ltb, List, ◌++◌, length, Ok, Err, Result, sym, ap, ◌∙◌, ap₂, arith}
use Rattle.std.proofs.lemmas.Bool.{lt-ltb, le-ltb, cond-true, cond-false}
use Rattle.lines.specs.Text.{line_text}
use Rattle.lines.specs.declared.line.Fields.TheVariants.{FirstTwo}
use Rattle.lines.proofs.Bytes.{line_length}
use Rattle.writer.specs.Laid.{laid, laid_line, line_of}
use Rattle.writer.proofs.Lays.{laid_two}
use Rattle.theory.specs.Graph.{Graph, table_count, size}
use Rattle.texts.specs.ListWrite.{over, room_for, laid_if}
use Rattle.texts.specs.declared.fault.TextFault.{TextFault}
use Rattle.texts.specs.declared.fault.TextFault.TheVariants.{OutOfLimits, TooFew}
use Rattle.texts.proofs.Writing.{laid_room}
use Rattle.prints.specs.GraphText.{join_lines, graph_line, text_of_graph, graph_answer, graph_written}
use Rattle.prints.specs.Refusal.{refusal_line, refusal_answer, refusal_written}
use Rattle.prints.proofs.Rows.{rest_rows, all_rows}

-- as many bytes as are needed are lent
pub room_yes : (needed b : ℕ) → needed ≤ b → room_for needed b ≡ Ok needed
room_yes needed b h = cond-false (ltb b needed) (Err (TooFew needed)) (Ok needed) (le-ltb b needed h)

-- fewer bytes than are needed are lent
pub room_no : (needed b : ℕ) → b < needed → room_for needed b ≡ Err (TooFew needed)
room_no needed b h = cond-true (ltb b needed) (Err (TooFew needed)) (Ok needed) (lt-ltb b needed h)

-- ---- a graph

-- the G line and the lines of all rows are the whole text
pub graph_laid : (m : Graph) (out : List ℕ) → 17 ≤ length out → laid (laid_line out 0 (graph_line m)) 17 (join_lines (rest_rows m 0)) ≡ laid out 0 (text_of_graph m)
graph_laid m out h =
    let long : length (line_text (graph_line m)) ≡ 17 = line_length (graph_line m) in
    ap (λ o. laid o 17 (join_lines (rest_rows m 0))) (laid_room out 0 (graph_line m) h)
    ∙ laid_two out 0 17 (line_text (graph_line m)) (join_lines (rest_rows m 0)) (omega arith)
    ∙ ap (λ l. laid out 0 (line_text (graph_line m) ++ join_lines l)) (all_rows m)

-- n is the number of joins
module _ (m : Graph) (n : ℕ) (counted : n ≡ size m) (out : List ℕ) where
  -- fewer bytes than are needed are lent: that is the answer
  pub graph_few : length out < 17 + 17 * n → graph_answer m (length out) ≡ Err (TooFew (17 + 17 * n))
  graph_few h = ap (λ k. room_for (17 + 17 * k) (length out)) (sym counted) ∙ room_no (17 + 17 * n) (length out) h

  -- and nothing is written
  pub graph_kept : length out < 17 + 17 * n → out ≡ graph_written m out
  graph_kept h = sym (ap (λ (r : Result ℕ TextFault). laid_if r out (text_of_graph m)) (graph_few h))

  -- enough bytes are lent: the answer is how many are written
  pub graph_enough : 17 + 17 * n ≤ length out → graph_answer m (length out) ≡ Ok (17 + 17 * n)
  graph_enough h = ap (λ k. room_for (17 + 17 * k) (length out)) (sym counted) ∙ room_yes (17 + 17 * n) (length out) h

  -- a G line of the tables and joins, and then the lines of all rows, are what is written
  pub graph_full : (t : ℕ) (one after : List ℕ) → t ≡ table_count m → 17 + 17 * n ≤ length out → one ≡ laid_line out 0 (line_of 71 (FirstTwo t n)) → after ≡ laid one 17 (join_lines (rest_rows m 0))
      → after ≡ graph_written m out
  graph_full t one after tables h headed rowed =
      let line : line_of 71 (FirstTwo t n) ≡ graph_line m = ap₂ (λ a b. line_of 71 (FirstTwo a b)) tables counted in
      rowed
      ∙ ap (λ o. laid o 17 (join_lines (rest_rows m 0))) (headed ∙ ap (laid_line out 0) line)
      ∙ graph_laid m out (omega arith)
      ∙ sym (ap (λ (r : Result ℕ TextFault). laid_if r out (text_of_graph m)) (graph_enough h))

-- ---- the line of a refusal

module _ (r l p : ℕ) (out : List ℕ) (hr : r ≤ 99999) (hl : l ≤ 99999) (hp : p ≤ 99999) (room : 17 ≤ length out) where
  -- no number is too large
  none_over : (over r || (over l || over p)) ≡ false
  none_over = ap₂ ◌||◌ (le-ltb 99999 r hr) (ap₂ ◌||◌ (le-ltb 99999 l hl) (le-ltb 99999 p hp))

  -- the answer is how many bytes are written
  pub refusal_fits : refusal_answer r l p (length out) ≡ Ok 17
  refusal_fits = cond-false (over r || (over l || over p)) (Err (OutOfLimits 0)) (room_for 17 (length out)) none_over ∙ room_yes 17 (length out) room

  -- the line is what is written
  pub refusal_full : laid_line out 0 (refusal_line r l p) ≡ refusal_written r l p out
  refusal_full =
      laid_room out 0 (refusal_line r l p) room
      ∙ sym (ap (λ (a : Result ℕ TextFault). laid_if a out (line_text (refusal_line r l p))) refusal_fits)
