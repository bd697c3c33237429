-- What is laid over the text, where the writers say that they have written it, and where they say that it does not fit.
--
--   room_told, unroomed         what is answered where a text fits, and where it does not
--   graph_bytes                 how long a graph's text is
--   graph_count                 a graph that was written: how many bytes
--   graph_unfit                 a graph that does not fit is shown as its refusal
--   number_small, layer_small   a refusal's number and layer are small
--   refusal_lies                the line of a refusal that was written, or was not
--   refusal_near                and where its place is small it is shown so
use Rattle.std.proofs.Common.{◌≡◌, ℕ, ◌*◌, ◌≤◌, Bool, true, false, cond, ◌||◌, ltb, List, [], length, Ok, Err, Result, sym, refl, ap, ◌∙◌, arith, length-append}
use Rattle.std.specs.List.{flat_map}
use Rattle.std.proofs.lemmas.Bool.{le-ltb, ltb-false}
use Rattle.writer.specs.Laid.{laid}
use Rattle.lines.specs.Text.{line_text}
use Rattle.lines.proofs.Bytes.{line_length}
use Rattle.prints.specs.GraphText.{graph_line, join_line, text_of_graph, graph_length, graph_answer, graph_written}
use Rattle.prints.specs.Refusal.{refusal_line, refusal_written}
use Rattle.texts.specs.ListWrite.{over, room_for, laid_if}
use Rattle.texts.specs.declared.fault.TextFault.{TextFault}
use Rattle.texts.specs.declared.fault.TextFault.TheVariants.{OutOfLimits, TooFew}
use Rattle.texts.proofs.Writing.{joined_length}
use Rattle.theory.specs.Graph.{Graph, Simple, size}
use Rattle.theory.specs.Listing.{joins_of}
use Rattle.theory.proofs.Listing.{joins_listed}
use Rattle.theory.proofs.Sizes.{size_most}
use Rattle.outcomes.specs.Fault.{fault_number, fault_layer, fault_place}
use Rattle.programs.specs.Refusal.{refusal_shown}
use Rattle.programs.specs.Replay.{printed, roomed, shown}
use Rattle.outcomes.specs.declared.fault.ProgramFault.{ProgramFault}
use Rattle.outcomes.specs.declared.fault.ProgramFault.TheVariants.{Text, Replay, Query, Build, Tree, Drive}

pub graph_bytes : (m : Graph) → Simple m → length (text_of_graph m) ≡ graph_length m
graph_bytes m s =
    let one : length (line_text (graph_line m)) ≡ 17 = line_length (graph_line m) in
    let rest : length (flat_map (λ p. line_text (join_line p)) (joins_of m)) ≡ 17 * length (joins_of m) = joined_length join_line (joins_of m) in
    let many : length (joins_of m) ≡ size m = (joins_listed m s).as_many in
    length-append (line_text (graph_line m)) (flat_map (λ p. line_text (join_line p)) (joins_of m)) ∙ omega arith

-- an answer under a test that would have refused: the test has failed
unrefused : {X F : Type 0} (b : Bool) (f : F) (r : Result X F) (x : X) → Ok x ≡ cond b (Err f) r → (b ≡ false) × (Ok x ≡ r)
unrefused true f r x e = cc
unrefused false f r x e = (refl, e)

-- an answer where there is room, and one where there is none
pub room_told : (needed b n : ℕ) → Ok n ≡ room_for needed b → (n ≡ needed) × (needed ≤ b)
room_told needed b n e =
    let p = unrefused (ltb b needed) (TooFew needed) (Ok needed) n e in
    let f = p.1 in
    ((let g : n ≡ needed = cc in g), ltb-false b needed p.0)

pub unroomed : (needed b : ℕ) (f : TextFault) (c : Bool) → ltb b needed ≡ c → Err f ≡ cond c (Err (TooFew needed)) (Ok needed) → (f ≡ TooFew needed) × (ltb b needed ≡ true)
unroomed needed b f true test e = ((let g : f ≡ TooFew needed = cc in g), test)
unroomed needed b f false test e = cc

-- a graph whose text fits is shown
pub shown_graph : (m : Graph) (b : ℕ) → graph_length m ≤ b → shown b (Ok m) ≡ text_of_graph m
shown_graph m b h =
    ap (λ c. cond c [] (printed (roomed b (Ok m)))) (le-ltb b 17 (omega arith))
    ∙ ap (λ c. printed (cond c (Err (Text (TooFew (graph_length m)))) (Ok m))) (le-ltb b (graph_length m) h)

-- a refusal is shown where a line fits
pub shown_refusal : (f : ProgramFault) (b : ℕ) → 17 ≤ b → shown b (Err f) ≡ line_text (refusal_line (fault_number f) (fault_layer f) (fault_place f))
shown_refusal f b h = ap (λ c. cond c [] (printed (Err f))) (le-ltb b 17 h)

-- a refusal that names a small place is shown as it is laid
pub refusal_near : (f : ProgramFault) (b : ℕ) → fault_place f ≤ 99999 → refusal_shown b f ≡ shown b (Err f)
refusal_near f b h = ap (λ c. cond (c || ltb b 17) [] (printed (Err f))) (le-ltb 99999 (fault_place f) h)

module _ (m : Graph) (text : List ℕ) where
  module _ (n : ℕ) (told : Ok n ≡ graph_answer m (length text)) where
    fits : graph_length m ≤ length text
    fits = (room_told (graph_length m) (length text) n told).1

    pub graph_count : Simple m → n ≡ length (shown (length text) (Ok m))
    graph_count s = (room_told (graph_length m) (length text) n told).0 ∙ sym (graph_bytes m s) ∙ sym (ap length (shown_graph m (length text) fits))

  module _ (f : TextFault) (told : Err f ≡ graph_answer m (length text)) where
    pub graph_unfit : Simple m → refusal_shown (length text) (Text f) ≡ shown (length text) (Ok m)
    graph_unfit s =
        let p = unroomed (graph_length m) (length text) f (ltb (length text) (graph_length m)) refl told in
        let few : size m ≤ 2016 = size_most m s.few in
        ap (λ e. refusal_shown (length text) (Text e)) p.0
        ∙ refusal_near (Text (TooFew (graph_length m))) (length text) (omega arith)
        ∙ sym (ap (λ c. cond (ltb (length text) 17) [] (printed (cond c (Err (Text (TooFew (graph_length m)))) (Ok m)))) p.1)

    -- and nothing was written
    pub graph_kept : (after : List ℕ) → after ≡ graph_written m text → after ≡ text
    graph_kept after e = e ∙ sym (ap (λ (r : Result ℕ TextFault). laid_if r text (text_of_graph m)) told)

pub number_small : (f : ProgramFault) → fault_number f ≤ 99999
number_small (Text f) = grind arith
number_small (Replay f) = grind arith
number_small (Query f) = grind arith
number_small (Build f) = grind arith
number_small (Tree f) = grind arith
number_small (Drive f) = grind arith

pub layer_small : (f : ProgramFault) → fault_layer f ≤ 99999
layer_small (Text f) = omega arith
layer_small (Replay f) = grind arith
layer_small (Query f) = grind arith
layer_small (Build f) = omega arith
layer_small (Tree f) = omega arith
layer_small (Drive f) = omega arith

-- the line that is written, the numbers as they were passed on
laid_by : (text line : List ℕ) (c d : Bool) → laid_if {X = ℕ} (cond c (Err (OutOfLimits 0)) (cond d (Err (TooFew 17)) (Ok 17))) text line ≡ laid text 0 (cond (c || d) [] line)
laid_by text line true d = refl
laid_by text line false true = refl
laid_by text line false false = refl

over_by : (n l : ℕ) (c : Bool) → n ≤ 99999 → l ≤ 99999 → (over n || (over l || c)) ≡ c
over_by n l c h k = ap (λ b. b || (over l || c)) (le-ltb 99999 n h) ∙ ap (λ b. b || c) (le-ltb 99999 l k)

pub refusal_lies : (f : ProgramFault) (text : List ℕ) (r l p : ℕ) → r ≡ fault_number f → l ≡ fault_layer f → p ≡ fault_place f
    → refusal_written r l p text ≡ laid text 0 (refusal_shown (length text) f)
refusal_lies f text r l p is-r is-l is-p =
    let line = line_text (refusal_line (fault_number f) (fault_layer f) (fault_place f)) in
    rw (is-r, is-l, is-p)
    (ap (λ c. laid_if (cond c (Err (OutOfLimits 0)) (room_for 17 (length text))) text line) (over_by (fault_number f) (fault_layer f) (over (fault_place f)) (number_small f) (layer_small f))
    ∙ laid_by text line (over (fault_place f)) (ltb (length text) 17))
