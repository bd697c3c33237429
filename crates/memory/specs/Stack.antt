-- What a stack over lent slots does to them, for records of any kind. `k` is how many records it holds.
--
--   slots_of s              the slots of the stack s, with what was put in and what the lender left there
--   height_of s             how many records it holds
--   lender_of s             the name of the loan: stacks of one name are over the same lent slots
--   has_room slots k        there is a free slot
--   push_answer slots k x   x given back where there is none
--   slots_after slots k x   the slots after x was put on top: the k-th is written where there is room, and no other
--   height_after slots k    how many records it holds then
--   top_of slots k          the record on top, or none
--   record_at slots k       the record in the k-th slot, or none past the end
--   held slots k            the records that it holds, the one on top last
use Rattle.std.specs.Prelude.{ℕ, ◌+◌, ◌-◌, Bool, cond, List, length, take, None, Ok, Err, Option, Result, ◌==◌, nat_lt, slice_get, slice_set}
use Rattle.memory.specs.declared.stack.Stack.{Stack}

abbrev pub slots_of : {T : Type 0} → Stack T → List T
slots_of s = s.slots.now

abbrev pub height_of : {T : Type 0} → Stack T → ℕ
height_of s = s.len

abbrev pub lender_of : {T : Type 0} → Stack T → ℕ
lender_of s = s.slots.ghost_name

abbrev pub has_room : {T : Type 0} → List T → ℕ → Bool
has_room slots k = nat_lt k (length slots)

abbrev pub push_answer : {T : Type 0} → List T → ℕ → T → Result Unit T
push_answer slots k x = cond (has_room slots k) (Ok tt) (Err x)

abbrev pub slots_after : {T : Type 0} → List T → ℕ → T → List T
slots_after slots k x = cond (has_room slots k) (slice_set slots k x) slots

abbrev pub height_after : {T : Type 0} → List T → ℕ → ℕ
height_after slots k = cond (has_room slots k) (k + 1) k

abbrev pub record_at : {T : Type 0} → List T → ℕ → Option T
record_at slots k = slice_get slots k

abbrev pub top_of : {T : Type 0} → List T → ℕ → Option T
top_of slots k = cond (k == 0) None (record_at slots (k - 1))

abbrev pub held : {T : Type 0} → List T → ℕ → List T
held slots k = take k slots
