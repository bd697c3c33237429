-- Walks: how they are put together, and connected sets of tables.
--
--   join_walks, bind, turned, one, stays   walks from walks
--   walk_in                                 a set that each step stays in is not left by a walk
--   LeadsIn, Linked, Biconnected            steps within a set, connected sets, and sets that stay connected without any one table
--   linked_like                             connected sets with the same tables
--   connected_linked, linked_connected      the two ways to say connected
--   without_true, true_without              the tables other than x
use Rattle.std.proofs.Common.{◌≡◌, ℕ, Bool, true, ◌∙◌, subst, arith}
use Rattle.std.proofs.lemmas.Bool.Decides.{nat_tests}
use Rattle.disassembly.specs.Walks.{Walk, here, on, Leads, Connected, without, SimpleOn}
use Rattle.disassembly.specs.Tree.{Less}

pub join_walks : {R : ℕ → ℕ → Type 0} {a b c : ℕ} → Walk R a b → Walk R b c → Walk R a c
join_walks here q = q
join_walks (on r p) q = on r (join_walks p q)

-- each step of R is a walk of Q
pub bind : {R Q : ℕ → ℕ → Type 0} {a b : ℕ} → ((c d : ℕ) → R c d → Walk Q c d) → Walk R a b → Walk Q a b
bind f here = here
bind f (on {a = c} {b = d} r p) = join_walks (f c d r) (bind f p)

pub turned : {R : ℕ → ℕ → Type 0} {a b : ℕ} → ((c d : ℕ) → R c d → R d c) → Walk R a b → Walk R b a
turned f here = here
turned f (on {a = c} {b = d} r p) = join_walks (turned f p) (on (f c d r) here)

pub one : {R : ℕ → ℕ → Type 0} {a b : ℕ} → R a b → Walk R a b
one r = on r here

pub stays : {R : ℕ → ℕ → Type 0} {a b : ℕ} → a ≡ b → Walk R a b
stays {R} {a} {b} e = subst (λ c. Walk R a c) e here

pub walk_in : {R : ℕ → ℕ → Type 0} (P : ℕ → Type 0) → ((c d : ℕ) → R c d → P c → P d) → {a b : ℕ} → Walk R a b → P a → P b
walk_in P f here h = h
walk_in P f (on {a = c} {b = d} r w) h = walk_in P f w (f c d r h)

-- ---- sets of tables

abbrev pub LeadsIn : (ℕ → Type 0) → (ℕ → ℕ → Type 0) → ℕ → ℕ → Type 0
LeadsIn P R a b = R a b × P a × P b

abbrev pub Linked : (ℕ → Type 0) → (ℕ → ℕ → Type 0) → Type 0
Linked P R = (a b : ℕ) → P a → P b → Walk (LeadsIn P R) a b

-- connected without any one table; an x outside P says that P is connected
abbrev pub Biconnected : (ℕ → Type 0) → (ℕ → ℕ → Type 0) → Type 0
Biconnected P R = (x : ℕ) → Linked (Less P x) R

pub linked_like : {P Q : ℕ → Type 0} {R : ℕ → ℕ → Type 0} → ((a : ℕ) → P a → Q a) → ((a : ℕ) → Q a → P a) → Linked P R → Linked Q R
linked_like to back c a b pa pb = bind (λ x y l. one (l.0, to x l.1, to y l.2)) (c a b (back a pa) (back b pb))

pub without_true : (x : ℕ) (U : ℕ → Bool) (a : ℕ) → without x U a ≡ true → (U a ≡ true) × (a ≡ x → ⊥)
without_true x U a h = grind (arith, nat_tests)

pub true_without : (x : ℕ) (U : ℕ → Bool) (a : ℕ) → U a ≡ true → (a ≡ x → ⊥) → without x U a ≡ true
true_without x U a h n = grind (arith, nat_tests)

pub linked_connected : (U : ℕ → Bool) (J : ℕ → ℕ → Bool) (x : ℕ) → Linked (Less (λ a. U a ≡ true) x) (λ a b. J a b ≡ true) → Connected (without x U) J
linked_connected U J x = linked_like (λ a p. true_without x U a p.0 p.1) (λ a p. without_true x U a p)

pub connected_linked : (U : ℕ → Bool) (J : ℕ → ℕ → Bool) (x : ℕ) → Connected (without x U) J → Linked (Less (λ a. U a ≡ true) x) (λ a b. J a b ≡ true)
connected_linked U J x = linked_like (λ a p. without_true x U a p) (λ a p. true_without x U a p.0 p.1)

-- steps along the joins of a simple graph go both ways
pub leads_turned : (U : ℕ → Bool) (J : ℕ → ℕ → Bool) → SimpleOn U J → (V : ℕ → Bool) (c d : ℕ) → Leads V J c d → Leads V J d c
leads_turned U J s V c d l = (s.symmetric d c ∙ l.0, l.2, l.1)
