-- One move of the search: what the state stands for before and after.
--
--   discover_stands, discover_less    after a table was discovered
--   turn_on, turn_back                after the lowest undiscovered neighbour was discovered, and after a table was left
--   start_stands, start_seen          at the start
--   no_moves                          after no turn
--   turned                            one turn more
--   ended_stands                      a search that has ended stays where it is
use Rattle.std.proofs.Common.{◌≡◌, ℕ, zero, suc, ◌+◌, ◌-◌, ◌<◌, ◌≤◌, Bool, true, false, cond, not, ◌&&◌, ◌||◌, eqb, ltb, List, [], ◌∷◌, ◌++◌, length, Some, None, sym, refl, ap, ◌∙◌, subst, ap₂, arith}
use Rattle.std.proofs.lemmas.Bool.Decides.{nat_tests}
use Rattle.theory.specs.Graph.{Lowest, Next}
use Rattle.disassembly.specs.Disassembly.{reversed}
use Rattle.disassembly.specs.Search.{has, fresh, Place, move, moved, moves, at_start, searched}
use Rattle.disassembly.proofs.Visits.{fresh_true}
use Rattle.disassembly.proofs.Searches.{moved_some, moved_none, moves_last, moved_stay}
use Rattle.memory.specs.Stack.{top_of, held}
use Rattle.sets.specs.Set.{bit, bits_set}
use Rattle.sets.proofs.Bit.{zero_bit}
use Rattle.traversal.specs.Discoveries.{parent_in, number_in, earlier_in}
use Rattle.sets.specs.Rows.{in_row}
use Rattle.traversal.specs.Standing.{before, to_discover, Discovers, Leaves, way_of, Starts, Stands, Standing, Below64}
use Rattle.traversal.specs.declared.survey.Survey.{Survey}
use Rattle.traversal.specs.declared.walk.Walk.{Walk}
use Rattle.traversal.specs.declared.discovery.Discovery.{Discovery}
use Rattle.traversal.proofs.Sets.{taken_fewer}
use Rattle.traversal.proofs.Stacks.{parent_set, number_set, earlier_set, none_found, on_top, none_held}

pick_bit : (c : Bool) (a b y : ℕ) (l m : List ℕ) → bit a y ≡ has l y → bit b y ≡ has m y → bit (cond c a b) y ≡ has (cond c l m) y
pick_bit true a b y l m h k = h
pick_bit false a b y l m h k = k

still_fresh : (e U h b : Bool) → b ≡ (U && not h) → (not e && b) ≡ (U && not (e || h))
still_fresh e U h b q = grind (arith, nat_tests)

is_fresh : (U h b : Bool) → b ≡ (U && not h) → U ≡ true → h ≡ false → b ≡ true
is_fresh U h b q k l = grind (arith, nat_tests)

-- a table below 64 put into a set
put_in : (x u : ℕ) → u < 64 → (a b h : Bool) → a ≡ ((eqb x u && ltb x 64) || b) → b ≡ h → a ≡ (eqb x u || h)
put_in x u low a b h k m = grind (arith, nat_tests)

-- ---- discovering

module _ (s s' : Survey) (u : ℕ) (how : Discovery) (d : Discovers s u how s') (low : u < 64) (held : bit s.unreached u ≡ true) where
  discover_stands : (U : ℕ → Bool) (p : Place) → Stands U p s → length s.found ≡ 64 → (st : List ℕ) → how.number ≡ length p.seen
      → ((x : ℕ) → bit how.earlier x ≡ has p.seen x) → Stands U (move (Some u) how.parent st p) s'
  discover_stands U p q long st number earlier =
      let at : u < length s.found = omega arith in
      record {
        parents = λ x. ap (λ l. parent_in l x) d.found ∙ parent_set s.found u how x at ∙ ap (cond (eqb x u) how.parent) (q.parents x);
        numbers = λ x. ap (λ l. number_in l x) d.found ∙ number_set s.found u how x at ∙ ap₂ (cond (eqb x u)) number (q.numbers x);
        earlier = λ x y. ap (λ l. bit (earlier_in l x) y) d.found ∙ ap (λ v. bit v y) (earlier_set s.found u how x at)
            ∙ pick_bit (eqb x u) how.earlier (earlier_in s.found x) y p.seen (before p.seen x) (earlier y) (q.earlier x y);
        left = d.left ∙ q.left;
        unreached = λ x. d.unreached x ∙ still_fresh (eqb x u) (U x) (has p.seen x) (bit s.unreached x) (q.unreached x);
      }

  -- one table less to discover
  pub discover_less : bits_set s.unreached ≡ bits_set s'.unreached + 1
  discover_less = taken_fewer s.unreached s'.unreached u low held d.unreached

-- ---- the move on, and back

module _ (U : ℕ → Bool) (rows : List ℕ) (few : Below64 U) (p : Place) (w : Walk) (t : ℕ) (q : Standing U p w) (top : top_of w.path.slots.now w.path.len ≡ Some t) where
  abbrev s : Survey
  s = w.survey

  on : (r : List ℕ) × (p.stack ≡ t ∷ r) × (held w.path.slots.now (w.path.len - 1) ≡ reversed r)
  on = on_top w.path.slots.now w.path.len p.stack t w.path.fits q.path top

  both_fresh : (j u h b : Bool) → b ≡ (u && not h) → (j && b) ≡ ((j && u) && not h)
  both_fresh j u h b e = grind (arith, nat_tests)

  -- the candidates are the undiscovered neighbours
  candidates_are : (y : ℕ) → to_discover rows s t y ≡ fresh U (in_row rows) p.seen t y
  candidates_are y = both_fresh (in_row rows t y) (U y) (has p.seen y) (bit s.unreached y) (q.stands.unreached y)

  pub turn_on : (u : ℕ) → Lowest (to_discover rows s t) 0 u → length s.found ≡ 64
      → (w' : Walk) → Discovers s u (record { parent = t; number = w.next; earlier = w.seen }) w'.survey → way_of w' ≡ way_of w ++ (u ∷ [])
      → w'.next ≡ w.next + 1 → ((x : ℕ) → bit w'.seen x ≡ ((eqb x u && ltb x 64) || bit w.seen x)) → Standing U (moved U (in_row rows) p) w'
  turn_on u lowest long w' d more next seen =
      let free : Lowest (fresh U (in_row rows) p.seen t) 0 u = record {
        holds = sym (candidates_are u) ∙ lowest.holds;
        above = lowest.above;
        none = λ j a b. sym (candidates_are j) ∙ lowest.none j a b;
      } in
      let parts = fresh_true U (in_row rows) p.seen t u free.holds in
      subst (λ (g : Place). Standing U g w') (sym (moved_some U (in_row rows) few p t u on.0 on.1 free))
      (record {
        stands = discover_stands s w'.survey u (record { parent = t; number = w.next; earlier = w.seen }) d (few u parts.1)
            (is_fresh (U u) (has p.seen u) (bit s.unreached u) (q.stands.unreached u) parts.1 parts.2) U p q.stands long on.0 q.next q.seen;
        next = omega (arith, q.next);
        seen = λ x. put_in x u (few u parts.1) (bit w'.seen x) (bit w.seen x) (has p.seen x) (seen x) (q.seen x);
        path = more ∙ ap (λ (l : List ℕ). l ++ (u ∷ [])) (q.path ∙ ap reversed on.1);
      })

  pub turn_back : Next (to_discover rows s t) 0 None
      → (w' : Walk) → Leaves s t w'.survey → way_of w' ≡ held w.path.slots.now (w.path.len - 1) → w'.next ≡ w.next → w'.seen ≡ w.seen
      → Standing U (moved U (in_row rows) p) w'
  turn_back none w' l less next seen =
      subst (λ (g : Place). Standing U g w')
      (sym (moved_none U (in_row rows) few p t on.0 on.1 (λ y. sym (candidates_are y) ∙ none y (omega arith))))
      (record {
        stands = record {
          parents = λ x. ap (λ f. parent_in f x) l.found ∙ q.stands.parents x;
          numbers = λ x. ap (λ f. number_in f x) l.found ∙ q.stands.numbers x;
          earlier = λ x y. ap (λ f. bit (earlier_in f x) y) l.found ∙ q.stands.earlier x y;
          left = l.left ∙ ap (λ (m : List ℕ). m ++ (t ∷ [])) q.stands.left;
          unreached = λ x. ap (λ v. bit v x) l.unreached ∙ q.stands.unreached x;
        };
        path = less ∙ on.2;
        next = next ∙ q.next;
        seen = λ x. ap (λ v. bit v x) seen ∙ q.seen x;
      })

-- ---- the start

one_nought : (c : Bool) → cond {A = ℕ} c 0 0 ≡ 0
one_nought true = refl
one_nought false = refl

has_none : (c : Bool) (y : ℕ) → has (cond c [] []) y ≡ false
has_none true y = refl
has_none false y = refl

start_fresh : (e t : Bool) → (not e && t) ≡ (t && not (e || false))
start_fresh e t = grind (arith, nat_tests)

module _ (tables r : ℕ) (small : r < 64) where
  pub start_stands : (s : Survey) → Starts tables r s → Stands (bit tables) (at_start r) s
  start_stands s b = record {
    parents = λ x. ap (λ f. parent_in f x) b.found ∙ ap (λ (d : Discovery). d.parent) (none_found 64 x);
    numbers = λ x. ap (λ f. number_in f x) b.found ∙ ap (λ (d : Discovery). d.number) (none_found 64 x) ∙ sym (one_nought (eqb x r));
    earlier = λ x y. ap (λ f. bit (earlier_in f x) y) b.found ∙ ap (λ (d : Discovery). bit d.earlier y) (none_found 64 x) ∙ zero_bit y ∙ sym (has_none (eqb x r) y);
    left = b.left;
    unreached = λ x. b.unreached x ∙ start_fresh (eqb x r) (bit tables x);
  }

  pub start_seen : (m none : ℕ) → none ≡ 0 → ((x : ℕ) → bit m x ≡ ((eqb x r && ltb x 64) || bit none x)) → (x : ℕ) → bit m x ≡ has (r ∷ []) x
  start_seen m none nought with x = put_in x r small (bit m x) (bit none x) false (with x) (ap (λ v. bit v x) nought ∙ zero_bit x)

pub no_moves : (U : ℕ → Bool) (J : ℕ → ℕ → Bool) (p : Place) (w : Walk) → Standing U p w → Standing U (moves 0 U J p) w
unfolding moves
no_moves U J p w q = q

-- ---- the end

module _ (U : ℕ → Bool) (J : ℕ → ℕ → Bool) (p : Place) (i : ℕ) (stop : (moves i U J p).stack ≡ []) where
  stays : (d n : ℕ) → n ≡ i + d → moves n U J p ≡ moves i U J p
  stays zero n e = let e' : n ≡ i = omega arith in ap (λ k. moves k U J p) e'
  stays (suc d) n e =
      let e' : n ≡ suc (i + d) = omega arith in
      let ih : moves (i + d) U J p ≡ moves i U J p = stays d (i + d) refl in
      ap (λ k. moves k U J p) e' ∙ moves_last (i + d) U J p ∙ ap (moved U J) ih ∙ moved_stay U J (moves i U J p) stop

  -- a search that has ended stays where it is
  pub ended_stays : (n : ℕ) → i ≤ n → moves n U J p ≡ moves i U J p
  ended_stays n h = stays (n - i) n (omega arith)

pub ended_stands : (U : ℕ → Bool) (J : ℕ → ℕ → Bool) (r i : ℕ) (w : Walk) → i ≤ 128 → w.path.len ≡ 0 → Standing U (moves i U J (at_start r)) w → Stands U (searched U J r) w.survey
ended_stands U J r i w h none q =
    let stop : (moves i U J (at_start r)).stack ≡ [] = none_held w.path.slots.now w.path.len (moves i U J (at_start r)).stack none q.path in
    subst (λ (g : Place). Stands U g w.survey) (sym (ended_stays U J (at_start r) i stop 128 h)) q.stands

pub turned : (U : ℕ → Bool) (J : ℕ → ℕ → Bool) (r i : ℕ) (w : Walk) → Standing U (moved U J (moves i U J (at_start r))) w → Standing U (moves (i + 1) U J (at_start r)) w
turned U J r i w q =
    let up : i + 1 ≡ suc i = omega arith in
    subst (λ (g : Place). Standing U g w) (sym (ap (λ j. moves j U J (at_start r)) up ∙ moves_last i U J (at_start r))) q
