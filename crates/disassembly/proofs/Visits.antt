-- The rising search is a depth-first search, and leaves a table for good after all of its children.
--
--   fresh_true, fresh_shut, fresh_is        undiscovered neighbours
--   visit_search                            what it discovers is discovered by a depth-first search
--   visit_in                                all of it are tables of U
--   Orderly, Kept, kept                     what holds of its stack and of the tables that it has left
--   visit_shut                              at the end each neighbour of a discovered table is discovered
--   visit_left                              at the end the tables left are those discovered
--   visit_last                              the root is left last
--   visit_change                            only the parents of discovered tables matter
--   visit_hops, visit_links                 a walk of joins from the root ends at a discovered table, and each has one
use Rattle.std.proofs.Common.{◌≡◌, ℕ, ◌<◌, Bool, true, false, ◌⊎◌, List, [], ◌∷◌, sym, refl, ap, ◌∙◌, inl, inr, ⊎_elim, arith}
use Rattle.std.proofs.lemmas.Bool.{both_ways, false≢true}
use Rattle.disassembly.specs.Walks.{Reaches, SimpleOn}
use Rattle.disassembly.specs.Search.{has, fresh, discovery, Visit, begin, discover, leave}
use Rattle.disassembly.specs.Depth.{Recent, top, below, Search, start, find}
use Rattle.disassembly.specs.Tree.{Over, self, up}
use Rattle.disassembly.proofs.Walks.{walk_in, bind, one}
use Rattle.disassembly.proofs.Members.{has_cases, has_more, has_head, absent, Distinct}
use Rattle.disassembly.proofs.Trees.{over_rank}
use Rattle.disassembly.proofs.Depth.{search_climbs, search_rises, search_root, search_walk}

-- ---- undiscovered neighbours

pub fresh_true : (U : ℕ → Bool) (J : ℕ → ℕ → Bool) (seen : List ℕ) (t y : ℕ) → fresh U J seen t y ≡ true → (J t y ≡ true) × (U y ≡ true) × (has seen y ≡ false)
fresh_true U J seen t y h = grind arith

pub fresh_is : (U : ℕ → Bool) (J : ℕ → ℕ → Bool) (seen : List ℕ) (t y : ℕ) → J t y ≡ true → U y ≡ true → has seen y ≡ false → fresh U J seen t y ≡ true
fresh_is U J seen t y j u n = grind arith

pub fresh_shut : (U : ℕ → Bool) (J : ℕ → ℕ → Bool) (seen : List ℕ) (t y : ℕ) → fresh U J seen t y ≡ false → J t y ≡ true → U y ≡ true → has seen y ≡ true
fresh_shut U J seen t y h j u = grind arith

module _ (U : ℕ → Bool) (J : ℕ → ℕ → Bool) (r : ℕ) where
  -- a search knows the parents of what it has discovered alone
  pub visit_change : (f g : ℕ → ℕ) {stack seen left : List ℕ} → Visit U J f r stack seen left → ((x : ℕ) → has seen x ≡ true → g x ≡ f x)
      → Visit U J g r stack seen left
  visit_change f g begin h = begin
  visit_change f g (discover {u = u} {seen = D} v low e) h = discover (visit_change f g v (λ x k. h x (has_more u D x k))) low (h u (has_head u D) ∙ e)
  visit_change f g (leave v c) h = leave (visit_change f g v h) c

module _ (U : ℕ → Bool) (J : ℕ → ℕ → Bool) (f : ℕ → ℕ) (r : ℕ) (simple : SimpleOn U J) where
  -- ---- a depth-first search

  abbrev pub Shut : List ℕ → ℕ → Type 0
  Shut all x = (y : ℕ) → J x y ≡ true → has all y ≡ true

  shut_from : (D : List ℕ) (t : ℕ) → ((y : ℕ) → fresh U J D t y ≡ false) → Shut D t
  shut_from D t c y j = fresh_shut U J D t y (c y) j (simple.within y t (simple.symmetric y t ∙ j))

  -- the stack stands in the discovered list in its order, and the others have no neighbour to discover
  data Sub (all : List ℕ) : List ℕ → List ℕ → Type 0 where
    none : Sub all [] []
    keep : {x : ℕ} {st D : List ℕ} → Sub all st D → Sub all (x ∷ st) (x ∷ D)
    skip : {x : ℕ} {st D : List ℕ} → Shut all x → Sub all st D → Sub all st (x ∷ D)

  sub_more : {all all' st D : List ℕ} → ((y : ℕ) → has all y ≡ true → has all' y ≡ true) → Sub all st D → Sub all' st D
  sub_more g none = none
  sub_more g (keep s) = keep (sub_more g s)
  sub_more g (skip c s) = skip (λ y j. g y (c y j)) (sub_more g s)

  sub_recent : {all : List ℕ} {t : ℕ} {st D : List ℕ} → Sub all (t ∷ st) D → Recent J all t D
  sub_recent (keep s) = top
  sub_recent (skip c s) = below c (sub_recent s)

  sub_pop : {all : List ℕ} {t : ℕ} {st D : List ℕ} → Shut all t → Sub all (t ∷ st) D → Sub all st D
  sub_pop c (keep s) = skip c s
  sub_pop c (skip d s) = skip d (sub_pop c s)

  visit_sub : {st D L : List ℕ} → Visit U J f r st D L → Sub D st D
  visit_sub begin = keep none
  visit_sub (discover {u = u} {seen = D} v low e) = keep (sub_more (has_more u D) (visit_sub v))
  visit_sub (leave {t = t} {seen = D} v c) = sub_pop (shut_from D t c) (visit_sub v)

  pub visit_search : {stack seen left : List ℕ} → Visit U J f r stack seen left → Search J f r seen
  visit_search begin = start
  visit_search (discover {t = t} {u = u} {seen = D} v low e) =
      let q = fresh_true U J D t u low.holds in
      find (visit_search v) q.2 (rw e q.0) (rw e (sub_recent (visit_sub v)))
  visit_search (leave v c) = visit_search v

  pub visit_in : {stack seen left : List ℕ} → U r ≡ true → Visit U J f r stack seen left → (x : ℕ) → has seen x ≡ true → U x ≡ true
  visit_in ur begin x h = ⊎_elim (λ e. rw e ur) (λ k. absurd (false≢true k)) (has_cases r [] x h)
  visit_in ur (discover {t = t} {u = u} {seen = D} v low e) x h = ⊎_elim (λ q. rw q (fresh_true U J D t u low.holds).1) (λ k. visit_in ur v x k) (has_cases u D x h)
  visit_in ur (leave v c) x h = visit_in ur v x h

  -- ---- the order of leaving

  -- the stack is a line of parents down from the root
  data Chain : List ℕ → Type 0 where
    empty : Chain []
    base : Chain (r ∷ [])
    link : {x y : ℕ} {st : List ℕ} → (x ≡ r → ⊥) → f x ≡ y → Chain (y ∷ st) → Chain (x ∷ y ∷ st)

  chain_pop : {t : ℕ} {st : List ℕ} → Chain (t ∷ st) → Chain st
  chain_pop base = empty
  chain_pop (link _ _ c) = c

  chain_over : {t : ℕ} {st : List ℕ} → Chain (t ∷ st) → (w : ℕ) → has (t ∷ st) w ≡ true → Over f r w t
  chain_over base w h = ⊎_elim (λ e. rw e self) (λ k. absurd (false≢true k)) (has_cases r [] w h)
  chain_over (link {x = x} {y = y} {st = st} n e c) w h = ⊎_elim (λ q. rw q self) (λ k. up n (rw e (chain_over c w k))) (has_cases x (y ∷ st) w h)

  chain_end : {t : ℕ} → Chain (t ∷ []) → t ≡ r
  chain_end base = refl

  -- each table of the list was left after its discovered children
  abbrev pub Orderly : List ℕ → List ℕ → Type 0
  Orderly D [] = Unit {0}
  Orderly D (u ∷ before) = ((w : ℕ) → has D w ≡ true → (w ≡ r → ⊥) → f w ≡ u → has before w ≡ true) × Orderly D before

  orderly_more : (u : ℕ) (D L : List ℕ) → (has L (f u) ≡ true → ⊥) → Orderly D L → Orderly (u ∷ D) L
  orderly_more u D [] n o = tt
  orderly_more u D (x ∷ L) n o = (
    λ w h wr e. ⊎_elim (λ (q : w ≡ u). absurd (n (rw (ap f (sym q) ∙ e) (has_head x L)))) (λ k. o.0 w k wr e) (has_cases u D w h),
    orderly_more u D L (λ h. n (has_more x L (f u) h)) o.1,
  )

  pub record Kept (stack seen left : List ℕ) : Type 0 where
    pub cover : (x : ℕ) → has seen x ≡ true → (has stack x ≡ true) ⊎ (has left x ≡ true)
    pub apart : (x : ℕ) → has stack x ≡ true → has left x ≡ true → ⊥
    pub on_stack : (x : ℕ) → has stack x ≡ true → has seen x ≡ true
    pub gone : (x : ℕ) → has left x ≡ true → has seen x ≡ true
    chain : Chain stack
    pub once : Distinct stack
    pub once_left : Distinct left
    pub once_seen : Distinct seen
    pub orderly : Orderly seen left

  pub kept : {stack seen left : List ℕ} → Visit U J f r stack seen left → Kept stack seen left
  kept begin = record { cover = λ x h. inl h; apart = λ x h k. false≢true k; on_stack = λ x h. h; gone = λ x h. absurd (false≢true h); chain = base; once = (refl, tt); once_left = tt; once_seen = (refl, tt); orderly = tt }
  kept (discover {t = t} {u = u} {stack = st} {seen = D} {left = L} v low e) =
      let i = kept v in
      let s = visit_search v in
      let new : has D u ≡ false = (fresh_true U J D t u low.holds).2 in
      record {
        cover = λ x h. ⊎_elim (λ (q : x ≡ u). inl (rw q (has_head u (t ∷ st)))) (λ k. ⊎_elim (λ m. inl (has_more u (t ∷ st) x m)) inr (i.cover x k)) (has_cases u D x h);
        apart = λ x h k. ⊎_elim (λ (q : x ≡ u). both_ways (has D u) new (i.gone u (rw q at k))) (λ m. i.apart x m k) (has_cases u (t ∷ st) x h);
        on_stack = λ x h. ⊎_elim (λ (q : x ≡ u). rw q (has_head u D)) (λ m. has_more u D x (i.on_stack x m)) (has_cases u (t ∷ st) x h);
        gone = λ x h. has_more u D x (i.gone x h);
        chain = link (λ q. both_ways (has D u) new (rw q (search_root J f r s))) e i.chain;
        once = (absent (t ∷ st) u (λ h. both_ways (has D u) new (i.on_stack u h)), i.once);
        once_left = i.once_left;
        once_seen = (new, i.once_seen);
        orderly = orderly_more u D L (λ h. i.apart t (has_head t st) (rw e at h)) i.orderly;
      }
  kept (leave {t = t} {stack = st} {seen = D} {left = L} v c) =
      let i = kept v in
      let s = visit_search v in
      let td : has D t ≡ true = i.on_stack t (has_head t st) in
      record {
        cover = λ x h. ⊎_elim (λ m. ⊎_elim (λ (q : x ≡ t). inr (rw q (has_head t L))) inl (has_cases t st x m)) (λ m. inr (has_more t L x m)) (i.cover x h);
        apart = λ x h k. ⊎_elim (λ (q : x ≡ t). both_ways (has st t) i.once.0 (rw q at h)) (λ m. i.apart x (has_more t st x h) m) (has_cases t L x k);
        on_stack = λ x h. i.on_stack x (has_more t st x h);
        gone = λ x h. ⊎_elim (λ (q : x ≡ t). rw q td) (λ m. i.gone x m) (has_cases t L x h);
        chain = chain_pop i.chain;
        once = i.once.1;
        once_left = (absent L t (λ h. i.apart t (has_head t st) h), i.once_left);
        once_seen = i.once_seen;
        orderly = (
          λ w h wr e. ⊎_elim (λ m. absurd (
              let lt : discovery D (f w) < discovery D w = search_rises J f r s w h wr in
              let lt' : discovery D t < discovery D w = rw e at lt in
              ⊎_elim (λ (q : w ≡ t). let z = ap (discovery D) q in omega arith) (λ z. omega arith)
              (over_rank f r (λ x. has D x ≡ true) (discovery D) (search_climbs J f r s) (search_rises J f r s) (chain_over i.chain w m) td))) (λ m. m) (i.cover w h),
          i.orderly,
        );
      }

  -- ---- the end

  sub_shut : {all : List ℕ} {D : List ℕ} → Sub all [] D → (x : ℕ) → has D x ≡ true → Shut all x
  sub_shut none x h = absurd (false≢true h)
  sub_shut (skip {x = z} {D = D} c s) x h = ⊎_elim (λ (q : x ≡ z). rw q c) (λ k. sub_shut s x k) (has_cases z D x h)

  pub visit_shut : {seen left : List ℕ} → Visit U J f r [] seen left → (x : ℕ) → has seen x ≡ true → Shut seen x
  visit_shut v = sub_shut (visit_sub v)

  pub visit_left : {seen left : List ℕ} → Visit U J f r [] seen left → (x : ℕ) → has seen x ≡ true → has left x ≡ true
  visit_left v x h = ⊎_elim (λ k. absurd (false≢true k)) (λ k. k) ((kept v).cover x h)

  pub visit_last : {seen left : List ℕ} → Visit U J f r [] seen left → (M : List ℕ) × (left ≡ r ∷ M)
  visit_last (leave {left = L} v c) = (L, ap (λ x. x ∷ L) (chain_end (kept v).chain))

  -- ---- walks from the root

  pub visit_hops : {seen left : List ℕ} → Visit U J f r [] seen left → (x : ℕ) → Reaches U J r x → has seen x ≡ true
  visit_hops {seen = D} v x w = walk_in (λ a. has D a ≡ true) (λ c d l h. visit_shut v c h d l.0) w (search_root J f r (visit_search v))

  pub visit_links : {stack seen left : List ℕ} → Visit U J f r stack seen left → (x : ℕ) → has seen x ≡ true → Reaches U J r x
  visit_links v x h = bind (λ c d j. one (j, simple.within c d j, simple.within d c (simple.symmetric d c ∙ j))) (search_walk J f r (visit_search v) x h)
