-- A piece of a line: what reading some kind of value at a place amounts to, and how readings one after another are put
-- together.
--
--   Kind X             values of X that fit, with a text of one width for each
--   Piece K text i r   the answer r to reading a value of kind K at i: the only value whose text stands there, or the place
--                      of the first byte that no text begun so can have
--   here, step, stop   a piece of no bytes; one byte and then a piece; a byte that no text has
--   joined             a piece after a piece
use Rattle.std.proofs.Common.{◌≡◌, ℕ, zero, suc, ◌+◌, ◌-◌, ◌<◌, ◌≤◌, ◌↔◌, List, ◌∷◌, ◌++◌, length, get_or, Ok, Err, Result, sym, refl, ap, ◌∙◌, subst, ap₂, ⊎_elim, arith}
use Rattle.std.proofs.lemmas.List.{get_or_append_left, get_or-append-add, get_or-append_right}
use Rattle.std.proofs.lemmas.Bool.{cases_lt}
use Rattle.lines.specs.declared.line.BadByte.{BadByte}
use Rattle.lines.specs.Read.{bad, then, byte}
use Rattle.lines.specs.Form.{Agrees}

-- equal places have equal bytes
at_place : (text : List ℕ) {i j : ℕ} → i ≡ j → get_or text i 0 ≡ get_or text j 0
at_place text e = ap (λ n. get_or text n 0) e

-- one byte and then the rest
pub agrees_more : (b : ℕ) (l text : List ℕ) (i k : ℕ) → b ≡ byte text i → Agrees l text (i + 1) k → Agrees (b ∷ l) text i (suc k)
agrees_more b l text i k e a zero h = e ∙ at_place text (omega arith)
agrees_more b l text i k e a (suc j) h = a j (omega arith) ∙ at_place text (omega arith)

-- of such a beginning, the byte
pub agrees_first : (b : ℕ) (l text : List ℕ) (i k : ℕ) → Agrees (b ∷ l) text i (suc k) → b ≡ byte text i
agrees_first b l text i k a = a 0 (omega arith) ∙ at_place text (omega arith)

-- and the rest
pub agrees_rest : (b : ℕ) (l text : List ℕ) (i k : ℕ) → Agrees (b ∷ l) text i (suc k) → Agrees l text (i + 1) k
agrees_rest b l text i k a j h = a (suc j) (omega arith) ∙ at_place text (omega arith)

-- fewer bytes
pub agrees_less : (t text : List ℕ) (i k m : ℕ) → k ≤ m → Agrees t text i m → Agrees t text i k
agrees_less t text i k m l a j h = a j (omega arith)

-- a text after a text of n bytes, which starts at j
module _ (s t text : List ℕ) (n : ℕ) (long : length s ≡ n) (i j : ℕ) (next : j ≡ i + n) where
  -- from a beginning of both to one of the first
  pub agrees_front : (k : ℕ) → k ≤ n → Agrees (s ++ t) text i k → Agrees s text i k
  agrees_front k l a m h = sym (get_or_append_left s t 0 m (omega arith)) ∙ a m h

  -- and back
  pub agrees_before : (k : ℕ) → k ≤ n → Agrees s text i k → Agrees (s ++ t) text i k
  agrees_before k l a m h = get_or_append_left s t 0 m (omega arith) ∙ a m h

  -- from a beginning of both to one of the second
  pub agrees_back : (k : ℕ) → Agrees (s ++ t) text i (n + k) → Agrees t text j k
  agrees_back k a m h =
      let e : get_or (s ++ t) (n + m) 0 ≡ get_or t m 0 = ap (λ l. get_or (s ++ t) (l + m) 0) (sym long) ∙ get_or-append-add s t m 0 in
      sym e ∙ a (n + m) (omega arith) ∙ at_place text (omega arith)

  -- and back
  pub agrees_both : (k : ℕ) → Agrees s text i n → Agrees t text j k → Agrees (s ++ t) text i (n + k)
  agrees_both k a b m h =
      ⊎_elim
      (λ (l : m < n). get_or_append_left s t 0 m (omega arith) ∙ a m l)
      (λ (l : n ≤ m). get_or-append_right s t n m 0 long l ∙ b (m - n) (omega arith) ∙ at_place text (omega arith))
      (cases_lt m n)

-- values that fit, each with a text
pub record Kind (X : Type 0) : Type 1 where
  pub Fit : X → Type 0
  pub text_of : X → List ℕ
  pub width : ℕ

module _ {X : Type 0} (K : Kind X) (text : List ℕ) (i : ℕ) where
  -- some value that fits begins with k bytes of the text
  abbrev pub Starts : ℕ → Type 0
  Starts k = (x : X) × K.Fit x × Agrees (K.text_of x) text i k

  -- x stands there, and nothing else does
  pub record Found (x : X) : Type 0 where
    pub fits : K.Fit x
    pub agrees : Agrees (K.text_of x) text i K.width
    pub only : (y : X) → K.Fit y → Agrees (K.text_of y) text i K.width → y ≡ x

  -- the longest beginning ends before the byte at p
  pub record Stopped (p : ℕ) : Type 0 where
    pub many : ℕ
    pub is_place : p ≡ i + many
    pub short : many < K.width
    pub starts : Starts many
    pub no_more : Starts (many + 1) → ⊥

  -- what an answer says
  abbrev pub Piece : Result X BadByte → Type 0
  Piece (Ok x) = Found x
  Piece (Err p) = Stopped p.place

-- the same values, fit by other words
pub refit : {X : Type 0} (K : Kind X) (Fit : X → Type 0) → ((x : X) → K.Fit x ↔ Fit x) → (text : List ℕ) (i : ℕ) (r : Result X BadByte)
    → Piece K text i r → Piece (record { Fit = Fit; text_of = K.text_of; width = K.width }) text i r
refit K Fit same text i (Ok x) p = record { fits = (same x).0 p.fits; agrees = p.agrees; only = λ y f a. p.only y ((same y).1 f) a }
refit K Fit same text i (Err q) p =
    record {
      many = p.many;
      is_place = p.is_place;
      short = p.short;
      starts = (p.starts.0, (same _).0 p.starts.1, p.starts.2);
      no_more = λ s. p.no_more (s.0, (same _).1 s.1, s.2);
    }

module _ {X : Type 0} (text : List ℕ) (i : ℕ) where
  -- no bytes: the one value that fits
  pub here : (Fit : X → Type 0) (text_of : X → List ℕ) (x : X) → Fit x → ((y : X) → Fit y → y ≡ x) → Piece (record { Fit = Fit; text_of = text_of; width = 0 }) text i (Ok x)
  here Fit text_of x f only = record { fits = f; agrees = λ j h. absurd (omega arith); only = λ y g a. only y g }

  module _ (Fit : X → Type 0) (first : X → ℕ) (rest : X → List ℕ) (w : ℕ) where
    abbrev K : Kind X
    K = record { Fit = Fit; text_of = λ x. first x ∷ rest x; width = suc w }

    -- one byte, which leaves those that fit in Left, and then a piece
    pub step : (Left : X → Type 0) → ((x : X) → (Fit x × (first x ≡ byte text i)) ↔ Left x) → (r : Result X BadByte)
        → Piece (record { Fit = Left; text_of = rest; width = w }) text (i + 1) r → Piece K text i r
    step Left same (Ok x) p =
        let f = (same x).1 p.fits in
        record {
          fits = f.0;
          agrees = agrees_more (first x) (rest x) text i w f.1 p.agrees;
          only = λ y g a. p.only y ((same y).0 (g, agrees_first (first y) (rest y) text i w a)) (agrees_rest (first y) (rest y) text i w a);
        }
    step Left same (Err q) p =
        let x = p.starts.0 in
        let f = (same x).1 p.starts.1 in
        record {
          many = suc p.many;
          is_place = omega arith;
          short = omega arith;
          starts = (x, f.0, agrees_more (first x) (rest x) text i p.many f.1 p.starts.2);
          no_more = λ s.
              let y = s.0 in
              let a : Agrees (first y ∷ rest y) text i (suc (p.many + 1)) = λ j h. s.2 j (omega arith) in
              p.no_more (y, (same y).0 (s.1, agrees_first (first y) (rest y) text i (p.many + 1) a), agrees_rest (first y) (rest y) text i (p.many + 1) a);
        }

    -- a byte that no value that fits has there
    pub stop : (x : X) → Fit x → ((y : X) → Fit y → first y ≡ byte text i → ⊥) → Piece K text i (Err (bad i))
    stop x f none =
        record {
          many = 0;
          is_place = omega arith;
          short = omega arith;
          starts = (x, f, λ j h. absurd (omega arith));
          no_more = λ s. none s.0 s.1 (agrees_first (first s.0) (rest s.0) text i 0 s.2);
        }

-- y is put together by f from a value of K and one of L
abbrev pub Parts : {A B Y : Type 0} → Kind A → Kind B → (A → B → Y) → Y → Type 0
Parts {A} {B} K L f y = (a : A) × (b : B) × K.Fit a × L.Fit b × (f a b ≡ y)

-- f puts a value of M together from one of K and one of L, whose text comes after
pub record Joined {A B Y : Type 0} (K : Kind A) (L : Kind B) (M : Kind Y) (f : A → B → Y) : Type 0 where
  pub long : (a : A) → length (K.text_of a) ≡ K.width
  pub wide : M.width ≡ K.width + L.width
  pub texts : (a : A) (b : B) → M.text_of (f a b) ≡ K.text_of a ++ L.text_of b
  pub fits : (a : A) (b : B) → K.Fit a → L.Fit b → M.Fit (f a b)
  pub parts : (y : Y) → M.Fit y → Parts K L f y
  pub some : (b : B) × L.Fit b

module _ {A B Y : Type 0} {K : Kind A} {L : Kind B} {M : Kind Y} {f : A → B → Y} (J : Joined K L M f) (text : List ℕ) (i j : ℕ) (next : j ≡ i + K.width) where
  -- a value of M that begins with k bytes of the text, in its parts
  record Parted (k : ℕ) (y : Y) : Type 0 where
    a : A
    b : B
    a_fits : K.Fit a
    b_fits : L.Fit b
    whole : f a b ≡ y
    front : (m : ℕ) → m ≤ k → m ≤ K.width → Agrees (K.text_of a) text i m
    back : (m : ℕ) → K.width + m ≤ k → Agrees (L.text_of b) text j m

  -- such a value has its parts
  parted : (y : Y) → M.Fit y → (k : ℕ) → Agrees (M.text_of y) text i k → Parted k y
  parted y g k ag =
      let p = J.parts y g in
      let s = K.text_of p.0 in
      let t = L.text_of p.1 in
      let whole = subst (λ u. Agrees u text i k) (ap M.text_of (sym p.4) ∙ J.texts p.0 p.1) ag in
      record {
        a = p.0;
        b = p.1;
        a_fits = p.2;
        b_fits = p.3;
        whole = p.4;
        front = λ m l w. agrees_front s t text K.width (J.long p.0) i j next m w (agrees_less (s ++ t) text i m k l whole);
        back = λ m l. agrees_back s t text K.width (J.long p.0) i j next m (agrees_less (s ++ t) text i (K.width + m) k l whole);
      }

  -- and the parts' texts make its text
  both : (a : A) (b : B) (k : ℕ) → Agrees (K.text_of a) text i K.width → Agrees (L.text_of b) text j k → Agrees (M.text_of (f a b)) text i (K.width + k)
  both a b k ka lb = rw (J.texts a b) (agrees_both (K.text_of a) (L.text_of b) text K.width (J.long a) i j next k ka lb)

  -- a piece after a piece
  pub joined : (ra : Result A BadByte) (rb : Result B BadByte) → Piece K text i ra → Piece L text j rb → Piece M text i (then ra (λ a. then rb (λ b. Ok (f a b))))
  joined (Ok a) (Ok b) p q =
      record {
        fits = J.fits a b p.fits q.fits;
        agrees = rw J.wide (both a b L.width p.agrees q.agrees);
        only = λ y g ag.
            let s = parted y g M.width ag in
            sym s.whole ∙ ap₂ f (p.only s.a s.a_fits (s.front K.width (omega arith) (omega arith))) (q.only s.b s.b_fits (s.back L.width (omega arith)));
      }
  joined (Ok a) (Err e) p q =
      record {
        many = K.width + q.many;
        is_place = omega arith;
        short = omega arith;
        starts = (f a q.starts.0, J.fits a q.starts.0 p.fits q.starts.1, both a q.starts.0 q.many p.agrees q.starts.2);
        no_more = λ s. let t = parted s.0 s.1 (K.width + q.many + 1) s.2 in q.no_more (t.b, t.b_fits, t.back (q.many + 1) (omega arith));
      }
  joined (Err e) rb p q =
      let a = p.starts.0 in
      let b = J.some.0 in
      record {
        many = p.many;
        is_place = p.is_place;
        short = omega arith;
        starts = (
          f a b,
          J.fits a b p.starts.1 J.some.1,
          rw (J.texts a b) (agrees_before (K.text_of a) (L.text_of b) text K.width (J.long a) i j next p.many (omega arith) p.starts.2),
        );
        no_more = λ s. let t = parted s.0 s.1 (p.many + 1) s.2 in p.no_more (t.a, t.a_fits, t.front (p.many + 1) (omega arith) (omega arith));
      }

-- a value of K and then one of L
abbrev pub pairs : {A B : Type 0} → Kind A → Kind B → Kind (A × B)
pairs K L = record { Fit = λ p. K.Fit p.0 × L.Fit p.1; text_of = λ p. K.text_of p.0 ++ L.text_of p.1; width = K.width + L.width }

-- each text has the kind's width, and some value fits
pub record Sized {X : Type 0} (K : Kind X) : Type 0 where
  pub long : (x : X) → length (K.text_of x) ≡ K.width
  pub some : (x : X) × K.Fit x

-- the readings of two, one after the other
abbrev two : {B C : Type 0} → Result B BadByte → Result C BadByte → Result (B × C) BadByte
two rb rc = then rb (λ b. then rc (λ c. Ok (b, c)))

-- two answers taken together or one by one
then_three : {A B C Y : Type 0} (f : A → B → C → Y) (ra : Result A BadByte) (rb : Result B BadByte) (rc : Result C BadByte)
    → then ra (λ a. then (two rb rc) (λ p. Ok (f a p.0 p.1))) ≡ then ra (λ a. then rb (λ b. then rc (λ c. Ok (f a b c))))
then_three f (Ok a) (Ok b) (Ok c) = refl
then_three f (Ok a) (Ok b) (Err p) = refl
then_three f (Ok a) (Err p) rc = refl
then_three f (Err p) rb rc = refl

-- three pieces
pub joined_three : {A B C Y : Type 0} {K : Kind A} {L : Kind B} {N : Kind C} {M : Kind Y} (f : A → B → C → Y) → Joined K (pairs L N) M (λ a p. f a p.0 p.1) → Sized L → Sized N
    → (text : List ℕ) (i j k : ℕ) → j ≡ i + K.width → k ≡ j + L.width → (ra : Result A BadByte) (rb : Result B BadByte) (rc : Result C BadByte) → Piece K text i ra → Piece L text j rb → Piece N text k rc
    → Piece M text i (then ra (λ a. then rb (λ b. then rc (λ c. Ok (f a b c)))))
joined_three {L = L} {N = N} {M = M} f J sl sn text i j k ej ek ra rb rc pa pb pc =
    let P : Joined L N (pairs L N) (λ b c. (b, c)) =
    record { long = sl.long; wide = refl; texts = λ b c. refl; fits = λ b c g h. (g, h); parts = λ p g. (p.0, p.1, g.0, g.1, refl); some = sn.some } in
    subst (Piece M text i) (then_three f ra rb rc) (joined J text i j ej ra (two rb rc) pa (joined P text j k ek rb rc pb pc))
