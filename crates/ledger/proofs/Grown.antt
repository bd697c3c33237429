-- Records that are filled from the front: what was laid stays, and what lies behind is left alone.
--
--   Grown k l k' l'    of the records l the first k are filled; more are laid behind them, so that in l' the first k' are
--   grown_by           records laid behind the first k
--   laid_there         where they are found
use Rattle.std.proofs.Common.{◌≡◌, ℕ, ◌+◌, ◌-◌, ◌<◌, ◌≤◌, min, List, ◌++◌, length, take, drop, get_or, sym, refl, ap, ◌∙◌, subst, arith}
use Rattle.std.proofs.lemmas.List.{length-take, length-drop, length-append, length-take-le, take-append-drop, take_at, drop_at, take-take, drop-drop, drop-append-le, drop-take, get_or-take, get_or-drop}
use Rattle.std.proofs.lemmas.List as list
use Rattle.ledger.specs.Run.{lent_from, laid_from}
use Rattle.ledger.specs.RunLaw.{room}

pub record Grown {X : Type 0} (k : ℕ) (l : List X) (k' : ℕ) (l' : List X) : Type 0 where
  pub more : k ≤ k'
  pub fits : k' ≤ length l'
  pub long : length l' ≡ length l
  pub front : take k l' ≡ take k l
  pub back : drop k' l' ≡ drop k' l

module _ {X : Type 0} where
  pub grown_not : (k : ℕ) (l : List X) → k ≤ length l → Grown k l k l
  grown_not k l h = record { more = omega arith; fits = h; long = refl; front = refl; back = refl }

  pub grown_on : (k k' k'' : ℕ) (l l' l'' : List X) → Grown k l k' l' → Grown k' l' k'' l'' → Grown k l k'' l''
  grown_on k k' k'' l l' l'' g h = record {
    more = omega (arith, g.more, h.more);
    fits = h.fits;
    long = h.long ∙ g.long;
    front = sym (take-take k k' l'' g.more) ∙ ap (take k) h.front ∙ take-take k k' l' g.more ∙ g.front;
    back = let e : k' + (k'' - k') ≡ k'' = omega (arith, h.more) in
        h.back ∙ ap (λ n. drop n l') (sym e) ∙ sym (drop-drop (k'' - k') k' l') ∙ ap (drop (k'' - k')) g.back
        ∙ drop-drop (k'' - k') k' l ∙ ap (λ n. drop n l) e;
  }

  -- how many are lent
  pub length_lent : (k n : ℕ) (l : List X) → length (lent_from k n l) ≡ room k n l
  length_lent k n l = length-take n (drop k l) ∙ ap (min n) (length-drop k l)

  module _ (k n : ℕ) (l given : List X) (inside : k ≤ length l) where
    pub behind : drop k (laid_from k n given l) ≡ given ++ drop n (drop k l)
    behind = drop_at (take k l) (given ++ drop n (drop k l)) k (length-take-le k l inside)

    -- g of the records given are new, and the others are as they were lent
    pub grown_by : (g : ℕ) → length given ≡ length (lent_from k n l) → g ≤ length given → drop g given ≡ drop g (lent_from k n l) → Grown k l (k + g) (laid_from k n given l)
    grown_by g same few kept = record {
      more = omega arith;
      fits = omega (arith, total, few, length-take n (drop k l), same, length-drop k l);
      long = total;
      front = take_at (take k l) (given ++ drop n (drop k l)) k (length-take-le k l inside);
      back = sym (drop-drop g k (laid_from k n given l)) ∙ ap (drop g) behind ∙ drop-append-le g given (drop n (drop k l)) few
          ∙ ap (λ x. x ++ drop n (drop k l)) kept
          ∙ sym (drop-append-le g (lent_from k n l) (drop n (drop k l)) (subst (λ x. g ≤ x) same few))
          ∙ ap (drop g) (take-append-drop n (drop k l)) ∙ drop-drop g k l;
    }
      where
        total : length (laid_from k n given l) ≡ length l
        total = omega (
          arith,
          length-append (take k l) (given ++ drop n (drop k l)),
          length-append given (drop n (drop k l)),
          length-take-le k l inside,
          same,
          length-take n (drop k l),
          length-drop k l,
          length-drop n (drop k l),
        )

    -- they are found where they were laid, as long as the first k + g stay
    pub laid_there : (g : ℕ) (end : List X) → g ≤ length given → take (k + g) end ≡ take (k + g) (laid_from k n given l) → take g (drop k end) ≡ take g given
    laid_there g end few kept =
        sym (drop-take k g end) ∙ ap (drop k) kept ∙ drop-take k g (laid_from k n given l) ∙ ap (take g) behind
        ∙ take-append g given (drop n (drop k l)) few
      where
        take-append : (n : ℕ) (xs ys : List X) → n ≤ length xs → take n (xs ++ ys) ≡ take n xs
        take-append n xs ys h = rw (list.take-append-le n xs ys h) refl

    pub read_there : (g x : ℕ) (end : List X) (d : X) → x < g → g ≤ length given → take (k + g) end ≡ take (k + g) (laid_from k n given l) → get_or (drop k end) x d ≡ get_or given x d
    read_there g x end d h few kept =
        sym (get_or-take g (drop k end) x d h) ∙ ap (λ s. get_or s x d) (laid_there g end few kept) ∙ get_or-take g given x d h
