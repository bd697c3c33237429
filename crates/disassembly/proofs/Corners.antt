-- The triangle that a build begins with, and what every graph that has a build is.
--
--   triangle_sturdy   a triangle is connected without any one of its tables
--   count_without     one number fewer passes
--   three_count       three different tables of U are counted
--   build_fit         a graph that has a build is fit
use Rattle.std.proofs.Common.{◌≡◌, ℕ, ◌+◌, ◌<◌, ◌≤◌, Bool, true, ◌⊎◌, refl, inl, inr, ⊎_elim, arith}
use Rattle.std.proofs.lemmas.Bool.{cases_eq}
use Rattle.std.proofs.lemmas.Bool.Decides.{nat_tests}
use Rattle.theory.specs.Graph.{count}
use Rattle.theory.specs.Build.{Part, Ascending, triangle}
use Rattle.theory.specs.declared.step.Triangle.{Triangle}
use Rattle.theory.proofs.Sizes.{count_one}
use Rattle.disassembly.specs.Walks.{without, SimpleOn}
use Rattle.disassembly.specs.Disassembly.{part_of}
use Rattle.disassembly.specs.Laws.{Fit, HasBuild}
use Rattle.disassembly.proofs.Walks.{one, stays, linked_like, linked_connected, true_without}
use Rattle.disassembly.proofs.Steps.{In, Joined, Sturdy, sturdy_build}

abbrev corner : ℕ → ℕ → ℕ → Part
corner a b c = triangle (record { a = a; b = b; c = c })

module _ (a b c : ℕ) (ab : a < b) (bc : b < c) where
  three_in : (x : ℕ) → (x ≡ a) ⊎ ((x ≡ b) ⊎ (x ≡ c)) → In (corner a b c) x
  three_in x h = grind (arith, nat_tests)

  full : (x y : ℕ) → In (corner a b c) x → In (corner a b c) y → (x ≡ y → ⊥) → Joined (corner a b c) x y
  full x y h k n = grind (arith, nat_tests)

  third : (v w : ℕ) → (z : ℕ) × In (corner a b c) z × (z ≡ v → ⊥) × (z ≡ w → ⊥)
  third v w = ⊎_elim (λ av. second (inl av)) (λ av. ⊎_elim (λ aw. second (inr aw)) (λ aw. (a, three_in a (inl refl), av, aw)) (cases_eq a w)) (cases_eq a v)
    where
      last : (a ≡ v) ⊎ (a ≡ w) → (b ≡ v) ⊎ (b ≡ w) → (z : ℕ) × In (corner a b c) z × (z ≡ v → ⊥) × (z ≡ w → ⊥)
      last p q = (c, three_in c (inr (inr refl)), λ e. omega arith, λ e. omega arith)

      second : (a ≡ v) ⊎ (a ≡ w) → (z : ℕ) × In (corner a b c) z × (z ≡ v → ⊥) × (z ≡ w → ⊥)
      second p = ⊎_elim (λ bv. last p (inl bv)) (λ bv. ⊎_elim (λ bw. last p (inr bw)) (λ bw. (b, three_in b (inr (inl refl)), bv, bw)) (cases_eq b w)) (cases_eq b v)

  corner_sturdy : Sturdy (corner a b c)
  corner_sturdy = record {
    same = turn;
    apart = apart;
    within = inside;
    biconnected = λ x s t p q. ⊎_elim (λ e. stays e) (λ n. one (full s t p.0 q.0 n, p, q)) (cases_eq s t);
    third = third;
  }
    where
      apart : (x y : ℕ) → Joined (corner a b c) x y → x ≡ y → ⊥
      apart x y h e = grind (arith, nat_tests)

      inside : (x y : ℕ) → Joined (corner a b c) x y → In (corner a b c) x
      inside x y h = grind (arith, nat_tests)

      turn : (x y : ℕ) → Joined (corner a b c) x y → Joined (corner a b c) y x
      turn x y h = grind (arith, nat_tests)

pub triangle_sturdy : (t : Triangle) → Ascending t → Sturdy (triangle t)
triangle_sturdy t up = corner_sturdy t.a t.b t.c up.0 up.1

-- ---- three tables

pub count_without : (U : ℕ → Bool) (x n : ℕ) → x < n → U x ≡ true → count U n ≡ count (without x U) n + 1
count_without U x n l u = count_one (without x U) U x n l (grind (arith, nat_tests)) u (λ k _ ne. grind (arith, nat_tests))

pub three_count : (U : ℕ → Bool) (n x y z : ℕ) → x < n → y < n → z < n → U x ≡ true → U y ≡ true → U z ≡ true → (y ≡ x → ⊥) → (z ≡ x → ⊥) → (z ≡ y → ⊥) → 3 ≤ count U n
three_count U n x y z lx ly lz ux uy uz yx zx zy =
    let c₁ = count_without U x n lx ux in
    let c₂ = count_without (without x U) y n ly (true_without x U y uy yx) in
    let c₃ = count_without (without y (without x U)) z n lz (true_without y (without x U) z (true_without x U z uz zx) zy) in
    omega arith

pub build_fit : (U : ℕ → Bool) (J : ℕ → ℕ → Bool) → SimpleOn U J → HasBuild U J → Fit U J
build_fit U J s b =
    let S : Sturdy (part_of U J) = sturdy_build b.3 (triangle_sturdy b.0 b.2) in
    let x = S.third 0 0 in
    let y = S.third x.0 x.0 in
    let z = S.third x.0 y.0 in
    record {
      three = three_count U 64 x.0 y.0 z.0 (s.few x.0 x.1) (s.few y.0 y.1) (s.few z.0 z.1) x.1 y.1 z.1 y.2 z.2 z.3;
      connected = linked_like (λ a p. p.0) (λ a p. (p, λ (e : a ≡ 64). let l : a < 64 = s.few a p in omega arith)) (S.biconnected 64);
      no_articulation = λ v a. a.1 (linked_connected U J v (S.biconnected v));
    }
