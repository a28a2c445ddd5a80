-- The pigeonhole: where each number that passes one test has a number of its own that passes another, no more pass the first than the second.
-- So a function on the numbers below m that hits every number below m hits each once, and one that hits none twice hits every one.
use mathlib.Core.Path.{◌≡◌, refl, sym, ap, ◌∙◌, subst}
use mathlib.Core.Bool.{Bool, true, false}
use mathlib.Core.Logic.{⊎_elim}
use Prim.Native.Nat.{ℕ, zero, suc, ◌≤◌, ◌<◌}
use native.Mathlib.Omega.{arith}
use lib.Dec.{eqb}
use borrow.Author.Tests.{eqb-true, eqb-false}
use Rattle.laws.specs.Counting.{bit, count, some_below}
use Rattle.laws.proofs.Deciding.{lt-or-le, eq-or-ne, true-or-false}
use Rattle.laws.proofs.Counting.{without, without-there, count-without, count-all}
use Rattle.laws.proofs.First.{some-below-true, none_below}

-- each number below n that passes p has a hole below m, one that passes q
abbrev pub Holes : (ℕ → ℕ → Type 0) → (ℕ → Bool) → (ℕ → Bool) → ℕ → ℕ → Type 0
Holes R p q n m = (i : ℕ) → i < n → p i ≡ true → (k : ℕ) × (k < m) × (q k ≡ true) × R i k

pub pigeon : (R : ℕ → ℕ → Type 0) → ((i j k : ℕ) → R i k → R j k → i ≡ j) → (p q : ℕ → Bool) (n m : ℕ) → Holes R p q n m → count p n ≤ count q m
unfolding count
pigeon R own p q zero m h = omega arith
pigeon R own p q (suc n) m h = ⊎_elim
    (λ e.
    let w = h n (omega arith) e in
    omega (arith, ap bit e, pigeon R own p (without q w.0) n m (others w), count-without q w.0 m w.1 w.2))
    (λ e. omega (arith, ap bit e, pigeon R own p q n m (λ i l. h i (omega arith))))
    (true-or-false (p n))
  where
    -- the last number's hole is closed to the others
    others : (w : (k : ℕ) × (k < m) × (q k ≡ true) × R n k) → Holes R p (without q w.0) n m
    others (k, l, e, r) i il t =
        let v = h i (omega arith) t in
        let apart : v.0 ≡ k → ⊥ = λ s. let u : i ≡ n = own i n k (subst (R i) s v.3) r in omega arith in
        (v.0, v.1, without-there q k v.0 apart ∙ v.2, v.3)

-- the test that every number passes
all : ℕ → Bool
all x = true

-- every number below m is hit
module _ (f : ℕ → ℕ) (m : ℕ) (onto : (y : ℕ) → y < m → (x : ℕ) × (x < m) × (f x ≡ y)) where
  no-spare : (z : ℕ) → z < m → ((y : ℕ) → y < m → (x : ℕ) × (x < m) × (x ≡ z → ⊥) × (f x ≡ y)) → ⊥
  unfolding all
  no-spare z l h = omega (arith, fewer, count-all all m (λ x t. refl), count-without all z m l refl)
    where
      holes : Holes (λ y x. f x ≡ y) all (without all z) m m
      holes y yl t = let v = h y yl in (v.0, v.1, without-there all z v.0 v.2, v.3)

      fewer : count all m ≤ count (without all z) m
      fewer = pigeon (λ y x. f x ≡ y) (λ i j k a b. sym a ∙ b) all (without all z) m m holes

  pub onto-below : (x : ℕ) → x < m → f x < m
  onto-below x l = ⊎_elim (λ h. h) (λ h. absurd (no-spare x l (others h))) (lt-or-le (f x) m)
    where
      others : m ≤ f x → (y : ℕ) → y < m → (w : ℕ) × (w < m) × (w ≡ x → ⊥) × (f w ≡ y)
      others h y yl = let v = onto y yl in (v.0, v.1, (λ q. omega (arith, v.2, ap f q)), v.2)

  pub onto-once : (x z : ℕ) → x < m → z < m → f x ≡ f z → x ≡ z
  onto-once x z xl zl e = ⊎_elim (λ h. h) (λ n. absurd (no-spare z zl (others n))) (eq-or-ne x z)
    where
      others : (x ≡ z → ⊥) → (y : ℕ) → y < m → (w : ℕ) × (w < m) × (w ≡ z → ⊥) × (f w ≡ y)
      others n y yl =
          let v = onto y yl in
          ⊎_elim (λ q. (x, xl, n, e ∙ ap f (sym q) ∙ v.2)) (λ q. (v.0, v.1, q, v.2)) (eq-or-ne v.0 z)

-- no number below n is hit twice
module _ (f : ℕ → ℕ) (n : ℕ) (into : (i : ℕ) → i < n → f i < n) (once : (i j : ℕ) → i < n → j < n → f i ≡ f j → i ≡ j) where
  own : (i j k : ℕ) → (i < n) × (f i ≡ k) → (j < n) × (f j ≡ k) → i ≡ j
  own i j k (il, a) (jl, b) = once i j il jl (a ∙ sym b)

  -- where nothing goes to y there is a hole less than there are numbers
  not-missed : (y : ℕ) → y < n → ((x : ℕ) → x < n → f x ≡ y → ⊥) → ⊥
  unfolding all
  not-missed y l missed = omega (arith, fewer, count-all all n (λ x t. refl), count-without all y n l refl)
    where
      holes : Holes (λ x z. (x < n) × (f x ≡ z)) all (without all y) n n
      holes x xl t = (f x, into x xl, without-there all y (f x) (missed x xl), (xl, refl))

      fewer : count all n ≤ count (without all y) n
      fewer = pigeon (λ x z. (x < n) × (f x ≡ z)) own all (without all y) n n holes

  pub reached : (y : ℕ) → y < n → (x : ℕ) × (x < n) × (f x ≡ y)
  reached y l = ⊎_elim found (λ e. absurd (not-missed y l (missed e))) (true-or-false (some_below (λ x. eqb (f x) y) n))
    where
      found : some_below (λ x. eqb (f x) y) n ≡ true → (x : ℕ) × (x < n) × (f x ≡ y)
      found e = let v = some-below-true (λ x. eqb (f x) y) n e in (v.0, v.1, eqb-true (f v.0) y v.2)

      missed : some_below (λ x. eqb (f x) y) n ≡ false → (x : ℕ) → x < n → f x ≡ y → ⊥
      missed e x xl = eqb-false (f x) y (none_below (λ x. eqb (f x) y) n e x xl)
