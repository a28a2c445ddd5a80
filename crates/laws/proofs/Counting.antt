-- Laws of `count`, how many numbers below n pass a test: where all or none pass, how it grows with n and with the test,
-- and what a count of at least one or two says. `without` is a test that one number more fails.
use mathlib.Core.Path.{◌≡◌, refl, sym, ap, ◌∙◌}
use mathlib.Core.Bool.{Bool, true, false, cond, ◌||◌}
use mathlib.Core.Logic.{⊎_elim}
use Prim.Native.Nat.{ℕ, zero, suc, ◌+◌, ◌-◌, ◌≤◌, ◌<◌}
use native.Mathlib.Numerals.{add-one}
use native.Mathlib.Omega.{arith}
use lib.Dec.{eqb}
use borrow.Author.Tests.{eq-eqb, ne_eqb}
use Rattle.laws.specs.Counting.{bit, count}
use Rattle.laws.proofs.Deciding.{lt-or-le, true-or-false, not-both}

pub bit_le : (b : Bool) → bit b ≤ 1
bit_le true = omega arith
bit_le false = omega arith

pub count-more : (p : ℕ → Bool) (n : ℕ) → count p (n + 1) ≡ bit (p n) + count p n
unfolding count
count-more p n = rw add-one

pub count_same : (p q : ℕ → Bool) (n : ℕ) → ((i : ℕ) → i < n → p i ≡ q i) → count p n ≡ count q n
unfolding count
count_same p q zero h = refl
count_same p q (suc n) h = rw (h n (omega arith), count_same p q n (λ i l. h i (omega arith)))

pub count-all : (p : ℕ → Bool) (n : ℕ) → ((i : ℕ) → i < n → p i ≡ true) → count p n ≡ n
unfolding count
count-all p zero h = refl
count-all p (suc n) h = rw (h n (omega arith), count-all p n (λ i l. h i (omega arith))) (omega arith)

pub count_none : (p : ℕ → Bool) (n : ℕ) → ((i : ℕ) → i < n → p i ≡ false) → count p n ≡ 0
unfolding count
count_none p zero h = refl
count_none p (suc n) h = rw (h n (omega arith), count_none p n (λ i l. h i (omega arith)))

pub count-le : (p : ℕ → Bool) (n : ℕ) → count p n ≤ n
unfolding count
count-le p zero = omega arith
count-le p (suc n) = omega (arith, count-le p n, bit_le (p n))

-- one of two tests passes wherever p does
pub count-or : (p q r : ℕ → Bool) (n : ℕ) → ((i : ℕ) → i < n → p i ≡ true → (q i || r i) ≡ true) → count p n ≤ count q n + count r n
unfolding count
count-or p q r zero h = omega arith
count-or p q r (suc n) h = omega (arith, count-or p q r n (λ i l. h i (omega arith)), one (p n) (q n) (r n) (h n (omega arith)))
  where
    one : (a b c : Bool) → (a ≡ true → (b || c) ≡ true) → bit a ≤ bit b + bit c
    one false b c h = omega arith
    one true true c h = omega arith
    one true false true h = omega arith
    one true false false h = absurd (not-both (h refl) refl)

pub count-implies : (p q : ℕ → Bool) (n : ℕ) → ((i : ℕ) → i < n → p i ≡ true → q i ≡ true) → count p n ≤ count q n
count-implies p q n h = omega (arith, count-or p q (λ i. false) n (λ i l e. rw (h i l e)), count_none (λ i. false) n (λ i l. refl))

-- one of two tests passes exactly where p does, and never both
pub count-parts : (p q r : ℕ → Bool) (n : ℕ) → ((i : ℕ) → i < n → bit (p i) ≡ bit (q i) + bit (r i)) → count p n ≡ count q n + count r n
unfolding count
count-parts p q r zero h = refl
count-parts p q r (suc n) h = omega (arith, h n (omega arith), count-parts p q r n (λ i l. h i (omega arith)))

-- the numbers below a, and those from a on
pub count-split : (p : ℕ → Bool) (a n : ℕ) → count p (a + n) ≡ count p a + count (λ i. p (a + i)) n
unfolding count
count-split p a zero = let e : a + 0 ≡ a = omega arith in omega (arith, ap (count p) e)
count-split p a (suc n) = let e : a + suc n ≡ suc (a + n) = omega arith in omega (arith, ap (count p) e, count-split p a n)

pub count-from : (p : ℕ → Bool) (a n : ℕ) → a ≤ n → count p n ≡ count p a + count (λ i. p (a + i)) (n - a)
count-from p a n l = let e : n ≡ a + (n - a) = omega arith in ap (count p) e ∙ count-split p a (n - a)

pub count-grows : (p : ℕ → Bool) (a n : ℕ) → a ≤ n → count p a ≤ count p n
count-grows p a n l = omega (arith, count-from p a n l)

-- the test without one number
unfoldable pub without : (ℕ → Bool) → ℕ → ℕ → Bool
without p k i = cond (eqb i k) false (p i)

pub without-here : (p : ℕ → Bool) (k i : ℕ) → i ≡ k → without p k i ≡ false
unfolding without
without-here p k i e = rw (eq-eqb i k e)

pub without-there : (p : ℕ → Bool) (k i : ℕ) → (i ≡ k → ⊥) → without p k i ≡ p i
unfolding without
without-there p k i e = rw (ne_eqb i k e)

pub count-without : (p : ℕ → Bool) (k n : ℕ) → k < n → p k ≡ true → count p n ≡ suc (count (without p k) n)
unfolding count
count-without p k zero l e = absurd (omega arith)
count-without p k (suc n) l e = ⊎_elim
    (λ h. omega (arith, count-without p k n h e, ap bit (without-there p k n (λ q. omega arith))))
    here
    (lt-or-le k n)
  where
    here : n ≤ k → bit (p n) + count p n ≡ suc (bit (without p k n) + count (without p k) n)
    here h =
        let q : n ≡ k = omega arith in
        let same : count p n ≡ count (without p k) n = count_same p (without p k) n (λ i h. sym (without-there p k i (λ t. omega arith))) in
        omega (arith, same, ap (λ i. bit (p i)) q ∙ ap bit e, ap bit (without-here p k n q))

pub count-some : (p : ℕ → Bool) (n i : ℕ) → i < n → p i ≡ true → 1 ≤ count p n
count-some p n i l e = omega (arith, count-without p i n l e)

pub count-two : (p : ℕ → Bool) (n i j : ℕ) → i < n → j < n → p i ≡ true → p j ≡ true → (j ≡ i → ⊥) → 2 ≤ count p n
count-two p n i j il jl pi pj d = omega (arith, count-without p i n il pi, count-some (without p i) n j jl (without-there p i j d ∙ pj))

pub count-find : (p : ℕ → Bool) (n : ℕ) → 1 ≤ count p n → (i : ℕ) × (i < n) × (p i ≡ true)
unfolding count
count-find p zero h = absurd (omega arith)
count-find p (suc n) h = ⊎_elim
    (λ e. (n, omega arith, e))
    (λ e. let v = count-find p n (omega (arith, ap bit e)) in (v.0, omega (arith, v.1), v.2))
    (true-or-false (p n))

pub count-other : (p : ℕ → Bool) (n i : ℕ) → i < n → p i ≡ true → 2 ≤ count p n → (j : ℕ) × (j < n) × (j ≡ i → ⊥) × (p j ≡ true)
count-other p n i l e h = (v.0, v.1, other, sym (without-there p i v.0 other) ∙ v.2)
  where
    v : (j : ℕ) × (j < n) × (without p i j ≡ true)
    v = count-find (without p i) n (omega (arith, count-without p i n l e))

    other : v.0 ≡ i → ⊥
    other q = not-both v.2 (without-here p i v.0 q)

-- one fails
pub count_less : (p : ℕ → Bool) (n k : ℕ) → k < n → p k ≡ false → count p n < n
unfolding count
count_less p zero k l e = absurd (omega arith)
count_less p (suc n) k l e = ⊎_elim (λ h. omega (arith, count_less p n k h e, bit_le (p n))) last (lt-or-le k n)
  where
    last : n ≤ k → bit (p n) + count p n < suc n
    last h =
        let q : n ≡ k = omega arith in
        omega (arith, ap (λ i. bit (p i)) q, ap bit e, count-le p n)
