-- How many records there are: each row passed up took two that put something into it, one for each branch. So twice the records of rows passed up, and the
-- branches that are not empty, are at most the records that put something; and at the end the records are at most twice the edges less the outlines.
use mathlib.Core.Path.{◌≡◌, refl, sym, ◌∙◌}
use mathlib.Core.Bool.{Bool, true, false, ◌||◌}
use mathlib.Core.Logic.{◌⊎◌, inl, inr, ⊎_elim}
use mathlib.Core.List.{List, [], ◌∷◌}
use Prim.Native.Nat.{ℕ, zero, suc, ◌+◌, ◌≤◌, ◌<◌}
use native.Mathlib.Omega.{arith}
use lib.Dec.{eqb}
use borrow.Author.Tests.{eq-eqb, eqb-true}
use Rattle.laws.specs.Counting.{count}
use Rattle.laws.proofs.Counting.{without, without-there, count-without, count-or, count-implies, count-all}
use Rattle.laws.proofs.Pigeonhole.{pigeon}
use Rattle.steps.specs.declared.Side.{Side}
use Rattle.steps.specs.declared.Side.TheVariants.{Rising, Falling}
use Rattle.hartley.proofs.Paths.DownLaw.{Name, of_edge, of_row, Rec, put, close}

-- 1 for a row, and for an edge of the list
abbrev pub row_bit : Name → ℕ
row_bit (of_edge a) = 0
row_bit (of_row r) = 1

abbrev pub edge_bit : Name → ℕ
edge_bit (of_edge a) = 1
edge_bit (of_row r) = 0

unfoldable pub records : List Rec → ℕ
records [] = 0
records (r ∷ J) = suc (records J)

unfoldable pub puts : List Rec → ℕ
puts [] = 0
puts (put o r k ∷ J) = suc (puts J)
puts (close o k ∷ J) = puts J

unfoldable pub closes : List Rec → ℕ
closes [] = 0
closes (put o r k ∷ J) = closes J
closes (close o k ∷ J) = suc (closes J)

-- the records of rows passed up, and of edges of the list
unfoldable pub passed : List Rec → ℕ
passed [] = 0
passed (put o r k ∷ J) = row_bit o + passed J
passed (close o k ∷ J) = row_bit o + passed J

unfoldable pub listed : List Rec → ℕ
listed [] = 0
listed (put o r k ∷ J) = edge_bit o + listed J
listed (close o k ∷ J) = edge_bit o + listed J

bits : (o : Name) → row_bit o + edge_bit o ≡ 1
bits (of_edge a) = refl
bits (of_row r) = refl

pub two_ways : (J : List Rec) → (records J ≡ puts J + closes J) × (records J ≡ passed J + listed J)
unfolding puts closes passed listed records
two_ways [] = (refl, refl)
two_ways (put o r k ∷ J) = let w = two_ways J in (omega (arith, w.0), omega (arith, w.1, bits o))
two_ways (close o k ∷ J) = let w = two_ways J in (omega (arith, w.0), omega (arith, w.1, bits o))

unfoldable pub some? : ℕ → Bool
some? zero = false
some? (suc k) = true

pub some-yes : (k : ℕ) → 0 < k → some? k ≡ true
unfolding some?
some-yes zero h = absurd (omega arith)
some-yes (suc k) h = refl

pub some_is : (k : ℕ) → some? k ≡ true → 0 < k
unfolding some?
some_is zero h = let z : ◌≡◌ {A = ℕ} 0 1 = cc in absurd (omega arith)
some_is (suc k) h = omega arith

-- at most one number is k
once : (k n : ℕ) → count (λ i. eqb i k) n ≤ 1
once k n = omega (arith, pigeon (λ i j. i ≡ k) (λ i j e a b. a ∙ sym b) (λ i. eqb i k) (λ j. true) n 1 (λ i l u. (0, omega arith, refl, eqb-true i k u)), count-all (λ j. true) 1 (λ i l. refl))

-- at most one more
count-more : (q p : ℕ → Bool) (k n : ℕ) → ((i : ℕ) → i < n → q i ≡ true → (i ≡ k) ⊎ (p i ≡ true)) → count q n ≤ suc (count p n)
count-more q p k n h = omega (arith, once k n, count-or q (λ i. eqb i k) p n (λ i l u. either i (h i l u)))
  where
    second : (a b : Bool) → b ≡ true → (a || b) ≡ true
    second true b e = refl
    second false b e = e

    either : (i : ℕ) → (i ≡ k) ⊎ (p i ≡ true) → (eqb i k || p i) ≡ true
    either i (inl e) = rw (eq-eqb i k e)
    either i (inr e) = second (eqb i k) (p i) e

-- branches that are not empty, by the lengths of the rows below n
unfoldable pub branches : (Side → ℕ → ℕ) → ℕ → ℕ
branches length n = count (λ r. some? (length Falling r)) n + count (λ r. some? (length Rising r)) n

-- from l to l': one branch of r may be new, and a row that is gone had both
module _ (l l' : Side → ℕ → ℕ) (n : ℕ) where
  abbrev Kept : Side → ℕ → Type 0
  Kept t i = some? (l t i) ≡ true

  pub branches-edge : (s : Side) (r : ℕ) → ((t : Side) (i : ℕ) → i < n → some? (l' t i) ≡ true → ((t ≡ s) × (i ≡ r)) ⊎ Kept t i) → branches l' n ≤ suc (branches l n)
  unfolding branches
  branches-edge Rising r f = omega (
    arith,
    count-more (λ i. some? (l' Rising i)) (λ i. some? (l Rising i)) r n (λ i m u. ⊎_elim (λ e. inl e.1) (λ e. inr e) (f Rising i m u)),
    count-implies (λ i. some? (l' Falling i)) (λ i. some? (l Falling i)) n (λ i m u. ⊎_elim (λ e. let a = e.0 in let z : ◌≡◌ {A = ℕ} 0 1 = cc in absurd (omega arith)) (λ e. e) (f Falling i m u)),
  )
  branches-edge Falling r f = omega (
    arith,
    count-more (λ i. some? (l' Falling i)) (λ i. some? (l Falling i)) r n (λ i m u. ⊎_elim (λ e. inl e.1) (λ e. inr e) (f Falling i m u)),
    count-implies (λ i. some? (l' Rising i)) (λ i. some? (l Rising i)) n (λ i m u. ⊎_elim (λ e. let a = e.0 in let z : ◌≡◌ {A = ℕ} 0 1 = cc in absurd (omega arith)) (λ e. e) (f Rising i m u)),
  )

  module _ (c : ℕ) (below : c < n) (had : (t : Side) → Kept t c) where
    -- l without the row c
    but : (t : Side) (i : ℕ) → Kept t i × (i ≡ c → ⊥) → without (λ i. some? (l t i)) c i ≡ true
    but t i h = without-there (λ i. some? (l t i)) c i h.1 ∙ h.0

    drops : (t : Side) → count (λ i. some? (l t i)) n ≡ suc (count (without (λ i. some? (l t i)) c) n)
    drops t = count-without (λ i. some? (l t i)) c n below (had t)

    stays : (t : Side) → ((i : ℕ) → i < n → some? (l' t i) ≡ true → Kept t i × (i ≡ c → ⊥)) → suc (count (λ i. some? (l' t i)) n) ≤ count (λ i. some? (l t i)) n
    stays t f = omega (arith, drops t, count-implies (λ i. some? (l' t i)) (without (λ i. some? (l t i)) c) n (λ i m u. but t i (f i m u)))

    grows : (t : Side) (r : ℕ) → ((i : ℕ) → i < n → some? (l' t i) ≡ true → (i ≡ r) ⊎ (Kept t i × (i ≡ c → ⊥))) → count (λ i. some? (l' t i)) n ≤ count (λ i. some? (l t i)) n
    grows t r f = omega (arith, drops t, count-more (λ i. some? (l' t i)) (without (λ i. some? (l t i)) c) r n (λ i m u. ⊎_elim (λ e. inl e) (λ e. inr (but t i e)) (f i m u)))

    pub branches-row : (s : Side) (r : ℕ) → ((t : Side) (i : ℕ) → i < n → some? (l' t i) ≡ true → ((t ≡ s) × (i ≡ r)) ⊎ (Kept t i × (i ≡ c → ⊥))) → suc (branches l' n) ≤ branches l n
    unfolding branches
    branches-row Rising r f = omega (
      arith,
      grows Rising r (λ i m u. ⊎_elim (λ e. inl e.1) (λ e. inr e) (f Rising i m u)),
      stays Falling (λ i m u. ⊎_elim (λ e. let a = e.0 in let z : ◌≡◌ {A = ℕ} 0 1 = cc in absurd (omega arith)) (λ e. e) (f Falling i m u)),
    )
    branches-row Falling r f = omega (
      arith,
      grows Falling r (λ i m u. ⊎_elim (λ e. inl e.1) (λ e. inr e) (f Falling i m u)),
      stays Rising (λ i m u. ⊎_elim (λ e. let a = e.0 in let z : ◌≡◌ {A = ℕ} 0 1 = cc in absurd (omega arith)) (λ e. e) (f Rising i m u)),
    )

    pub branches-lost : ((t : Side) (i : ℕ) → i < n → some? (l' t i) ≡ true → Kept t i × (i ≡ c → ⊥)) → suc (suc (branches l' n)) ≤ branches l n
    unfolding branches
    branches-lost f = omega (arith, stays Rising (f Rising), stays Falling (f Falling))
