-- The rank of points in the range: it orders them as `is_below` does, and points of one rank are one point.
-- A coordinate in the range shifts to a number up to 2,000,000 and keeps its order, so y counts before x in the rank.
use mathlib.Core.Path.{◌≡◌, sym, ap, ◌∙◌}
use mathlib.Core.Bool.{true, cond, ◌&&◌}
use mathlib.Core.Logic.{⊎_elim}
use Prim.Native.Nat.{ℕ, ◌+◌, ◌*◌, ◌-◌, ◌≤◌, ◌<◌}
use native.Mathlib.Omega.{arith}
use lib.Dec.{ltb, leb, eqb}
use lib.IntN.{ℤ, pos, negsuc}
use lib.Signed.{lt_z}
use borrow.Author.Tests.{lt-ltb, le-ltb, leb-true, eq-eqb, ne_eqb}
use Rattle.laws.proofs.Deciding.{lt-or-le, eq-or-ne, true-or-false, both_true}
use Rattle.sheet.specs.declared.Point.{Point}
use Rattle.sheet.specs.Points.{same_z, within, in_range, is_below, is_same}
use Rattle.sheet.specs.Rank.{shift, rank}
use Rattle.sheet.proofs.Signed.{same_z-yes, same_z-no, same_z-true}

-- two tests that agree
ltb-same : (a b c d : ℕ) → (a < b → c < d) → (b ≤ a → d ≤ c) → ltb a b ≡ ltb c d
ltb-same a b c d f g = ⊎_elim (λ h. lt-ltb a b h ∙ sym (lt-ltb c d (f h))) (λ h. le-ltb a b h ∙ sym (le-ltb c d (g h))) (lt-or-le a b)

-- a negative number in the range
low-enough : (n : ℕ) → within (negsuc n) ≡ true → n < 1000000
unfolding within
low-enough n h = let l : n ≤ 999999 = leb-true _ _ (both_true (leb n 999999) true h).0 in omega arith

shift-within : (z : ℤ) → within z ≡ true → shift z ≤ 2000000
unfolding within shift
shift-within (pos n) h = let l : n ≤ 1000000 = leb-true _ _ h in omega arith
shift-within (negsuc n) h = omega arith

shift-lt : (a b : ℤ) → within a ≡ true → within b ≡ true → lt_z a b ≡ ltb (shift a) (shift b)
unfolding shift
shift-lt (pos a) (pos b) ha hb = ltb-same a b (a + 1000000) (b + 1000000) (λ h. omega arith) (λ h. omega arith)
shift-lt (pos a) (negsuc b) ha hb = sym (le-ltb (a + 1000000) (999999 - b) (omega arith))
shift-lt (negsuc a) (pos b) ha hb = sym (lt-ltb (999999 - a) (b + 1000000) (omega arith))
shift-lt (negsuc a) (negsuc b) ha hb =
    let k = low-enough a ha in
    let m = low-enough b hb in
    ltb-same b a (999999 - a) (999999 - b) (λ h. omega arith) (λ h. omega arith)

shift-inj : (a b : ℤ) → within a ≡ true → within b ≡ true → shift a ≡ shift b → a ≡ b
unfolding shift
shift-inj (pos a) (pos b) ha hb e = ap pos (omega arith)
shift-inj (pos a) (negsuc b) ha hb e = absurd (omega arith)
shift-inj (negsuc a) (pos b) ha hb e = absurd (omega arith)
shift-inj (negsuc a) (negsuc b) ha hb e =
    let k = low-enough a ha in
    let m = low-enough b hb in
    let n : a ≡ b = omega arith in
    ap negsuc n

x-within : (p : Point) → in_range p ≡ true → within p.x ≡ true
unfolding in_range
x-within p h = (both_true (within p.x) (within p.y) h).0

y-within : (p : Point) → in_range p ≡ true → within p.y ≡ true
unfolding in_range
y-within p h = (both_true (within p.x) (within p.y) h).1

-- points that are the same are one
pub same_point : (p q : Point) → is_same p q ≡ true → p ≡ q
unfolding is_same
same_point p q t =
    let ey = same_z-true p.y q.y (both_true (same_z p.y q.y) (same_z p.x q.x) t).0 in
    let ex = same_z-true p.x q.x (both_true (same_z p.y q.y) (same_z p.x q.x) t).1 in
    λ i. record { x = ex i; y = ey i }

module _ (p q : Point) (hp : in_range p ≡ true) (hq : in_range q ≡ true) where
  -- points of one rank are one
  pub rank-inj : rank p ≡ rank q → p ≡ q
  unfolding rank
  rank-inj e =
      let bp = shift-within p.x (x-within p hp) in
      let bq = shift-within q.x (x-within q hq) in
      let ey : p.y ≡ q.y = shift-inj p.y q.y (y-within p hp) (y-within q hq) (omega arith) in
      let ex : p.x ≡ q.x = shift-inj p.x q.x (x-within p hp) (x-within q hq) (omega arith) in
      λ i. record { x = ex i; y = ey i }

  -- rank order is the order of points
  pub rank_below : is_below p q ≡ ltb (rank p) (rank q)
  unfolding is_below rank
  rank_below = ⊎_elim level uneven (eq-or-ne (shift p.y) (shift q.y))
    where
      bp : shift p.x ≤ 2000000
      bp = shift-within p.x (x-within p hp)

      bq : shift q.x ≤ 2000000
      bq = shift-within q.x (x-within q hq)

      by-x : shift p.y ≡ shift q.y → ltb (shift p.x) (shift q.x) ≡ ltb (shift p.y * 2097152 + shift p.x) (shift q.y * 2097152 + shift q.x)
      by-x e = ltb-same (shift p.x) (shift q.x) (shift p.y * 2097152 + shift p.x) (shift q.y * 2097152 + shift q.x) (λ h. omega arith) (λ h. omega arith)

      by-y : (shift p.y ≡ shift q.y → ⊥) → ltb (shift p.y) (shift q.y) ≡ ltb (shift p.y * 2097152 + shift p.x) (shift q.y * 2097152 + shift q.x)
      by-y n = ltb-same (shift p.y) (shift q.y) (shift p.y * 2097152 + shift p.x) (shift q.y * 2097152 + shift q.x) (λ h. omega (arith, bp, bq)) (λ h. omega (arith, n, bp, bq))

      level : shift p.y ≡ shift q.y → cond (same_z p.y q.y) (lt_z p.x q.x) (lt_z p.y q.y) ≡ ltb (shift p.y * 2097152 + shift p.x) (shift q.y * 2097152 + shift q.x)
      level e = rw (same_z-yes p.y q.y (shift-inj p.y q.y (y-within p hp) (y-within q hq) e), shift-lt p.x q.x (x-within p hp) (x-within q hq)) (by-x e)

      uneven : (shift p.y ≡ shift q.y → ⊥) → cond (same_z p.y q.y) (lt_z p.x q.x) (lt_z p.y q.y) ≡ ltb (shift p.y * 2097152 + shift p.x) (shift q.y * 2097152 + shift q.x)
      uneven n = rw (same_z-no p.y q.y (λ e. n (ap shift e)), shift-lt p.y q.y (y-within p hp) (y-within q hq)) (by-y n)

  -- sameness of ranks is sameness of points
  pub rank_same : is_same p q ≡ eqb (rank p) (rank q)
  unfolding is_same
  rank_same = ⊎_elim yes no (eq-or-ne (rank p) (rank q))
    where
      yes : rank p ≡ rank q → (same_z p.y q.y && same_z p.x q.x) ≡ eqb (rank p) (rank q)
      yes e = let h = rank-inj e in rw (eq-eqb _ _ e, same_z-yes p.y q.y (ap (λ (o : Point). o.y) h)) (same_z-yes p.x q.x (ap (λ (o : Point). o.x) h))

      no : (rank p ≡ rank q → ⊥) → (same_z p.y q.y && same_z p.x q.x) ≡ eqb (rank p) (rank q)
      no n = rw (ne_eqb _ _ n) (⊎_elim (λ t. absurd (n (ap rank (same_point p q t)))) (λ f. f) (true-or-false (same_z p.y q.y && same_z p.x q.x)))

-- a rank in the range has 42 bits
pub rank-small : (p : Point) → in_range p ≡ true → rank p < 4398046511104
unfolding rank
rank-small p h = omega (arith, shift-within p.x (x-within p h), shift-within p.y (y-within p h))
