-- A numeral that stands in a text, with no digit after it, is read as its number.
use mathlib.Core.Path.{◌≡◌, refl, sym, ap, ◌∙◌}
use mathlib.Core.Bool.{Bool, true, false, not}
use mathlib.Core.List.{List, ◌∷◌}
use mathlib.Core.Logic.{⊎_elim}
use Prim.Native.Nat.{ℕ, suc, ◌+◌, ◌≤◌}
use native.Mathlib.Omega.{arith}
use lib.Dec.{eqb}
use lib.IntN.{ℤ, pos, negsuc}
use lib.ListN.{length}
use borrow.Author.Tests.{eqb-true, eq-eqb, ne_eqb, le-leb, le-ltb}
use Rattle.laws.proofs.Deciding.{true-or-false, not-both}
use Rattle.laws.proofs.First.{first-is}
use Rattle.text.specs.Said.{read}
use Rattle.text.specs.Numbers.{byte_at, is_digit, minus_at, digits_at, digits_from, value_at, leading_zero, minus_zero, is_numeral, with_sign, numeral_at, number_at}
use Rattle.text.specs.Written.{decimal, numeral, Short}
use Rattle.text.proofs.Bytes.{digit-range}
use Rattle.text.proofs.Numerals.{no_digit, value_same}
use Rattle.text.proofs.Decimals.{Writes, decimal-writes}
use Rattle.text.proofs.Spelled.{Spelled}

-- digits that stand at i, and no digit after them
module _ (s : List ℕ) (i : ℕ) {w : List ℕ} {n : ℕ} (f : Writes 7 w n) (h : Spelled s i w) (e : is_digit (byte_at s (i + length w)) ≡ false) where
  digits_are : digits_from s i ≡ length w
  unfolding digits_from
  digits_are = sym (first-is (no_digit s i) 8 (length w) (omega (arith, f.few)) (λ l. ap (λ (t : Bool). not t) e) (λ k l. ap (λ (t : Bool). not t) (ap is_digit (h k l) ∙ f.digit k l)))

  value-is : value_at s i (length w) ≡ n
  value-is = value_same s w i 0 (length w) (λ k l. let q : k ≡ 0 + k = omega arith in h k l ∙ ap (byte_at w) q) ∙ f.value

  lead_is : byte_at s i ≡ byte_at w 0
  lead_is = let q : i ≡ i + 0 = omega arith in ap (byte_at s) q ∙ h 0 f.some

  no_minus : minus_at s i ≡ false
  unfolding minus_at
  no_minus = ne_eqb (byte_at s i) 45 (λ q. omega (arith, lead_is, digit-range (byte_at w 0) (f.digit 0 f.some)))

  is-numeral : (minus : Bool) → (minus ≡ true → 1 ≤ n) → is_numeral minus (byte_at s i) (length w) ≡ true
  unfolding is_numeral leading_zero minus_zero
  is-numeral minus m = rw (le-leb 1 (length w) f.some, le-leb (length w) 7 f.few) (⊎_elim
      (λ t. let a = f.zero_alone (sym lead_is ∙ eqb-true (byte_at s i) 48 t) in rw (t, le-ltb 1 (length w) (omega (arith, a.1))) (by minus m a.0))
      (λ t. rw t)
      (true-or-false (eqb (byte_at s i) 48)))
    where
      by : (minus : Bool) → (minus ≡ true → 1 ≤ n) → n ≡ 0 → not minus ≡ true
      by true m z = absurd (omega (arith, m refl))
      by false m z = refl

  numeral-read : (minus : Bool) → (minus ≡ true → 1 ≤ n) → numeral_at s minus i (digits_from s i) ≡ read (with_sign minus n) (i + length w)
  unfolding numeral_at
  numeral-read minus m = rw (digits_are, is-numeral minus m, value-is)

-- a minus that stands at i, and digits after it
minus-spelled : (s : List ℕ) (i : ℕ) (w : List ℕ) → Spelled s i (45 ∷ w) → (minus_at s i ≡ true) × Spelled s (i + 1) w
unfolding minus_at byte_at
minus-spelled s i w h = (there, rest)
  where
    there : eqb (byte_at s i) 45 ≡ true
    there = let q : i ≡ i + 0 = omega arith in eq-eqb (byte_at s i) 45 (ap (byte_at s) q ∙ h 0 (omega arith))

    rest : Spelled s (i + 1) w
    rest k l = let q : i + 1 + k ≡ i + suc k = omega arith in ap (byte_at s) q ∙ h (suc k) (omega arith)

pub number_read : (s : List ℕ) (i : ℕ) (z : ℤ) → Short z → Spelled s i (numeral z) → is_digit (byte_at s (i + length (numeral z))) ≡ false
    → number_at s i ≡ read z (i + length (numeral z))
unfolding number_at numeral digits_at with_sign
number_read s i (pos n) l h e =
    let f = decimal-writes 7 7 n l l (omega arith) (omega arith) in
    rw (no_minus s i f h e) (numeral-read s i f h e false (λ q. absurd (not-both q refl)))
number_read s i (negsuc n) l h e =
    let f = decimal-writes 7 7 (suc n) l l (omega arith) (omega arith) in
    let m = minus-spelled s i (decimal 7 (suc n)) h in
    let q : i + suc (length (decimal 7 (suc n))) ≡ i + 1 + length (decimal 7 (suc n)) = omega arith in
    rw (m.0, q) (numeral-read s (i + 1) f m.1 (rw q at e) true (λ t. omega arith))
