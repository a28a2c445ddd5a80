-- Where a number is read, its numeral stands: the digits in the text are the decimal digits of their value, digit by digit from the front,
-- since a zero stands in front of no other digit and a minus in front of no zero.
use mathlib.Core.Path.{◌≡◌, refl, ap, ◌∙◌}
use mathlib.Core.Bool.{Bool, true, false, not}
use mathlib.Core.List.{List, [], ◌∷◌, ◌++◌}
use mathlib.Core.Logic.{⊎_elim}
use Prim.Native.Nat.{ℕ, zero, suc, ◌+◌, ◌-◌, ◌≤◌, ◌<◌, ◌*◌, ◌/◌, ◌%◌}
use native.Mathlib.Omega.{arith}
use lib.Dec.{leb}
use lib.IntN.{ℤ, pos, neg_ℤ, nat_abs}
use lib.ListN.{length, length-append}
use borrow.Author.Tests.{eqb-true, eq-eqb, le-ltb, lt-ltb, not-true}
use Rattle.laws.proofs.Deciding.{true-or-false, not-both, lt-or-le, both_true}
use Rattle.text.specs.Numbers.{byte_at, minus_at, digits_at, digits_from, value_at, leading_zero, minus_zero, is_numeral, with_sign, number_at}
use Rattle.text.specs.Written.{decimal, numeral, Short}
use Rattle.text.proofs.Bytes.{digit-range}
use Rattle.text.proofs.Numerals.{digit-there, numeral-few, value-small}
use Rattle.text.specs.Said.{read}
use Rattle.text.proofs.Parts.{number-parts}
use Rattle.text.proofs.Spelled.{Spelled, spelled-join, spelled-byte}

decimal-small : (most n : ℕ) → n < 10 → decimal (suc most) n ≡ (48 + n) ∷ []
unfolding decimal
decimal-small most n l = rw (lt-ltb n 10 l)

decimal-large : (most n : ℕ) → 10 ≤ n → decimal (suc most) n ≡ decimal most (n / 10) ++ ((48 + n % 10) ∷ [])
unfolding decimal
decimal-large most n l = rw (le-ltb n 10 l)

value-suc : (s : List ℕ) (a d : ℕ) → value_at s a (suc d) ≡ 10 * value_at s a d + (byte_at s (a + d) - 48)
unfolding value_at
value-suc s a d = refl

value-one : (s : List ℕ) (a : ℕ) → value_at s a 1 ≡ byte_at s (a + 0) - 48
unfolding value_at
value-one s a = omega arith

-- digits that stand at a, the first of them zero only where it is alone: they are the decimal digits of their value
module _ (s : List ℕ) (a : ℕ) where
  figure-fits : (k : ℕ) → k < digits_from s a → (48 ≤ byte_at s (a + k)) × (byte_at s (a + k) < 58)
  figure-fits k l = digit-range _ (digit-there s a k l)

  lead-positive : (d : ℕ) → suc d ≤ digits_from s a → (byte_at s a ≡ 48 → ⊥) → 1 ≤ value_at s a (suc d)
  unfolding value_at
  lead-positive zero l h =
      let q : a + 0 ≡ a = omega arith in
      ⊎_elim (λ g. omega arith) (λ g. absurd (h (omega (arith, ap (byte_at s) q, figure-fits 0 (omega arith))))) (lt-or-le 48 (byte_at s (a + 0)))
  lead-positive (suc d) l h = omega (arith, lead-positive d (omega arith) h)

  record IsDecimal (most d : ℕ) : Type 0 where
    as_long : length (decimal most (value_at s a d)) ≡ d
    there : Spelled s a (decimal most (value_at s a d))

  one-digit : (most : ℕ) → 1 ≤ digits_from s a → IsDecimal (suc most) 1
  one-digit most l =
      let r = figure-fits 0 (omega arith) in
      let q : a + 0 ≡ a = omega arith in
      let v : value_at s a 1 ≡ byte_at s (a + 0) - 48 = value-one s a in
      let e = decimal-small most (value_at s a 1) (omega arith) in
      record { as_long = ap length e; there = rw e (spelled-byte s a (48 + value_at s a 1) (omega (arith, ap (byte_at s) q))) }

  one_digit_more : (most d : ℕ) → suc d < digits_from s a → (byte_at s a ≡ 48 → ⊥) → IsDecimal most (suc d) → IsDecimal (suc most) (suc (suc d))
  one_digit_more most d l h f = record {
    as_long = ap length digits ∙ length-append (decimal most u) (x ∷ []) ∙ (let q = f.as_long in omega arith);
    there = rw digits (spelled-join s a (decimal most u) (x ∷ []) f.there (spelled-byte s (a + length (decimal most u)) x (ap (λ (n : ℕ). byte_at s (a + n)) f.as_long)));
  }
    where
      u : ℕ
      u = value_at s a (suc d)

      x : ℕ
      x = byte_at s (a + suc d)

      digits : decimal (suc most) (value_at s a (suc (suc d))) ≡ decimal most u ++ (x ∷ [])
      digits =
          let v : value_at s a (suc (suc d)) ≡ 10 * value_at s a (suc d) + (byte_at s (a + suc d) - 48) = value-suc s a (suc d) in
          let r = figure-fits (suc d) l in
          let m = lead-positive d (omega arith) h in
          let p : value_at s a (suc (suc d)) / 10 ≡ value_at s a (suc d) = omega arith in
          let o : 48 + value_at s a (suc (suc d)) % 10 ≡ byte_at s (a + suc d) = omega arith in
          rw (p, o) at (decimal-large most (value_at s a (suc (suc d))) (omega arith))

  digits_decimal : (most d : ℕ) → suc d ≤ most → suc d ≤ digits_from s a → (1 < suc d → byte_at s a ≡ 48 → ⊥) → IsDecimal most (suc d)
  digits_decimal zero d m l h = absurd (omega arith)
  digits_decimal (suc most) zero m l h = one-digit most l
  digits_decimal (suc most) (suc d) m l h = one_digit_more most d (omega arith) (h (omega arith)) (digits_decimal most d (omega arith) (omega arith) (λ g. h (omega arith)))

numeral-zeros : (minus : Bool) (lead d : ℕ) → is_numeral minus lead d ≡ true → (leading_zero lead d ≡ false) × (minus_zero minus lead ≡ false)
unfolding is_numeral
numeral-zeros minus lead d e =
    let v = both_true (leb 1 d) _ e in
    let w = both_true (leb d 7) _ v.1 in
    let u = both_true (not (leading_zero lead d)) (not (minus_zero minus lead)) w.1 in
    (not-true _ u.0, not-true _ u.1)

numeral-lead : (minus : Bool) (lead d : ℕ) → is_numeral minus lead d ≡ true → 1 < d → lead ≡ 48 → ⊥
unfolding leading_zero
numeral-lead minus lead d e l q =
    let y : leading_zero lead d ≡ true = rw (eq-eqb lead 48 q) (lt-ltb 1 d l) in
    not-both y (numeral-zeros minus lead d e).0

numeral-sign : (lead d : ℕ) → is_numeral true lead d ≡ true → lead ≡ 48 → ⊥
unfolding minus_zero
numeral-sign lead d e q =
    let y : minus_zero true lead ≡ true = rw (eq-eqb lead 48 q) in
    not-both y (numeral-zeros true lead d e).1

-- the digits of a numeral are the decimal digits of its value
module _ (s : List ℕ) (a : ℕ) (minus : Bool) (e : is_numeral minus (byte_at s a) (digits_from s a) ≡ true) where
  numeral-decimal : IsDecimal s a 7 (digits_from s a)
  numeral-decimal =
      let f = numeral-few minus (byte_at s a) (digits_from s a) e in
      let q : suc (digits_from s a - 1) ≡ digits_from s a = omega arith in
      rw q at (digits_decimal s a 7 (digits_from s a - 1) (omega arith) (omega arith) (λ l. numeral-lead minus (byte_at s a) (digits_from s a) e (omega arith)))

  numeral-small : value_at s a (digits_from s a) < 10000000
  numeral-small = value-small s a (digits_from s a) (numeral-few minus (byte_at s a) (digits_from s a) e).1 (omega arith)

numeral-positive : (s : List ℕ) (a : ℕ) → is_numeral true (byte_at s a) (digits_from s a) ≡ true → 1 ≤ value_at s a (digits_from s a)
numeral-positive s a e =
    let f = numeral-few true (byte_at s a) (digits_from s a) e in
    let q : suc (digits_from s a - 1) ≡ digits_from s a = omega arith in
    rw q at (lead-positive s a (digits_from s a - 1) (omega arith) (numeral-sign (byte_at s a) (digits_from s a) e))

negative-numeral : (n : ℕ) → 1 ≤ n → (numeral (neg_ℤ (pos n)) ≡ 45 ∷ decimal 7 n) × (nat_abs (neg_ℤ (pos n)) ≡ n)
unfolding numeral
negative-numeral zero l = absurd (omega arith)
negative-numeral (suc n) l = (refl, refl)

-- a number that was read is short and stands there as it is written
pub record StandsWritten (s : List ℕ) (i : ℕ) (z : ℤ) (end : ℕ) : Type 0 where
  pub short : Short z
  pub there : Spelled s i (numeral z)
  pub past : end ≡ i + length (numeral z)

module _ (s : List ℕ) (i : ℕ) where
  plain-written : is_numeral false (byte_at s i) (digits_from s i) ≡ true → StandsWritten s i (pos (value_at s i (digits_from s i))) (i + digits_from s i)
  unfolding numeral
  plain-written e =
      let f = numeral-decimal s i false e in
      record { short = numeral-small s i false e; there = f.there; past = omega (arith, f.as_long) }

  negative-written : minus_at s i ≡ true → is_numeral true (byte_at s (i + 1)) (digits_from s (i + 1)) ≡ true
      → StandsWritten s i (neg_ℤ (pos (value_at s (i + 1) (digits_from s (i + 1))))) (i + 1 + digits_from s (i + 1))
  unfolding minus_at
  negative-written m e =
      let f = numeral-decimal s (i + 1) true e in
      let n = negative-numeral (value_at s (i + 1) (digits_from s (i + 1))) (numeral-positive s (i + 1) e) in
      let w = decimal 7 (value_at s (i + 1) (digits_from s (i + 1))) in
      record {
        short = rw n.1 (numeral-small s (i + 1) true e);
        there = rw n.0 (spelled-join s i (45 ∷ []) w (spelled-byte s i 45 (eqb-true (byte_at s i) 45 m)) f.there);
        past = rw n.0 (omega (arith, f.as_long));
      }

  digits-after : minus_at s i ≡ true → digits_at s i ≡ i + 1
  unfolding digits_at
  digits-after m = rw m

  digits-here : minus_at s i ≡ false → digits_at s i ≡ i
  unfolding digits_at
  digits-here m = rw m

  -- the sign and the place of the digits, once it is known whether a minus stands
  sign-known : {z : ℤ} {t : Bool} {a : ℕ} → minus_at s i ≡ t → digits_at s i ≡ a
      → z ≡ with_sign (minus_at s i) (value_at s (digits_at s i) (digits_from s (digits_at s i))) → z ≡ with_sign t (value_at s a (digits_from s a))
  sign-known {t = t} m g v = v ∙ ap (λ (u : Bool). with_sign u (value_at s (digits_at s i) (digits_from s (digits_at s i)))) m ∙ ap (λ (a : ℕ). with_sign t (value_at s a (digits_from s a))) g

  pub number-written : {z : ℤ} {c : ℕ} → number_at s i ≡ read z c → StandsWritten s i z c
  unfolding with_sign
  number-written {z} {c} h = let p = number-parts s i h in ⊎_elim
      (λ m. let g = digits-after m in rw (sign-known m g p.value, p.end, g) (negative-written m (rw (m, g) at p.numeral)))
      (λ m. let g = digits-here m in rw (sign-known m g p.value, p.end, g) (plain-written (rw (m, g) at p.numeral)))
      (true-or-false (minus_at s i))
