-- Digits in a row. Those that `digits_from` counts are digits and stand in the text, so d of them write a number below 10 to the d:
-- seven stay below ten million.
use mathlib.Core.Path.{◌≡◌, refl, sym, ap, ◌∙◌}
use mathlib.Core.Bool.{Bool, true, false, cond, not, ◌&&◌}
use lib.Dec.{leb}
use mathlib.Core.List.{List, [], ◌∷◌}
use mathlib.Core.Logic.{⊎_elim}
use Prim.Native.Nat.{ℕ, zero, suc, ◌+◌, ◌-◌, ◌*◌, ◌^◌, ◌≤◌, ◌<◌}
use native.Mathlib.Numerals.{add-one}
use native.Mathlib.Nat.{pow-succ', pow-le-pow_right}
use native.Mathlib.Omega.{arith}
use lib.IntN.{ℤ}
use mir.Syntax.{w32}
use mir.Val.{to_z, of_z}
use lib.ListN.{get_or, length, take, drop, length-take}
use Rattle.std.specs.Prelude.{take_while}
use Rattle.std.specs.Char.{is_ascii_digit}
use Rattle.std.proofs.lemmas.List.Folds.{length-prefix_len}
use Rattle.std.proofs.lemmas.List.Sums.{prefix_len_is}
use borrow.Author.Tests.{leb-true, le-leb, lt-leb, lt-ltb, le-ltb, not-true, not-false}
use Rattle.laws.proofs.Deciding.{both_true, lt-or-le}
use Rattle.laws.proofs.First.{first-le, first_holds, first-least, first-same}
use Rattle.text.specs.Said.{read, refused, malformed}
use Rattle.text.specs.Numbers.{byte_at, is_digit, AllDigits, Digits, minus_at, digits_at, digits_from, value_at, is_numeral, with_sign, numeral_at, number_at}
use Rattle.sheet.proofs.Signed.{read_back}
use Rattle.text.proofs.Signs.{mag-signed}
use Rattle.text.proofs.Bytes.{byte-in, byte-further, byte-in-front, digit-range, digit-stands}

-- the byte k places after i is no digit
abbrev pub no_digit : List ℕ → ℕ → ℕ → Bool
no_digit s i k = not (is_digit (byte_at s (i + k)))

module _ (s : List ℕ) (i : ℕ) where
  pub digit-there : (k : ℕ) → k < digits_from s i → is_digit (byte_at s (i + k)) ≡ true
  unfolding digits_from
  digit-there k l = not-false _ (first-least (no_digit s i) 8 k l)

  digits-stand : (d : ℕ) → 1 ≤ d → d ≤ digits_from s i → i + d ≤ length s
  digits-stand d p l = omega (arith, digit-stands s (i + (d - 1)) (digit-there (d - 1) (omega arith)))

  pub value-more : (k : ℕ) → value_at s i (k + 1) ≡ 10 * value_at s i k + (byte_at s (i + k) - 48)
  unfolding value_at
  value-more k = rw add-one

  value-below : (d : ℕ) → ((k : ℕ) → k < d → is_digit (byte_at s (i + k)) ≡ true) → value_at s i d < 10 ^ d
  unfolding value_at
  value-below zero h = omega arith
  value-below (suc d) h = omega (arith, pow-succ' 10 d, value-below d (λ k l. h k (omega arith)), digit-range _ (h d (omega arith)))

  few-below : (d : ℕ) → d ≤ 7 → ((k : ℕ) → k < d → is_digit (byte_at s (i + k)) ≡ true) → value_at s i d < 10000000
  few-below d p h =
      let l : 10 ^ d ≤ 10000000 = pow-le-pow_right (omega arith) p in
      omega (arith, value-below d h)

  pub value-small : (d : ℕ) → d ≤ 7 → d ≤ digits_from s i → value_at s i d < 10000000
  value-small d p l = few-below d p (λ k m. digit-there k (omega arith))

ascii-same : (b : ℕ) → is_ascii_digit b ≡ is_digit b
unfolding is_digit
ascii-same b = ap (λ (t : Bool). leb 48 b && t) (⊎_elim (λ l. le-leb b 57 (omega arith) ∙ sym (lt-ltb b 58 l)) (λ l. lt-leb b 57 (omega arith) ∙ sym (le-ltb b 58 l)) (lt-or-le b 58))

-- the digits in front of a text, up to 8 of them
module _ (s : List ℕ) where
  in-text : digits_from s 0 ≤ length s
  in-text = ⊎_elim (λ l. omega arith) (λ l. omega (arith, digits-stand s 0 (digits_from s 0) l (omega arith))) (lt-or-le (digits_from s 0) 1)

  tried : (k : ℕ) → k < 8 → is_ascii_digit (get_or (take 8 s) k 256) ≡ is_digit (byte_at s (0 + k))
  unfolding byte_at
  tried k l = let q : k ≡ 0 + k = omega arith in ascii-same _ ∙ ap is_digit (byte-in-front s 8 k l ∙ ap (byte_at s) q)

  stops : digits_from s 0 < 8 → is_digit (byte_at s (0 + digits_from s 0)) ≡ false
  unfolding digits_from
  stops l = not-true _ (first_holds (no_digit s 0) 8 l)

  few_in_front : digits_from s 0 ≤ 8
  unfolding digits_from
  few_in_front = first-le (no_digit s 0) 8

  pub digits-in-front : length (take_while is_ascii_digit (take 8 s)) ≡ digits_from s 0
  digits-in-front =
      length-prefix_len is_ascii_digit (take 8 s)
      ∙ prefix_len_is is_ascii_digit (take 8 s) (digits_from s 0) 256
      (omega (arith, length-take 8 s, in-text, few_in_front))
      (λ k l. tried k (omega (arith, few_in_front)) ∙ digit-there s 0 k l)
      (λ l. let m : digits_from s 0 < 8 = omega (arith, length-take 8 s) in tried _ m ∙ stops m)

-- as many digits stand from i on as in front of what is left there
pub digits-further : (s : List ℕ) (i : ℕ) → digits_from (drop i s) 0 ≡ digits_from s i
unfolding digits_from
digits-further s i = first-same (no_digit (drop i s) 0) (no_digit s i) 8 (λ k l. let q : 0 + k ≡ k = omega arith in ap (λ (b : ℕ). not (is_digit b)) (ap (byte_at (drop i s)) q ∙ byte-further s i k))

pub digits-taken : (s : List ℕ) (i : ℕ) {r : List ℕ} {n : ℕ} → r ≡ drop i s → n ≡ length (take_while is_ascii_digit (take 8 r)) → Digits s i (take n r)
digits-taken s i {r} {n} e f =
    let q : n ≡ digits_from s i = f ∙ digits-in-front r ∙ ap (λ (t : List ℕ). digits_from t 0) e ∙ digits-further s i in
    record {
      count = omega (arith, length-take n r, in-text r, digits-in-front r, f, q);
      bytes = λ k l. byte-in-front r n k (omega (arith, length-take n r)) ∙ ap (λ (t : List ℕ). byte_at t k) e ∙ byte-further s i k;
    }

-- the digits of a list: of those passed, one more
module _ (w : List ℕ) (h : AllDigits w) where
  pub digit-is : (k : ℕ) → k < length w → (48 ≤ get_or w k 0) × (get_or w k 0 < 58)
  digit-is k l = rw (byte-in w k l) (digit-range _ (h k l))

  pub value-grown : (k : ℕ) → k < length w → value_at w 0 (k + 1) ≡ 10 * value_at w 0 k + (get_or w k 0 - 48)
  value-grown k l = let q : 0 + k ≡ k = omega arith in omega (arith, value-more w 0 k, ap (byte_at w) q, byte-in w k l)

  pub list-small : (k : ℕ) → k ≤ length w → k ≤ 7 → value_at w 0 k < 10000000
  list-small k l m = few-below w 0 k m (λ j n. let q : 0 + j ≡ j = omega arith in ap (λ (b : ℕ). is_digit (byte_at w b)) q ∙ h j (omega arith))

-- the value goes by the bytes
pub value_same : (s t : List ℕ) (i j d : ℕ) → ((k : ℕ) → k < d → byte_at s (i + k) ≡ byte_at t (j + k)) → value_at s i d ≡ value_at t j d
unfolding value_at
value_same s t i j zero h = refl
value_same s t i j (suc d) h = rw (value_same s t i j d (λ k l. h k (omega arith)), h d (omega arith))

pub numeral-few : (minus : Bool) (lead d : ℕ) → is_numeral minus lead d ≡ true → (1 ≤ d) × (d ≤ 7)
unfolding is_numeral
numeral-few minus lead d e =
    let v = both_true _ _ e in
    let w = both_true _ _ v.1 in
    (leb-true _ _ v.0, leb-true _ _ w.0)

-- a numeral goes by its digits
numeral-same : (minus : Bool) (s w : List ℕ) (a : ℕ) → Digits s a w → is_numeral minus (byte_at w 0) (length w) ≡ is_numeral minus (byte_at s a) (digits_from s a)
unfolding is_numeral
numeral-same minus s [] a f = rw (← f.count)
numeral-same minus s (b ∷ w) a f = let q : a + 0 ≡ a = omega arith in rw (← f.count, f.bytes 0 (omega arith), q)

-- The digits w, after a minus or not, write the number at i: they are digits, few, and stand in the text.
pub record IsNumber (s : List ℕ) (i : ℕ) (minus : Bool) (a : ℕ) (w : List ℕ) : Type 0 where
  pub few : length w ≤ 7
  pub digits : AllDigits w
  pub stands : a + length w ≤ length s
  pub small : value_at w 0 (length w) < 10000000
  pub number : read (with_sign minus (value_at w 0 (length w))) (a + length w) ≡ number_at s i

-- A number read step by step: the minus, the place of the digits, and those that stand there.
module _ (s : List ℕ) (i : ℕ) {minus : Bool} {a : ℕ} {t w : List ℕ} (m : minus ≡ minus_at s i) (p : a ≡ digits_at s i) (e : t ≡ s) (f : Digits t a w) where
  there : Digits s a w
  there = rw e at f

  by-digits : value_at s a (digits_from s a) ≡ value_at w 0 (length w)
  by-digits = rw (← there.count) (value_same s w a 0 (length w) (λ k l. let q : 0 + k ≡ k = omega arith in sym (there.bytes k l) ∙ sym (ap (byte_at w) q)))

  taken-apart : (t : Bool) → is_numeral minus (byte_at w 0) (length w) ≡ t → cond t (read (with_sign minus (value_at w 0 (length w))) (a + length w)) (refused malformed) ≡ number_at s i
  unfolding number_at numeral_at
  taken-apart t h =
      let g : is_numeral minus (byte_at s a) (digits_from s a) ≡ t = sym (numeral-same minus s w a there) ∙ h in
      rw (← m, ← p, g, by-digits, there.count)

  pub no_number : is_numeral minus (byte_at w 0) (length w) ≡ false → refused malformed ≡ number_at s i
  no_number h = taken-apart false h

  pub is_number : is_numeral minus (byte_at w 0) (length w) ≡ true → IsNumber s i minus a w
  is_number h =
      let n = numeral-few minus (byte_at w 0) (length w) h in
      let digits : AllDigits w = λ k l. ap is_digit (there.bytes k l) ∙ digit-there s a k (omega (arith, there.count)) in
      record {
        few = n.1;
        digits = digits;
        stands = omega (arith, there.count, digits-stand s a (length w) n.0 (omega (arith, there.count)));
        small = list-small w digits (length w) (omega arith) n.1;
        number = taken-apart true h;
      }

-- the number in 32 bits
pub a-number : {s : List ℕ} {i : ℕ} {minus : Bool} {a v : ℕ} {w : List ℕ} {z : ℤ} → IsNumber s i minus a w → v ≡ value_at w 0 (length w) → z ≡ with_sign minus v
    → read (to_z w32 (of_z w32 z)) (a + length w) ≡ number_at s i
a-number {minus = minus} {v = v} f e g = rw (g, read_back (with_sign minus v) (omega (arith, f.small, mag-signed minus v)), e) f.number
