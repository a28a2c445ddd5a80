-- A number's decimal digits: so many as it needs, each a digit, the first of them zero only where it stands alone; and read as figures they are the number.
use mathlib.Core.Path.{◌≡◌, refl, sym, ap, ◌∙◌}
use mathlib.Core.Bool.{true}
use mathlib.Core.List.{List, [], ◌∷◌, ◌++◌}
use mathlib.Core.Logic.{⊎_elim}
use Prim.Native.Nat.{ℕ, zero, suc, ◌+◌, ◌/◌, ◌%◌, ◌^◌, ◌≤◌, ◌<◌}
use native.Mathlib.Nat.{pow-succ'}
use native.Mathlib.Omega.{arith}
use lib.ListN.{length, length-append, get_or-append}
use lib.Seq.{get_or-append_seam}
use borrow.Author.Tests.{lt-ltb, le-ltb, le-leb}
use Rattle.laws.proofs.Deciding.{lt-or-le}
use Rattle.text.specs.Numbers.{byte_at, is_digit, value_at}
use Rattle.text.specs.Written.{decimal}
use Rattle.text.proofs.Numerals.{value-more, value_same}

-- w has up to so many digits and writes n
pub record Writes (most : ℕ) (w : List ℕ) (n : ℕ) : Type 0 where
  pub some : 1 ≤ length w
  pub few : length w ≤ most
  pub digit : (k : ℕ) → k < length w → is_digit (byte_at w k) ≡ true
  pub value : value_at w 0 (length w) ≡ n
  pub zero_alone : byte_at w 0 ≡ 48 → (n ≡ 0) × (length w ≡ 1)

a-digit : (d : ℕ) → d < 10 → is_digit (48 + d) ≡ true
unfolding is_digit
a-digit d l = rw (le-leb 48 (48 + d) (omega arith), lt-ltb (48 + d) 58 (omega arith))

byte_left : (v w : List ℕ) (k : ℕ) → k < length v → byte_at (v ++ w) k ≡ byte_at v k
unfolding byte_at
byte_left v w k l = get_or-append v w 256 k l

byte-seam : (v w : List ℕ) (b : ℕ) → byte_at (v ++ (b ∷ w)) (length v) ≡ b
unfolding byte_at
byte-seam v w b = get_or-append_seam v b w 256

one-digit : (most n : ℕ) → n < 10 → Writes (suc most) ((48 + n) ∷ []) n
unfolding byte_at value_at
one-digit most n l = record {
  some = omega arith;
  few = omega arith;
  digit = only;
  value = omega arith;
  zero_alone = λ e. (omega arith, refl);
}
  where
    only : (k : ℕ) → k < 1 → is_digit (byte_at ((48 + n) ∷ []) k) ≡ true
    only zero g = a-digit n l
    only (suc k) g = absurd (omega arith)

module _ {most n : ℕ} {v : List ℕ} (f : Writes most v (n / 10)) (ten : 10 ≤ n) where
  more-length : length (v ++ ((48 + n % 10) ∷ [])) ≡ length v + 1
  more-length = length-append v ((48 + n % 10) ∷ [])

  more-value : value_at (v ++ ((48 + n % 10) ∷ [])) 0 (length v + 1) ≡ n
  more-value =
      let w = v ++ ((48 + n % 10) ∷ []) in
      let e : 0 + length v ≡ length v = omega arith in
      omega (
        arith,
        value-more w 0 (length v),
        value_same w v 0 0 (length v) (λ k l. byte_left v _ (0 + k) (omega arith)),
        ap (byte_at w) e ∙ byte-seam v [] (48 + n % 10),
        f.value,
      )

  one_digit_more : Writes (suc most) (v ++ ((48 + n % 10) ∷ [])) n
  one_digit_more = record {
    some = omega (arith, more-length);
    few = omega (arith, more-length, f.few);
    digit = λ k l. ⊎_elim
        (λ g. rw (byte_left v _ k g) (f.digit k g))
        (λ g. let e : k ≡ length v = omega (arith, more-length) in rw (e, byte-seam) (a-digit (n % 10) (omega arith)))
        (lt-or-le k (length v));
    value = rw more-length more-value;
    zero_alone = λ e. absurd (omega (arith, f.zero_alone (sym (byte_left v _ 0 f.some) ∙ e)));
  }

-- a number below a power of ten has no more digits than the power says, however many it may have
pub decimal-writes : (most k n : ℕ) → n < 10 ^ most → n < 10 ^ k → 1 ≤ most → 1 ≤ k → Writes k (decimal most n) n
unfolding decimal
decimal-writes zero k n l h m f = absurd (omega arith)
decimal-writes (suc most) zero n l h m f = absurd (omega arith)
decimal-writes (suc most) (suc k) n l h m f = ⊎_elim
    (λ g. rw (lt-ltb n 10 g) (one-digit k n g))
    (λ g. rw (le-ltb n 10 g) (one_digit_more (decimal-writes most k (n / 10) (omega (arith, pow-succ' 10 most)) (omega (arith, pow-succ' 10 k)) (at_least most l g) (at_least k h g)) g))
    (lt-or-le n 10)
  where
    at_least : (k : ℕ) → n < 10 ^ suc k → 10 ≤ n → 1 ≤ k
    at_least zero l g = absurd (omega arith)
    at_least (suc k) l g = omega arith
