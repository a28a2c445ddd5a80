-- The byte at a place: inside the text it is the list's element, past the end it is 256. So where a byte below 256 is seen, the text goes on.
use mathlib.Core.Path.{◌≡◌, refl, sym}
use mathlib.Core.Bool.{true}
use mathlib.Core.List.{List, [], ◌∷◌}
use mathlib.Core.Logic.{⊎_elim}
use Prim.Native.Nat.{ℕ, zero, suc, ◌+◌, ◌≤◌, ◌<◌}
use native.Mathlib.Omega.{arith}
use lib.ListN.{get_or, length, take, drop, get_or-eq_default}
use Rattle.std.proofs.lemmas.List.{get_or-drop, get_or-take}
use borrow.Author.Tests.{leb-true, ltb-true, eqb-true}
use Rattle.laws.proofs.Deciding.{lt-or-le, both_true}
use Rattle.text.specs.Numbers.{byte_at, is_digit, minus_at}

pub byte-in : (s : List ℕ) (i : ℕ) → i < length s → get_or s i 0 ≡ byte_at s i
unfolding byte_at
byte-in [] i l = absurd (omega arith)
byte-in (b ∷ s) zero l = refl
byte-in (b ∷ s) (suc i) l = byte-in s i (omega arith)

pub byte-out : (s : List ℕ) (i : ℕ) → length s ≤ i → 256 ≡ byte_at s i
unfolding byte_at
byte-out s i l = sym (get_or-eq_default s 256 l)

-- a byte of what is left of a text
pub byte-further : (s : List ℕ) (i k : ℕ) → byte_at (drop i s) k ≡ byte_at s (i + k)
unfolding byte_at
byte-further s i k = get_or-drop i s k 256

-- a byte of the front of a text
pub byte-in-front : (s : List ℕ) (n k : ℕ) → k < n → byte_at (take n s) k ≡ byte_at s k
unfolding byte_at
byte-in-front s n k l = get_or-take n s k 256 l

pub byte-stands : (s : List ℕ) (i : ℕ) → byte_at s i < 256 → i < length s
byte-stands s i b = ⊎_elim (λ l. l) (λ l. absurd (omega (arith, byte-out s i l))) (lt-or-le i (length s))

pub digit-range : (b : ℕ) → is_digit b ≡ true → (48 ≤ b) × (b < 58)
unfolding is_digit
digit-range b e = let v = both_true _ _ e in (leb-true _ _ v.0, ltb-true _ _ v.1)

pub digit-stands : (s : List ℕ) (i : ℕ) → is_digit (byte_at s i) ≡ true → i < length s
digit-stands s i e = byte-stands s i (omega (arith, digit-range _ e))

pub minus-stands : (s : List ℕ) (i : ℕ) → minus_at s i ≡ true → i < length s
unfolding minus_at
minus-stands s i e = byte-stands s i (omega (arith, eqb-true (byte_at s i) 45 e))
