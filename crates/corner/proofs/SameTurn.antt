-- Two turns the same way, by the tests of the code: the first is not 0, and both have one sign, as the library numbers signs.
use mathlib.Core.Path.{◌≡◌, refl, sym, ap, ◌∙◌}
use mathlib.Core.Bool.{false}
use Prim.Native.Nat.{ℕ, zero, suc, min}
use native.Mathlib.Omega.{arith}
use lib.Dec.{eqb}
use lib.IntN.{ℤ, pos, negsuc}
use lib.Signed.{lt_z}
use borrow.Author.Tests.{lt-ltb}
use mir.Syntax.{w64}
use mir.Val.{SFits, of_z, to_z}
use mir.ValLaws.{to_z-of_z}
use Rattle.std.specs.Int.{int_signum}
use Rattle.laws.proofs.Deciding.{not-both}
use Rattle.sheet.specs.Turning.{Sign, minus, nought, plus, sign, is_sign}
use Rattle.corner.specs.Turns.{alike}

-- the word of a sign
abbrev word : Sign → ℕ
word minus = 18446744073709551615
word nought = 0
word plus = 1

word_of : (z : ℤ) → of_z w64 (int_signum z) ≡ word (sign z)
unfolding sign
word_of (pos zero) = refl
word_of (pos (suc n)) = let one : min (suc n) 1 ≡ 1 = omega arith in ap (λ (k : ℕ). of_z w64 (pos k)) one
word_of (negsuc n) = refl

by-words : (s t : Sign) → is_sign s nought ≡ false → eqb (word s) (word t) ≡ alike s t
unfolding alike
by-words minus minus h = refl
by-words minus nought h = refl
by-words minus plus h = refl
by-words nought t h = absurd (not-both refl h)
by-words plus minus h = refl
by-words plus nought h = refl
by-words plus plus h = refl

turns : (z : ℤ) → (of_z w64 z ≡ 0 → ⊥) → is_sign (sign z) nought ≡ false
unfolding sign
turns (pos zero) h = absurd (h refl)
turns (pos (suc n)) h = refl
turns (negsuc n) h = refl

pub by-signums : (low high : ℤ) {s t : ℤ} → s ≡ int_signum low → t ≡ int_signum high → (of_z w64 low ≡ 0 → ⊥) → eqb (of_z w64 s) (of_z w64 t) ≡ alike (sign low) (sign high)
by-signums low high e f h = rw (e, f, word_of low, word_of high) (by-words (sign low) (sign high) (turns low h))

nought-alike : (s : Sign) → false ≡ alike nought s
unfolding alike
nought-alike minus = refl
nought-alike nought = refl
nought-alike plus = refl

-- a turn that is none goes no way
pub no-turn : (low high : ℤ) → SFits w64 low → of_z w64 low ≡ 0 → false ≡ alike (sign low) (sign high)
unfolding sign
no-turn low high fits h = let z : low ≡ pos 0 = sym (to_z-of_z w64 low fits) ∙ ap (to_z w64) h in rw z (nought-alike (sign high))

-- whether a turn goes the other way is tested by comparing with 0
pub above-0 : (z : ℤ) → lt_z (pos 0) z ≡ is_sign (sign z) plus
unfolding sign
above-0 (pos zero) = refl
above-0 (pos (suc n)) = lt-ltb 0 (suc n) (omega arith)
above-0 (negsuc n) = refl
