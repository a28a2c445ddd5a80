-- A statement about signs alone is written as a test and proved by trying all of them.
use mathlib.Core.Path.{◌≡◌, refl}
use mathlib.Core.Bool.{Bool, true, false, ◌&&◌}
use Rattle.laws.proofs.Deciding.{both_true, not-both}
use Rattle.sheet.specs.Turning.{Sign, minus, nought, plus, is_sign}

abbrev pub all : (Sign → Bool) → Bool
all f = f minus && (f nought && f plus)

pub all-signs : (f : Sign → Bool) → all f ≡ true → (s : Sign) → f s ≡ true
all-signs f h minus = (both_true (f minus) (f nought && f plus) h).0
all-signs f h nought = (both_true (f nought) (f plus) (both_true (f minus) (f nought && f plus) h).1).0
all-signs f h plus = (both_true (f nought) (f plus) (both_true (f minus) (f nought && f plus) h).1).1

abbrev pub all3 : (Sign → Sign → Sign → Bool) → Bool
all3 f = all (λ x. all (λ y. all (f x y)))

pub all-signs3 : (f : Sign → Sign → Sign → Bool) → all3 f ≡ true → (x y z : Sign) → f x y z ≡ true
all-signs3 f h x y z = all-signs (f x y) (all-signs (λ y. all (f x y)) (all-signs (λ x. all (λ y. all (f x y))) h x) y) z

-- a statement is a test: one that follows from another, and two that agree
abbrev pub implies : Bool → Bool → Bool
implies true b = b
implies false b = true

pub then : (a : Bool) {b : Bool} → implies a b ≡ true → a ≡ true → b ≡ true
then true h e = h
then false h e = absurd (not-both e refl)

abbrev pub agree : Bool → Bool → Bool
agree true true = true
agree true false = false
agree false true = false
agree false false = true

pub agreed : (a b : Bool) → agree a b ≡ true → a ≡ b
agreed true true h = refl
agreed true false h = absurd (not-both h refl)
agreed false true h = absurd (not-both h refl)
agreed false false h = refl

pub is_sign-self : (s : Sign) → is_sign s s ≡ true
is_sign-self = all-signs (λ s. is_sign s s) refl

pub is_sign-true : (s t : Sign) → is_sign s t ≡ true → s ≡ t
is_sign-true minus minus h = refl
is_sign-true minus nought h = absurd (not-both h refl)
is_sign-true minus plus h = absurd (not-both h refl)
is_sign-true nought minus h = absurd (not-both h refl)
is_sign-true nought nought h = refl
is_sign-true nought plus h = absurd (not-both h refl)
is_sign-true plus minus h = absurd (not-both h refl)
is_sign-true plus nought h = absurd (not-both h refl)
is_sign-true plus plus h = refl
