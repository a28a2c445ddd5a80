-- A number's digits laid at a place: the only one, or the last after those of the tenth. A number of 32 bits has up to ten.
use mathlib.Core.List.{[], ◌∷◌}
use Prim.Native.Nat.{ℕ, ◌+◌, ◌/◌, ◌%◌, ◌≤◌, ◌<◌}
use native.Mathlib.Omega.{arith}
use Rattle.printing.specs.Output.{decimal}
use Rattle.printing.specs.declared.bytes.Output.{Output}
use Rattle.printing.specs.Laid.{Put}
use Rattle.printing.proofs.Digits.{one-digit, last-digit, few-digits}
use Rattle.printing.proofs.Laying.{put_then}

module _ {x z : Output} (n : ℕ) (fits : n < 4294967296) where
  ten-places : Put x (decimal n) z → Put x (decimal n) z × (z.at ≤ x.at + 10)
  ten-places a = (a, omega (arith, a.laid.place, few-digits 9 n (omega arith)))

  pub only-digit-put : n < 10 → Put x ((48 + n) ∷ []) z → Put x (decimal n) z × (z.at ≤ x.at + 10)
  only-digit-put l a = ten-places (rw (one-digit n l) a)

  pub last-digit-put : {y : Output} → 10 ≤ n → Put x (decimal (n / 10)) y → Put y ((48 + n % 10) ∷ []) z → Put x (decimal n) z × (z.at ≤ x.at + 10)
  last-digit-put l a b = ten-places (rw (last-digit n l) (put_then a b))
