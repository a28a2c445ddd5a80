-- Directions round a point, in whole numbers: which way one turns from one to another, and which of two is met first turning clockwise.
use Rattle.std.specs.Prelude.{Bool, true, false, ◌&&◌, ◌||◌, ℕ, zero, suc, ltb, eqb, ℤ, pos, negsuc, ◌-ℤ◌, ◌*ℤ◌}
use Rattle.sheet.specs.declared.Point.{Point}

pub data Sign : Type 0 where
  minus : Sign
  nought : Sign
  plus : Sign

unfoldable pub sign : ℤ → Sign
sign (pos zero) = nought
sign (pos (suc n)) = plus
sign (negsuc n) = minus

abbrev pub is_sign : Sign → Sign → Bool
is_sign minus minus = true
is_sign minus nought = false
is_sign minus plus = false
is_sign nought minus = false
is_sign nought nought = true
is_sign nought plus = false
is_sign plus minus = false
is_sign plus nought = false
is_sign plus plus = true

-- from a point to another one: how far to the right, and how far up
pub record Direction : Type 0 where
  pub right : ℤ
  pub up : ℤ

unfoldable pub towards : Point → Point → Direction
towards p q = record { right = q.x -ℤ p.x; up = q.y -ℤ p.y }

unfoldable pub cross : Direction → Direction → ℤ
cross d b = d.right *ℤ b.up -ℤ d.up *ℤ b.right

-- from d to b one turns by less than half a turn: clockwise where this is minus, the other way where it is plus; nought where they lie in one line
unfoldable pub turn : Direction → Direction → Sign
turn d b = sign (cross d b)

-- two in one direction: in one line, and on the same side of the point
unfoldable pub same_way : Direction → Direction → Bool
same_way d b = is_sign (turn d b) nought && (is_sign (sign d.right) (sign b.right) && is_sign (sign d.up) (sign b.up))

-- turning clockwise from a direction one meets what lies clockwise of it, then the opposite, then the rest ..
abbrev pub stretch : Sign → ℕ
stretch minus = 0
stretch nought = 1
stretch plus = 2

-- .. and in one stretch first the one from which the other lies clockwise
abbrev pub sooner_by : Sign → Sign → Sign → Bool
sooner_by b c bc = ltb (stretch b) (stretch c) || (eqb (stretch b) (stretch c) && is_sign bc minus)

-- turning clockwise from d, b is met before c; of no two in one direction
unfoldable pub sooner : Direction → Direction → Direction → Bool
sooner d b c = sooner_by (turn d b) (turn d c) (turn b c)
