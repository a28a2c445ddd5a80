-- A point as one natural number, and a place, for everything above the point type.
use Rattle.std.specs.Prelude.{ℕ, ◌+◌, ◌*◌, ◌-◌, ℤ, pos, negsuc}
use Rattle.std.specs.Int.Signed.{mag}
use Rattle.sheet.specs.declared.Point.{Point}
use Rattle.sheet.specs.Amounts.{films}

-- a coordinate moved up by 1,000,000; 0 where it lies below the range
unfoldable pub shift : ℤ → ℕ
shift (pos n) = n + 1000000
shift (negsuc n) = 999999 - n

-- y counts first, then x. In the range: a point below another has the smaller rank, and points of one rank are one (proofs/Ranks.antt).
unfoldable pub rank : Point → ℕ
rank p = shift p.y * 2097152 + shift p.x

-- 02 M-100: a place is a point with a film. The places of a point stand together, one for each film.
unfoldable pub place_on : ℤ → Point → ℕ
place_on film p = rank p * films + mag film
