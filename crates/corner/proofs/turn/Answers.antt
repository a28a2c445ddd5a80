-- `turn` meets its contract: the four gaps are those of the two directions, so both products and their difference fit.
use mathlib.Core.Path.{◌≡◌}
use mathlib.Core.Bool.{true}
use lib.IntN.{ℤ, ◌-ℤ◌}
use mir.Syntax.{w32, w64}
use mir.Val.{to_z, of_z}
use Rattle.laws.proofs.Deciding.{both_true}
use Rattle.sheet.specs.declared.Point.{Point}
use Rattle.sheet.specs.Points.{in_range, within}
use Rattle.sheet.specs.Turning.{Direction, towards}
use Rattle.corner.proofs.Sizes.{Near, near, first_fits, second_fits, turn-fits, turn-kept, gap-kept}
use Rattle.corner.proofs.turn.Goals as goal

-- a coordinate as it is handed on
abbrev read : ℤ → ℤ
read z = to_z w32 (of_z w32 z)

module _ (at from to : Point) (requires : (in_range at ≡ true) × (in_range from ≡ true) × (in_range to ≡ true)) where
  -- the two directions
  abbrev one : Direction
  one = towards at from

  abbrev other : Direction
  other = towards at to

  near-one : Near one
  near-one = near at from requires.0 requires.1

  near-other : Near other
  near-other = near at to requires.0 requires.2

  gaps : (a b c d : ℤ) → a ≡ read from.x -ℤ read at.x → b ≡ read from.y -ℤ read at.y → c ≡ read to.x -ℤ read at.x → d ≡ read to.y -ℤ read at.y →
      (to_z w64 (of_z w64 a) ≡ one.right) × (to_z w64 (of_z w64 b) ≡ one.up) × (to_z w64 (of_z w64 c) ≡ other.right) × (to_z w64 (of_z w64 d) ≡ other.up)
  unfolding in_range towards
  gaps a b c d first second third fourth =
      let p = both_true (within at.x) (within at.y) requires.0 in
      let q = both_true (within from.x) (within from.y) requires.1 in
      let r = both_true (within to.x) (within to.y) requires.2 in (
        gap-kept _ from.x at.x q.0 p.0 first,
        gap-kept _ from.y at.y q.1 p.1 second,
        gap-kept _ to.x at.x r.0 p.0 third,
        gap-kept _ to.y at.y r.1 p.1 fourth,
      )

pub overflow_mul-result : goal.overflow_mul-result
overflow_mul-result c =
    let a = c.args in
    let r = c.requires in
    first_fits (one a.at a.from a.to r) (other a.at a.from a.to r) (near-one a.at a.from a.to r) (near-other a.at a.from a.to r)
    (gaps a.at a.from a.to r _ _ _ _ c.gap-from_right.ensures c.gap-from_up.ensures c.gap-to_right.ensures c.gap-to_up.ensures)

pub overflow_mul-result-2 : goal.overflow_mul-result-2
overflow_mul-result-2 c =
    let a = c.args in
    let r = c.requires in
    second_fits (one a.at a.from a.to r) (other a.at a.from a.to r) (near-one a.at a.from a.to r) (near-other a.at a.from a.to r)
    (gaps a.at a.from a.to r _ _ _ _ c.gap-from_right.ensures c.gap-from_up.ensures c.gap-to_right.ensures c.gap-to_up.ensures)

pub overflow_sub-result : goal.overflow_sub-result
overflow_sub-result c =
    let a = c.args in
    let r = c.requires in
    turn-fits (one a.at a.from a.to r) (other a.at a.from a.to r) (near-one a.at a.from a.to r) (near-other a.at a.from a.to r)
    (gaps a.at a.from a.to r _ _ _ _ c.gap-from_right.ensures c.gap-from_up.ensures c.gap-to_right.ensures c.gap-to_up.ensures)

pub returns : goal.returns
returns c =
    let a = c.args in
    let r = c.requires in
    turn-kept (one a.at a.from a.to r) (other a.at a.from a.to r) (near-one a.at a.from a.to r) (near-other a.at a.from a.to r)
    (gaps a.at a.from a.to r _ _ _ _ c.gap-from_right.ensures c.gap-from_up.ensures c.gap-to_right.ensures c.gap-to_up.ensures)
