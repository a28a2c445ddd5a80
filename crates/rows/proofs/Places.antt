-- Places that are equal are the same, and places of different heights are not.
use Rattle.std.proofs.Common.{◌≡◌, ◌&&◌, Bool, true, false, eqb, sym, ap, refl}
use Rattle.std.proofs.Math.Bool.{and_comm}
use Rattle.std.specs.Ordering.{int_eq}
use borrow.Author.Tests.{eq-eqb}
use mir.Syntax.{w32}
use mir.Val.{of_z}
use Rattle.laws.proofs.Deciding.{both_true}
use Rattle.laws.proofs.Tests.{and-false}
use Rattle.sheet.specs.declared.Point.{Point}
use Rattle.sheet.specs.Points.{same_z, is_same}
use Rattle.sheet.proofs.Comparing.{eq-same, eq-same_z}
use Rattle.sheet.proofs.Ranks.{same_point}
use Rattle.rows.specs.declared.Place.{Place}
use Rattle.rows.specs.Layout.{film_places}

pub equal_same : (p q : Place) → ((int_eq p.point.y q.point.y && int_eq p.point.x q.point.x) && int_eq p.film q.film) ≡ film_places.same p q
unfolding film_places
equal_same p q = rw (eq-same p.point q.point, eq-same_z p.film q.film) (and_comm (is_same p.point q.point) (same_z p.film q.film))

-- the heights are compared as the code has them, by their bits
pub height_first : (p q : Place) → film_places.same p q ≡ (eqb (of_z w32 p.point.y) (of_z w32 q.point.y) && film_places.same p q)
unfolding film_places
height_first p q = by (film_places.same p q) refl
  where
    by : (t : Bool) → film_places.same p q ≡ t → t ≡ (eqb (of_z w32 p.point.y) (of_z w32 q.point.y) && t)
    by true e =
        let point = same_point p.point q.point (both_true (same_z p.film q.film) (is_same p.point q.point) e).1 in
        rw (eq-eqb (of_z w32 p.point.y) (of_z w32 q.point.y) (ap (λ (r : Point). of_z w32 r.y) point))
    by false e = sym (and-false (eqb (of_z w32 p.point.y) (of_z w32 q.point.y)))
