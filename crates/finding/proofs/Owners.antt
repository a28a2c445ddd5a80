-- What a number in a slot says, by what it tells.
use Rattle.std.proofs.Common.{◌≡◌, ℕ, zero, suc, Bool, true, false, not, cond, ◌&&◌, ◌||◌, List, eqb, ℤ, Option, None, refl}
use Rattle.steps.specs.declared.Side.{Side}
use Rattle.steps.specs.SweepUp.{found_below}
use Rattle.rows.specs.declared.Place.{Place}
use Rattle.rows.specs.Layout.{has_tip_in}
use Rattle.finding.specs.declared.index.Told.{Told}
use Rattle.finding.specs.declared.index.Told.TheVariants.{Nobody, Row, Crowded}
use Rattle.finding.specs.Index.{told_by, live_in, crowds, look_at, told}

module _ (rows : List ℤ) where
  module _ (peak level : ℕ) (side : Side) (p : Place) where
    abbrev pub found_told : Told → Option ℕ
    found_told Nobody = None
    found_told (Row r) = look_at rows peak level side p r
    found_told Crowded = found_below (has_tip_in rows level side p) peak

    pub told_is : (n : ℕ) → told n rows peak level side p ≡ found_told (told_by n)
    unfolding told
    told_is zero = refl
    told_is (suc q) = by (eqb q 65534)
      where
        by : (t : Bool) → cond t (found_below (has_tip_in rows level side p) peak) (look_at rows peak level side p q) ≡ found_told (cond t Crowded (Row q))
        by true = refl
        by false = refl

  module _ (index : List ℕ) (side : Side) (i r : ℕ) where
    abbrev pub crowded_told : Told → Bool
    crowded_told Nobody = false
    crowded_told (Row q) = not (eqb q r) && live_in rows index side i q
    crowded_told Crowded = true

    pub crowds_is : (n : ℕ) → crowds rows index side i r n ≡ crowded_told (told_by n)
    unfolding crowds
    crowds_is zero = refl
    crowds_is (suc q) = by (eqb q 65534)
      where
        by : (t : Bool) → (t || (not (eqb q r) && live_in rows index side i q)) ≡ crowded_told (cond t Crowded (Row q))
        by true = refl
        by false = refl
