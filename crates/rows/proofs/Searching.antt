-- The two searches stop at the peak or at the last row of the slice, whichever comes first. Past the slice every row looks free, so no tip is found
-- there, and the first row past it is the lowest free one where all before it are in use.
use Rattle.std.specs.Prelude.{Some, None}
use mathlib.Core.Path.{◌≡◌, refl, ap}
use mathlib.Core.Bool.{Bool, true, false, not, ◌&&◌}
use mathlib.Core.Logic.{⊎_elim}
use mathlib.Core.List.{List}
use Prim.Native.Nat.{ℕ, ◌+◌, ◌*◌, ◌/◌, ◌≤◌, ◌<◌, min}
use native.Mathlib.Omega.{arith}
use lib.Dec.{eqb}
use lib.IntN.{ℤ}
use lib.ListN.{length}
use borrow.Author.Tests.{lt-ltb, le-ltb, lt-leb, eqb-true}
use Rattle.laws.proofs.Deciding.{lt-or-le, not-both, both_true}
use Rattle.laws.proofs.First.{first-is}
use Rattle.steps.specs.declared.Side.{Side}
use Rattle.steps.specs.Rows.{on, lowest_free}
use Rattle.steps.specs.SweepUp.{found_below, has_tip}
use Rattle.steps.proofs.Alone.{Alone}
use Rattle.rows.specs.declared.Place.{Place}
use Rattle.rows.specs.Layout.{film_places, HasRow, look_row, has_tip_in, row_slice}
use Rattle.steps.specs.Swept.{numbers_per_row}

-- a search that stops at m, past which no number below n passes
module _ (p : ℕ → Bool) (n m : ℕ) (l : m ≤ n) where
  pub found : (r : ℕ) → r < m → p r ≡ true → ((k : ℕ) → k < r → p k ≡ false) → Some r ≡ found_below p n
  unfolding found_below
  found r h t least = rw (← first-is p n r (omega arith) (λ _. t) least, lt-ltb r n (omega arith))

  pub nothing : ((k : ℕ) → k < m → p k ≡ false) → ((k : ℕ) → m ≤ k → k < n → p k ≡ false) → None ≡ found_below p n
  unfolding found_below
  nothing below past = rw (← first-is p n n (omega arith) (λ h. absurd (omega arith)) least, le-ltb n n (omega arith))
    where
      least : (k : ℕ) → k < n → p k ≡ false
      least k h = ⊎_elim (λ a. below k a) (λ a. past k a h) (lt-or-le k m)

module _ (s : List ℤ) where
  pub past-free : (r : ℕ) → length s < numbers_per_row * r + 8 → (look_row s r).used ≡ false
  unfolding look_row
  past-free r h = rw (lt-leb (numbers_per_row * r + numbers_per_row) (length s) h)

  has-row : (r : ℕ) → (look_row s r).used ≡ true → HasRow s r
  has-row r e = ⊎_elim (λ h. absurd (not-both e (past-free r h))) (λ h. h) (lt-or-le (length s) (numbers_per_row * r + numbers_per_row))

  module _ (level : ℕ) (side : Side) (tip : Place) where
    tip-in-use : (r : ℕ) → has_tip_in s level side tip r ≡ true → (look_row s r).used ≡ true
    unfolding has_tip_in
    tip-in-use r e = (both_true _ _ e).0

    -- what a row that passes the test has
    pub tip-parts : (r : ℕ) → has_tip_in s level side tip r ≡ true →
        ((look_row s r).level ≡ level) × (film_places.same (on side (look_row s r).branch).tip tip ≡ true)
    unfolding has_tip_in has_tip
    tip-parts r t =
        let row = look_row s r in
        let here = film_places.same (on side row.branch).tip tip in
        let place = not (on side row.branch).finished && here in
        let e : (eqb row.level level && place) ≡ true = (both_true row.used _ t).1 in
        let f = both_true (eqb row.level level) place e in
        (eqb-true _ _ f.0, (both_true (not (on side row.branch).finished) here f.1).1)

    -- a row that has the tip is there
    pub tip-has-row : (r : ℕ) → has_tip_in s level side tip r ≡ true → HasRow s r
    tip-has-row r e = has-row r (tip-in-use r e)

    pub past-no-tip : (r : ℕ) → length s < numbers_per_row * r + 8 → has_tip_in s level side tip r ≡ false
    unfolding has_tip_in
    past-no-tip r h = rw (past-free r h)

  -- a search that stops at m, which is the peak or past the slice
  module _ (peak m : ℕ) (stop : m ≡ min peak (length s / numbers_per_row)) where
    pub free-found : (r : ℕ) → r < m → not (look_row s r).used ≡ true → ((k : ℕ) → k < r → not (look_row s k).used ≡ false) →
        r ≡ lowest_free look_row s peak
    unfolding lowest_free
    free-found r l t least = first-is (λ k. not (look_row s k).used) peak r (omega arith) (λ _. t) least

    pub all_in_use : ((k : ℕ) → k < m → not (look_row s k).used ≡ false) → m ≡ lowest_free look_row s peak
    unfolding lowest_free
    all_in_use least = first-is (λ k. not (look_row s k).used) peak m (omega arith) (λ h. ap not (past-free m (omega arith))) least

-- the rows of a slice are those of a sheet alone
pub slice-alone : Alone row_slice
unfolding row_slice
slice-alone = record { mine_is = λ s r. refl; choose_is = λ s k. refl }
