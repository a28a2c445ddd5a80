-- What the laws of the treatment share: slices that keep their lengths make one room, what follows a treatment that is done or not, and when a row may be
-- opened: where the slice has the lowest free one. The steps ask too that fewer rows are in use than there are, which is then so: rows in use are rows of
-- the slice, and this one is not in use.
use Rattle.std.specs.Prelude.{Result, ⊤, Ok, Err}
use mathlib.Core.Path.{◌≡◌, refl, ap}
use mathlib.Core.Bool.{true, false}
use mathlib.Core.List.{List}
use Prim.Native.Nat.{ℕ}
use native.Mathlib.Omega.{arith}
use lib.Dec.{ltb}
use lib.IntN.{ℤ}
use lib.ListN.{length}
use Rattle.laws.proofs.Deciding.{not-both}
use Rattle.steps.specs.Rows.{lowest_free}
use Rattle.steps.specs.SweepUp as up
use Rattle.steps.specs.SweepUp.{after_done}
use Rattle.steps.proofs.Alone as steps
use Rattle.steps.specs.Swept.{rows_in}
use Rattle.rows.specs.Layout as rows
use Rattle.rows.specs.Layout.{look_row}
use Rattle.rows.proofs.Searching.{past-free, slice-alone}
use Rattle.sweep.specs.declared.Progress.{Progress}
use Rattle.sweep.specs.Slices.{room, lent_room, state, is_done}
use Rattle.steps.specs.declared.Halt.{Halt}

pub same-room : (a b a₁ b₁ : List ℤ) → length a₁ ≡ length a → length b₁ ≡ length b → lent_room a₁ b₁ ≡ lent_room a b
same-room a b a₁ b₁ la lb = rw (la, lb)

module _ {A : Type 0} (s t : A) where
  pub stops : (x : Result ⊤ Halt) → is_done x ≡ false → after_done x s t ≡ s
  stops (Ok _) h = absurd (not-both refl h)
  stops (Err _) h = refl

  pub goes_on : (x : Result ⊤ Halt) → is_done x ≡ true → after_done x s t ≡ t
  goes_on (Ok _) h = refl
  goes_on (Err _) h = absurd (not-both h refl)

-- not done is not (Ok tt)
pub not_done : {t : Result ⊤ Halt} → is_done t ≡ false → t ≡ Ok tt → ⊥
not_done d e = not-both (ap is_done e) d

pub is-done-is : (t : Result ⊤ Halt) → is_done t ≡ true → t ≡ Ok tt
is-done-is (Ok _) d = refl
is-done-is (Err _) d = absurd (not-both d refl)

-- the lowest free row
module _ (a b : List ℤ) (s : Progress) {r : ℕ} (free : r ≡ lowest_free look_row a s.peak) where
  pub chosen_is : r ≡ up.chosen (lent_room a b) (state a b s)
  unfolding up.chosen room rows.row_slice
  chosen_is = free

  pub can-open : up.can_open (lent_room a b) (state a b s) ≡ ltb r (rows_in a)
  unfolding room rows.row_slice
  can-open = rw chosen_is (steps.can-open (lent_room a b) slice-alone (state a b s) refl (λ k l m. past-free a k (omega arith)))
