-- A sheet that has its table of rows alone: every row in use is its own, and the lowest free one is opened. As many rows are in use, then, as the lowest free one
-- tells, within the reach; and where all rows may be in use one can be opened exactly when the lowest free one is among those lent.
use mathlib.Core.Path.{◌≡◌, refl}
use mathlib.Core.Bool.{false, not}
use mathlib.Core.Logic.{⊎_elim}
use Prim.Native.Nat.{ℕ, ◌+◌, max, ◌≤◌, ◌<◌}
use native.Mathlib.Omega.{arith}
use lib.Dec.{ltb}
use borrow.Author.Tests.{lt-ltb, le-ltb}
use Rattle.laws.proofs.Deciding.{lt-or-le}
use Rattle.laws.proofs.Tests.{and-false}
use Rattle.laws.proofs.Counting.{count_same}
use Rattle.laws.proofs.First.{first-le}
use Rattle.laws.proofs.Lowest.{count-by-lowest, count-below}
use Rattle.steps.specs.Rows.{Table, Room, lowest_free}
use Rattle.steps.specs.SweepUp as up
use Rattle.steps.specs.SweepUp.{State}
use Rattle.steps.specs.Plain.{plain_table}

pub record Alone {P T : Type 0} (table : Table P T) : Type 0 where
  pub mine_is : (t : T) (r : ℕ) → table.mine t r ≡ (table.look t r).used
  pub choose_is : (t : T) (k : ℕ) → table.choose t k ≡ lowest_free table.look t k

pub plain-alone : {P : Type 0} → Alone (plain_table {P = P})
unfolding plain_table
plain-alone = record { mine_is = λ t r. refl; choose_is = λ t k. refl }

module _ {P T J : Type 0} (room : Room P T J) (A : Alone room.table) (s : State T J) where
  pub opened-name : max s.reach (up.in_use room s + 1) ≡ max s.reach (up.chosen room s + 1)
  unfolding up.in_use up.chosen lowest_free
  opened-name =
      let c = count_same (room.table.mine s.rows) (λ r. (up.look room s r).used) s.reach (λ r l. A.mine_is s.rows r) in
      omega (arith, c, A.choose_is s.rows s.reach, count-by-lowest (λ r. (up.look room s r).used) s.reach)

  pub chosen-up-to : up.chosen room s ≤ s.reach
  unfolding up.chosen lowest_free
  chosen-up-to = omega (arith, A.choose_is s.rows s.reach, first-le (λ r. not (up.look room s r).used) s.reach)

  -- rows in use are rows that are lent
  few-in-use : ((r : ℕ) → room.rows ≤ r → r < s.reach → (up.look room s r).used ≡ false) → up.chosen room s < room.rows → up.in_use room s < room.rows
  unfolding up.in_use up.chosen lowest_free
  few-in-use past l =
      let c = count_same (room.table.mine s.rows) (λ r. (up.look room s r).used) s.reach (λ r h. A.mine_is s.rows r) in
      omega (arith, c, count-below (λ r. (up.look room s r).used) s.reach room.rows past (omega (arith, l, A.choose_is s.rows s.reach)))

  pub can-open : room.share ≡ room.rows → ((r : ℕ) → room.rows ≤ r → r < s.reach → (up.look room s r).used ≡ false) → up.can_open room s ≡ ltb (up.chosen room s) room.rows
  unfolding up.can_open
  can-open e past = ⊎_elim
      (λ h. rw (lt-ltb (up.in_use room s) room.share (omega (arith, few-in-use past h, e)), lt-ltb (up.chosen room s) room.rows h))
      (λ h. rw (le-ltb (up.chosen room s) room.rows h, and-false))
      (lt-or-le (up.chosen room s) room.rows)
