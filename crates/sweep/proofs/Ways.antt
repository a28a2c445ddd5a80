-- One law for each way out of the functions that treat an edge: what the calls leave makes up the step. Rooms of slices that keep their lengths are
-- one room, so a callee's room is the caller's.
use Rattle.std.specs.Prelude.{Option, Some, None, Err}
use mathlib.Core.Path.{◌≡◌, refl, sym, ◌∙◌}
use mathlib.Core.Bool.{Bool, true, false}
use mathlib.Core.List.{List}
use Prim.Native.Nat.{ℕ, zero, suc, ◌+◌, ◌-◌, ◌≤◌, ◌<◌}
use native.Mathlib.Numerals.{add-one}
use native.Mathlib.Omega.{arith}
use lib.IntN.{ℤ}
use lib.ListN.{length}
use mathlib.Core.Logic.{⊎_elim}
use borrow.Author.Tests.{lt-ltb, le-ltb, eq-eqb, ne_eqb}
use Rattle.laws.proofs.Deciding.{eq-or-ne}
use Rattle.sheet.specs.Points.{is_same}
use Rattle.sheet.proofs.Signed.{same_z-self}
use Rattle.rows.specs.declared.Place.{Place}
use Rattle.steps.specs.declared.Side.{Side}
use Rattle.steps.specs.Rows.{other_side, LevelEdge, lowest_free}
use Rattle.steps.specs.SweepUp as up
use Rattle.steps.specs.SweepUp.{State, found_below, both_finished}
use Rattle.rows.specs.Layout as rows
use Rattle.rows.specs.Layout.{film_places, look_row, has_tip_in, finished_in, freed_in}
use Rattle.steps.specs.Swept.{rows_in}
use Rattle.sweep.specs.declared.Progress.{Progress}
use Rattle.sweep.specs.declared.NamedEdge.{NamedEdge}
use Rattle.sweep.specs.Slices.{room, lent_room, state, edge_of, is_done}
use Rattle.sweep.proofs.Rooms.{same-room, stops, goes_on, chosen_is, can-open}
use Rattle.steps.specs.declared.Halt.TheVariants.{NoFreeRow, Overrun}

abbrev Next : Type 0
Next = State (List ℤ) (List ℤ) → LevelEdge Place → State (List ℤ) (List ℤ)

-- a row passed up, where both its branches are finished
module _ (a b : List ℤ) (left level : ℕ) (s : Progress) (r : ℕ) {t : Bool} (h : t ≡ both_finished (look_row a r)) where
  pub up-unfinished : t ≡ false → state a b s ≡ up.pass_up (lent_room a b) (up.treat (lent_room a b) left level) (state a b s) r
  unfolding up.pass_up room rows.row_slice
  up-unfinished k = rw (← h, k)

  pub up-passed : t ≡ true → {a₁ b₁ : List ℤ} {p : Progress} → state a₁ b₁ p ≡ up.treat (lent_room a b) left level (up.free (lent_room a b) (state a b s) r) (up.as_edge r (look_row a r)) →
      state a₁ b₁ p ≡ up.pass_up (lent_room a b) (up.treat (lent_room a b) left level) (state a b s) r
  unfolding up.pass_up room rows.row_slice
  up-passed k i = rw (← h, k) i

-- a row freed, and its edge
pub raised : (a b : List ℤ) (left level : ℕ) (s : Progress) (r : ℕ) (e : NamedEdge) → edge_of e ≡ up.as_edge r (look_row a r) → {a₁ : List ℤ} {s₁ : Progress} → a₁ ≡ freed_in a r → length a₁ ≡ length a → s₁ ≡ s →
    up.treat (lent_room a₁ b) left level (state a₁ b s₁) (edge_of e) ≡ up.treat (lent_room a b) left level (up.free (lent_room a b) (state a b s) r) (up.as_edge r (look_row a r))
unfolding up.free room rows.row_slice
raised a b left level s r e g {a₁} f la es = rw (same-room a b a₁ b la refl, es, ← g, ← f)

-- the found row, then this row
module _ (a b : List ℤ) (left level : ℕ) (s : Progress) (q r : ℕ) {a₁ b₁ : List ℤ} {p : Progress}
    (i : state a₁ b₁ p ≡ up.pass_up (lent_room a b) (up.treat (lent_room a b) left level) (state a b s) q) where
  pub both_one : q ≡ r → state a₁ b₁ p ≡ up.pass_both (lent_room a b) (up.treat (lent_room a b) left level) (state a b s) q r
  unfolding up.pass_both
  both_one e = rw (eq-eqb q r e) i

  pub both_stopped : is_done p.end ≡ false → state a₁ b₁ p ≡ up.pass_both (lent_room a b) (up.treat (lent_room a b) left level) (state a b s) q r
  unfolding up.pass_both
  both_stopped d = ⊎_elim both_one (λ n. rw (ne_eqb q r n, ← i) (sym (stops _ _ p.end d))) (eq-or-ne q r)

  module _ (n : q ≡ r → ⊥) where
    pub both-passed : is_done p.end ≡ true → length a₁ ≡ length a → length b₁ ≡ length b → {a₂ b₂ : List ℤ} {p₂ : Progress} →
        state a₂ b₂ p₂ ≡ up.pass_up (lent_room a₁ b₁) (up.treat (lent_room a₁ b₁) left level) (state a₁ b₁ p) r →
        state a₂ b₂ p₂ ≡ up.pass_both (lent_room a b) (up.treat (lent_room a b) left level) (state a b s) q r
    unfolding up.pass_both
    both-passed d la lb j = rw (ne_eqb q r n, ← i) ((rw (same-room a b a₁ b₁ la lb) at j) ∙ sym (goes_on _ _ p.end d))

-- steps 2 to 4 on a row
module _ (a b : List ℤ) (next : Next) (s : Progress) (level : ℕ) (side : Side) (e : NamedEdge) (r : ℕ) {a₁ b₁ : List ℤ} {p : Progress}
    (i : state a₁ b₁ p ≡ up.attach (lent_room a b) (state a b s) level side (edge_of e) r) where
  pub row-stopped : is_done p.end ≡ false → state a₁ b₁ p ≡ up.on_row (lent_room a b) next (state a b s) level side (edge_of e) r
  unfolding up.on_row
  row-stopped d = rw (← i) (sym (stops _ _ p.end d))

  module _ (d : is_done p.end ≡ true) {f : Option ℕ} (of : f ≡ up.pick_meeting e.apart (found_below (has_tip_in a₁ level (other_side side) (up.top side (edge_of e))) p.peak)) where
    met : up.meeting (lent_room a b) (state a₁ b₁ p) level side (edge_of e) ≡ f
    unfolding up.meeting up.find room rows.row_slice has_tip_in
    met = rw of

    pub row-unmet : f ≡ None → state a₁ b₁ p ≡ up.on_row (lent_room a b) next (state a b s) level side (edge_of e) r
    unfolding up.on_row up.meet
    row-unmet n = rw (← i, met, n) (sym (goes_on _ _ p.end d))

    module _ {q : ℕ} (n : f ≡ Some q) where
      finished : up.finish (lent_room a b) (up.finish (lent_room a b) (state a₁ b₁ p) q (other_side side)) r side ≡ state (finished_in (finished_in a₁ q (other_side side)) r side) b₁ p
      unfolding up.finish room rows.row_slice
      finished = refl

      pub row-met : up.pass_both (lent_room a b) next (state (finished_in (finished_in a₁ q (other_side side)) r side) b₁ p) q r ≡ up.on_row (lent_room a b) next (state a b s) level side (edge_of e) r
      unfolding up.on_row up.meet
      row-met = rw (← i, met, n, finished) (sym (goes_on _ _ p.end d))

-- an edge's ends are of one film, so they are the same where their points are
same_ends : (e : NamedEdge) → film_places.same (edge_of e).tail (edge_of e).head ≡ is_same e.tail e.head
unfolding film_places
same_ends e = rw (same_z-self e.film)

-- an edge of any level
module _ (a b : List ℤ) (left level : ℕ) (s : Progress) (e : NamedEdge) {t : Bool} (h : t ≡ is_same e.tail e.head) where
  pub treat-closed : t ≡ true → {a₁ b₁ : List ℤ} {p : Progress} → state a₁ b₁ p ≡ up.close (lent_room a b) (state a b s) level (edge_of e) →
      state a₁ b₁ p ≡ up.treat (lent_room a b) left level (state a b s) (edge_of e)
  unfolding up.treat room
  treat-closed k i = i ∙ sym (by left)
    where
      by : (n : ℕ) → up.treat (lent_room a b) n level (state a b s) (edge_of e) ≡ up.close (lent_room a b) (state a b s) level (edge_of e)
      by zero = rw (same_ends e, ← h, k)
      by (suc n) = rw (same_ends e, ← h, k)

  module _ (k : t ≡ false) where
    pub treat-none-left : left ≡ 0 → up.ended (Err Overrun) (state a b s) ≡ up.treat (lent_room a b) left level (state a b s) (edge_of e)
    unfolding up.treat room
    treat-none-left z = rw (z, same_ends e, ← h, k)

-- with a level left, and ends that differ, the four steps
pub treat-steps : (a b : List ℤ) (left level : ℕ) (s : Progress) (e : NamedEdge) (side : Side) → is_same e.tail e.head ≡ false → 0 < left → side ≡ up.side_of film_places (edge_of e) →
    up.treat (lent_room a b) left level (state a b s) (edge_of e) ≡ up.steps_on (lent_room a b) (up.treat (lent_room a b) (left - 1) (level + 1)) (state a b s) level side (edge_of e)
unfolding up.treat room
treat-steps a b left level s e side d m es = by left m
  where
    by : (n : ℕ) → 0 < n → up.treat (lent_room a b) n level (state a b s) (edge_of e) ≡ up.steps_on (lent_room a b) (up.treat (lent_room a b) (n - 1) (level + 1)) (state a b s) level side (edge_of e)
    by zero h = absurd (omega arith)
    by (suc n) h = let z : suc n - 1 ≡ n = omega arith in rw (same_ends e, d, z, add-one, es)

-- step 1: a row found, a row opened, or none
module _ (a b : List ℤ) (level : ℕ) (s : Progress) (e : NamedEdge) (side : Side) (p : Place) {f : Option ℕ} (next : Next) (bottom_is : p ≡ up.bottom side (edge_of e))
    (found-is : f ≡ found_below (has_tip_in a level side p) s.peak) where
  steps : up.steps_on (lent_room a b) next (state a b s) level side (edge_of e) ≡ up.in_chain (lent_room a b) next (state a b s) level side (edge_of e) f
  unfolding up.steps_on up.find room rows.row_slice has_tip_in
  steps = rw (found-is, bottom_is)

  pub chain-found : {r : ℕ} → f ≡ Some r → up.steps_on (lent_room a b) next (state a b s) level side (edge_of e) ≡ up.on_row (lent_room a b) next (state a b s) level side (edge_of e) r
  unfolding up.in_chain
  chain-found n = rw (steps, n)

  module _ (n : f ≡ None) {r : ℕ} (free : r ≡ lowest_free look_row a s.peak) where
    pub chain-none : rows_in a ≤ r → up.steps_on (lent_room a b) next (state a b s) level side (edge_of e) ≡ up.ended (Err NoFreeRow) (state a b s)
    unfolding up.in_chain
    chain-none m = rw (steps, n, can-open a b s free, le-ltb r (rows_in a) m)

    pub chain-opened : r < rows_in a → {a₁ : List ℤ} {p₁ : Progress} → state a₁ b p₁ ≡ up.open_row (lent_room a b) (state a b s) r level p →
        up.steps_on (lent_room a b) next (state a b s) level side (edge_of e) ≡ up.on_row (lent_room a b) next (state a₁ b p₁) level side (edge_of e) r
    unfolding up.in_chain
    chain-opened m o = rw (steps, n, can-open a b s free, lt-ltb r (rows_in a) m, ← chosen_is a b s free, o, bottom_is)
