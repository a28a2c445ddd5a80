-- The ways out of passing rows up: a row that is not finished, one that is, one of two that ends it, one row twice named, two rows.
use Rattle.std.specs.Prelude.{Result, ⊤, Ok, Err}
use mathlib.Core.Path.{◌≡◌, refl}
use mathlib.Core.Bool.{Bool, true, false}
use mathlib.Core.List.{List}
use Prim.Native.Nat.{ℕ, ◌<◌}
use native.Mathlib.Omega.{arith}
use lib.IntN.{ℤ}
use Rattle.steps.specs.declared.Halt.{Halt}
use Rattle.steps.specs.SweepUp as up
use Rattle.steps.specs.SweepUp.{State, both_finished}
use Rattle.rows.specs.declared.Place.{Place}
use Rattle.rows.specs.Layout.{look_row}
use Rattle.finding.specs.Free.{peak_in}
use Rattle.sweep.specs.Slices.{progress}
use Rattle.sweep.specs.Treated.{Slices, room_of, state_of, Kept, Treated}
use Rattle.sweep.proofs.Rooms.{not_done}
use Rattle.sweep.proofs.Ways.{up-unfinished, up-passed, both_stopped, both_one, both-passed}

-- what passing a row up leaves, and both
module _ (l : Slices) (left level : ℕ) where
  abbrev start : Slices → State (List ℤ) (List ℤ)
  start m = state_of m (Ok tt)

  abbrev one : Slices → ℕ → State (List ℤ) (List ℤ)
  one m r = up.pass_up (room_of m) (up.treat (room_of m) left level) (start m) r

  abbrev both : ℕ → ℕ → State (List ℤ) (List ℤ)
  both q r = up.pass_both (room_of l) (up.treat (room_of l) left level) (start l) q r

  abbrev Low : Slices → ℕ → (Place → ℕ) → Type 0
  Low m r number = r < peak_in m.counts

  abbrev BothLow : ℕ → ℕ → (Place → ℕ) → Type 0
  BothLow q r number = (q < peak_in l.counts) × (r < peak_in l.counts)

  module _ (r : ℕ) {t : Bool} (finished : t ≡ both_finished (look_row l.rows r)) where
    pub passed-not : t ≡ false → Treated (Low l r) l l (Ok tt) (one l r)
    passed-not f = record { grows = omega arith; told = λ number G b. (up-unfinished l.rows l.journal left level (progress l.records l.counts (Ok tt)) r finished f, λ d. G) }

    pub passed : t ≡ true → {after : Slices} {u : Result ⊤ Halt} → Treated (Low l r) l after u (up.treat (room_of l) left level (up.free (room_of l) (start l) r) (up.as_edge r (look_row l.rows r))) →
        Treated (Low l r) l after u (one l r)
    passed f {after} {u} T = record {
      grows = T.grows;
      told = λ number G b. let h = T.told number G b in (up-passed l.rows l.journal left level (progress l.records l.counts (Ok tt)) r finished f {a₁ = after.rows} {b₁ = after.journal} {p = progress after.records after.counts u} h.0, h.1);
    }

  module _ (q r : ℕ) {m : Slices} where
    pub both_ends : {u : Halt} → Treated (Low l q) l m (Err u) (one l q) → Treated (BothLow q r) l m (Err u) (both q r)
    both_ends {u} T = record {
      grows = T.grows;
      told = λ number G b. (both_stopped l.rows l.journal left level (progress l.records l.counts (Ok tt)) q r {a₁ = m.rows} {b₁ = m.journal} {p = progress m.records m.counts (Err u)} (T.told number G b.0).0 refl, λ e. absurd (not_done {t = Err u} refl e));
    }

    module _ (T : Treated (Low l q) l m (Ok tt) (one l q)) where
      pub one-row : q ≡ r → Treated (BothLow q r) l m (Ok tt) (both q r)
      one-row e = record {
        grows = T.grows;
        told = λ number G b. let h = T.told number G b.0 in (both_one l.rows l.journal left level (progress l.records l.counts (Ok tt)) q r {a₁ = m.rows} {b₁ = m.journal} {p = progress m.records m.counts (Ok tt)} h.0 e, h.1);
      }

      pub both-rows : (q ≡ r → ⊥) → Kept l m → {after : Slices} {u : Result ⊤ Halt} → Treated (Low m r) m after u (one m r) → Treated (BothLow q r) l after u (both q r)
      both-rows n K {after} {u} U = record {
        grows = omega (arith, T.grows, U.grows);
        told = λ number G b.
            let h = T.told number G b.0 in
            let k = U.told number (h.1 refl) (omega (arith, b.1, T.grows)) in
            (both-passed l.rows l.journal left level (progress l.records l.counts (Ok tt)) q r {a₁ = m.rows} {b₁ = m.journal} {p = progress m.records m.counts (Ok tt)} h.0 n refl K.rows K.journal {a₂ = after.rows} {b₂ = after.journal} {p₂ = progress after.records after.counts u} k.0, k.1);
      }
