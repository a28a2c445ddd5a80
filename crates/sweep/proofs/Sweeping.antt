-- The sweep over the list, an edge at a time: as long as treatments are done, treating the next edge is the next step; after one that is not, the sweep
-- stays as it is.
use Rattle.std.specs.Prelude.{Result, ⊤, Ok, Err}
use mathlib.Core.Path.{◌≡◌, refl, sym, ap, ◌∙◌}
use mathlib.Core.Bool.{true, false}
use mathlib.Core.Logic.{⊎_elim}
use mathlib.Core.List.{List}
use Prim.Native.Nat.{ℕ, zero, suc, ◌+◌, ◌-◌, ◌*◌, ◌≤◌, ◌<◌}
use native.Mathlib.Numerals.{add-one}
use native.Mathlib.Omega.{arith}
use lib.IntN.{ℤ}
use lib.ListN.{length, get_or, replicate, get_or-replicate, get_or-eq_default}
use Rattle.laws.proofs.Deciding.{lt-or-le}
use Rattle.rows.specs.declared.Place.{Place}
use Rattle.steps.specs.declared.Side.{Side}
use Rattle.steps.specs.declared.Side.TheVariants.{Rising, Falling}
use Rattle.steps.specs.declared.Halt.{Halt}
use Rattle.steps.specs.Rows.{LevelEdge}
use Rattle.steps.specs.SweepUp as up
use Rattle.steps.specs.SweepUp.{State, Sweep, start, levels}
use Rattle.steps.specs.Swept.{numbers_per_record}
use Rattle.steps.proofs.Bounded.{sweep-within}
use Rattle.rows.proofs.Searching.{slice-alone}
use Rattle.finding.specs.Free.{peak_in}
use Rattle.finding.specs.Index.{none}
use Rattle.finding.proofs.InUse.{in-use-none}
use Rattle.finding.proofs.Indexing.{indexed-none}
use Rattle.sweep.specs.declared.Progress.{Progress}
use Rattle.sweep.specs.declared.NamedEdge.{NamedEdge}
use Rattle.sweep.specs.declared.Swept.{Swept}
use Rattle.sweep.specs.Slices.{room, lent_room, state, edge_of, number_below, progress, list_edges, PlacesNumbered, is_done, swept}
use Rattle.sweep.specs.Treated.{Slices, room_of, state_of, Good, Numbered, Kept, Treated}
use Rattle.sweep.proofs.Rooms.{same-room, stops, goes_on}

module _ (a b : List ℤ) (list : ℕ → LevelEdge Place) where
  pub next_edge : (i : ℕ) {a₁ b₁ : List ℤ} {w : Swept} → swept a₁ b₁ w ≡ up.sweep_up (lent_room a b) list (start 0 a b) i →
      is_done w.progress.end ≡ true → length a₁ ≡ length a → length b₁ ≡ length b → (e : NamedEdge) → edge_of e ≡ list i →
      {a₂ b₂ : List ℤ} {p : Progress} → state a₂ b₂ p ≡ up.treat (lent_room a₁ b₁) levels 0 (state a₁ b₁ w.progress) (edge_of e) →
      swept a₂ b₂ (record { progress = p; edge = i }) ≡ up.sweep_up (lent_room a b) list (start 0 a b) (i + 1)
  unfolding up.sweep_up
  next_edge i {a₁} {b₁} {w} s d la lb e l t = rw (add-one, ← s) (ap (λ (z : State (List ℤ) (List ℤ)). record { state = z; edge = i }) (rw (same-room a b a₁ b₁ la lb, l) at t) ∙ sym (goes_on _ _ w.progress.end d))

  stays_by : (k i : ℕ) {a₁ b₁ : List ℤ} {w : Swept} → swept a₁ b₁ w ≡ up.sweep_up (lent_room a b) list (start 0 a b) i → is_done w.progress.end ≡ false →
      swept a₁ b₁ w ≡ up.sweep_up (lent_room a b) list (start 0 a b) (k + i)
  unfolding up.sweep_up
  stays_by zero i s d = let z : 0 + i ≡ i = omega arith in rw z s
  stays_by (suc k) i {a₁} {b₁} {w} s d =
      let z : suc k + i ≡ suc (k + i) = omega arith in
      rw (z, ← stays_by k i s d) (sym (stops _ _ w.progress.end d))

  pub sweep-stays : (n i : ℕ) {a₁ b₁ : List ℤ} {w : Swept} → i ≤ n → swept a₁ b₁ w ≡ up.sweep_up (lent_room a b) list (start 0 a b) i →
      is_done w.progress.end ≡ false → swept a₁ b₁ w ≡ up.sweep_up (lent_room a b) list (start 0 a b) n
  sweep-stays n i l s d = let z : (n - i) + i ≡ n = omega arith in rw z at (stays_by (n - i) i s d)

  -- the records that are written are there
  pub records-there : (n : ℕ) {a₁ b₁ : List ℤ} (w : Swept) → swept a₁ b₁ w ≡ up.sweep_up (lent_room a b) list (start 0 a b) n → numbers_per_record * w.progress.records ≤ length b
  unfolding room
  records-there n w e = omega (arith, (sweep-within (lent_room a b) slice-alone list n a b).kept, ap (λ (x : Sweep (List ℤ) (List ℤ)). x.state.records) e)

-- an edge of the list has the numbers of its places
numbered : {s : List ℤ} {n : ℕ} {numbers : List ℕ} (P : PlacesNumbered s n numbers) (i : ℕ) → i < n → (e : NamedEdge) → edge_of e ≡ list_edges s i → e.tails ≡ get_or numbers (2 * i) 0 → e.heads ≡ get_or numbers (2 * i + 1) 0 →
    (side : Side) → number_below side e ≡ P.number (up.bottom side (edge_of e))
numbered P i l e is tails heads Rising = tails ∙ P.tails i l ∙ ap (λ (z : LevelEdge Place). P.number z.tail) (sym is)
numbered P i l e is tails heads Falling = heads ∙ P.heads i l ∙ ap (λ (z : LevelEdge Place). P.number z.head) (sym is)

-- how far the sweep has come, where it goes on: the edges before this one, treated one after the other, leave the slices so, and the index is good
abbrev pub SweptTo : Slices → List ℤ → List ℕ → ℕ → Slices → ℕ → ℕ → Type 0
SweptTo l₀ edges numbers n l edge i = (P : PlacesNumbered edges n numbers) →
    (swept l.rows l.journal (record { progress = progress l.records l.counts (Ok tt); edge = edge }) ≡ up.sweep_up (room_of l₀) (list_edges edges) (start 0 l₀.rows l₀.journal) i) × Good P.number l none

-- before the first edge no row was open and nothing is written
pub swept-none : {edges : List ℤ} {numbers : List ℕ} {n : ℕ} (l : Slices) → l.records ≡ 0 → l.counts ≡ replicate (length l.counts) 0 → SweptTo l edges numbers n l 0 0
unfolding up.sweep_up
swept-none l none_written zeros P = (
  rw (none_written, peak),
  indexed-none l.index l.rows peak (rw zeros (in-use-none (length l.counts) l.rows)),
)
  where
    peak : ◌≡◌ {A = ℕ} (peak_in l.counts) 0
    peak = ⊎_elim
        (λ h. ap (λ (z : List ℕ). get_or z 1 0) zeros ∙ get_or-replicate (length l.counts) 1 0 0 h)
        (λ h. get_or-eq_default l.counts 0 h)
        (lt-or-le 1 (length l.counts))

-- the edge treated is the sweep's next step, and the index is good again
module _ (l₀ : Slices) {edges : List ℤ} {numbers : List ℕ} {n i edge : ℕ} {l l₁ : Slices} {e : NamedEdge} (below : i < n) (S : SweptTo l₀ edges numbers n l edge i) (K : Kept l₀ l)
    (is : edge_of e ≡ list_edges edges i) (tails : e.tails ≡ get_or numbers (2 * i) 0) (heads : e.heads ≡ get_or numbers (2 * i + 1) 0) where
  step : {t : Result ⊤ Halt} → Treated (λ number. Numbered number l e) l l₁ t (up.treat (room_of l) levels 0 (state_of l (Ok tt)) (edge_of e)) → (P : PlacesNumbered edges n numbers) →
      (swept l₁.rows l₁.journal (record { progress = progress l₁.records l₁.counts t; edge = i }) ≡ up.sweep_up (room_of l₀) (list_edges edges) (start 0 l₀.rows l₀.journal) (i + 1))
      × (t ≡ Ok tt → Good P.number l₁ none)
  step {t} T P =
      let h = T.told P.number (S P).1 (λ long. numbered P i below e is tails heads) in (
        next_edge l₀.rows l₀.journal (list_edges edges) i {w = record { progress = progress l.records l.counts (Ok tt); edge = edge }} (S P).0 refl K.rows K.journal e is {p = progress l₁.records l₁.counts t} h.0,
        h.1,
      )

  pub swept-on : Treated (λ number. Numbered number l e) l l₁ (Ok tt) (up.treat (room_of l) levels 0 (state_of l (Ok tt)) (edge_of e)) → SweptTo l₀ edges numbers n l₁ i (i + 1)
  swept-on T P = ((step T P).0, (step T P).1 refl)

  -- or the sweep ends with it
  pub swept-halted : {t : Halt} → Treated (λ number. Numbered number l e) l l₁ (Err t) (up.treat (room_of l) levels 0 (state_of l (Ok tt)) (edge_of e)) → PlacesNumbered edges n numbers →
      swept l₁.rows l₁.journal (record { progress = progress l₁.records l₁.counts (Err t); edge = i }) ≡ up.sweep_up (room_of l₀) (list_edges edges) (start 0 l₀.rows l₀.journal) n
  swept-halted {t} T P = sweep-stays l₀.rows l₀.journal (list_edges edges) n (i + 1) {w = record { progress = progress l₁.records l₁.counts (Err t); edge = i }} (omega (arith, below)) (step T P).0 refl
