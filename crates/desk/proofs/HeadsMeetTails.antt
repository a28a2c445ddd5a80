-- In the three lists of an accepted sheet every head is the tail of the next edge round its outline, so 25 is not given. What is promised of them says it
-- of neighbours in one polygon, and of the last edge of a polygon and its edge 0; which of the two the next edge is, the sequence numbers tell.
use mathlib.Core.Path.{◌≡◌, refl, sym, ap, ◌∙◌}
use mathlib.Core.Bool.{true, false, not}
use mathlib.Core.List.{List}
use mathlib.Core.Logic.{⊎_elim}
use Prim.Native.Nat.{ℕ, suc, ◌-◌, ◌≤◌, ◌<◌}
use native.Mathlib.Omega.{arith}
use lib.IntN.{ℤ}
use lib.ListN.{length, get_or}
use Rattle.laws.proofs.Deciding.{lt-or-le}
use Rattle.sheet.specs.declared.Point.{Point}
use Rattle.sheet.specs.Points.{is_same}
use Rattle.sheet.specs.Edges.{edge_at}
use Rattle.sheet.specs.TurnList.{number_lists}
use Rattle.sheet.proofs.ExactlyAccepted.{accepts-exactly}
use Rattle.sheet.proofs.Signed.{same_z-yes}
use Rattle.turns.proofs.OneTurnList.{places-differ}
use Rattle.assembly.specs.Assembled.{CutInOrder}
use Rattle.cutter.specs.Outlines.{next_at, head_not_tail}
use Rattle.cutter.specs.Runs.{Runs}
use Rattle.cutter.proofs.RightTurns.{run_long, run-onward, zero-before}
use Rattle.cutter.proofs.Rounds.{next-behind, next-back, next-back-last}

itself : (p : Point) → is_same p p ≡ true
unfolding is_same
itself p = rw (same_z-yes p.y p.y refl) (same_z-yes p.x p.x refl)

module _ {list : List ℤ} {polygons sequences turns : List ℕ} {n : ℕ} (C : CutInOrder list polygons sequences turns n) (R : Runs (number_lists polygons sequences) turns) where
  abbrev turn : ℕ → ℕ
  turn i = get_or turns i 0

  meeting : (i next : ℕ) → next ≡ next_at sequences turns i → (edge_at list (turn i)).head ≡ (edge_at list (turn next)).tail → head_not_tail list sequences turns i ≡ false
  unfolding head_not_tail
  meeting i next q e = rw (← q, e) (ap not (itself (edge_at list (turn next)).tail))

  -- two positions with one pair of numbers are one
  one-position : (i j : ℕ) → i < length turns → j < length turns → get_or polygons (turn i) 0 ≡ get_or polygons (turn j) 0 → get_or sequences (turn i) 0 ≡ get_or sequences (turn j) 0 → i ≡ j
  unfolding number_lists
  one-position i j il jl p s =
      let G = ((accepts-exactly polygons sequences (length turns) n).0 C.never_refused).numbering in
      let T = C.turn_list in
      let long = run_long polygons sequences turns R in
      let a : i < length polygons = omega (arith, il, long) in
      let b : j < length polygons = omega (arith, jl, long) in
      places-differ T i j a b (G.no_repeat (turn i) (turn j) (T.places i a) (T.places j b) p s)

  -- behind the last of a polygon comes no other edge of it, and the way leads back
  back : (i : ℕ) → i < length turns → (suc i < length turns → get_or polygons (turn i) 0 ≡ get_or polygons (turn (suc i)) 0 → ⊥)
      → (edge_at list (turn i)).head ≡ (edge_at list (turn (i - get_or sequences (turn i) 0))).tail
  back i l last =
      let w = C.back_to_first i l last in
      let z = zero-before polygons sequences turns R i l in
      let j : w.0 ≡ i - get_or sequences (turn i) 0 = one-position w.0 (i - get_or sequences (turn i) 0) (omega (arith, w.1, l)) (omega (arith, l)) (w.2 ∙ sym z.0) (w.3 ∙ sym z.1) in
      w.4 ∙ ap (λ (k : ℕ). (edge_at list (turn k)).tail) j

  pub heads-meet-tails : (i : ℕ) → i < length turns → head_not_tail list sequences turns i ≡ false
  heads-meet-tails i l = ⊎_elim behind last (lt-or-le (suc i) (length turns))
    where
      last : length turns ≤ suc i → head_not_tail list sequences turns i ≡ false
      last h = meeting i (i - get_or sequences (turn i) 0) (next-back-last sequences turns i h) (back i l (λ g. absurd (omega (arith, g, h))))

      behind : suc i < length turns → head_not_tail list sequences turns i ≡ false
      behind h = ⊎_elim
          (λ s. meeting i (suc i) (next-behind sequences turns i (suc i) refl h (λ z. absurd (omega (arith, z, s.1)))) (C.end_to_end i h (sym s.0)))
          (λ s. meeting i (i - get_or sequences (turn i) 0) (next-back sequences turns i (suc i) refl s.1) (back i l (λ g q. absurd (omega (arith, q, s.0)))))
          (run-onward polygons sequences turns R i h)
