-- Read back, the instructions are the edges in turn. Behind the cut of an edge the head stands at its head: the next cut leads on from there, or a lift and a
-- travel come first. Where the heads meet the next tails, each cut so gives its edge's tail and its head.
use mathlib.Core.Path.{◌≡◌, refl, sym, ap, ◌∙◌}
use mathlib.Core.Bool.{true, false}
use mathlib.Core.List.{List, [], ◌∷◌, map}
use mathlib.Core.Logic.{⊎_elim}
use Prim.Native.Nat.{ℕ, zero, suc, ◌+◌, ◌-◌, ◌<◌}
use native.Mathlib.Omega.{arith}
use lib.IntN.{ℤ}
use lib.ListN.{length, get_or, drop}
use lib.Seq.{drop-cons, drop-length}
use Rattle.laws.proofs.Deciding.{lt-or-le}
use Rattle.sheet.specs.declared.Point.{Point}
use Rattle.sheet.specs.Points.{in_range}
use Rattle.sheet.specs.Edges.{edge_at}
use Rattle.cutter.specs.declared.machines.Machine.{Machine}
use Rattle.cutter.specs.declared.blade.Instruction.{Instruction}
use Rattle.cutter.specs.declared.blade.Instruction.TheVariants.{Lift}
use Rattle.cutter.specs.Places.{place_for, point_at}
use Rattle.cutter.specs.Programme.{programme, Stroke, strokes_read}
use Rattle.cutter.specs.Outlines.{outlines_of, stroke_of, head_not_tail}
use Rattle.cutter.specs.Joined.{Drawable}
use Rattle.cutter.proofs.Places.{point-back}
use Rattle.cutter.proofs.RightTurns.{run-begins, run-onward}
use Rattle.cutter.proofs.KthInstruction.{all, behind, travel_of, cut_of, begun, behind-zero, behind-on, behind-none, none-all}
use Rattle.cutter.proofs.Rounds.{next-behind}
use Rattle.cutter.proofs.Standing.{edge-there}
use Rattle.cutter.proofs.Closing.{meets}

module _ (m : Machine) (list : List ℤ) (sequences : List ℕ) where
  abbrev strokes : Point → List Instruction → List Stroke
  strokes here is = strokes_read (point_at m) here is

  -- a cut to an edge's head, and a travel to its tail
  cut-read : (e : ℕ) (here : Point) (is : List Instruction) → in_range (edge_at list e).head ≡ true
      → strokes here (cut_of m list sequences e ∷ is) ≡ record { tail = here; head = (edge_at list e).head } ∷ strokes (edge_at list e).head is
  unfolding strokes_read
  cut-read e here is h = rw (point-back m (edge_at list e).head h) refl

  travel-read : (e : ℕ) (here : Point) (is : List Instruction) → in_range (edge_at list e).tail ≡ true → strokes here (travel_of m list sequences e ∷ is) ≡ strokes (edge_at list e).tail is
  unfolding strokes_read
  travel-read e here is h = rw (point-back m (edge_at list e).tail h) refl

  lift-read : (here : Point) (is : List Instruction) → strokes here (Lift ∷ is) ≡ strokes here is
  unfolding strokes_read
  lift-read here is = refl

  none_read : (here : Point) → strokes here [] ≡ []
  unfolding strokes_read
  none_read here = refl

  module _ (e : ℕ) (ts : List ℕ) (tail-in : in_range (edge_at list e).tail ≡ true) (head_in : in_range (edge_at list e).head ≡ true) where
    -- an outline that begins with an edge
    begun-read : (here : Point) → get_or sequences e 0 ≡ 0 → strokes here (all m list sequences (e ∷ ts)) ≡ stroke_of list e ∷ strokes (edge_at list e).head (behind m list sequences ts)
    begun-read here z = ap (strokes here) (begun m list sequences e ts z) ∙ travel-read e here _ tail-in ∙ cut-read e (edge_at list e).tail _ head_in

    -- behind a cut: the outline ended, or went on from where the head stands
    ended-read : (here : Point) → get_or sequences e 0 ≡ 0 → strokes here (behind m list sequences (e ∷ ts)) ≡ stroke_of list e ∷ strokes (edge_at list e).head (behind m list sequences ts)
    ended-read here z = ap (strokes here) (behind-zero m list sequences e ts z) ∙ lift-read here _ ∙ travel-read e here _ tail-in ∙ cut-read e (edge_at list e).tail _ head_in

    on_read : (here : Point) → here ≡ (edge_at list e).tail → (get_or sequences e 0 ≡ 0 → ⊥) → strokes here (behind m list sequences (e ∷ ts)) ≡ stroke_of list e ∷ strokes (edge_at list e).head (behind m list sequences ts)
    on_read here q z = ap (strokes here) (behind-on m list sequences e ts z) ∙ cut-read e here _ head_in ∙ ap (λ (p : Point). record { tail = p; head = (edge_at list e).head } ∷ strokes (edge_at list e).head (behind m list sequences ts)) q

module _ (m : Machine) {list : List ℤ} {polygons sequences turns : List ℕ} (D : Drawable list polygons sequences turns)
    (joined : (i : ℕ) → i < length turns → head_not_tail list sequences turns i ≡ false) where
  abbrev turn : ℕ → ℕ
  turn i = get_or turns i 0

  tail_of : (i : ℕ) → i < length turns → in_range (edge_at list (turn i)).tail ≡ true
  tail_of i l = D.tails (turn i) (edge-there D i l)

  head_of : (i : ℕ) → i < length turns → in_range (edge_at list (turn i)).head ≡ true
  head_of i l = D.heads (turn i) (edge-there D i l)

  -- behind the cut of position i
  strokes-from : (r i : ℕ) → suc i + r ≡ length turns
      → strokes_read (point_at m) (edge_at list (turn i)).head (behind m list sequences (drop (suc i) turns)) ≡ map (stroke_of list) (drop (suc i) turns)
  strokes-from zero i q =
      let e : suc i ≡ length turns = omega (arith, q) in
      rw (e, drop-length turns) (ap (strokes_read (point_at m) (edge_at list (turn i)).head) (behind-none m list sequences) ∙ lift-read m list sequences _ [] ∙ none_read m list sequences _)
  strokes-from (suc r) i q =
      let l : suc i < length turns = omega (arith, q) in
      let more = ap (λ (ss : List Stroke). stroke_of list (turn (suc i)) ∷ ss) (strokes-from r (suc i) (omega (arith, q))) in
      rw (drop-cons turns (suc i) 0 l) (⊎_elim
      (λ s.
      let z : get_or sequences (turn (suc i)) 0 ≡ 0 → ⊥ = λ e. absurd (omega (arith, e, s.1)) in
      on_read m list sequences (turn (suc i)) _ (tail_of (suc i) l) (head_of (suc i) l) _ (meets D joined i (suc i) (omega (arith, l)) (next-behind sequences turns i (suc i) refl l z)) z ∙ more)
      (λ s. ended-read m list sequences (turn (suc i)) _ (tail_of (suc i) l) (head_of (suc i) l) _ s.1 ∙ more)
      (run-onward polygons sequences turns D.runs i l))

  pub strokes-back : (here : Point) → strokes_read (point_at m) here (programme (place_for m) (outlines_of list sequences turns)) ≡ map (stroke_of list) turns
  strokes-back here = ⊎_elim
      (λ l.
      ap (λ (ts : List ℕ). strokes_read (point_at m) here (all m list sequences ts)) (drop-cons turns 0 0 l)
      ∙ begun-read m list sequences (turn 0) _ (tail_of 0 l) (head_of 0 l) here (run-begins polygons sequences turns D.runs l).1
      ∙ ap (λ (ss : List Stroke). stroke_of list (turn 0) ∷ ss) (strokes-from (length turns - 1) 0 (omega (arith, l)))
      ∙ ap (map (stroke_of list)) (sym (drop-cons turns 0 0 l)))
      (λ l. no-strokes turns (omega (arith, l)))
      (lt-or-le 0 (length turns))
    where
      no-strokes : (ts : List ℕ) → length ts ≡ 0 → strokes_read (point_at m) here (all m list sequences ts) ≡ map (stroke_of list) ts
      no-strokes [] q = ap (strokes_read (point_at m) here) (none-all m list sequences) ∙ none_read m list sequences here
      no-strokes (t ∷ ts) q = absurd (omega (arith, q))
