-- The outlines that are cut: their points are in range, and where no head misses the next tail each one leads back to its start. Along an outline the
-- edges' sequence numbers grow by one, so all of them stand their number behind its edge 0; behind the last an edge 0 or nothing stands, and its head is
-- the tail of the edge that stands its number before.
use mathlib.Core.Path.{◌≡◌, refl}
use mathlib.Core.Bool.{true, false}
use mathlib.Core.List.{List, [], ◌∷◌}
use mathlib.Core.Logic.{⊎_elim}
use Prim.Native.Nat.{ℕ, zero, suc, ◌+◌, ◌-◌, ◌<◌}
use native.Mathlib.Omega.{arith}
use borrow.Author.Tests.{eqb-true, eqb-false, not-false}
use lib.Dec.{eqb}
use lib.IntN.{ℤ}
use lib.ListN.{length, get_or, drop}
use lib.Seq.{drop-cons, drop-length}
use Rattle.laws.proofs.Deciding.{true-or-false}
use Rattle.sheet.specs.Points.{in_range}
use Rattle.sheet.specs.Edges.{edge_at}
use Rattle.sheet.proofs.Ranks.{same_point}
use Rattle.cutter.specs.Outlines.{heads_on, outlines_of, next_at, head_not_tail}
use Rattle.cutter.specs.Joined.{Drawable}
use Rattle.cutter.proofs.RightTurns.{run-onward}
use Rattle.cutter.proofs.Drawings.{AllInRange, Drawn, Ends, AllClosed}
use Rattle.cutter.proofs.Rounds.{next-back, next-back-last}
use Rattle.cutter.proofs.Standing.{edge-there}

-- along a list of edges whose ends are in range
module _ (list : List ℤ) (sequences : List ℕ) (n : ℕ) (tails : (e : ℕ) → e < n → in_range (edge_at list e).tail ≡ true) (heads : (e : ℕ) → e < n → in_range (edge_at list e).head ≡ true) where
  heads-in : (ts : List ℕ) → ((i : ℕ) → i < length ts → get_or ts i 0 < n) → AllInRange (heads_on list sequences ts)
  unfolding heads_on
  heads-in [] h = tt
  heads-in (e ∷ ts) h = ⊎_elim (λ z. rw z tt) (λ z. rw z (heads e (h 0 (omega arith)), heads-in ts (λ i l. h (suc i) (omega (arith, l))))) (true-or-false (eqb (get_or sequences e 0) 0))

  outlines-in : (ts : List ℕ) → ((i : ℕ) → i < length ts → get_or ts i 0 < n) → Drawn (outlines_of list sequences ts)
  unfolding outlines_of
  outlines-in [] h = tt
  outlines-in (e ∷ ts) h =
      let rest : (i : ℕ) → i < length ts → get_or ts i 0 < n = λ i l. h (suc i) (omega (arith, l)) in
      let here = h 0 (omega arith) in
      ⊎_elim (λ z. rw z (tails e here, (heads e here, heads-in ts rest), outlines-in ts rest)) (λ z. rw z (outlines-in ts rest)) (true-or-false (eqb (get_or sequences e 0) 0))

module _ {list : List ℤ} {polygons sequences turns : List ℕ} (D : Drawable list polygons sequences turns) where
  pub drawn : Drawn (outlines_of list sequences turns)
  drawn = outlines-in list sequences (length polygons) D.tails D.heads turns (edge-there D)

  module _ (joined : (i : ℕ) → i < length turns → head_not_tail list sequences turns i ≡ false) where
    abbrev turn : ℕ → ℕ
    turn i = get_or turns i 0

    -- the head of the edge at i is the tail of the next
    pub meets : (i next : ℕ) → i < length turns → next ≡ next_at sequences turns i → (edge_at list (turn i)).head ≡ (edge_at list (turn next)).tail
    unfolding head_not_tail
    meets i next l q = same_point _ _ (not-false _ (rw (← q) at (joined i l)))

    -- from the edge at i on, the way leads to the start of the outline
    leads-back : (r i : ℕ) → suc i + r ≡ length turns → Ends (edge_at list (turn (i - get_or sequences (turn i) 0))).tail (edge_at list (turn i)).head (heads_on list sequences (drop (suc i) turns))
    unfolding heads_on
    leads-back zero i q =
        let e : suc i ≡ length turns = omega (arith, q) in
        rw (e, drop-length turns) (meets i _ (omega (arith, q)) (next-back-last sequences turns i (omega (arith, q))))
    leads-back (suc r) i q =
        rw (drop-cons turns (suc i) 0 (omega (arith, q))) (⊎_elim
        (λ z. rw z (meets i _ (omega (arith, q)) (next-back sequences turns i (suc i) refl (eqb-true _ _ z))))
        (λ z. rw z (⊎_elim
        (λ s.
        let w = leads-back r (suc i) (omega (arith, q)) in
        let a : suc i - get_or sequences (turn (suc i)) 0 ≡ i - get_or sequences (turn i) 0 = omega (arith, s.1) in
        rw a at w)
        (λ s. absurd (eqb-false _ _ z s.1))
        (run-onward polygons sequences turns D.runs i (omega (arith, q)))))
        (true-or-false (eqb (get_or sequences (turn (suc i)) 0) 0)))

    closed-from : (r i : ℕ) → i + r ≡ length turns → AllClosed (outlines_of list sequences (drop i turns))
    unfolding outlines_of
    closed-from zero i q = let e : i ≡ length turns = omega (arith, q) in rw (e, drop-length turns) tt
    closed-from (suc r) i q =
        let rest = closed-from r (suc i) (omega (arith, q)) in
        rw (drop-cons turns i 0 (omega (arith, q))) (⊎_elim
        (λ z.
        let a : i - get_or sequences (turn i) 0 ≡ i = omega (arith, eqb-true (get_or sequences (turn i) 0) 0 z) in
        rw z (rw a at (leads-back r i (omega (arith, q))), rest))
        (λ z. rw z rest)
        (true-or-false (eqb (get_or sequences (turn i) 0) 0)))

    pub closed : AllClosed (outlines_of list sequences turns)
    closed = closed-from (length turns) 0 (omega arith)
