-- Passing a row up: a row with both ends finished is an edge of the next level in hand.
use mathlib.Core.Path.{◌≡◌, refl, ap, sym, ◌∙◌}
use mathlib.Core.List.{List}
use Prim.Native.Nat.{ℕ, suc, ◌≤◌, ◌<◌}
use native.Mathlib.Omega.{arith}
use Rattle.sheet.specs.Corners.{apart}
use Rattle.steps.specs.declared.Side.{Side}
use Rattle.steps.specs.declared.Side.TheVariants.{Rising, Falling}
use Rattle.steps.specs.Rows.{on}
use Rattle.steps.specs.SweepUp.{bottom, top, as_edge}
use Rattle.hartley.proofs.Paths.Plan.{Plan, Lawful, height, tip, Climbs}
use Rattle.hartley.proofs.Paths.DownLaw.{of_row, Rec}
use Rattle.hartley.proofs.Paths.Paths.{Owner, row, Paths, size}
use Rattle.hartley.proofs.Paths.JournalLinked.{Naming}
use Rattle.hartley.proofs.Seams.Seams.{one_film, end-spot}
use Rattle.hartley.proofs.Invariant.Invariant.{LocalAt, Time}
use Rattle.hartley.proofs.Invariant.TableTied.{Table, marks_of, Told, State, not-edge}
use Rattle.hartley.proofs.Invariant.LeftAlone.{Whole}
use Rattle.hartley.proofs.Step.RowOfStepOne.{Pre}

-- a whole row that is live, as an edge in hand under its name q
pub pre-row : {sh : Plan} (N : Lawful sh) {p m : ℕ} (E : Time sh p m) (Y : Table) (J : List Rec) (B : Naming) (G : Paths) (c q : ℕ) → State sh p m Y J B G → 0 < size G (row c) → Whole (Y c) → B.name c ≡ q → Pre sh p m Y B G (suc (Y c).level) (as_edge q (Y c)) (row c)
unfolding marks_of as_edge
pre-row {sh} N {p} {m} E Y J B G c q I l W nm = record {
  live = l;
  both_finished = W;
  level_is = refl;
  end_is = ends;
  length_is = lengths;
  mine = λ a h. absurd (not-edge c a h);
  goes = goes';
  flat = λ h. sym (ends Falling) ∙ N.flat _ _ (one_film N I.frame.chain x l) (ap (height sh) (ends Falling) ∙ h ∙ ap (height sh) (sym (ends Rising))) ∙ ends Rising;
  is_row = λ h. (c, refl);
  named = ap of_row nm;
  parts = λ s h. sym (ap (apart sh.list) (sym (ends s)) ∙ (L.peaked s (W s)).2);
}
  where
    x : Owner
    x = row c

    o : Told sh Y B G c
    o = I.told c l

    L : LocalAt sh p G (marks_of Y) x
    L = I.frame.local c l

    ends : (s : Side) → tip sh s (G.end s x) ≡ top s (as_edge q (Y c))
    ends Rising = sym (o.tip_is Rising)
    ends Falling = sym (o.tip_is Falling)

    lengths : (s : Side) → G.length s x ≡ on s (as_edge q (Y c)).length
    lengths Rising = sym (o.length Rising)
    lengths Falling = sym (o.length Falling)

    low : (s : Side) → height sh (top s (as_edge q (Y c))) ≤ height sh p
    low s = let w = end-spot I.frame.chain s x l in omega (arith, ap (height sh) (ends s), E.low _ (I.frame.of_row _ c w.0 w.1) s)

    at_p : (s t : Side) → tip sh t (G.end t x) ≡ p → height sh (bottom s (as_edge q (Y c))) < height sh (top s (as_edge q (Y c))) → tip sh s (G.end s x) ≡ p
    at_p Rising Rising h l = h
    at_p Falling Falling h l = h
    at_p Rising Falling h l = absurd (omega (arith, l, low Rising, ap (height sh) (sym (ends Falling) ∙ h)))
    at_p Falling Rising h l = absurd (omega (arith, l, low Falling, ap (height sh) (sym (ends Rising) ∙ h)))

    goes' : (s : Side) → height sh (bottom s (as_edge q (Y c))) < height sh (top s (as_edge q (Y c))) → Climbs sh s (G.end s x) × (tip sh s (G.end s x) ≡ p)
    goes' s h = let r = L.ready W in ((L.peaked s (W s)).0, at_p s r.0 r.1 h)
