-- The counts and the index beside the rows through the parts of a treatment: what a row opened and a tip moved leave of them.
use mathlib.Core.Path.{◌≡◌, refl, sym, ap, ◌∙◌}
use mathlib.Core.Bool.{false, not}
use mathlib.Core.Logic.{◌⊎◌, inl, inr, ⊎_elim}
use mathlib.Core.List.{List}
use Prim.Native.Nat.{ℕ, ◌+◌, ◌≤◌, max}
use native.Mathlib.Omega.{arith}
use lib.IntN.{ℤ}
use lib.ListN.{length, set}
use lib.Seq.{get_or-set_same}
use Rattle.std.specs.Prelude.{Ok, Err}
use Rattle.laws.proofs.First.{first-le}
use Rattle.steps.specs.declared.Side.{Side}
use Rattle.steps.specs.declared.Side.TheVariants.{Rising, Falling}
use Rattle.steps.specs.declared.Halt.TheVariants.{Overrun}
use Rattle.steps.specs.Rows.{other_side, on, Row, Branch, lowest_free}
use Rattle.steps.specs.Plain.{with_branch}
use Rattle.steps.specs.SweepUp as up
use Rattle.rows.specs.declared.Place.{Place}
use Rattle.rows.specs.Layout.{on_film, film_in, HasRow, look_row, opened_in, moved_in}
use Rattle.finding.specs.Free.{peak_in, taken_in}
use Rattle.finding.specs.Index.{tip_of, numbered_in, marked_in, none, only, Long, Indexed}
use Rattle.rows.proofs.Writing.{opened-here, moved_here}
use Rattle.finding.proofs.InUse.{length_taken, in-use-counted, in-use-moved, in-use-opened}
use Rattle.finding.proofs.Indexing.{numbered-size, indexed-opened, indexed-moved, indexed-marked}
use Rattle.sweep.proofs.Rooms.{not_done}
use Rattle.sweep.specs.declared.NamedEdge.{NamedEdge}
use Rattle.sweep.specs.Slices.{edge_of, number_below}
use Rattle.sweep.specs.Beside.{Opened}
use Rattle.sweep.specs.Treated.{Slices, room_of, state_of, Attached}

-- the lowest free row is at most the peak
pub lowest-low : (a : List ℤ) (peak : ℕ) {r : ℕ} → r ≡ lowest_free look_row a peak → r ≤ peak
unfolding lowest_free
lowest-low a peak e = omega (arith, e, first-le (λ k. not (look_row a k).used) peak)

either_side : (x side : Side) → (x ≡ side) ⊎ (x ≡ other_side side)
either_side Rising Rising = inl refl
either_side Rising Falling = inr refl
either_side Falling Rising = inr refl
either_side Falling Falling = inl refl

-- the lowest free row opened, its number set, its tip on the other side marked
module _ (a : List ℤ) (index c : List ℕ) (r level : ℕ) (side : Side) (p : Place) (k : ℕ) (has : HasRow a r) (some : 3 ≤ length c) where
  abbrev counted : List ℕ
  counted = set (taken_in c r) 1 (max (peak_in c) (r + 1))

  abbrev told-both : List ℕ
  told-both = numbered_in (numbered_in index r Rising k) r Falling k

  counted-peak : peak_in counted ≡ max (peak_in c) (r + 1)
  counted-peak = get_or-set_same (taken_in c r) 1 _ 0 (omega (arith, some, length_taken c r))

  pub opened-beside : {a₁ : List ℤ} {index₁ c₁ : List ℕ} → a₁ ≡ opened_in a r level p → index₁ ≡ marked_in (opened_in a r level p) told-both level (other_side side) k r → c₁ ≡ counted →
      Opened a index c r side p k a₁ index₁ c₁
  opened-beside ea ei ec = record {
    peak = rw ec counted-peak;
    good = λ number I free place. rw (ea, ei, ec) (marked number I free place);
  }
    where
      new-tip : (x : Side) → tip_of (opened_in a r level p) r x ≡ p
      new-tip Rising = ap (λ (z : Row Place). z.branch.rising.tip) (opened-here a r has level p)
      new-tip Falling = ap (λ (z : Row Place). z.branch.falling.tip) (opened-here a r has level p)

      marked : (number : Place → ℕ) → Indexed number index a c none → r ≡ lowest_free look_row a (peak_in c) → (Long index c → k ≡ number p) →
          Indexed number (marked_in (opened_in a r level p) told-both level (other_side side) k r) (opened_in a r level p) counted (only r side)
      marked number I free place =
          let low = lowest-low a (peak_in c) free in
          let used = in-use-counted (in-use-opened I.in_use r has (peak_in c) free level p) 1 (max (peak_in c) (r + 1)) (omega arith) in
          let J = indexed-opened r has I level p place (omega (arith, counted-peak)) (λ q d l. omega (arith, d, l, low, counted-peak)) used in
          let size : length told-both ≡ length index = numbered-size (numbered_in index r Rising k) r Falling k ∙ numbered-size index r Rising k in
          indexed-marked J r level (other_side side) (ap (λ (z : Row Place). z.level) (opened-here a r has level p))
          (λ long. place (omega (arith, long, counted-peak, size)) ∙ ap number (sym (new-tip (other_side side))))
          (λ q x e. ⊎_elim (λ s. inl (e, s)) (λ s. inr (e, s)) (either_side x side))

module _ (l : Slices) (level : ℕ) (side : Side) (e : NamedEdge) (r : ℕ) where
  -- an edge that is not attached leaves all as it was
  pub attached-not : state_of l (Err Overrun) ≡ up.attach (room_of l) (state_of l (Ok tt)) level side (edge_of e) r → Attached l level side e r (Err Overrun) l
  attached-not h = record {
    leaves = h;
    peak = refl;
    level_kept = refl;
    tip = λ d. absurd (not_done {t = Err Overrun} refl d);
    good = λ number I N film. I;
  }

  -- a tip moved to the edge's top, and its number set
  module _ (has : HasRow l.rows r) where
    moved-tip : (x : Side) (row : Row Place) (b : Branch Place) → on x (with_branch row x b).branch ≡ b
    moved-tip Rising row b = refl
    moved-tip Falling row b = refl

    top-film : (x : Side) → (up.top x (edge_of e)).film ≡ e.film
    top-film Rising = refl
    top-film Falling = refl

    pub attached-moved : (n : ℕ) {l₁ : Slices} → state_of l₁ (Ok tt) ≡ up.attach (room_of l) (state_of l (Ok tt)) level side (edge_of e) r →
        l₁.rows ≡ moved_in l.rows r side (up.top side (edge_of e)) n → l₁.index ≡ numbered_in l.index r side (number_below (other_side side) e) → l₁.counts ≡ l.counts →
        Attached l level side e r (Ok tt) l₁
    attached-moved n {l₁} h ea ei ec = record {
      leaves = h;
      peak = ap (λ (z : List ℕ). peak_in z) ec;
      level_kept = rw ea (ap (λ (z : Row Place). z.level) (moved_here l.rows r has (up.top side (edge_of e)) n side));
      tip = λ d film. rw ea (new-tip film);
      good = λ number I N film. rw (ea, ei, ec)
          (indexed-moved r has side I (up.top side (edge_of e)) n (λ long. N long (other_side side)) (film ∙ sym (top-film side)) (in-use-moved I.in_use r has side (up.top side (edge_of e)) n));
    }
      where
        new-tip : film_in l.rows r ≡ e.film → tip_of (moved_in l.rows r side (up.top side (edge_of e)) n) r side ≡ up.top side (edge_of e)
        new-tip film =
            ap (λ (z : Row Place). (on side z.branch).tip) (moved_here l.rows r has (up.top side (edge_of e)) n side)
            ∙ ap (λ (z : Branch Place). z.tip) (moved-tip side (look_row l.rows r) (record { tip = on_film (film_in l.rows r) (up.top side (edge_of e)).point; length = n; finished = false }))
            ∙ ap (λ (f : ℤ). on_film f (up.top side (edge_of e)).point) (film ∙ sym (top-film side))
