-- Step 1's three ways out: a row found, none free, the lowest free one opened. What a search by a slot finds is told here too.
use Rattle.std.specs.Prelude.{Option, Some, None, Ok, Err}
use mathlib.Core.Path.{◌≡◌, refl, sym, ap, ◌∙◌}
use mathlib.Core.Bool.{true, false}
use mathlib.Core.List.{List}
use Prim.Native.Nat.{ℕ, ◌<◌}
use native.Mathlib.Omega.{arith}
use lib.IntN.{ℤ}
use Rattle.sheet.proofs.Signed.{same_z-true}
use Rattle.sheet.specs.Points.{same_z, is_same}
use Rattle.laws.proofs.Deciding.{both_true}
use Rattle.steps.specs.declared.Side.{Side}
use Rattle.steps.specs.declared.Side.TheVariants.{Rising, Falling}
use Rattle.steps.specs.declared.Halt.{Halt}
use Rattle.steps.specs.Rows.{other_side, Row}
use Rattle.steps.specs.SweepUp as up
use Rattle.steps.specs.SweepUp.{found_below}
use Rattle.steps.specs.Plain.{new_row}
use Rattle.rows.specs.declared.Place.{Place}
use Rattle.rows.specs.Layout.{film_places, HasRow, film_in, look_row, has_tip_in, opened_in}
use Rattle.finding.specs.Free.{peak_in}
use Rattle.finding.specs.Index.{slot_of, owner_in, told, tip_of, none}
use Rattle.rows.proofs.Looking.{tip_is}
use Rattle.rows.proofs.Searching.{tip-parts, tip-has-row}
use Rattle.rows.proofs.Writing.{opened-here}
use Rattle.finding.proofs.Indexing.{but-more, found-by-number, told_at}
use Rattle.sweep.specs.declared.NamedEdge.{NamedEdge}
use Rattle.sweep.specs.Slices.{edge_of, number_below, progress}
use Rattle.sweep.specs.Beside.{Opened}
use Rattle.sweep.specs.Treated.{Slices, Good, Numbered, Found, Met, Free, Chained}
use Rattle.sweep.proofs.Attaching.{opened}
use Rattle.sweep.proofs.Ways.{chain-found, chain-none, chain-opened}

-- what a search by an edge's slot finds
pub found-by-slot : (l : Slices) (level : ℕ) (side : Side) (e : NamedEdge) {i : ℕ} {f : Option ℕ} → i ≡ slot_of level side (number_below side e) →
    f ≡ told (owner_in l.index (peak_in l.counts) i) l.rows (peak_in l.counts) level side (up.bottom side (edge_of e)) → Found l level side e f
found-by-slot l level side e {i} slot_is find-is = record {
  there = λ q h. told_at l.rows level side (up.bottom side (edge_of e)) (peak_in l.counts) q (owner_in l.index (peak_in l.counts) i) (sym find-is ∙ h);
  found = λ number I N. rw slot_is at find-is ∙ found-by-number level side (up.bottom side (edge_of e)) I (number_below side e) (λ long. N long side);
}

-- step 4's search, where the place is apart and where it is not
pub met-apart : (l : Slices) (level : ℕ) (side : Side) (e : NamedEdge) → e.apart ≡ true → Met l level side e None
unfolding up.pick_meeting
met-apart l level side e apart = record { there = λ q h. let z : ◌≡◌ {A = ℕ} 0 1 = cc in absurd (omega arith); found = λ number I N. rw apart }

pub met-found : (l : Slices) (level : ℕ) (side : Side) (e : NamedEdge) {f : Option ℕ} → e.apart ≡ false → Found l level (other_side side) e f → Met l level side e f
unfolding up.pick_meeting
met-found l level side e not-apart F = record { there = F.there; found = λ number I N. F.found number I N ∙ (rw not-apart) }

-- an edge's bottom is on its film
bottom-film : (side : Side) (e : NamedEdge) → (up.bottom side (edge_of e)).film ≡ e.film
bottom-film Rising e = refl
bottom-film Falling e = refl

-- a row's film is that of its tips
film-is : (a : List ℤ) (r : ℕ) (side : Side) → film_in a r ≡ (tip_of a r side).film
film-is a r side = sym (ap (λ (z : Place). z.film) (tip_is a r side))

module _ (l : Slices) (level : ℕ) (side : Side) (e : NamedEdge) {f : Option ℕ} (F : Found l level side e f) where
  abbrev bottom : Place
  bottom = up.bottom side (edge_of e)

  searched : (number : Place → ℕ) → Good number l none → Numbered number l e → f ≡ found_below (has_tip_in l.rows level side bottom) (peak_in l.counts)
  searched number I N = F.found number (but-more I (λ q x h. absurd h)) N

  pub chained-found : {r : ℕ} → f ≡ Some r → Chained l level side e (Ok r) l
  unfolding film_places
  chained-found {r} found = record {
    grows = omega arith;
    row = (tip-has-row l.rows level side bottom r there.0, (tip-parts l.rows level side bottom r there.0).0, film, there.1);
    leaves = λ number I N next. (
      but-more I (λ q x h. absurd h),
      chain-found l.rows l.journal level (progress l.records l.counts (Ok tt)) e side bottom next refl (searched number I N) found,
    );
  }
    where
      there : (has_tip_in l.rows level side bottom r ≡ true) × (r < peak_in l.counts)
      there = F.there r found

      same : film_places.same (tip_of l.rows r side) bottom ≡ true
      same = (tip-parts l.rows level side bottom r there.0).1

      film : film_in l.rows r ≡ e.film
      film = film-is l.rows r side ∙ same_z-true (tip_of l.rows r side).film bottom.film (both_true (same_z (tip_of l.rows r side).film bottom.film) (is_same (tip_of l.rows r side).point bottom.point) same).0 ∙ bottom-film side e

  module _ (nothing : f ≡ None) where
    pub chained-none : {t : Halt} → Free l (Err t) → Chained l level side e (Err t) l
    chained-none free = record {
      grows = omega arith;
      row = tt;
      leaves = λ number I N next. rw free.0 (chain-none l.rows l.journal level (progress l.records l.counts (Ok tt)) e side bottom next refl (searched number I N) nothing refl (free.1 I.in_use));
    }

    pub chained-opened : {r : ℕ} → Free l (Ok r) → {a₁ : List ℤ} {index₁ c₁ : List ℕ} → a₁ ≡ opened_in l.rows r level bottom → Opened l.rows l.index l.counts r side bottom (number_below side e) a₁ index₁ c₁ → HasRow a₁ r →
        Chained l level side e (Ok r) (record { rows = a₁; journal = l.journal; index = index₁; counts = c₁; records = l.records })
    chained-opened {r} free {a₁} {index₁} {c₁} opens O has = record {
      grows = omega (arith, O.peak);
      row = (
        has,
        ap (λ (z : Row Place). z.level) here,
        film-is a₁ r side ∙ film side ∙ bottom-film side e,
        omega (arith, O.peak),
      );
      leaves = λ number I N next. (
        O.good number I (free.1 I.in_use) (λ long. N long side),
        chain-opened l.rows l.journal level (progress l.records l.counts (Ok tt)) e side bottom next refl (searched number I N) nothing (free.1 I.in_use) free.0
            (opened l.rows l.journal (progress l.records l.counts (Ok tt)) r level bottom (free.1 I.in_use) opens (λ i. record { records = l.records; peak = O.peak i; end = Ok tt })),
      );
    }
      where
        here : look_row a₁ r ≡ new_row level bottom
        here = rw opens (opened-here l.rows r (omega (arith, free.0)) level bottom)

        film : (x : Side) → (tip_of a₁ r x).film ≡ bottom.film
        film Rising = ap (λ (z : Row Place). z.branch.rising.tip.film) here
        film Falling = ap (λ (z : Row Place). z.branch.falling.tip.film) here
