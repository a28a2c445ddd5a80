-- The ways out of the four steps and of a treatment, whose parts are done by functions of their own: what they leave together is what the steps leave, and the index and the counts are
-- good again. One law for each way, for an edge of any level.
use Rattle.std.specs.Prelude.{Option, Some, None, Result, ⊤, Ok, Err}
use mathlib.Core.Path.{◌≡◌, refl, sym, ap, ◌∙◌}
use mathlib.Core.Bool.{true, false}
use mathlib.Core.Logic.{inl, inr}
use mathlib.Core.List.{List}
use Prim.Native.Nat.{ℕ, ◌+◌, ◌-◌, ◌≤◌, ◌<◌}
use native.Mathlib.Omega.{arith}
use lib.IntN.{ℤ}
use lib.ListN.{length, get_or}
use Rattle.sheet.specs.Points.{is_same}
use Rattle.steps.specs.declared.Side.{Side}
use Rattle.steps.specs.declared.Side.TheVariants.{Rising, Falling}
use Rattle.steps.specs.declared.Halt.{Halt}
use Rattle.steps.specs.declared.Halt.TheVariants.{Overrun}
use Rattle.steps.specs.Rows.{other_side, LevelEdge}
use Rattle.steps.specs.SweepUp as up
use Rattle.steps.specs.SweepUp.{State}
use Rattle.rows.specs.declared.Place.{Place}
use Rattle.rows.specs.Layout.{film_places, HasRow, film_in, look_row, has_tip_in, finished_in, freed_in}
use Rattle.finding.specs.Free.{peak_in, given_back_in}
use Rattle.finding.specs.Index.{tip_at, tip_of, marked_in, none, only, Indexed}
use Rattle.rows.proofs.Searching.{tip-has-row}
use Rattle.rows.proofs.Writing.{finished-only, freed-only}
use Rattle.finding.proofs.InUse.{given-back-keeps, in-use-finished, in-use-freed}
use Rattle.finding.proofs.Indexing.{but-more, indexed-marked, indexed-finished, indexed-freed}
use Rattle.sweep.specs.declared.NamedEdge.{NamedEdge}
use Rattle.sweep.specs.declared.treating.Writer.{Writer}
use Rattle.sweep.specs.Slices.{edge_of, number_below, progress}
use Rattle.sweep.specs.Beside.{HasFound, Meets}
use Rattle.sweep.specs.Treated.{Slices, room_of, state_of, Good, Numbered, Next, Kept, SameLent, OnlyWritten, Met, Chained, Attached, Stepped, Treated}
use Rattle.sweep.proofs.Rooms.{same-room, not_done}
use Rattle.sweep.proofs.Ways.{treat-closed, treat-none-left, raised, treat-steps, row-stopped, row-unmet, row-met}

abbrev Want : Type 0
Want = State (List ℤ) (List ℤ)

-- a treatment that goes on from slices that are good again
pub treated-from : {right right₁ : (Place → ℕ) → Type 0} {before between after : Slices} {t : Result ⊤ Halt} {want want₁ : Want} → Treated right₁ between after t want₁ →
    peak_in before.counts ≤ peak_in between.counts → ((number : Place → ℕ) → Good number before none → right number → Good number between none × right₁ number) → want₁ ≡ want →
    Treated right before after t want
treated-from T grows good e = record {
  grows = omega (arith, grows, T.grows);
  told = λ number G R. let g = good number G R in let h = T.told number g.0 g.1 in (h.0 ∙ e, h.1);
}

-- one room serves for slices that keep their lengths
pub one-room : {l l₁ : Slices} → Kept l l₁ → room_of l₁ ≡ room_of l
one-room {l} {l₁} K = same-room l.rows l.journal l₁.rows l₁.journal K.rows K.journal

pub kept-on : {l l₁ l₂ : Slices} → Kept l l₁ → Kept l₁ l₂ → Kept l l₂
kept-on K L = record { rows = L.rows ∙ K.rows; journal = L.journal ∙ K.journal; index = L.index ∙ K.index }

pub lent-on : {w w₁ w₂ : Writer} → SameLent w w₁ → SameLent w₁ w₂ → SameLent w w₂
lent-on S T = record { rows = T.rows ∙ S.rows; journal = T.journal ∙ S.journal; kept = kept-on S.kept T.kept }

-- an edge that has the numbers of its places goes on having them
numbered-on : (number : Place → ℕ) {l l₁ : Slices} {e : NamedEdge} → Kept l l₁ → peak_in l.counts ≤ peak_in l₁.counts → Numbered number l e → Numbered number l₁ e
numbered-on number K grows N long = N (omega (arith, long, grows, K.index))

other-twice : (side : Side) → side ≡ other_side (other_side side)
other-twice Rising = refl
other-twice Falling = refl

-- an edge whose ends are one closes an outline
pub closed : (l : Slices) (left level : ℕ) (e : NamedEdge) → is_same e.tail e.head ≡ true → {l₁ : Slices} {t : Result ⊤ Halt} →
    OnlyWritten l l₁ → state_of l₁ t ≡ up.close (room_of l) (state_of l (Ok tt)) level (edge_of e) →
    Treated (λ number. Numbered number l e) l l₁ t (up.treat (room_of l) left level (state_of l (Ok tt)) (edge_of e))
closed l left level e same {l₁} {t} W closes = record {
  grows = omega (arith, ap (λ (z : List ℕ). peak_in z) W.counts);
  told = λ number G N. (
    treat-closed l.rows l.journal left level (progress l.records l.counts (Ok tt)) e (sym same) refl {a₁ = l₁.rows} {b₁ = l₁.journal} {p = progress l₁.records l₁.counts t} closes,
    λ d. rw (W.rows, W.index, W.counts) G,
  );
}

-- any other edge needs a level above it
pub none_left : (l : Slices) (left level : ℕ) (e : NamedEdge) → is_same e.tail e.head ≡ false → left ≡ 0 →
    Treated (λ number. Numbered number l e) l l (Err Overrun) (up.treat (room_of l) left level (state_of l (Ok tt)) (edge_of e))
none_left l left level e differ zero = record {
  grows = omega arith;
  told = λ number G N. (treat-none-left l.rows l.journal left level (progress l.records l.counts (Ok tt)) e (sym differ) refl zero, λ d. absurd (not_done {t = Err Overrun} refl d));
}

-- a row freed, and treated as an edge of the next level
module _ (l : Slices) (r : ℕ) (has : HasRow l.rows r) (e : NamedEdge) (edge-is : edge_of e ≡ up.as_edge r (look_row l.rows r)) (tails : e.tails ≡ get_or l.index (tip_at r Falling) 0)
    (heads : e.heads ≡ get_or l.index (tip_at r Rising) 0) {a₁ : List ℤ} {c₁ : List ℕ} (freed : a₁ ≡ freed_in l.rows r) (given_back : c₁ ≡ given_back_in l.counts r) where
  abbrev pub raising : Slices
  raising = record { rows = a₁; journal = l.journal; index = l.index; counts = c₁; records = l.records }

  peak-same : peak_in c₁ ≡ peak_in l.counts
  peak-same = rw given_back (given-back-keeps l.counts r 1 (omega arith))

  same-progress : progress l.records c₁ (Ok tt) ≡ progress l.records l.counts (Ok tt)
  same-progress = λ i. record { records = l.records; peak = peak-same i; end = Ok tt }

  numbered-edge : (number : Place → ℕ) → Good number l none → r < peak_in l.counts → Numbered number raising e
  unfolding up.as_edge
  numbered-edge number G below long Rising =
      tails ∙ G.numbers (omega (arith, long, peak-same)) r below Falling ∙ ap (λ (z : LevelEdge Place). number z.tail) (sym edge-is)
  numbered-edge number G below long Falling =
      heads ∙ G.numbers (omega (arith, long, peak-same)) r below Rising ∙ ap (λ (z : LevelEdge Place). number z.head) (sym edge-is)

  pub from-raised : (left level : ℕ) {after : Slices} {t : Result ⊤ Halt} →
      Treated (λ number. Numbered number raising e) raising after t (up.treat (room_of raising) left level (state_of raising (Ok tt)) (edge_of e)) →
      Treated (λ number. r < peak_in l.counts) l after t (up.treat (room_of l) left level (up.free (room_of l) (state_of l (Ok tt)) r) (up.as_edge r (look_row l.rows r)))
  from-raised left level T = treated-from T (omega (arith, peak-same))
      (λ number G below. (rw freed (indexed-freed r has G peak-same (rw given_back (in-use-freed G.in_use r))), numbered-edge number G below))
      (raised l.rows l.journal left level (progress l.records l.counts (Ok tt)) r e edge-is freed (rw freed (freed-only l.rows r).kept) same-progress)

-- a row that step 4 finds is there
pub met-there : (l : Slices) (level : ℕ) (side : Side) (e : NamedEdge) (f : Option ℕ) → Met l level side e f → HasFound l.rows f
met-there l level side e None M = tt
met-there l level side e (Some q) M = tip-has-row l.rows level (other_side side) (up.top side (edge_of e)) q (M.there q refl).0

-- no row for an edge
pub step-no-row : (l : Slices) (level : ℕ) (e : NamedEdge) {side : Side} {l₁ : Slices} {t : Halt} → side ≡ up.side_of film_places (edge_of e) → Chained l level side e (Err t) l₁ → Stepped l level e (Err t) l₁
step-no-row l level e side-is C = record {
  grows = C.grows;
  both = tt;
  leaves = λ number G N next. rw side-is at (sym (C.leaves number G N next));
}

-- an edge whose chain's row is r, attached or not
module _ (l : Slices) (level : ℕ) (e : NamedEdge) (side : Side) (side-is : side ≡ up.side_of film_places (edge_of e)) {r : ℕ} {l₁ : Slices} (C : Chained l level side e (Ok r) l₁) (K : Kept l l₁)
    {t : Result ⊤ Halt} {l₂ : Slices} (A : Attached l₁ level side e r t l₂) where
  goes_on : (number : Place → ℕ) → Good number l none → Numbered number l e → (next : Next) →
      up.on_row (room_of l₁) next (state_of l₁ (Ok tt)) level side (edge_of e) r ≡ up.steps_on (room_of l) next (state_of l (Ok tt)) level (up.side_of film_places (edge_of e)) (edge_of e)
  goes_on number G N next = rw (one-room K) (sym (C.leaves number G N next).1 ∙ ap (λ (x : Side). up.steps_on (room_of l) next (state_of l (Ok tt)) level x (edge_of e)) side-is)

  film : film_in l₁.rows r ≡ e.film
  film = C.row.2

  grows₂ : peak_in l.counts ≤ peak_in l₂.counts
  grows₂ = omega (arith, C.grows, A.peak)

  -- all but the tip that was moved is known
  known : (number : Place → ℕ) → Good number l none → Numbered number l e → Next → Good number l₂ (only r side)
  known number G N next = A.good number (C.leaves number G N next).0 (numbered-on number K C.grows N) film

  pub step-stopped : {u : Halt} → t ≡ Err u → Stepped l level e (Err u) l₂
  step-stopped {u} stop = record {
    grows = grows₂;
    both = tt;
    leaves = λ number G N next.
        row-stopped l₁.rows l₁.journal next (progress l₁.records l₁.counts (Ok tt)) level side e r {a₁ = l₂.rows} {b₁ = l₂.journal} {p = progress l₂.records l₂.counts (Err u)} (rw stop at A.leaves) refl
        ∙ goes_on number G N next;
  }

  -- step 4
  module _ (done : t ≡ Ok tt) (K₂ : Kept l₁ l₂) where
    attached : state_of l₂ (Ok tt) ≡ up.attach (room_of l₁) (state_of l₁ (Ok tt)) level side (edge_of e) r
    attached = rw done at A.leaves

    numbered : (number : Place → ℕ) → Numbered number l e → Numbered number l₂ e
    numbered number N = numbered-on number (kept-on K K₂) grows₂ N

    tip : tip_of l₂.rows r side ≡ up.top side (edge_of e)
    tip = A.tip done film

    module _ {f : Option ℕ} (M : Met l₂ level side e f) where
      searched : (number : Place → ℕ) → Good number l none → Numbered number l e → Next → f ≡ up.pick_meeting e.apart (up.found_below (has_tip_in l₂.rows level (other_side side) (up.top side (edge_of e))) (peak_in l₂.counts))
      searched number G N next = M.found number (but-more (known number G N next) (λ q x h. h.1 ∙ other-twice side)) (numbered number N)

      -- nothing meets it: the tip is marked
      unmet : f ≡ None → Stepped l level e (Ok None) (record l₂ { index = marked_in l₂.rows l₂.index level side (number_below (other_side side) e) r })
      unmet nothing = record {
        grows = grows₂;
        both = tt;
        leaves = λ number G N next. (
          row-unmet l₁.rows l₁.journal next (progress l₁.records l₁.counts (Ok tt)) level side e r {a₁ = l₂.rows} {b₁ = l₂.journal} {p = progress l₂.records l₂.counts (Ok tt)} attached refl (searched number G N next) nothing
              ∙ goes_on number G N next,
          indexed-marked (known number G N next) r level side (A.level_kept ∙ C.row.1) (λ long. numbered number N long (other_side side) ∙ ap number (sym tip)) (λ q x h. inr h),
        );
      }

      -- row q meets it: both branches are finished
      module _ {q : ℕ} (met : f ≡ Some q) where
        pub has-met : HasRow l₂.rows q
        has-met = tip-has-row l₂.rows level (other_side side) (up.top side (edge_of e)) q (M.there q met).0

        pub has-row : HasRow l₂.rows r
        has-row = omega (arith, C.row.0, K₂.rows)

        abbrev one : List ℤ
        one = finished_in l₂.rows q (other_side side)

        abbrev two : List ℤ
        two = finished_in one r side

        length-one : length one ≡ length l₂.rows
        length-one = (finished-only l₂.rows q (other_side side)).kept

        length-two : length two ≡ length l₂.rows
        length-two = (finished-only one r side).kept ∙ length-one

        both-known : {number : Place → ℕ} → Good number l₂ (only r side) → Indexed number l₂.index two l₂.counts none
        both-known {number} I =
            let J : Indexed number l₂.index one l₂.counts (only r side) = indexed-finished q has-met I (other_side side) (λ z x h. inl h) (in-use-finished I.in_use q has-met (other_side side)) in
            let there : HasRow one r = omega (arith, has-row, length-one) in
            indexed-finished r there J side (λ z x h. inr h) (in-use-finished J.in_use r there side)

        step-met : Stepped l level e (Ok (Some (q, r))) (record l₂ { rows = two })
        step-met = record {
          grows = grows₂;
          both = (omega (arith, has-met, length-two), omega (arith, has-row, length-two));
          leaves = λ number G N next. (
            rw (one-room K) at (row-met l₁.rows l₁.journal next (progress l₁.records l₁.counts (Ok tt)) level side e r {a₁ = l₂.rows} {b₁ = l₂.journal} {p = progress l₂.records l₂.counts (Ok tt)} attached refl (searched number G N next) met
                ∙ goes_on number G N next),
            both-known (known number G N next),
            (M.there q met).1,
            omega (arith, C.row.3, A.peak),
          );
        }

  -- the end of step 4, either way
  pub step-end : t ≡ Ok tt → Kept l₁ l₂ → (f : Option ℕ) → Met l₂ level side e f → {o : Option (ℕ × ℕ)} {a₃ : List ℤ} {index₃ : List ℕ} → Meets l₂.rows l₂.index level side e r f o a₃ index₃ →
      Stepped l level e (Ok o) (record { rows = a₃; journal = l₂.journal; index = index₃; counts = l₂.counts; records = l₂.records })
  step-end done K₂ None M E = rw (E.0, E.1, E.2) (unmet done K₂ M refl)
  step-end done K₂ (Some q) M E = rw (E.0, E.1, E.2) (step-met done K₂ M refl)

-- the steps of an edge whose ends differ, with a level left, make its treatment
module _ (l : Slices) (left level : ℕ) (e : NamedEdge) (differ : is_same e.tail e.head ≡ false) (some_left : 0 < left) where
  abbrev wanted : Want
  wanted = up.treat (room_of l) left level (state_of l (Ok tt)) (edge_of e)

  abbrev next_up : Slices → Next
  next_up m = up.treat (room_of m) (left - 1) (level + 1)

  steps : wanted ≡ up.steps_on (room_of l) (next_up l) (state_of l (Ok tt)) level (up.side_of film_places (edge_of e)) (edge_of e)
  steps = treat-steps l.rows l.journal left level (progress l.records l.counts (Ok tt)) e (up.side_of film_places (edge_of e)) differ some_left refl

  pub step-halted : {l₁ : Slices} {u : Halt} → Stepped l level e (Err u) l₁ → Treated (λ number. Numbered number l e) l l₁ (Err u) wanted
  step-halted {l₁} {u} S = record {
    grows = S.grows;
    told = λ number G N. (S.leaves number G N (next_up l) ∙ sym steps, λ d. absurd (not_done {t = Err u} refl d));
  }

  pub step-done : {l₁ : Slices} {o : Option (ℕ × ℕ)} → o ≡ None → Stepped l level e (Ok o) l₁ → Treated (λ number. Numbered number l e) l l₁ (Ok tt) wanted
  step-done {l₁} none_met S₀ = let S : Stepped l level e (Ok None) l₁ = rw none_met at S₀ in record {
    grows = S.grows;
    told = λ number G N. let h = S.leaves number G N (next_up l) in (h.0 ∙ sym steps, λ d. h.1);
  }

  pub step-passed : {l₁ : Slices} {o : Option (ℕ × ℕ)} {p : ℕ × ℕ} → o ≡ Some p → Stepped l level e (Ok o) l₁ → Kept l l₁ → {after : Slices} {t : Result ⊤ Halt} →
      Treated (λ number. (p.0 < peak_in l₁.counts) × (p.1 < peak_in l₁.counts)) l₁ after t (up.pass_both (room_of l₁) (next_up l₁) (state_of l₁ (Ok tt)) p.0 p.1) →
      Treated (λ number. Numbered number l e) l after t wanted
  step-passed {l₁} {o} {p} some_met S₀ K T = let S : Stepped l level e (Ok (Some p)) l₁ = rw some_met at S₀ in record {
    grows = omega (arith, S.grows, T.grows);
    told = λ number G N.
        let h = S.leaves number G N (next_up l) in
        let k = T.told number h.1 (h.2, h.3) in
        ((rw (one-room K) at k.0) ∙ h.0 ∙ sym steps, k.1);
  }
