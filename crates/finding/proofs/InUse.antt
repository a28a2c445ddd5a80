-- Notes of rows in use stay good: what is noted as in use is in use. The row that is taken is then in use, and every row below it is, since it was the
-- lowest free one; the row that is given back loses its note; no other write to a row or to the counts says anything new.
use mathlib.Core.Path.{◌≡◌, ap, ◌∙◌}
use mathlib.Core.Bool.{true, not}
use mathlib.Core.Logic.{◌⊎◌, inl, inr, ⊎_elim}
use mathlib.Core.List.{List}
use Prim.Native.Nat.{ℕ, ◌/◌, ◌%◌, ◌≤◌, ◌<◌, min}
use native.Mathlib.Omega.{arith}
use lib.IntN.{ℤ}
use lib.ListN.{length, get_or, set, replicate, length-set, length-replicate, get_or-replicate, get_or-eq_default}
use lib.Seq.{get_or-set_same, get_or-set_other}
use borrow.Author.Tests.{eq-eqb, eqb-true, not-false}
use Rattle.laws.specs.Digits.{digit}
use Rattle.laws.proofs.Deciding.{lt-or-le, eq-or-ne}
use Rattle.laws.proofs.Digits.{digit-of-0, digit_set, digit-cleared}
use Rattle.laws.proofs.First.{first-least}
use Rattle.steps.specs.declared.Side.{Side}
use Rattle.steps.specs.Rows.{lowest_free}
use Rattle.rows.specs.declared.Place.{Place}
use Rattle.rows.specs.Layout.{HasRow, look_row, opened_in, moved_in, finished_in, freed_in}
use Rattle.finding.specs.Free.{low_in, word_at, noted, InUse, taken_in, given_back_in}
use Rattle.rows.proofs.Writing.{OnlyRow, other_row, opened-only, opened-here, moved-only, moved_here, finished-only, finished-here, freed-only}

-- counts with another first word worth a look and another word of row r
abbrev changed : List ℕ → ℕ → ℕ → ℕ → List ℕ
changed counts r low word = set (set counts 2 low) (word_at r) word

-- a number of a list that is written: the new number, or 0 past the list
written : (counts : List ℕ) (i a : ℕ) → (get_or (set counts i a) i 0 ≡ a) ⊎ (get_or (set counts i a) i 0 ≡ 0)
written counts i a = ⊎_elim
    (λ l. inl (get_or-set_same counts i a 0 l))
    (λ l. inr (get_or-eq_default (set counts i a) 0 (simp length-set l)))
    (lt-or-le i (length counts))

noted-bit : (counts : List ℕ) (q : ℕ) → noted counts q ≡ true → digit (get_or counts (word_at q) 0) (q % 64) ≡ 1
unfolding noted
noted-bit counts q e = eqb-true _ 1 e

bit-noted : (counts : List ℕ) (q : ℕ) → digit (get_or counts (word_at q) 0) (q % 64) ≡ 1 → noted counts q ≡ true
unfolding noted
bit-noted counts q e = eq-eqb _ 1 e

-- the same word notes the same
noted-same : (counts after : List ℕ) (q : ℕ) → get_or after (word_at q) 0 ≡ get_or counts (word_at q) 0 → noted after q ≡ true → noted counts q ≡ true
noted-same counts after q e n = bit-noted counts q (rw e at (noted-bit after q n))

-- a word of 0 notes nothing
noted-zero : (counts : List ℕ) (q : ℕ) → get_or counts (word_at q) 0 ≡ 0 → noted counts q ≡ true → ⊥
noted-zero counts q e n = omega (arith, rw e at (noted-bit counts q n), digit-of-0 (q % 64))

module _ (counts : List ℕ) (r low word : ℕ) where
  changed-length : length (changed counts r low word) ≡ length counts
  changed-length = simp length-set

  changed-low : low_in (changed counts r low word) ≤ low
  changed-low = rw (get_or-set_other (set counts 2 low) (word_at r) 2 word 0 (λ e. omega arith)) (⊎_elim (λ e. omega arith) (λ e. omega arith) (written counts 2 low))

  changed-keeps : (i : ℕ) → i < 2 → get_or (changed counts r low word) i 0 ≡ get_or counts i 0
  changed-keeps i l = get_or-set_other (set counts 2 low) (word_at r) i word 0 (λ e. omega arith) ∙ get_or-set_other counts 2 i low 0 (λ e. omega arith)

  changed-other : (q : ℕ) → (q / 64 ≡ r / 64 → ⊥) → get_or (changed counts r low word) (word_at q) 0 ≡ get_or counts (word_at q) 0
  changed-other q d = get_or-set_other (set counts 2 low) (word_at r) (word_at q) word 0 (λ e. d (omega arith)) ∙ get_or-set_other counts 2 (word_at q) low 0 (λ e. omega arith)

  -- what a row noted afterwards says: the word's bit, or that it was noted before
  changed-noted : (q : ℕ) → noted (changed counts r low word) q ≡ true →
      ((q / 64 ≡ r / 64) × (digit word (q % 64) ≡ 1)) ⊎ ((q / 64 ≡ r / 64 → ⊥) × (noted counts q ≡ true))
  changed-noted q n = ⊎_elim
      (λ e. inl (e, here e (written (set counts 2 low) (word_at r) word)))
      (λ d. inr (d, noted-same counts (changed counts r low word) q (changed-other q d) n))
      (eq-or-ne (q / 64) (r / 64))
    where
      here : q / 64 ≡ r / 64 → (get_or (changed counts r low word) (word_at r) 0 ≡ word) ⊎ (get_or (changed counts r low word) (word_at r) 0 ≡ 0) → digit word (q % 64) ≡ 1
      here e (inl w) = rw (e, w) at (noted-bit (changed counts r low word) q n)
      here e (inr w) = absurd (noted-zero (changed counts r low word) q (rw e w) n)

module _ (counts : List ℕ) (r : ℕ) where
  taken-noted : (q : ℕ) → noted (taken_in counts r) q ≡ true → (noted counts q ≡ true) ⊎ (q ≡ r)
  unfolding taken_in
  taken-noted q n = ⊎_elim
      (λ h. ⊎_elim
      (λ e. inl (bit-noted counts q (rw h.0 e)))
      (λ e. inr (omega (arith, h.0, e)))
      (digit_set (get_or counts (word_at r) 0) (r % 64) (q % 64) h.1))
      (λ h. inl h.1)
      (changed-noted counts r (r / 64) _ q n)

  taken-low : low_in (taken_in counts r) ≤ r / 64
  unfolding taken_in
  taken-low = changed-low counts r (r / 64) _

  pub length_taken : length (taken_in counts r) ≡ length counts
  unfolding taken_in
  length_taken = changed-length counts r (r / 64) _

  pub taken-keeps : (i : ℕ) → i < 2 → get_or (taken_in counts r) i 0 ≡ get_or counts i 0
  unfolding taken_in
  taken-keeps = changed-keeps counts r (r / 64) _

  given-back-noted : (q : ℕ) → noted (given_back_in counts r) q ≡ true → (noted counts q ≡ true) × (q ≡ r → ⊥)
  unfolding given_back_in
  given-back-noted q n = ⊎_elim
      (λ h. let e = digit-cleared 64 (get_or counts (word_at r) 0) (r % 64) (q % 64) (omega arith) (omega arith) h.1 in (bit-noted counts q (rw h.0 e.0), λ same. e.1 (ap (λ (x : ℕ). x % 64) same)))
      (λ h. (h.1, λ same. h.0 (ap (λ (x : ℕ). x / 64) same)))
      (changed-noted counts r (min (low_in counts) (r / 64)) _ q n)

  given-back-low : low_in (given_back_in counts r) ≤ min (low_in counts) (r / 64)
  unfolding given_back_in
  given-back-low = changed-low counts r (min (low_in counts) (r / 64)) _

  pub given-back-keeps : (i : ℕ) → i < 2 → get_or (given_back_in counts r) i 0 ≡ get_or counts i 0
  unfolding given_back_in
  given-back-keeps = changed-keeps counts r (min (low_in counts) (r / 64)) _

-- nothing is noted at the start
pub in-use-none : (n : ℕ) (rows : List ℤ) → InUse (replicate n 0) rows
in-use-none n rows = record {
  below = λ q l. absurd (omega (arith, l, zeros 2));
  noted_used = λ q e. absurd (noted-zero (replicate n 0) q (zeros (word_at q)) e);
}
  where
    zeros : (i : ℕ) → ◌≡◌ {A = ℕ} (get_or (replicate n 0) i 0) 0
    zeros i = ⊎_elim (λ l. get_or-replicate n i 0 0 l) (λ l. get_or-eq_default (replicate n 0) 0 (simp length-replicate l)) (lt-or-le i n)

-- every row below the lowest free one is in use
below-lowest : (rows : List ℤ) (peak q : ℕ) → q < lowest_free look_row rows peak → (look_row rows q).used ≡ true
unfolding lowest_free
below-lowest rows peak q l = not-false _ (first-least (λ k. not (look_row rows k).used) peak q l)

module _ {counts : List ℕ} {rows : List ℤ} (I : InUse counts rows) where
  -- a count that is no note
  pub in-use-counted : (i x : ℕ) → i < 2 → InUse (set counts i x) rows
  in-use-counted i x l = record {
    below = λ q h. I.below q (rw (other 2 (omega arith)) at h);
    noted_used = λ q n. I.noted_used q (noted-same counts (set counts i x) q (other (word_at q) (omega arith)) n);
  }
    where
      other : (j : ℕ) → 2 ≤ j → get_or (set counts i x) j 0 ≡ get_or counts j 0
      other j h = get_or-set_other counts i j x 0 (λ e. omega arith)

  -- rows in use stay in use
  pub in-use-kept : {after : List ℤ} → ((q : ℕ) → (look_row rows q).used ≡ true → (look_row after q).used ≡ true) → InUse counts after
  in-use-kept stays = record { below = λ q l. stays q (I.below q l); noted_used = λ q n. stays q (I.noted_used q n) }

  pub in-use-freed : (r : ℕ) → InUse (given_back_in counts r) (freed_in rows r)
  in-use-freed r = record {
    below = λ q l. other q (λ e. omega (arith, l, given-back-low counts r)) (I.below q (omega (arith, l, given-back-low counts r)));
    noted_used = λ q n. let h = given-back-noted counts r q n in other q h.1 (I.noted_used q h.0);
  }
    where
      other : (q : ℕ) → (q ≡ r → ⊥) → (look_row rows q).used ≡ true → (look_row (freed_in rows r) q).used ≡ true
      other q d u = rw (other_row (freed-only rows r) q d) u

  module _ (r : ℕ) (has : HasRow rows r) where
    -- only row r is written, and it is in use if it was
    but-row : {after : List ℤ} → OnlyRow rows after r → ((look_row rows r).used ≡ true → (look_row after r).used ≡ true) → (q : ℕ) → (look_row rows q).used ≡ true → (look_row after q).used ≡ true
    but-row o here q u = ⊎_elim (λ e. rw e (here (rw e at u))) (λ d. rw (other_row o q d) u) (eq-or-ne q r)

    pub in-use-moved : (side : Side) (p : Place) (n : ℕ) → InUse counts (moved_in rows r side p n)
    in-use-moved side p n = in-use-kept (but-row (moved-only rows r side p n) (λ u. rw (moved_here rows r has p n side) u))

    pub in-use-finished : (side : Side) → InUse counts (finished_in rows r side)
    in-use-finished side = in-use-kept (but-row (finished-only rows r side) (λ u. rw (finished-here rows r has side) u))

    -- the lowest free row opened
    pub in-use-opened : (peak : ℕ) → r ≡ lowest_free look_row rows peak → (level : ℕ) (p : Place) → InUse (taken_in counts r) (opened_in rows r level p)
    in-use-opened peak lowest level p = record {
      below = λ q l. stays q (below-lowest rows peak q (omega (arith, l, taken-low counts r, lowest)));
      noted_used = λ q n. ⊎_elim (λ h. stays q (I.noted_used q h)) (λ e. rw e used) (taken-noted counts r q n);
    }
      where
        used : (look_row (opened_in rows r level p) r).used ≡ true
        used = rw (opened-here rows r has level p)

        stays : (q : ℕ) → (look_row rows q).used ≡ true → (look_row (opened_in rows r level p) q).used ≡ true
        stays = but-row (opened-only rows r level p) (λ u. used)
