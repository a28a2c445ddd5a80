-- One law for each way out of closing, opening and attaching: what the calls leave makes up the step.
use Rattle.std.specs.Prelude.{Err, IsTrue, ◌↔◌}
use mathlib.Core.Bool.{false}
use mathlib.Core.Logic.{⊎_elim}
use Rattle.laws.proofs.Deciding.{lt-or-le, not-both}
use mathlib.Core.Path.{◌≡◌, refl, ◌∙◌}
use mathlib.Core.List.{List}
use Prim.Native.Nat.{ℕ, zero, suc, ◌+◌, ◌-◌, ◌≤◌, ◌<◌, max}
use native.Mathlib.Omega.{arith}
use lib.IntN.{ℤ, pos, neg_ℤ, ◌-ℤ◌}
use mir.Syntax.{w32}
use mir.Val.{SFits, to_z, of_z}
use mir.ValLaws.{to_z-of_z}
use lib.Signed.{mag}
use borrow.Author.Tests.{lt-ltb, le-ltb, le-leb, lt-leb}
use Rattle.rows.specs.declared.Place.{Place}
use Rattle.steps.specs.declared.Side.{Side}
use Rattle.steps.specs.declared.Side.TheVariants.{Rising, Falling}
use Rattle.steps.specs.Rows.{other_side, on, in_row, closing, lowest_free}
use Rattle.steps.specs.SweepUp as up
use Rattle.laws.proofs.Lowest.{count-by-lowest}
use Rattle.steps.specs.SweepUp.{most_length}
use Rattle.rows.specs.Layout as rows
use Rattle.rows.specs.Layout.{look_row, opened_in, moved_in}
use Rattle.rows.proofs.Signs.{plain-read}
use Rattle.laws.proofs.Tests.{and-false}
use Rattle.journal.specs.Layout as journal
use Rattle.journal.specs.Layout.{records_in, written_in}
use Rattle.sweep.specs.declared.Progress.{Progress}
use Rattle.sweep.specs.declared.NamedEdge.{NamedEdge}
use Rattle.sweep.specs.Slices.{room, lent_room, state, edge_of}
use Rattle.steps.specs.declared.Halt.TheVariants.{Overrun}

-- a journal that is not full has a record left
pub not-full : {m n : ℕ} → (IsTrue false ↔ m ≤ n) → n < m
not-full {m} {n} h = ⊎_elim (λ l. l) (λ g. absurd (not-both (h.1 g) refl)) (lt-or-le n m)

-- an offset with its sign
module _ (n : ℕ) (h : n < 2147483648) where
  pub plus : to_z w32 n ≡ pos n
  plus = plain-read n h

  negated : pos 0 -ℤ to_z w32 n ≡ neg_ℤ (pos n)
  negated = rw plus (zero_minus n)
    where
      zero_minus : (m : ℕ) → pos 0 -ℤ pos m ≡ neg_ℤ (pos m)
      zero_minus zero = refl
      zero_minus (suc m) = let e : suc m - 1 ≡ m = omega arith in simp (lt-ltb 0 (suc m) (omega arith), e)

  pub minus-fits : SFits w32 (pos 0 -ℤ to_z w32 n)
  minus-fits = rw negated (small n h)
    where
      small : (m : ℕ) → m < 2147483648 → SFits w32 (neg_ℤ (pos m))
      small zero l = record { sfits = omega arith }
      small (suc m) l = record { sfits = omega arith }

  pub minus : to_z w32 (of_z w32 (pos 0 -ℤ to_z w32 n)) ≡ neg_ℤ (pos n)
  minus = to_z-of_z w32 _ minus-fits ∙ negated

pub signed-small : (side : Side) (n : ℕ) → n < 2147483648 → mag (up.signed side n) < 2147483648
signed-small Rising n h = h
signed-small Falling zero h = omega arith
signed-small Falling (suc n) h = omega arith

-- one of an edge's lengths is at most both
pub other-within : (side : Side) (e : NamedEdge) → on (other_side side) (edge_of e).length ≤ e.falling + e.rising
other-within Rising e = omega arith
other-within Falling e = omega arith

-- one record more
abbrev recorded : Progress → Progress
recorded s = record { records = s.records + 1; peak = s.peak; end = s.end }

module _ (a b : List ℤ) (s : Progress) (level : ℕ) (e : NamedEdge) where
  pub close-full : records_in b ≤ s.records → up.ended (Err Overrun) (state a b s) ≡ up.close (lent_room a b) (state a b s) level (edge_of e)
  unfolding up.close room
  close-full h = rw (le-ltb s.records (records_in b) h)

  pub close-written : {b₁ : List ℤ} {p : Progress} → s.records < records_in b →
      b₁ ≡ written_in b s.records (record { level = level; name = e.name; chain = closing; offset = pos e.falling }) → p ≡ recorded s →
      state a b₁ p ≡ up.close (lent_room a b) (state a b s) level (edge_of e)
  unfolding up.close up.write room journal.record_slice
  close-written h eb ep = rw (lt-ltb s.records (records_in b) h, eb, ep)

  module _ (side : Side) (r : ℕ) where
    pub attach-full : records_in b ≤ s.records → up.ended (Err Overrun) (state a b s) ≡ up.attach (lent_room a b) (state a b s) level side (edge_of e) r
    unfolding up.attach room
    attach-full h = rw (le-ltb s.records (records_in b) h)

    module _ (n : ℕ) (is : n ≡ (on side (look_row a r).branch).length) where
      pub attach-long : most_length < n + e.falling + e.rising → up.ended (Err Overrun) (state a b s) ≡ up.attach (lent_room a b) (state a b s) level side (edge_of e) r
      unfolding up.attach room rows.row_slice
      attach-long h = rw (← is, lt-leb (n + e.falling + e.rising) most_length h, and-false)

      pub attach-done : {a₁ b₁ : List ℤ} {p : Progress} → s.records < records_in b → n + e.falling + e.rising ≤ most_length →
          b₁ ≡ written_in b s.records (record { level = level; name = e.name; chain = in_row r; offset = up.signed side (n + on (other_side side) (edge_of e).length) }) →
          a₁ ≡ moved_in a r side (up.top side (edge_of e)) (n + e.falling + e.rising) → p ≡ recorded s →
          state a₁ b₁ p ≡ up.attach (lent_room a b) (state a b s) level side (edge_of e) r
      unfolding up.attach up.write up.move room rows.row_slice journal.record_slice
      attach-done hr hl eb ea ep = rw (← is, lt-ltb s.records (records_in b) hr, le-leb (n + e.falling + e.rising) most_length hl, ea, eb, ep)

module _ (a b : List ℤ) (s : Progress) (r level : ℕ) (p : Place) where
  pub opened : {a₁ : List ℤ} {q : Progress} → r ≡ lowest_free look_row a s.peak → a₁ ≡ opened_in a r level p →
      q ≡ record { records = s.records; peak = max s.peak (r + 1); end = s.end } →
      state a₁ b q ≡ up.open_row (lent_room a b) (state a b s) r level p
  unfolding up.open_row up.in_use lowest_free room rows.row_slice
  opened free ea eq = rw (ea, eq, free, count-by-lowest (λ k. (look_row a k).used) s.peak)
