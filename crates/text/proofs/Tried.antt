-- Lines tried one by one: so many are well formed and their edges written, and the cursor stands where the next begins.
-- The next line is malformed, or well formed and one more is done; or no line is left.
use mathlib.Core.Path.{◌≡◌, refl, sym, ap, ◌∙◌}
use mathlib.Core.Bool.{Bool}
use mathlib.Core.List.{List}
use Prim.Native.Nat.{ℕ, ◌+◌, ◌*◌, ◌<◌}
use native.Mathlib.Numerals.{add-one}
use native.Mathlib.Omega.{arith}
use lib.IntN.{ℤ}
use Rattle.std.specs.Prelude.{Option, Some, None, Ok, Err}
use lib.ListN.{length}
use borrow.Author.Tests.{lt-ltb, le-ltb}
use Rattle.laws.proofs.Searching.{NoneBelow, none_yet, none_more, found_first, found_none}
use Rattle.sheet.specs.declared.Edge.{Edge}
use Rattle.text.specs.declared.Cursor.{Cursor}
use Rattle.text.specs.declared.TextRefusal.TheVariants as refusal
use Rattle.text.specs.Said.{Said, said}
use Rattle.text.specs.Lines.{line_at, is_malformed, edge_in}
use Rattle.text.specs.Texts.{line_start, line_of, first_malformed, answer_of, placed, Filled, LinesTried}
use Rattle.text.proofs.LineEnds.{line-ends}
use Rattle.text.proofs.Rooms.{nothing-filled, one-more-filled}
use Rattle.sheet.specs.Amounts.{numbers_per_edge}

-- whether line n is malformed
abbrev malformed : List ℕ → ℕ → Bool
malformed s n = is_malformed (line_of s n)

pub record SoFar (s : List ℕ) (before after : List ℤ) (cursor n : ℕ) : Type 0 where
  pub here : cursor ≡ line_start s n
  pub sound : NoneBelow (malformed s) n
  pub filled : Filled s n before after

pub none_so_far : (s : List ℕ) (l : List ℤ) → SoFar s l l 0 0
unfolding line_start
none_so_far s l = record { here = refl; sound = none_yet _; filled = nothing-filled s l }

module _ (s : List ℕ) {before after : List ℤ} {cursor n : ℕ} (f : SoFar s before after cursor n) where
  line-here : {l : Said Edge} → l ≡ line_at s cursor → line_of s n ≡ l
  unfolding line_of
  line-here e = rw (e, f.here)

  pub stopped : {lines : ℕ} {l : Option (Edge × Cursor)} → n < lines → said l ≡ line_at s cursor → l ≡ None → LinesTried s lines before after (Err (refusal.Malformed (n + 1)))
  unfolding first_malformed answer_of is_malformed
  stopped {lines} h e m =
      let q : n ≡ first_malformed s lines = found_first (malformed s) f.sound h (ap is_malformed (line-here e ∙ ap said m)) in
      record { answer = rw (← q, lt-ltb n lines h); filled = rw (← q) f.filled }

  pub ran_out : {lines : ℕ} → lines ≡ n → LinesTried s lines before after (Ok lines)
  unfolding first_malformed answer_of
  ran_out {lines} h =
      let q : lines ≡ first_malformed s lines = found_none (malformed s) f.sound (omega arith) in
      record { answer = rw (← q, le-ltb lines lines (omega arith)); filled = rw (← q, h) f.filled }

  pub one_more : {l : Option (Edge × Cursor)} {e : Edge} {c : Cursor} {a : List ℤ}
      → numbers_per_edge * n + 4 < length before → said l ≡ line_at s cursor → l ≡ Some (e, c) → a ≡ placed after n e → SoFar s before a c.at (n + 1)
  unfolding is_malformed edge_in line_start
  one_more {l} {e} {c} {a} room g h p = record {
    here = rw (add-one, ← f.here) (line-ends s cursor (sym g ∙ ap said h));
    sound = none_more (malformed s) f.sound (ap is_malformed (line-here g ∙ ap said h));
    filled = rw p (one-more-filled s n f.filled room (ap edge_in (line-here g ∙ ap said h)));
  }
