-- A whole text: past a limit or with too little room nothing is read, and else the lines are.
use mathlib.Core.Path.{◌≡◌}
use mathlib.Core.Bool.{true, false}
use mathlib.Core.List.{List}
use Prim.Native.Nat.{ℕ, ◌*◌, ◌≤◌, ◌<◌}
use native.Mathlib.Omega.{arith}
use lib.IntN.{ℤ}
use lib.ListN.{length}
use borrow.Author.Tests.{lt-ltb, le-ltb}
use Rattle.std.specs.Prelude.{Err}
use Rattle.text.specs.declared.TextRefusal.TheVariants.{TooMuch}
use Rattle.text.specs.Texts.{Reading, line_count, past_limits, too_much, reading_of, lines_read, LinesTried, Outcome}
use Rattle.text.proofs.Rooms.{nothing-filled}
use Rattle.sheet.specs.Amounts.{numbers_per_edge}

module _ (s : List ℕ) where
  nothing_read : (l : List ℤ) → too_much s (length l) ≡ true → Outcome s l l (Err TooMuch)
  unfolding reading_of lines_read
  nothing_read l h = record { answer = rw h; filled = rw h (nothing-filled s l) }

  pub many-bytes : (l : List ℤ) → 20480 < length s → Outcome s l l (Err TooMuch)
  unfolding too_much past_limits
  many-bytes l h = nothing_read l (rw (lt-ltb 20480 (length s) h))

  module _ (b : length s ≤ 20480) {lines : ℕ} (n : lines ≡ line_count s) where
    pub many-lines : (l : List ℤ) → 512 < lines → Outcome s l l (Err TooMuch)
    unfolding too_much past_limits
    many-lines l h = nothing_read l (rw (le-ltb 20480 (length s) b, lt-ltb 512 (line_count s) (omega arith)))

    module _ (few : lines ≤ 512) where
      within : past_limits s ≡ false
      unfolding past_limits
      within = rw (le-ltb 20480 (length s) b, le-ltb 512 (line_count s) (omega arith))

      pub little-room : (l : List ℤ) → length l < numbers_per_edge * lines → Outcome s l l (Err TooMuch)
      unfolding too_much
      little-room l h = nothing_read l (rw (within, lt-ltb (length l) (numbers_per_edge * line_count s) (omega arith)))

      fits : (room : ℕ) → numbers_per_edge * lines ≤ room → too_much s room ≡ false
      unfolding too_much
      fits room h = rw (within, le-ltb room (numbers_per_edge * line_count s) (omega arith))

      pub lines-read : {before after : List ℤ} {r : Reading} → numbers_per_edge * lines ≤ length before → LinesTried s lines before after r → Outcome s before after r
      unfolding reading_of lines_read
      lines-read {before} h t = record { answer = rw (fits (length before) h, ← n) t.answer; filled = rw (fits (length before) h, ← n) t.filled }
