-- A room of 2,560 numbers is enough for every text: only the limits of bytes and of lines are left to refuse it.
use mathlib.Core.Path.{◌≡◌}
use mathlib.Core.Bool.{false}
use mathlib.Core.List.{List}
use mathlib.Core.Logic.{⊎_elim}
use Prim.Native.Nat.{ℕ, ◌*◌, ◌≤◌}
use native.Mathlib.Omega.{arith}
use lib.Dec.{ltb}
use lib.ListN.{length}
use borrow.Author.Tests.{ltb-false, le-ltb}
use Rattle.laws.proofs.Deciding.{true-or-false, neither-true}
use Rattle.text.specs.Texts.{line_count, past_limits, too_much}
use Rattle.sheet.specs.Amounts.{numbers_per_edge}

pub few-lines : (s : List ℕ) → past_limits s ≡ false → line_count s ≤ 512
unfolding past_limits
few-lines s h = ltb-false 512 (line_count s) (neither-true (ltb 20480 (length s)) _ h).1

pub few_bytes : (s : List ℕ) → past_limits s ≡ false → length s ≤ 20480
unfolding past_limits
few_bytes s h = ltb-false 20480 (length s) (neither-true _ (ltb 512 (line_count s)) h).0

pub enough-room : (s : List ℕ) (room : ℕ) → 2560 ≤ room → too_much s room ≡ past_limits s
unfolding too_much
enough-room s room h = ⊎_elim
    (λ p. rw p)
    (λ p. rw (p, le-ltb room (numbers_per_edge * line_count s) (omega (arith, few-lines s p))))
    (true-or-false (past_limits s))
