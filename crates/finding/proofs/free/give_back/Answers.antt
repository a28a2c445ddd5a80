-- `finding::free::give_back` meets its contract. The row's word is read and stored again, where the slice has it.
use Prim.Native.Nat.{◌%◌}
use mathlib.Core.Path.{sym}
use native.Mathlib.Omega.{arith}
use lib.Seq.{set_out, get_or-set_other}
use Rattle.laws.proofs.Digits.{one_shifted}
use Rattle.finding.specs.Free.{word_at, given_back_in}
use Rattle.finding.proofs.free.give_back.Goals as goal

pub returns-then-w-counts : goal.returns-then-w-counts
unfolding given_back_in
returns-then-w-counts c = let a = c.args in
    rw (c.min.ensures, get_or-set_other a.counts.now 2 (word_at a.r) _ 0 (λ e. omega arith), one_shifted 64 (a.r % 64) (omega arith))

pub returns-else-w-counts : goal.returns-else-w-counts
unfolding given_back_in
returns-else-w-counts c = rw c.min.ensures (sym (set_out _ _ _ (rw c.min.ensures at c.if-w-counts.false)))
