-- Words of notes. A full word notes all of its 64 rows; in any other the rows before its lowest bit that is not set are noted. A search for the first row
-- that is not noted goes so from word to word.
use mathlib.Core.Path.{◌≡◌, ap, ◌∙◌}
use mathlib.Core.Logic.{⊎_elim}
use mathlib.Core.List.{List}
use Prim.Native.Nat.{ℕ, ◌+◌, ◌-◌, ◌*◌, ◌/◌, ◌%◌, ◌^◌, ◌≤◌, ◌<◌}
use native.Mathlib.Omega.{arith}
use lib.Count.{count_trailing_zeros, trailing_le}
use lib.ListN.{get_or}
use borrow.Author.Tests.{eq-eqb}
use Rattle.laws.specs.Digits.{digit}
use Rattle.laws.proofs.Deciding.{lt-or-le}
use Rattle.laws.proofs.Digits.{digit-le, digit-of-ones, digit-complement, digit-trailing}
use Rattle.finding.specs.Free.{noted, NotedTo}

module _ (counts : List ℕ) where
  module _ (w : ℕ) (before : NotedTo counts (64 * w)) where
    abbrev word : ℕ
    word = get_or counts (3 + w) 0

    noted_more : (k : ℕ) → k ≤ 64 → ((j : ℕ) → j < k → digit word j ≡ 1) → NotedTo counts (64 * w + k)
    unfolding noted
    noted_more k small here q l from = ⊎_elim
        (λ h. before q h from)
        (λ h. let e : q / 64 ≡ w = omega arith in rw e (eq-eqb _ 1 (here (q % 64) (omega arith))))
        (lt-or-le q (64 * w))

    pub noted-full : word ≡ 2 ^ 64 - 1 → NotedTo counts (64 * (w + 1))
    noted-full e =
        let n : 64 * w + 64 ≡ 64 * (w + 1) = omega arith in
        rw n at (noted_more 64 (omega arith) (λ j l. ap (λ (x : ℕ). digit x j) e ∙ digit-of-ones 64 j l))

    -- the lowest bit not set is the lowest one set of the word turned over
    pub noted-part : word < 2 ^ 64 → NotedTo counts (64 * w + count_trailing_zeros 64 (2 ^ 64 - 1 - word))
    noted-part f = noted_more (count_trailing_zeros 64 (2 ^ 64 - 1 - word)) small
        (λ j l. omega (arith, digit-le word j, digit-complement 64 word j f (omega (arith, l, small)), digit-trailing 64 (2 ^ 64 - 1 - word) j l))
      where
        small : count_trailing_zeros 64 (2 ^ 64 - 1 - word) ≤ 64
        small = trailing_le 64 (2 ^ 64 - 1 - word)
