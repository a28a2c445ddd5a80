-- Two tests of which each is passed by some number where the other is: some number passes the one as some number passes the other.
use mathlib.Core.Path.{◌≡◌, sym, ◌∙◌}
use mathlib.Core.Bool.{Bool, true}
use mathlib.Core.Logic.{⊎_elim}
use Prim.Native.Nat.{ℕ, ◌<◌}
use Rattle.laws.specs.Counting.{some_below}
use Rattle.laws.proofs.Deciding.{true-or-false, not-both}
use Rattle.laws.proofs.First.{some-below-true, below-some, none_below}

-- where a number below n passes p, some number below n passes q
abbrev pub Moves : (ℕ → Bool) → (ℕ → Bool) → ℕ → Type 0
Moves p q n = (k : ℕ) → k < n → p k ≡ true → (j : ℕ) × (j < n) × (q j ≡ true)

pub some-moved : (p q : ℕ → Bool) (n : ℕ) → Moves p q n → Moves q p n → some_below p n ≡ some_below q n
some-moved p q n to from = ⊎_elim
    (λ e. let v = some-below-true p n e in let w = to v.0 v.1 v.2 in e ∙ sym (below-some q n w.0 w.1 w.2))
    (λ e. ⊎_elim
    (λ f. let v = some-below-true q n f in let w = from v.0 v.1 v.2 in absurd (not-both w.2 (none_below p n e w.0 w.1)))
    (λ f. e ∙ sym f)
    (true-or-false (some_below q n)))
    (true-or-false (some_below p n))
