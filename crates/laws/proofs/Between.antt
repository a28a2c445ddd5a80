-- A test that no number below n passes but some from a to b, where it agrees with another: it is passed as often as the other from a to b.
use mathlib.Core.Path.{◌≡◌}
use mathlib.Core.Bool.{Bool, false}
use Prim.Native.Nat.{ℕ, ◌+◌, ◌-◌, ◌≤◌, ◌<◌}
use native.Mathlib.Omega.{arith}
use Rattle.laws.specs.Counting.{count}
use Rattle.laws.proofs.Counting.{count-from, count_none, count_same}

pub count-between : (p q : ℕ → Bool) (a b n : ℕ) → a ≤ b → b ≤ n → ((i : ℕ) → i < a → p i ≡ false) → ((i : ℕ) → a ≤ i → i < b → p i ≡ q i) → ((i : ℕ) → b ≤ i → i < n → p i ≡ false) → count p n + count q a ≡ count q b
count-between p q a b n ab bn before between after = omega (
  arith,
  count-from p b n bn,
  count-from p a b ab,
  count-from q a b ab,
  count_none p a before,
  count_same (λ i. p (a + i)) (λ i. q (a + i)) (b - a) (λ i l. between (a + i) (omega arith) (omega arith)),
  count_none (λ i. p (b + i)) (n - b) (λ i l. after (b + i) (omega arith) (omega arith)),
)
