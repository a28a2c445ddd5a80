-- Two tests taken together, where no number passes both: as many pass one or the other as pass the one and the other.
use mathlib.Core.Path.{◌≡◌, refl}
use mathlib.Core.Bool.{Bool}
use Prim.Native.Nat.{ℕ, zero, suc, ◌+◌, ◌<◌}
use native.Mathlib.Omega.{arith}
use Rattle.laws.specs.Counting.{bit, count}

pub count-either : (p q r : ℕ → Bool) (n : ℕ) → ((k : ℕ) → k < n → bit (r k) ≡ bit (p k) + bit (q k)) → count r n ≡ count p n + count q n
unfolding count
count-either p q r zero e = refl
count-either p q r (suc n) e = omega (arith, e n (omega arith), count-either p q r n (λ k l. e k (omega arith)))
