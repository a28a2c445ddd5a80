-- A search from 0 on: all numbers tried so far fail the test. The first that passes ends it, or the bound does.
use mathlib.Core.Path.{◌≡◌, ap, ◌∙◌, sym}
use mathlib.Core.Bool.{Bool, true, false}
use mathlib.Core.Logic.{⊎_elim}
use Prim.Native.Nat.{ℕ, ◌+◌, ◌≤◌, ◌<◌}
use native.Mathlib.Omega.{arith}
use Rattle.laws.specs.Counting.{first}
use Rattle.laws.proofs.Deciding.{lt-or-le}
use Rattle.laws.proofs.First.{first-is, first-none}

abbrev pub NoneBelow : (ℕ → Bool) → ℕ → Type 0
NoneBelow p n = (k : ℕ) → k < n → p k ≡ false

module _ (p : ℕ → Bool) where
  pub none_yet : NoneBelow p 0
  none_yet k l = absurd (omega arith)

  pub none_more : {e : ℕ} → NoneBelow p e → p e ≡ false → NoneBelow p (e + 1)
  none_more {e} h q k l = ⊎_elim (h k) (λ m. let i : k ≡ e = omega arith in ap p i ∙ q) (lt-or-le k e)

  pub found_first : {e n : ℕ} → NoneBelow p e → e < n → p e ≡ true → e ≡ first p n
  found_first h l q = first-is p _ _ (omega arith) (λ m. q) h

  pub found_none : {e n : ℕ} → NoneBelow p e → n ≤ e → n ≡ first p n
  found_none h l = sym (first-none p _ (λ k m. h k (omega arith)))
