-- A plain table written at a name: there it holds what was written, elsewhere what it held.
use mathlib.Core.Path.{◌≡◌}
use Prim.Native.Nat.{ℕ}
use borrow.Author.Tests.{eq-eqb, ne_eqb}
use Rattle.steps.specs.Plain.{put}

pub put-at : {A : Type 0} (f : ℕ → A) (i j : ℕ) (a : A) → j ≡ i → put f i a j ≡ a
put-at f i j a e = rw (eq-eqb j i e)

pub put-off : {A : Type 0} (f : ℕ → A) (i j : ℕ) (a : A) → (j ≡ i → ⊥) → put f i a j ≡ f j
put-off f i j a e = rw (ne_eqb j i e)
