-- What the outcome of one test says of another: a test turned round, two tests together, two comparisons that agree.
use mathlib.Core.Path.{◌≡◌, refl, sym, ◌∙◌}
use mathlib.Core.Bool.{Bool, true, false, ◌&&◌}
use mathlib.Core.Logic.{⊎_elim}
use Prim.Native.Nat.{ℕ}
use lib.Dec.{eqb}
use borrow.Author.Tests.{eq-eqb, ne_eqb}
use Rattle.laws.proofs.Deciding.{eq-or-ne}
-- the library's, of one test
pub use Rattle.std.proofs.lemmas.Bool.{not-true, not-false}
pub use Rattle.std.proofs.Math.Bool.{not-not, and-true, and-false, or-true}

pub and_assoc : (a b c : Bool) → (a && (b && c)) ≡ ((a && b) && c)
and_assoc true b c = refl
and_assoc false b c = refl

pub eqb-agree : (a b c d : ℕ) → (a ≡ b → c ≡ d) → (c ≡ d → a ≡ b) → eqb a b ≡ eqb c d
eqb-agree a b c d f g = ⊎_elim (λ h. eq-eqb a b h ∙ sym (eq-eqb c d (f h))) (λ h. ne_eqb a b h ∙ sym (ne_eqb c d (λ e. h (g e)))) (eq-or-ne a b)
