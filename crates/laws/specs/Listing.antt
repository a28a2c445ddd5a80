-- Lists made of parts, one for each number below a bound.
use Rattle.std.specs.Prelude.{ℕ, zero, suc, List, [], ◌∷◌, ◌++◌}

-- the lists f 0 to f (n - 1), one after the other
unfoldable pub listed : {A : Type 0} → (ℕ → List A) → ℕ → List A
listed f zero = []
listed f (suc n) = listed f n ++ f n

-- the values f 0 to f (n - 1)
abbrev pub list_of : {A : Type 0} → (ℕ → A) → ℕ → List A
list_of f n = listed (λ i. f i ∷ []) n
