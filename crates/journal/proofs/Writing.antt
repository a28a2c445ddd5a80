-- A record read after a record was written: at its own place it is the record written, where its level, name and row have 31 bits; any other place
-- reads as before.
use mathlib.Core.Path.{◌≡◌, refl, ap}
use mathlib.Core.Logic.{inl, inr, ⊎_elim}
use mathlib.Core.List.{List, [], ◌∷◌}
use Prim.Native.Nat.{ℕ, ◌+◌, ◌*◌, ◌<◌}
use native.Mathlib.Omega.{arith}
use lib.IntN.{ℤ, pos}
use lib.ListN.{length, get_or}
use lib.Seq.{length-sets}
use Rattle.laws.proofs.Deciding.{lt-or-le}
use Rattle.steps.specs.Rows.{Chain, in_row, closing, Record}
use Rattle.steps.specs.SweepDown.{natural_part}
use Rattle.journal.specs.Layout.{HasRecord, fitting, chain_in, row_number, record_at, written_in}
use Rattle.laws.proofs.Sets.{get_or-sets-other, get_or-sets-in}
use Rattle.steps.specs.Swept.{numbers_per_record}

-- the chain's row, where there is one, has 31 bits
abbrev pub ShortChain : Chain → Type 0
ShortChain (in_row r) = r < 2147483648
ShortChain closing = Unit

pub record Short (e : Record) : Type 0 where
  pub level : e.level < 2147483648
  pub name : e.name < 2147483648
  pub chain : ShortChain e.chain

chain_back : (x : Chain) → ShortChain x → chain_in (row_number x) ≡ x
unfolding chain_in row_number
chain_back (in_row r) h = let e : fitting r ≡ r = omega arith in ap in_row e
chain_back closing h = refl

-- the numbers that are stored
abbrev pub numbers : Record → List ℤ
numbers e = pos (fitting e.level) ∷ pos (fitting e.name) ∷ row_number e.chain ∷ e.offset ∷ []

module _ (s : List ℤ) (k : ℕ) (e : Record) where
  pub length-written : length (written_in s k e) ≡ length s
  unfolding written_in
  length-written = length-sets s (numbers_per_record * k) (numbers e)

  pub written-here : HasRecord s k → Short e → record_at (written_in s k e) k ≡ e
  unfolding record_at written_in natural_part
  written-here has h =
      let zeroth : numbers_per_record * k + 0 ≡ numbers_per_record * k = omega arith in
      let level : fitting e.level ≡ e.level = omega arith in
      let name : fitting e.name ≡ e.name = omega arith in
      rw (
        rw zeroth at (at 0 (omega arith)),
        at 1 (omega arith),
        at 2 (omega arith),
        at 3 (omega arith),
        level,
        name,
        chain_back e.chain h.chain,
      )
    where
      at : (j : ℕ) → j < 4 → get_or (written_in s k e) (numbers_per_record * k + j) (pos 0) ≡ get_or (numbers e) j (pos 0)
      at j l = get_or-sets-in (pos 0) (numbers e) s (numbers_per_record * k) j l has

  pub written-elsewhere : (j : ℕ) → (j ≡ k → ⊥) → record_at (written_in s k e) j ≡ record_at s j
  unfolding record_at written_in
  written-elsewhere j d =
      let zeroth : numbers_per_record * j + 0 ≡ numbers_per_record * j = omega arith in
      rw (rw zeroth at (same 0 (omega arith)), same 1 (omega arith), same 2 (omega arith), same 3 (omega arith))
    where
      same : (i : ℕ) → i < 4 → get_or (written_in s k e) (numbers_per_record * j + i) (pos 0) ≡ get_or s (numbers_per_record * j + i) (pos 0)
      same i l = get_or-sets-other (pos 0) (numbers e) s (numbers_per_record * k) (numbers_per_record * j + i) (⊎_elim (λ b. inl (omega arith)) (λ b. inr (omega (arith, d))) (lt-or-le j k))
