-- What a reading method answers, in 01's terms: what was read and the place after it, or the number of a refusal. `said` and `step_said` give number and
-- values for each case of an answer, and the promises of the methods go by them. 01 Program 4 has one number for everything that is malformed.
use Rattle.std.specs.Prelude.{◌≡◌, ℕ, List, Option, Some, None, IfSome}
use Rattle.std.specs.Borrow.{Bor}
use Rattle.text.specs.declared.Cursor.{Cursor}

pub data Said (A : Type 0) : Type 0 where
  read : A → ℕ → Said A
  refused : ℕ → Said A

abbrev pub malformed : ℕ
malformed = 15

-- what was read, with the cursor after it
abbrev pub said : {A : Type 0} → Option (A × Cursor) → Said A
said (Some (a, c)) = read a c.at
said None = refused malformed

-- a byte that must stand has no value
abbrev pub step_said : Option Cursor → Said Unit
step_said (Some c) = read tt c.at
step_said None = refused malformed

-- the cursor after it is on the same text
abbrev pub OnText : {A : Type 0} → Bor (List ℕ) → Option (A × Cursor) → Type 0
OnText text r = IfSome r (λ found. found.1.text ≡ text)

-- what is read on from there, where something was read
unfoldable pub and_then : {A B : Type 0} → Said A → (A → ℕ → Said B) → Said B
and_then (read a i) more = more a i
and_then (refused n) more = refused n
