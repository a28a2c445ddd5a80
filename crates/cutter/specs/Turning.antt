-- What the check of a turn list promises: the answer by the right turn list, and that a list that passes runs from edge to edge.
use Rattle.std.specs.Prelude.{ℕ, suc, ◌≡◌, Bool, cond, ◌&&◌, List, eqb, length, Ok, Err, Result, ⊤}
use Rattle.sheet.specs.TurnList.{number_lists, turned, TurnList}
use Rattle.cutter.specs.declared.CutRefusal.{CutRefusal}
use Rattle.cutter.specs.Instructed.{Step, turned_step}
use Rattle.cutter.specs.Runs.{Runs}

-- a pair of numbers comes right behind another
unfoldable pub comes_next : ℕ → ℕ → ℕ → ℕ → Bool
comes_next p s q t = cond (eqb t 0) (eqb q (suc p)) (eqb q p && eqb t (suc s))

abbrev pub after_turning : Result ⊤ CutRefusal → Step → Step
after_turning (Err r) rest = Err r
after_turning (Ok _) rest = rest

-- lists for n edges, and the answer
pub record TurnsChecked (polygons sequences turns : List ℕ) (n : ℕ) (r : Result ⊤ CutRefusal) : Type 0 where
  pub right : List ℕ
  pub given : (c : ℕ) → turned polygons sequences (length turns) ≡ Ok c → TurnList (number_lists polygons sequences) right
  -- whatever is tried next
  pub answer : (rest : Step) → after_turning r rest ≡ turned_step n polygons sequences turns right rest
  pub passed : r ≡ Ok tt → (length polygons ≡ n) × (length sequences ≡ n) × Runs (number_lists polygons sequences) turns
