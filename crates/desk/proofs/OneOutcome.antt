-- What the exported functions promise settles the answer and every number in the slices: two outcomes of one call are the same.
use mathlib.Core.Path.{◌≡◌, sym, ap, ◌∙◌}
use mathlib.Core.List.{List}
use Prim.Native.Nat.{ℕ}
use lib.IntN.{ℤ}
use lib.ListN.{length}
use Rattle.sheet.specs.TurnList.{turned}
use Rattle.numbering.specs.Outcome.{Lent, Left}
use Rattle.turns.proofs.OneTurnList as turns
use Rattle.assembly.proofs.OneOutcome as assembly
use Rattle.cutter.specs.declared.machines.Machine.{Machine}
use Rattle.cutter.proofs.OneAnswer.{one_answer}
use Rattle.desk.specs.declared.Cut as desk
use Rattle.desk.specs.declared.Sheet.{Sheet}
use Rattle.desk.specs.declared.Turned.{Turned}
use Rattle.desk.specs.Exported.{Exports, ReadTurns, by_numbers}
use Rattle.desk.specs.Told.{cut_from, Told}

pub one-assembly : (l : Lent) (before : List ℕ) {x y : Left Sheet} {s t : List ℕ} → Exports l before x s → Exports l before y t → (x ≡ y) × (s ≡ t)
one-assembly l before a b = let w = assembly.one-outcome a.promised b.promised in (a.same ∙ ap by_numbers w.0 ∙ sym b.same, w.1)

pub one-reading : (polygons sequences before : List ℕ) {s t : List ℕ} {x y : Turned}
    → ReadTurns polygons sequences before s x → ReadTurns polygons sequences before t y → (x ≡ y) × (s ≡ t)
one-reading polygons sequences before a b = (a.answer ∙ sym b.answer, turns.one-outcome polygons sequences (turned polygons sequences (length before)) before _ _ a.turns b.turns)

pub one-telling : (m : Machine) (list : List ℤ) (polygons sequences turns : List ℕ) (k : ℕ) {x y : desk.Cut}
    → Told m list polygons sequences turns k x → Told m list polygons sequences turns k y → x ≡ y
one-telling m list polygons sequences turns k a b = a.same ∙ ap cut_from (one_answer m list polygons sequences turns k a.promised b.promised) ∙ sym b.same
