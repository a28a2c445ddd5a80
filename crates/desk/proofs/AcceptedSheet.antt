-- What a sheet with refusal 0 has: its two number lists are the numbering of its list, and its three lists can be cut by. `outline_turns`, asked for the
-- turn list of the two, accepts them and gives the same list once more.
use Rattle.std.specs.Prelude.{Result, Ok}
use mathlib.Core.Path.{◌≡◌, ap, ◌∙◌, subst}
use mathlib.Core.List.{List}
use Prim.Native.Nat.{ℕ}
use lib.ListN.{length, get_or}
use Rattle.sheet.specs.Edges.{drawing_of}
use Rattle.sheet.specs.Numbering.{Numbering}
use Rattle.sheet.specs.TurnList.{turned, TurnsAfter}
use Rattle.numbering.specs.Outcome.{Lent, Left}
use Rattle.turns.proofs.OneTurnList.{one-turn-list}
use Rattle.assembly.specs.Assembled.{CutInOrder}
use Rattle.desk.specs.declared.Sheet.{Sheet}
use Rattle.desk.specs.declared.Turned.{Turned}
use Rattle.desk.specs.Exported.{turned_from, Exports, ReadTurns}
use Rattle.sheet.specs.declared.TurnRefusal.{TurnRefusal}

pub record AcceptedSheet (l : Lent) (y : Left Sheet) (turns : List ℕ) : Type 0 where
  pub numbering : Numbering (drawing_of l.list) (λ e. get_or y.polygons e 0) (λ e. get_or y.sequences e 0) y.answer.polygons
  pub cut : CutInOrder l.list y.polygons y.sequences turns y.answer.polygons

pub accepted-sheet : {l : Lent} {before turns : List ℕ} {y : Left Sheet} → Exports l before y turns → y.answer.refusal ≡ 0 → AcceptedSheet l y turns
accepted-sheet {l} {before} {turns} {y} E q =
    let w = E.accepted q in
    let n = ap (λ (u : Left Sheet). u.polygons) E.same in
    let s = ap (λ (u : Left Sheet). u.sequences) E.same in
    record { numbering = rw (n, s) (E.promised.numbered.numbered _ _ _ w.2); cut = rw (n, s) (E.promised.accepted _ _ _ w.2) }

pub same-turns : {l : Lent} {y : Left Sheet} {turns before after : List ℕ} {r : Turned} → AcceptedSheet l y turns → length before ≡ length turns
    → ReadTurns y.polygons y.sequences before after r → (r ≡ turned_from (Ok y.answer.polygons)) × (after ≡ turns)
same-turns {y = y} {turns} {before} {after} A long R =
    let never : turned y.polygons y.sequences (length before) ≡ Ok y.answer.polygons = rw long A.cut.never_refused in
    (R.answer ∙ ap turned_from never, one-turn-list (subst (λ (a : Result ℕ TurnRefusal). TurnsAfter y.polygons y.sequences a before after) never R.turns) A.cut.turn_list)
