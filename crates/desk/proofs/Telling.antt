-- What is promised of the two calls for an instruction, from what is promised of the instruction: no refusal has the number 0, and for the three lists of
-- an accepted sheet only 18 is given.
use Rattle.std.specs.Prelude.{Result, Ok, Err}
use mathlib.Core.Path.{◌≡◌, refl, sym, ap, ◌∙◌, subst}
use mathlib.Core.Bool.{cond}
use mathlib.Core.List.{List}
use mathlib.Core.Logic.{⊎_elim}
use Prim.Native.Nat.{ℕ, ◌+◌, ◌*◌}
use native.Mathlib.Omega.{arith}
use borrow.Author.Tests.{lt-ltb, le-ltb}
use lib.Dec.{ltb}
use lib.IntN.{ℤ}
use lib.ListN.{length}
use Rattle.laws.proofs.Deciding.{lt-or-le}
use Rattle.checks.proofs.Answering.{alone-passed}
use Rattle.numbering.specs.Outcome.{Lent, Left, call_of}
use Rattle.numbering.proofs.Promising.{accepted-call}
use Rattle.cutter.specs.declared.machines.Machine.{Machine}
use Rattle.cutter.specs.declared.blade.Instruction.{Instruction}
use Rattle.cutter.specs.declared.blade.Instruction.TheVariants.{Travel, Cut, Lift}
use Rattle.cutter.specs.declared.CutRefusal.{CutRefusal}
use Rattle.cutter.specs.declared.CutRefusal.TheVariants.{Edges, Numbers, TurnsDiffer, HeadNotTail, PastLast}
use Rattle.cutter.specs.declared.CutRefusal.{CutRefusal}
use Rattle.cutter.specs.Instructed.{cut_number_of, Instructs}
use Rattle.cutter.proofs.OnlyPastLast.{runs, past, not-past}
use Rattle.desk.specs.declared.Sheet.{Sheet}
use Rattle.desk.specs.declared.Cut as desk
use Rattle.desk.specs.Exported.{Exports}
use Rattle.desk.specs.Told.{cut_from, Told}
use Rattle.desk.proofs.Accepting.{refused-not-zero, sheet-refused}
use Rattle.desk.proofs.AcceptedSheet.{accepted-sheet}
use Rattle.desk.proofs.HeadsMeetTails.{heads-meet-tails}

-- ---- refusal 0
cut-refused : (r : CutRefusal) → cut_number_of r ≡ 0 → ⊥
cut-refused (Edges r) q = sheet-refused r q
cut-refused (Numbers r) q = refused-not-zero r q
cut-refused (TurnsDiffer i) q = omega arith
cut-refused (HeadNotTail e) q = omega arith
cut-refused PastLast q = omega arith

zero-is-next : (s : Result Instruction CutRefusal) → (cut_from s).refusal ≡ 0 → (i : Instruction) × (s ≡ Ok i)
zero-is-next (Ok i) q = (i, refl)
zero-is-next (Err r) q = absurd (cut-refused r q)

next-is-zero : (i : Instruction) → (cut_from (Ok i)).refusal ≡ 0
next-is-zero (Travel p) = refl
next-is-zero (Cut p) = refl
next-is-zero Lift = refl

-- ---- the lists of an accepted sheet
module _ {m : Machine} {turns : List ℕ} {k : ℕ} {l : Lent} {before : List ℕ} {y : Left Sheet} (E : Exports l before y turns) (zero : y.answer.refusal ≡ 0)
    {s : Result Instruction CutRefusal} (I : Instructs m l.list y.polygons y.sequences turns k s) where
  only-past : (cut_from s).refusal ≡ cond (ltb k (length turns + 2 * y.answer.polygons)) 0 18
  only-past =
      let A = accepted-sheet E zero in
      let w = E.accepted zero in
      let a = accepted-call E.promised.numbered.outcome_is w.2 in
      let passed = alone-passed (call_of l) a.passed_all in
      let p = ap (λ (u : Left Sheet). length u.polygons) E.same ∙ a.polygons_long in
      let q = ap (λ (u : Left Sheet). length u.sequences) E.same ∙ a.sequences_long in
      let R = runs l.list y.polygons y.sequences turns passed p q A.cut.never_refused A.cut.turn_list in
      let joined = heads-meet-tails A.cut R in
      ⊎_elim
      (λ h.
      let i = not-past l.list y.polygons y.sequences turns passed p q A.cut.never_refused A.cut.turn_list k m joined I h in
      rw (lt-ltb k (length turns + 2 * y.answer.polygons) h) (ap (λ (x : Result Instruction CutRefusal). (cut_from x).refusal) i.1 ∙ next-is-zero i.0))
      (λ h.
      let e = past l.list y.polygons y.sequences turns passed p q A.cut.never_refused A.cut.turn_list k m joined I h in
      rw (le-ltb k (length turns + 2 * y.answer.polygons) h) (ap (λ (x : Result Instruction CutRefusal). (cut_from x).refusal) e))
      (lt-or-le k (length turns + 2 * y.answer.polygons))

pub told : {m : Machine} {list : List ℤ} {polygons sequences turns : List ℕ} {k : ℕ} {s : Result Instruction CutRefusal} {r : desk.Cut} → Instructs m list polygons sequences turns k s → r ≡ cut_from s → Told m list polygons sequences turns k r
told {m} {list} {polygons} {sequences} {turns} {k} {s} I q = record {
  inner = s;
  promised = I;
  same = q;
  accepted = λ z. zero-is-next s (ap (λ (x : desk.Cut). x.refusal) (sym q) ∙ z);
  from_assembly = λ l before y E z a b d.
      ap (λ (x : desk.Cut). x.refusal) q
      ∙ only-past E z (subst (λ (u : List ℤ). Instructs m u y.polygons y.sequences turns k s) (sym a) (subst (λ (u : List ℕ). Instructs m list u y.sequences turns k s) (sym b) (subst (λ (u : List ℕ). Instructs m list polygons u turns k s) (sym d) I)));
}
