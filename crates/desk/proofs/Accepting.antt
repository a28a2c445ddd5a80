-- An answer by its numbers is accepted just where the answer is: only what is accepted has the number 0.
use Rattle.std.specs.Prelude.{Result, Ok, Err}
use mathlib.Core.Path.{◌≡◌, refl, sym, ap, ◌∙◌}
use mathlib.Core.List.{List}
use mathlib.Core.Logic.{◌↔◌}
use Prim.Native.Nat.{ℕ}
use native.Mathlib.Omega.{arith}
use Rattle.sheet.specs.declared.Refusal.{Refusal}
use Rattle.sheet.specs.declared.Refusal.TheVariants.{NotWhole, TooMany, ListsDiffer, JournalShort, PastRange, FilmPastRange, EqualEnds, TopFalls, Repeated, Uneven, NotAlternating, NoRow}
use Rattle.sheet.specs.Answers.{number_of}
use Rattle.sheet.specs.declared.TurnRefusal.{TurnRefusal}
use Rattle.sheet.specs.declared.TurnRefusal.TheVariants.{TurnLengths, NoPolygon, PairRepeated, Gap}
use Rattle.sheet.specs.TurnList.{turn_number_of, GoodLists}
use Rattle.sheet.specs.Sound.{AcceptsExactly}
use Rattle.desk.specs.declared.Sheet.{Sheet}
use Rattle.desk.specs.declared.Turned.{Turned}
use Rattle.desk.specs.Exported.{sheet_from, turned_from}
use Rattle.sheet.specs.declared.Numbered.{Numbered}
use Rattle.sheet.specs.Answers.{accepted}

pub refused-not-zero : (r : TurnRefusal) → turn_number_of r ≡ 0 → ⊥
refused-not-zero TurnLengths q = omega arith
refused-not-zero (NoPolygon e) q = omega arith
refused-not-zero (PairRepeated e) q = omega arith
refused-not-zero (Gap e) q = omega arith

-- refusal 0 with n polygons
zero-accepted : (a : Result ℕ TurnRefusal) (n : ℕ) → (turned_from a).refusal ≡ 0 → (turned_from a).polygons ≡ n → a ≡ Ok n
zero-accepted (Ok m) n z q = ap Ok q
zero-accepted (Err r) n z q = absurd (refused-not-zero r z)

pub by-numbers-exactly : {polygons sequences : List ℕ} {turns : ℕ} {a : Result ℕ TurnRefusal} {r : Turned} →
    AcceptsExactly polygons sequences turns a →
    r ≡ turned_from a →
    (n : ℕ) →
    ((r.refusal ≡ 0) × (r.polygons ≡ n)) ↔ GoodLists polygons sequences turns n
by-numbers-exactly {a = a} exactly told n = (
  λ h. (exactly n).0 (zero-accepted a n (ap (λ (x : Turned). x.refusal) (sym told) ∙ h.0) (ap (λ (x : Turned). x.polygons) (sym told) ∙ h.1)),
  λ g. let q = told ∙ ap turned_from ((exactly n).1 g) in (ap (λ (x : Turned). x.refusal) q, ap (λ (x : Turned). x.polygons) q),
)

-- the same of a sheet
pub sheet-refused : (r : Refusal) → number_of r ≡ 0 → ⊥
sheet-refused NotWhole q = omega arith
sheet-refused TooMany q = omega arith
sheet-refused ListsDiffer q = omega arith
sheet-refused JournalShort q = omega arith
sheet-refused (PastRange e) q = omega arith
sheet-refused (FilmPastRange e) q = omega arith
sheet-refused (EqualEnds e) q = omega arith
sheet-refused (TopFalls e) q = omega arith
sheet-refused (Repeated e) q = omega arith
sheet-refused (Uneven e) q = omega arith
sheet-refused (NotAlternating e) q = omega arith
sheet-refused (NoRow e) q = omega arith

-- refusal 0 is an accepted answer, with these polygons
sheet-accepted : (a : Result Numbered Refusal) → (sheet_from a).refusal ≡ 0 → (peak : ℕ) × (records : ℕ) × (a ≡ accepted (sheet_from a).polygons peak records)
sheet-accepted (Ok v) q = (v.peak, v.records, refl)
sheet-accepted (Err r) q = absurd (sheet-refused r q)

pub zero-is-accepted : {a : Result Numbered Refusal} {r : Sheet} → r ≡ sheet_from a → r.refusal ≡ 0 → (peak : ℕ) × (records : ℕ) × (a ≡ accepted r.polygons peak records)
zero-is-accepted {a} told q = rw told (sheet-accepted a (ap (λ (x : Sheet). x.refusal) (sym told) ∙ q))
