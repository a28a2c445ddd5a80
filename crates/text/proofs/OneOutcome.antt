-- What reading promises settles the answer and every number of the room: two outcomes of one text in one room are the same.
-- Each number of the room belongs to an edge of a line, which the text gives, or stands after them all, where nothing changes.
-- So does what the cursor's methods promise: an answer is told by what it says.
use mathlib.Core.Path.{◌≡◌, refl, sym, ap, ◌∙◌}
use mathlib.Core.List.{List}
use mathlib.Core.Logic.{⊎_elim}
use Prim.Native.Nat.{ℕ, zero, suc, ◌+◌, ◌*◌, ◌/◌, ◌%◌, ◌<◌}
use native.Mathlib.Omega.{arith}
use lib.IntN.{ℤ, pos}
use lib.ListN.{get_or, length}
use lib.Seq.{ext_get_or}
use Rattle.laws.proofs.Deciding.{lt-or-le}
use Rattle.sheet.specs.declared.Edge.{Edge}
use Rattle.sheet.specs.Edges.{edge_at}
use Rattle.std.specs.Borrow.{Bor}
use Rattle.std.specs.Prelude.{Option, Some, None, IfSome}
use Rattle.text.specs.declared.Cursor.{Cursor}
use Rattle.text.specs.Said.{Said, read, refused, said, step_said, OnText}
use Rattle.text.specs.Texts.{Reading, lines_read, Filled, Outcome}
use Rattle.sheet.specs.Amounts.{numbers_per_edge}

numbers-same : (l m : List ℤ) (n j : ℕ) → edge_at l n ≡ edge_at m n → j < 5 → get_or l (numbers_per_edge * n + j) (pos 0) ≡ get_or m (numbers_per_edge * n + j) (pos 0)
unfolding edge_at
numbers-same l m n zero e h =
    let q : numbers_per_edge * n + 0 ≡ numbers_per_edge * n = omega arith in
    rw q (ap (λ (d : Edge). d.tail.x) e)
numbers-same l m n (suc zero) e h = ap (λ (d : Edge). d.tail.y) e
numbers-same l m n (suc (suc zero)) e h = ap (λ (d : Edge). d.head.x) e
numbers-same l m n (suc (suc (suc zero))) e h = ap (λ (d : Edge). d.head.y) e
numbers-same l m n (suc (suc (suc (suc zero)))) e h = ap (λ (d : Edge). d.film) e
numbers-same l m n (suc (suc (suc (suc (suc j))))) e h = absurd (omega arith)

filled-same : (s : List ℕ) (m : ℕ) {before a b : List ℤ} → Filled s m before a → Filled s m before b → (k : ℕ) → get_or a k (pos 0) ≡ get_or b k (pos 0)
filled-same s m {before} {a} {b} f g k = ⊎_elim
    (λ l.
    let q : numbers_per_edge * (k / numbers_per_edge) + k % numbers_per_edge ≡ k = omega arith in
    let e = f.edges (k / numbers_per_edge) (omega arith) ∙ sym (g.edges (k / numbers_per_edge) (omega arith)) in
    rw q at (numbers-same a b (k / numbers_per_edge) (k % numbers_per_edge) e (omega arith)))
    (λ l. f.rest k l ∙ sym (g.rest k l))
    (lt-or-le k (numbers_per_edge * m))

pub one-outcome : (s : List ℕ) {before a b : List ℤ} {p q : Reading} → Outcome s before a p → Outcome s before b q → (p ≡ q) × (a ≡ b)
one-outcome s {before} {a} {b} x y = (
  x.answer ∙ sym y.answer,
  ext_get_or (pos 0) a b (x.filled.same_length ∙ sym y.filled.same_length) (λ k l. filled-same s (lines_read s (length before)) x.filled y.filled k),
)

-- the answer on a text that says this
told : {A : Type 0} → Bor (List ℕ) → Said A → Option (A × Cursor)
told text (read a i) = Some (a, record { text = text; at = i })
told text (refused n) = None

step-told : Bor (List ℕ) → Said Unit → Option Cursor
step-told text (read u i) = Some (record { text = text; at = i })
step-told text (refused n) = None

is-told : {A : Type 0} (text : Bor (List ℕ)) (r : Option (A × Cursor)) → OnText text r → r ≡ told text (said r)
unfolding told
is-told text (Some (a, c)) e = rw (← e)
is-told text None e = refl

step-is-told : (text : Bor (List ℕ)) (r : Option Cursor) → IfSome r (λ c. c.text ≡ text) → r ≡ step-told text (step_said r)
unfolding step-told
step-is-told text (Some c) e = rw (← e)
step-is-told text None e = refl

pub one-answer : {A : Type 0} (text : Bor (List ℕ)) (p q : Option (A × Cursor)) → OnText text p → OnText text q → said p ≡ said q → p ≡ q
one-answer text p q f g e = is-told text p f ∙ ap (told text) e ∙ sym (is-told text q g)

pub one-step : (text : Bor (List ℕ)) (p q : Option Cursor) → IfSome p (λ c. c.text ≡ text) → IfSome q (λ c. c.text ≡ text) → step_said p ≡ step_said q → p ≡ q
one-step text p q f g e = step-is-told text p f ∙ ap (step-told text) e ∙ sym (step-is-told text q g)
