-- A well-formed line ends at the first newline: numbers and spaces have no newline in them. `Run` is a stretch of the text without one.
-- A number is a run, a field that ends with a space too, and so a line is a run and then a newline: the place after it is where the next line begins.
use mathlib.Core.Path.{◌≡◌, sym, ap, ◌∙◌}
use mathlib.Core.Bool.{false}
use mathlib.Core.List.{List}
use mathlib.Core.Logic.{⊎_elim}
use Prim.Native.Nat.{ℕ, ◌+◌, ◌-◌, ◌≤◌, ◌<◌}
use native.Mathlib.Omega.{arith}
use lib.IntN.{ℤ}
use lib.ListN.{length}
use borrow.Author.Tests.{eqb-true, eq-eqb, ne_eqb}
use Rattle.laws.proofs.Deciding.{lt-or-le, true-or-false}
use Rattle.laws.specs.Counting.{first}
use Rattle.laws.proofs.First.{first-is}
use Rattle.sheet.specs.declared.Edge.{Edge}
use Rattle.text.specs.Said.{read}
use Rattle.text.specs.Numbers.{byte_at, minus_at, digits_at, digits_from, number_at}
use Rattle.text.specs.Lines.{field_at, space, newline, line_at}
use Rattle.text.specs.Texts.{newline_at, after_newline}
use Rattle.text.proofs.Bytes.{byte-stands, digit-range}
use Rattle.text.proofs.Numerals.{digit-there}
use Rattle.text.proofs.Parts.{number-parts, field-parts, line-parts}

-- no newline from i up to j
pub record Run (s : List ℕ) (i j : ℕ) : Type 0 where
  pub on : i ≤ j
  pub clear : (k : ℕ) → i ≤ k → k < j → newline_at s k ≡ false

other_byte : (s : List ℕ) (k : ℕ) → (byte_at s k ≡ 10 → ⊥) → newline_at s k ≡ false
unfolding newline_at
other_byte s k h = ne_eqb _ _ h

run-byte : (s : List ℕ) (i : ℕ) → (byte_at s i ≡ 10 → ⊥) → Run s i (i + 1)
run-byte s i h = record { on = omega arith; clear = λ k l m. let q : i ≡ k = omega arith in ap (newline_at s) (sym q) ∙ other_byte s i h }

run_none : (s : List ℕ) (i : ℕ) → Run s i i
run_none s i = record { on = omega arith; clear = λ k l m. absurd (omega arith) }

run_join : {s : List ℕ} {i j k : ℕ} → Run s i j → Run s j k → Run s i k
run_join {s} {i} {j} {k} a b = record {
  on = omega arith;
  clear = λ n l m. ⊎_elim (λ h. a.clear n l h) (λ h. b.clear n h m) (lt-or-le n j);
}

module _ (s : List ℕ) where
  minus-run : (i : ℕ) → Run s i (digits_at s i)
  unfolding digits_at minus_at
  minus-run i = ⊎_elim
      (λ e. rw e (run-byte s i (λ q. omega (arith, eqb-true (byte_at s i) 45 e))))
      (λ e. rw e (run_none s i))
      (true-or-false (minus_at s i))

  digits-run : (i : ℕ) → Run s i (i + digits_from s i)
  digits-run i = record { on = omega arith; clear = λ k l m. other_byte s k (digit-no k l m) }
    where
      digit-no : (k : ℕ) → i ≤ k → k < i + digits_from s i → byte_at s k ≡ 10 → ⊥
      digit-no k l m q =
          let e : i + (k - i) ≡ k = omega arith in
          omega (arith, digit-range _ (digit-there s i (k - i) (omega arith)), ap (byte_at s) e)

  number-run : (i : ℕ) {z : ℤ} {c : ℕ} → number_at s i ≡ read z c → Run s i c
  number-run i e = rw (number-parts s i e).end (run_join (minus-run i) (digits-run (digits_at s i)))

  space-run : (i : ℕ) {z : ℤ} {c : ℕ} → field_at s space i ≡ read z c → Run s i c
  space-run i e =
      let f = field-parts s space i e in
      rw f.past (run_join (number-run i f.number) (run-byte s f.after (λ q. omega (arith, f.byte))))

  -- a line is a run and a newline
  pub record Ended (i : ℕ) (c : ℕ) : Type 0 where
    pub end : ℕ
    pub run : Run s i end
    pub byte : byte_at s end ≡ newline
    pub past : c ≡ end + 1

  pub line-is : (i : ℕ) {e : Edge} {c : ℕ} → line_at s i ≡ read e c → Ended i c
  line-is i h =
      let l = line-parts s i h in
      let r = run_join (space-run i l.tail_x) (run_join (space-run _ l.tail_y) (run_join (space-run _ l.head_x) (space-run _ l.head_y))) in
      let f = field-parts s newline _ l.film in
      record { end = f.after; run = run_join r (number-run _ f.number); byte = f.byte; past = f.past }

  newline-found : (i j : ℕ) → Run s i j → byte_at s j ≡ 10 → after_newline s i ≡ j + 1
  unfolding after_newline newline_at
  newline-found i j r b =
      let l : j < length s = byte-stands s j (omega arith) in
      let e : i + (j - i) ≡ j = omega (arith, r.on) in
      let f : j - i ≡ first (λ k. newline_at s (i + k)) (length s - i) =
      first-is _ _ _ (omega arith) (λ m. ap (newline_at s) e ∙ eq-eqb _ _ b) (λ k m. r.clear (i + k) (omega arith) (omega arith)) in
      omega (arith, r.on)

  pub line-ends : (i : ℕ) {e : Edge} {c : ℕ} → line_at s i ≡ read e c → c ≡ after_newline s i
  line-ends i h = let f = line-is i h in f.past ∙ sym (newline-found i f.end f.run f.byte)
