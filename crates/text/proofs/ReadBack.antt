-- What is written is read: a list of up to 512 edges of numbers of up to seven digits, written in decimal in up to 20,480 bytes, answers with as many edges,
-- and they are those, in every room that takes them. Where films are in their range, so many edges take no more bytes (Lengths).
-- So the definitions refuse nothing that is well formed. Line by line: the text of an edge is a well-formed line, and the next begins after it.
use mathlib.Core.Path.{◌≡◌, refl, sym, ap, ◌∙◌}
use mathlib.Core.Bool.{false}
use mathlib.Core.List.{List, [], ◌∷◌, ◌++◌}
use Prim.Native.Nat.{ℕ, zero, suc, ◌+◌, ◌*◌, ◌≤◌, ◌<◌}
use native.Mathlib.Omega.{arith}
use lib.IntN.{ℤ, pos}
use lib.ListN.{get_or, length, length-append}
use borrow.Author.Tests.{eq-eqb, le-ltb}
use Rattle.laws.proofs.Searching.{NoneBelow, found_none}
use Rattle.sheet.specs.declared.Edge.{Edge}
use Rattle.std.specs.Prelude.{Ok}
use Rattle.text.specs.Said.{read, and_then}
use Rattle.text.specs.Numbers.{byte_at, is_digit}
use Rattle.text.specs.Lines.{past_at, field_at, space, newline, line_at, is_malformed, edge_in, edge_of}
use Rattle.text.specs.Texts.{line_count, line_start, line_of, first_malformed, past_limits, too_much, answer_of, reading_of}
use Rattle.text.specs.Written.{numeral, with_byte, written_line, written, Short, ShortEdge, AllShort}
use Rattle.text.proofs.LineEnds.{line-ends}
use Rattle.text.proofs.ToTheEnd.{lines_are}
use Rattle.text.proofs.Spelled.{Spelled, spelled-left, spelled-right}
use Rattle.text.proofs.NumeralsRead.{number_read}
use Rattle.sheet.specs.Amounts.{numbers_per_edge}

-- a number and the byte after it
module _ (s : List ℕ) (b i : ℕ) (z : ℤ) (d : is_digit b ≡ false) (l : Short z) (h : Spelled s i (with_byte z b)) where
  byte-after : byte_at s (i + length (numeral z)) ≡ b
  unfolding with_byte byte_at
  byte-after =
      let q : i + length (numeral z) ≡ i + length (numeral z) + 0 = omega arith in
      ap (byte_at s) q ∙ spelled-right s i (numeral z) (b ∷ []) h 0 (omega arith)

  field-read : field_at s b i ≡ read z (i + length (with_byte z b))
  unfolding field_at and_then past_at with_byte
  field-read =
      let n = number_read s i z l (spelled-left s i (numeral z) (b ∷ []) h) (ap is_digit byte-after ∙ d) in
      let q : i + length (numeral z ++ (b ∷ [])) ≡ i + length (numeral z) + 1 = omega (arith, length-append (numeral z) (b ∷ [])) in
      rw (n, eq-eqb (byte_at s (i + length (numeral z))) b byte-after, q)

no-space : is_digit space ≡ false
unfolding is_digit
no-space = refl

no-newline : is_digit newline ≡ false
unfolding is_digit
no-newline = refl

line_read : (s : List ℕ) (i : ℕ) (e : Edge) → ShortEdge e → Spelled s i (written_line e) → line_at s i ≡ read e (i + length (written_line e))
unfolding line_at and_then written_line
line_read s i e l h =
    let a = with_byte e.tail.x space in
    let b = with_byte e.tail.y space in
    let c = with_byte e.head.x space in
    let d = with_byte e.head.y space in
    let f = with_byte e.film newline in
    let h2 = spelled-right s i a (b ++ (c ++ (d ++ f))) h in
    let h3 = spelled-right s _ b (c ++ (d ++ f)) h2 in
    let h4 = spelled-right s _ c (d ++ f) h3 in
    let h5 = spelled-right s _ d f h4 in
    let q : i + length (a ++ (b ++ (c ++ (d ++ f)))) ≡ i + length a + length b + length c + length d + length f =
    omega (arith, length-append a (b ++ (c ++ (d ++ f))), length-append b (c ++ (d ++ f)), length-append c (d ++ f), length-append d f) in
    rw (
      field-read s space i e.tail.x no-space l.tail_x (spelled-left s i a _ h),
      field-read s space _ e.tail.y no-space l.tail_y (spelled-left s _ b _ h2),
      field-read s space _ e.head.x no-space l.head_x (spelled-left s _ c _ h3),
      field-read s space _ e.head.y no-space l.head_y (spelled-left s _ d _ h4),
      field-read s newline _ e.film no-newline l.film h5,
      q,
    )

-- the lines from line m on are those of es
record LinesAre (s : List ℕ) (m : ℕ) (es : List Edge) : Type 0 where
  ends : line_start s (m + length es) ≡ line_start s m + length (written es)
  each : (d : Edge) (n : ℕ) → n < length es → (c : ℕ) × (line_of s (m + n) ≡ read (get_or es n d) c)

module _ (s : List ℕ) (m : ℕ) (e : Edge) (es : List Edge) (l : AllShort (e ∷ es)) (h : Spelled s (line_start s m) (written (e ∷ es))) where
  first_read : line_at s (line_start s m) ≡ read e (line_start s m + length (written_line e))
  unfolding written
  first_read = line_read s (line_start s m) e (l e 0 (omega arith)) (spelled-left s (line_start s m) (written_line e) (written es) h)

  second-start : line_start s (suc m) ≡ line_start s m + length (written_line e)
  unfolding line_start
  second-start = sym (line-ends s (line_start s m) first_read)

  rest-spelled : Spelled s (line_start s (suc m)) (written es)
  unfolding written
  rest-spelled = rw second-start (spelled-right s (line_start s m) (written_line e) (written es) h)

  one-line-more : LinesAre s (suc m) es → LinesAre s m (e ∷ es)
  unfolding written line_of
  one-line-more rest = record { ends = ends; each = each }
    where
      ends : line_start s (m + suc (length es)) ≡ line_start s m + length (written_line e ++ written es)
      ends =
          let q : m + suc (length es) ≡ suc m + length es = omega arith in
          omega (arith, ap (line_start s) q, rest.ends, second-start, length-append (written_line e) (written es))

      each : (d : Edge) (n : ℕ) → n < suc (length es) → (c : ℕ) × (line_of s (m + n) ≡ read (get_or (e ∷ es) n d) c)
      each d zero g = let q : m + 0 ≡ m = omega arith in (_, ap (line_of s) q ∙ first_read)
      each d (suc n) g =
          let q : m + suc n ≡ suc m + n = omega arith in
          let v = rest.each d n (omega arith) in
          (v.0, ap (line_of s) q ∙ v.1)

lines-read : (s : List ℕ) (m : ℕ) (es : List Edge) → AllShort es → Spelled s (line_start s m) (written es) → LinesAre s m es
unfolding written
lines-read s m [] l h = record {
  ends = let q : m + 0 ≡ m = omega arith in omega (arith, ap (line_start s) q);
  each = λ d n g. absurd (omega arith);
}
lines-read s m (e ∷ es) l h = one-line-more s m e es l h (lines-read s (suc m) es (λ d n g. l d (suc n) (omega arith)) (rest-spelled s m e es l h))

module _ (es : List Edge) (l : AllShort es) where
  all_read : LinesAre (written es) 0 es
  unfolding line_start
  all_read = lines-read (written es) 0 es l (λ k g. let q : 0 + k ≡ k = omega arith in ap (byte_at (written es)) q)

  line-there : (d : Edge) (n : ℕ) → n < length es → (c : ℕ) × (line_of (written es) n ≡ read (get_or es n d) c)
  line-there d n g =
      let q : n ≡ 0 + n = omega arith in
      let v = all_read.each d n g in
      (v.0, ap (line_of (written es)) q ∙ v.1)

  none-malformed : NoneBelow (λ n. is_malformed (line_of (written es) n)) (length es)
  unfolding is_malformed
  none-malformed n g = ap is_malformed (line-there (edge_of (pos 0) (pos 0) (pos 0) (pos 0) (pos 0)) n g).1

  as-many-lines : line_count (written es) ≡ length es
  unfolding line_start
  as-many-lines =
      let q : 0 + length es ≡ length es = omega arith in
      lines_are (written es) (length es) none-malformed (omega (arith, ap (line_start (written es)) q, all_read.ends))

  not-too-much : (room : ℕ) → length es ≤ 512 → length (written es) ≤ 20480 → numbers_per_edge * length es ≤ room → too_much (written es) room ≡ false
  unfolding too_much past_limits
  not-too-much room few short fits = rw (
    le-ltb 20480 (length (written es)) short,
    le-ltb 512 (line_count (written es)) (omega (arith, as-many-lines)),
    le-ltb room (numbers_per_edge * line_count (written es)) (omega (arith, as-many-lines)),
  )

  pub written_read : (room : ℕ) → length es ≤ 512 → length (written es) ≤ 20480 → numbers_per_edge * length es ≤ room → reading_of (written es) room ≡ Ok (length es)
  unfolding reading_of answer_of first_malformed
  written_read room few short fits =
      let q : length es ≡ first_malformed (written es) (length es) = found_none _ none-malformed (omega arith) in
      rw (not-too-much room few short fits, as-many-lines, ← q, le-ltb (length es) (length es) (omega arith))

  pub edges-read : (d : Edge) (n : ℕ) → n < length es → edge_in (line_of (written es) n) ≡ get_or es n d
  unfolding edge_in
  edges-read d n g = ap edge_in (line-there d n g).1
