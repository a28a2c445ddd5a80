-- How long a written list is. A number of up to seven digits takes eight bytes with its minus, a film of the range three, so a line with its spaces and its
-- newline takes 40: 512 lines are just the 20,480 bytes that a text may have.
use mathlib.Core.List.{List, [], ◌∷◌, ◌++◌}
use Prim.Native.Nat.{ℕ, suc, ◌+◌, ◌*◌, ◌≤◌}
use native.Mathlib.Omega.{arith}
use mathlib.Core.Path.{◌≡◌}
use mathlib.Core.Bool.{true}
use lib.IntN.{ℤ, pos, negsuc}
use lib.Signed.{mag}
use lib.ListN.{length, length-append}
use Rattle.sheet.specs.declared.Edge.{Edge}
use Rattle.sheet.specs.Points.{is_film}
use Rattle.sheet.proofs.Places.{film-small}
use Rattle.text.specs.Lines.{space, newline}
use Rattle.text.specs.Written.{numeral, with_byte, written_line, written, Short, ShortEdge, AllShort, AllFilms}
use Rattle.text.proofs.Decimals.{decimal-writes}

numeral-length : (z : ℤ) → Short z → length (numeral z) ≤ 8
unfolding numeral
numeral-length (pos n) l = omega (arith, (decimal-writes 7 7 n l l (omega arith) (omega arith)).few)
numeral-length (negsuc n) l = omega (arith, (decimal-writes 7 7 (suc n) l l (omega arith) (omega arith)).few)

film-length : (z : ℤ) → is_film z ≡ true → length (numeral z) ≤ 3
unfolding numeral
film-length z h = let v = film-small z h in rw v.1 (decimal-writes 7 3 (mag z) (omega (arith, v.0)) (omega (arith, v.0)) (omega arith) (omega arith)).few

field-length : (z : ℤ) (b : ℕ) → length (with_byte z b) ≡ length (numeral z) + 1
unfolding with_byte
field-length z b = length-append (numeral z) (b ∷ [])

line-length : (e : Edge) → ShortEdge e → is_film e.film ≡ true → length (written_line e) ≤ 40
unfolding written_line
line-length e l h =
    let a = with_byte e.tail.x space in
    let b = with_byte e.tail.y space in
    let c = with_byte e.head.x space in
    let d = with_byte e.head.y space in
    let f = with_byte e.film newline in
    omega (
      arith,
      length-append a (b ++ (c ++ (d ++ f))),
      length-append b (c ++ (d ++ f)),
      length-append c (d ++ f),
      length-append d f,
      field-length e.tail.x space,
      field-length e.tail.y space,
      field-length e.head.x space,
      field-length e.head.y space,
      field-length e.film newline,
      numeral-length e.tail.x l.tail_x,
      numeral-length e.tail.y l.tail_y,
      numeral-length e.head.x l.head_x,
      numeral-length e.head.y l.head_y,
      film-length e.film h,
    )

written-length : (es : List Edge) → AllShort es → AllFilms es → length (written es) ≤ 40 * length es
unfolding written
written-length [] l h = omega arith
written-length (e ∷ es) l h =
    omega (
      arith,
      length-append (written_line e) (written es),
      line-length e (l e 0 (omega arith)) (h e 0 (omega arith)),
      written-length es (λ d n g. l d (suc n) (omega arith)) (λ d n g. h d (suc n) (omega arith)),
    )

pub written-fits : (es : List Edge) → AllShort es → AllFilms es → length es ≤ 512 → length (written es) ≤ 20480
written-fits es l h few = omega (arith, written-length es l h)
