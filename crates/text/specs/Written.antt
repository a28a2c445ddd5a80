-- How numbers, edges and lists of edges are written. What the program prints goes by `decimal`; the rest is for the theorem that what is written so is read.
use Rattle.std.specs.Prelude.{ℕ, zero, suc, ◌+◌, ◌/◌, ◌%◌, ◌<◌, ◌≡◌, true, cond, List, [], ◌∷◌, ◌++◌, ltb, ℤ, pos, negsuc, nat_abs, get_or, length}
use Rattle.sheet.specs.declared.Edge.{Edge}
use Rattle.sheet.specs.Points.{is_film}
use Rattle.text.specs.Lines.{space, newline}

-- the decimal digits of a number, up to so many
unfoldable pub decimal : ℕ → ℕ → List ℕ
decimal zero n = []
decimal (suc most) n = cond (ltb n 10) ((48 + n) ∷ []) (decimal most (n / 10) ++ ((48 + n % 10) ∷ []))

unfoldable pub numeral : ℤ → List ℕ
numeral (pos n) = decimal 7 n
numeral (negsuc n) = 45 ∷ decimal 7 (suc n)

-- a number and the byte after it
unfoldable pub with_byte : ℤ → ℕ → List ℕ
with_byte z b = numeral z ++ (b ∷ [])

unfoldable pub written_line : Edge → List ℕ
written_line e =
    with_byte e.tail.x space ++ (with_byte e.tail.y space ++ (with_byte e.head.x space ++ (with_byte e.head.y space ++ with_byte e.film newline)))

unfoldable pub written : List Edge → List ℕ
written [] = []
written (e ∷ es) = written_line e ++ written es

-- numbers of up to seven digits
abbrev pub Short : ℤ → Type 0
Short z = nat_abs z < 10000000

pub record ShortEdge (e : Edge) : Type 0 where
  pub tail_x : Short e.tail.x
  pub tail_y : Short e.tail.y
  pub head_x : Short e.head.x
  pub head_y : Short e.head.y
  pub film : Short e.film

abbrev pub AllShort : List Edge → Type 0
AllShort es = (d : Edge) (n : ℕ) → n < length es → ShortEdge (get_or es n d)

-- films in their range
abbrev pub AllFilms : List Edge → Type 0
AllFilms es = (d : Edge) (n : ℕ) → n < length es → is_film (get_or es n d).film ≡ true
