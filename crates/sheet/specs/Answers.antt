-- The answer sheet of the numbering (01, "The answer sheet", and 16 and 17 of 02): each refusal's number and place, when it is given, what it leaves, the order of trying.
use Rattle.std.specs.Prelude.{ℕ, zero, suc, ◌-◌, ◌*◌, ◌%◌, Bool, true, false, cond, not, ◌&&◌, ◌||◌, List, ◌++◌, eqb, ltb, ℤ, pos, length, replicate, Result, Ok, Err, ⊤}
use Rattle.laws.specs.Counting.{some_below, first}
use Rattle.sheet.specs.declared.Refusal.{Refusal}
use Rattle.sheet.specs.declared.Refusal.TheVariants.{
  NotWhole,
  TooMany,
  ListsDiffer,
  JournalShort,
  PastRange,
  FilmPastRange,
  EqualEnds,
  TopFalls,
  Repeated,
  Uneven,
  NotAlternating,
  NoRow,
}
use Rattle.sheet.specs.declared.Numbered.{Numbered}
use Rattle.sheet.specs.Points.{in_range, is_film, is_same, is_below, top_of}
use Rattle.sheet.specs.Edges.{Drawing, edge_at, edges_in, drawing_of}
use Rattle.sheet.specs.Kinds.{Way, arriving, leaving, same_from, end_of, comes, number_at}
use Rattle.sheet.specs.Corners.{four, corner_at, alternate}
use Rattle.sheet.specs.Amounts.{numbers_per_edge, journal_numbers_per_edge, most_edges}

-- What the checks see of a call: the edge list, and how many numbers long the two number lists, the turn list and the journal are.
pub record Call : Type 0 where
  pub list : List ℤ
  pub polygons : ℕ
  pub sequences : ℕ
  pub turns : ℕ
  pub journal : ℕ

-- column 1 of the table
abbrev pub number_of : Refusal → ℕ
number_of NotWhole = 1
number_of TooMany = 2
number_of ListsDiffer = 3
number_of JournalShort = 4
number_of (PastRange e) = 5
number_of (FilmPastRange e) = 16
number_of (EqualEnds e) = 6
number_of (TopFalls e) = 7
number_of (Repeated e) = 8
number_of (Uneven e) = 9
number_of (NotAlternating e) = 17
number_of (NoRow e) = 10

-- column 3
abbrev pub place_of : Refusal → ℕ
place_of NotWhole = 0
place_of TooMany = 0
place_of ListsDiffer = 0
place_of JournalShort = 0
place_of (PastRange e) = e
place_of (FilmPastRange e) = e
place_of (EqualEnds e) = e
place_of (TopFalls e) = e
place_of (Repeated e) = e
place_of (Uneven e) = e
place_of (NotAlternating e) = e
place_of (NoRow e) = e

-- 1: the list is not made of whole edges
unfoldable pub not_whole : Call → Bool
not_whole c = not (eqb (length c.list % numbers_per_edge) 0)

-- 2: over 4,096 edges
unfoldable pub too_many : Call → Bool
too_many c = ltb most_edges (edges_in c.list)

-- 3: the polygon list, the sequence list or (02 M-101) the turn list has another length than one number an edge
unfoldable pub lists_differ : Call → Bool
lists_differ c = not (eqb c.polygons (edges_in c.list) && (eqb c.sequences (edges_in c.list) && eqb c.turns (edges_in c.list)))

-- 4: the journal has less than 8 numbers an edge
unfoldable pub journal_short : Call → Bool
journal_short c = ltb c.journal (journal_numbers_per_edge * edges_in c.list)

-- 5: an end out of the range
unfoldable pub past_range : List ℤ → ℕ → Bool
past_range s e = not (in_range (edge_at s e).tail && in_range (edge_at s e).head)

-- 16: the film out of its range
unfoldable pub film_past_range : List ℤ → ℕ → Bool
film_past_range s e = not (is_film (edge_at s e).film)

-- 6: both ends are one point
unfoldable pub equal_ends : List ℤ → ℕ → Bool
equal_ends s e = is_same (edge_at s e).tail (edge_at s e).head

-- 7: the top lies below the top of the edge before
unfoldable pub top_falls : List ℤ → ℕ → Bool
top_falls s zero = false
top_falls s (suc e) = is_below (top_of (edge_at s (suc e))) (top_of (edge_at s e))

-- 5, 16, 6 and 7 are tried edge by edge, in that order at an edge
abbrev pub edge_fault : List ℤ → ℕ → Bool
edge_fault s e = past_range s e || (film_past_range s e || (equal_ends s e || top_falls s e))

abbrev pub fault_of : List ℤ → ℕ → Refusal
fault_of s e = cond (past_range s e) (PastRange e) (cond (film_past_range s e) (FilmPastRange e) (cond (equal_ends s e) (EqualEnds e) (TopFalls e)))

-- edges e and f are of one kind at one place
unfoldable pub same_kind : Drawing → Way → ℕ → ℕ → Bool
same_kind sh w e f = eqb (end_of sh w e) (end_of sh w f) && same_from (comes sh w e) (comes sh w f)

-- 8: an earlier edge is of the same kind at the same place
unfoldable pub repeats : Drawing → ℕ → Bool
repeats sh e = some_below (λ f. same_kind sh arriving e f || same_kind sh leaving e f) e

-- 9: a place where the arriving and the leaving edges differ in number, and an edge with an end there
unfoldable pub differ : Drawing → ℕ → Bool
differ sh p = not (eqb (number_at sh arriving p) (number_at sh leaving p))

unfoldable pub uneven : Drawing → ℕ → Bool
uneven sh e = differ sh (sh.tail e) || differ sh (sh.head e)

-- 17: a place with four edges that do not alternate arriving and leaving round it, or two in one direction, and an edge with an end there
unfoldable pub tangled : Drawing → ℕ → Bool
tangled sh p = four sh p && not (alternate (corner_at sh p))

unfoldable pub not_alternating : Drawing → ℕ → Bool
not_alternating sh e = tangled sh (sh.tail e) || tangled sh (sh.head e)

-- the refusal where the test holds, otherwise what is tried next
abbrev pub refuse_if : Bool → Refusal → Result ⊤ Refusal → Result ⊤ Refusal
refuse_if true r rest = Err r
refuse_if false r rest = rest

-- the refusal at the first of n edges where the test holds, otherwise what is tried next
abbrev pub refuse_first : (ℕ → Bool) → ℕ → (ℕ → Refusal) → Result ⊤ Refusal → Result ⊤ Refusal
refuse_first test n refusal rest = refuse_if (ltb (first test n) n) (refusal (first test n)) rest

-- the order under the table: 1 to 4; the first edge with 5, 16, 6 or 7; 8 over the whole list; 9 over the whole list; 17 over the whole list
unfoldable pub checked : Call → Result ⊤ Refusal
checked c =
    refuse_if (not_whole c) NotWhole
    (refuse_if (too_many c) TooMany
    (refuse_if (lists_differ c) ListsDiffer
    (refuse_if (journal_short c) JournalShort
    (refuse_first (edge_fault c.list) (edges_in c.list) (fault_of c.list)
    (refuse_first (repeats (drawing_of c.list)) (edges_in c.list) Repeated
    (refuse_first (uneven (drawing_of c.list)) (edges_in c.list) Uneven
    (refuse_first (not_alternating (drawing_of c.list)) (edges_in c.list) NotAlternating
    (Ok tt))))))))

-- the checks come first; where they are passed the steps answer, which may still refuse with 10
abbrev pub answered : Result ⊤ Refusal → Result Numbered Refusal → Result Numbered Refusal
answered (Err r) steps = Err r
answered (Ok _) steps = steps

-- accepted: the polygons, the peak, the records
abbrev pub accepted : ℕ → ℕ → ℕ → Result Numbered Refusal
accepted polygons peak records = Ok (record { polygons = polygons; peak = peak; records = records })

abbrev pub zeros : List ℤ → List ℤ
zeros l = replicate (length l) (pos 0)

-- column 4, for the journal and for the rows: zeros after 10, what stood there before after any other
abbrev pub after_refusal : Refusal → List ℤ → List ℤ
after_refusal r l = cond (eqb (number_of r) 10) (zeros l) l

-- accepted: the numbers of the records, then zeros to the journal's end
abbrev pub followed_by_zeros : List ℤ → ℕ → List ℤ
followed_by_zeros records n = records ++ replicate (n - length records) (pos 0)
