-- `checked` by stages, each with a function that can be called alone: the lengths, the edges one by one, the places. That the three in a row are
-- `checked` is shown in proofs/Answering.antt.
use Rattle.std.specs.Prelude.{Bool, not, ◌||◌, List, ℕ, ◌%◌, eqb, ltb, ℤ, length, Result, ⊤, Ok, Err}
use Rattle.sheet.specs.declared.Refusal.TheVariants.{NotWhole, TooMany, ListsDiffer, JournalShort, Repeated, Uneven, NotAlternating}
use Rattle.sheet.specs.Edges.{edges_in, drawing_of}
use Rattle.sheet.specs.Answers.{Call, lists_differ, journal_short, past_range, film_past_range, equal_ends, edge_fault, fault_of, repeats, uneven, not_alternating, refuse_if, refuse_first}
use Rattle.sheet.specs.Amounts.{numbers_per_edge, most_edges}
use Rattle.sheet.specs.declared.Refusal.{Refusal}
use Rattle.checks.specs.declared.lengths.Lengths.{Lengths}

-- a call, by its edge list and the other lists' lengths
abbrev pub call : List ℤ → Lengths → Call
call s l = record { list = s; polygons = l.polygons; sequences = l.sequences; turns = l.turns; journal = l.journal }

-- what a stage answers, and where it passes what the next one does
abbrev pub and_then : Result ⊤ Refusal → Result ⊤ Refusal → Result ⊤ Refusal
and_then (Ok _) next = next
and_then (Err r) next = Err r

-- 1 and 2, which ask about the list alone
unfoldable pub list_checked : List ℤ → Result ⊤ Refusal
list_checked s = refuse_if (not (eqb (length s % numbers_per_edge) 0)) NotWhole (refuse_if (ltb most_edges (edges_in s)) TooMany (Ok tt))

-- 1 to 4
unfoldable pub lengths_checked : Call → Result ⊤ Refusal
lengths_checked c = and_then (list_checked c.list) (refuse_if (lists_differ c) ListsDiffer (refuse_if (journal_short c) JournalShort (Ok tt)))

-- what an edge has by itself: 5, 16 or 6
abbrev pub edge_fault_alone : List ℤ → ℕ → Bool
edge_fault_alone s e = past_range s e || (film_past_range s e || equal_ends s e)

-- 5, 16, 6 and 7
unfoldable pub edges_checked : List ℤ → Result ⊤ Refusal
edges_checked s = refuse_first (edge_fault s) (edges_in s) (fault_of s) (Ok tt)

-- 5, 16 and 6, for calls that don't ask for an order of the edges
unfoldable pub edges_alone_checked : List ℤ → Result ⊤ Refusal
edges_alone_checked s = refuse_first (edge_fault_alone s) (edges_in s) (fault_of s) (Ok tt)

-- 8 over the whole list, then 9, then 17
unfoldable pub places_checked : List ℤ → Result ⊤ Refusal
places_checked s = refuse_first (repeats (drawing_of s)) (edges_in s) Repeated (refuse_first (uneven (drawing_of s)) (edges_in s) Uneven (refuse_first (not_alternating (drawing_of s)) (edges_in s) NotAlternating (Ok tt)))
