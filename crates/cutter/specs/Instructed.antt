-- The k-th instruction of a machine for outlines, or why not (02, M-102): each refusal's number and place, the order of trying, what is promised.
use Rattle.std.specs.Prelude.{ℕ, zero, suc, ◌≡◌, Bool, true, false, not, ◌&&◌, List, [], ◌∷◌, map, eqb, ltb, ℤ, length, get_or, Ok, Err, Result, ⊤}
use Rattle.laws.specs.Counting.{first}
use Rattle.sheet.specs.declared.Refusal.{Refusal}
use Rattle.sheet.specs.declared.TurnRefusal.{TurnRefusal}
use Rattle.sheet.specs.declared.TurnRefusal.TheVariants.{TurnLengths}
use Rattle.sheet.specs.declared.Point.{Point}
use Rattle.sheet.specs.Points.{in_range}
use Rattle.sheet.specs.Edges.{edges_in}
use Rattle.sheet.specs.Answers.{number_of, place_of}
use Rattle.sheet.specs.TurnList.{turn_number_of, turn_place_of, number_lists, turned, TurnList}
use Rattle.checks.specs.Stages.{and_then, list_checked, edges_alone_checked}
use Rattle.cutter.specs.declared.machines.Machine.{Machine}
use Rattle.cutter.specs.declared.blade.Instruction.{Instruction}
use Rattle.cutter.specs.declared.CutRefusal.{CutRefusal}
use Rattle.cutter.specs.declared.CutRefusal.TheVariants.{Edges, Numbers, TurnsDiffer, HeadNotTail, PastLast}
use Rattle.cutter.specs.Places.{place_for, point_at, ExactPlace}
use Rattle.cutter.specs.Programme.{programme, strokes_read, Cuttable}
use Rattle.cutter.specs.Outlines.{outlines_of, stroke_of, head_not_tail}

abbrev pub cut_number_of : CutRefusal → ℕ
cut_number_of (Edges r) = number_of r
cut_number_of (Numbers r) = turn_number_of r
cut_number_of (TurnsDiffer i) = 24
cut_number_of (HeadNotTail e) = 25
cut_number_of PastLast = 18

abbrev pub cut_place_of : CutRefusal → ℕ
cut_place_of (Edges r) = place_of r
cut_place_of (Numbers r) = turn_place_of r
cut_place_of (TurnsDiffer i) = i
cut_place_of (HeadNotTail e) = e
cut_place_of PastLast = 0

-- what is answered for k: an instruction, or why not
abbrev pub Step : Type 0
Step = Result Instruction CutRefusal

-- 18: the list ends before k
unfoldable pub kth : List Instruction → ℕ → Step
kth [] k = Err PastLast
kth (i ∷ is) zero = Ok i
kth (i ∷ is) (suc k) = kth is k

-- 11, here: a list that is not as long as the edges
unfoldable pub not_as_long : ℕ → List ℕ → List ℕ → List ℕ → Bool
not_as_long n polygons sequences turns = not (eqb (length polygons) n && (eqb (length sequences) n && eqb (length turns) n))

-- 24: at a position another edge than the right one
unfoldable pub turn_differs : List ℕ → List ℕ → ℕ → Bool
turn_differs turns right i = not (eqb (get_or turns i 0) (get_or right i 0))

abbrev pub after_edges : Result ⊤ Refusal → Step → Step
after_edges (Err r) rest = Err (Edges r)
after_edges (Ok _) rest = rest

abbrev pub after_numbers : Result ℕ TurnRefusal → Step → Step
after_numbers (Err r) rest = Err (Numbers r)
after_numbers (Ok n) rest = rest

abbrev pub refuse_step : Bool → CutRefusal → Step → Step
refuse_step true r rest = Err r
refuse_step false r rest = rest

abbrev pub refuse_first_step : (ℕ → Bool) → ℕ → (ℕ → CutRefusal) → Step → Step
refuse_first_step test n refusal rest = refuse_step (ltb (first test n) n) (refusal (first test n)) rest

-- 11 to 14, then 24, of lists for n edges
unfoldable pub turned_step : ℕ → List ℕ → List ℕ → List ℕ → List ℕ → Step → Step
turned_step n polygons sequences turns right rest =
    refuse_step (not_as_long n polygons sequences turns) (Numbers TurnLengths)
    (after_numbers (turned polygons sequences (length turns))
    (refuse_first_step (turn_differs turns right) (length turns) TurnsDiffer
    rest))

-- 25 in turn order, then the k-th instruction or 18
unfoldable pub joined_step : Machine → List ℤ → List ℕ → List ℕ → ℕ → Step
joined_step m list sequences turns k =
    refuse_first_step (head_not_tail list sequences turns) (length turns) (λ i. HeadNotTail (get_or turns i 0))
    (kth (programme (place_for m) (outlines_of list sequences turns)) k)

-- the order of trying: 1 and 2; the first edge with 5, 16 or 6; 11 to 14; 24; 25; 18
unfoldable pub instructed : Machine → List ℤ → List ℕ → List ℕ → List ℕ → List ℕ → ℕ → Step
instructed m list polygons sequences turns right k =
    after_edges (and_then (list_checked list) (edges_alone_checked list))
    (turned_step (edges_in list) polygons sequences turns right
    (joined_step m list sequences turns k))

-- what is promised of the call
pub record Instructs (m : Machine) (list : List ℤ) (polygons sequences turns : List ℕ) (k : ℕ) (r : Step) : Type 0 where
  -- the turn list that the numbers give, where they give one; there is only one (crates/turns, proofs/OneTurnList.antt)
  pub right : List ℕ
  pub given : (n : ℕ) → turned polygons sequences (length turns) ≡ Ok n → TurnList (number_lists polygons sequences) right
  pub answer : r ≡ instructed m list polygons sequences turns right k
  -- places are exact
  pub exact : (p : Point) → in_range p ≡ true → ExactPlace m p (place_for m p)
  -- and where an instruction is given, what all of them together are good for; read back, they are the edges in turn, each with its tail and its head
  pub cuttable : (i : Instruction) → r ≡ Ok i → Cuttable (place_for m) (point_at m) (outlines_of list sequences turns)
  pub edges_back : (i : Instruction) → r ≡ Ok i → (here : Point) → strokes_read (point_at m) here (programme (place_for m) (outlines_of list sequences turns)) ≡ map (stroke_of list) turns
