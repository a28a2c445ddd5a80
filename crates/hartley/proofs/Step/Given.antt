-- What is given: a checked list of at most 4,096 edges, and rows and records lent, as many records as the list may need. And what a record tells of when it was
-- written (`Held`), which later records leave.
use mathlib.Core.Path.{◌≡◌, ap, sym, ◌∙◌, subst₂}
use mathlib.Core.List.{List}
use mathlib.Core.Logic.{⊎_elim}
use Prim.Native.Nat.{ℕ, zero, suc, ◌+◌, ◌*◌, ◌≤◌, ◌<◌}
use native.Mathlib.Omega.{arith}
use Rattle.laws.proofs.Deciding.{lt-or-le}
use Rattle.sheet.specs.Edges.{Drawing}
use Rattle.sheet.proofs.Checked.{Checked}
use Rattle.steps.specs.Rows as steps
use Rattle.steps.specs.Rows.{Row, Chain, in_row, Record, Room}
use Rattle.steps.specs.Plain as plain
use Rattle.steps.specs.Swept.{plain_room}
use Rattle.hartley.proofs.Paths.Plan.{Plan, Lawful, plan_of, lawful}
use Rattle.hartley.proofs.Paths.Differences.{diff}
use Rattle.hartley.proofs.Paths.DownLaw.{Name, of_edge, of_row, name_at, Rec, at, place}
use Rattle.hartley.proofs.Paths.TableWritten.{put-at, put-off}
use Rattle.hartley.proofs.Paths.JournalRead.{recs, recs-older}
use Rattle.sheet.specs.Amounts.{most_edges}

-- a checked list, and the room lent
pub record Setting : Type 0 where
  pub sheet : Drawing
  pub checked : Checked sheet
  pub few : sheet.edges ≤ most_edges
  pub rows : ℕ
  pub records : ℕ
  pub journal_long : 2 * sheet.edges ≤ records

abbrev pub plan : Setting → Plan
plan A = plan_of A.checked

abbrev pub laws : (A : Setting) → Lawful (plan A)
laws A = lawful A.checked

abbrev pub room_in : Setting → Room ℕ (ℕ → Row ℕ) (ℕ → Record)
room_in A = plain_room A.sheet A.rows A.records

-- which edge a record puts or closes, and that its names are those of edges of the list and of rows lent
abbrev pub name_in : Record → Chain → Name
name_in entry (in_row r) = name_at entry.level entry.name
name_in entry steps.closing = of_row entry.name

abbrev pub NameFits : Setting → ℕ → ℕ → Type 0
NameFits A zero a = a < A.sheet.edges
NameFits A (suc l) r = r < A.rows

abbrev pub ChainFits : Setting → Record → Chain → Type 0
ChainFits A entry (in_row r) = (r < A.rows) × NameFits A entry.level entry.name
ChainFits A entry steps.closing = entry.name < A.rows

-- a record was written when the list's edge `first` was the first one of its edge's path, so far before the reference point
pub record Held (A : Setting) (entry : Record) (J : List Rec) : Type 0 where
  pub first : ℕ
  pub real : first < A.sheet.edges
  pub before : ℕ
  pub short : before ≤ A.sheet.edges
  pub there : place J (of_edge first) ≡ at (name_in entry entry.chain) (diff 0 before)
  pub fits : ChainFits A entry entry.chain

pub held_more : (A : Setting) (j : ℕ → Record) (n : ℕ) (entry : Record) → ((k : ℕ) → k < n → Held A (j k) (recs j k)) → Held A entry (recs j n) → (k : ℕ) → k < n + 1 → Held A (plain.put j n entry k) (recs (plain.put j n entry) k)
held_more A j n entry old new k l = ⊎_elim
    (λ m. subst₂ (λ x y. Held A x y) (sym (put-off j n k entry (λ q. omega arith))) (sym (recs-older j n entry k (omega arith))) (old k m))
    (λ m. let q : k ≡ n = omega arith in subst₂ (λ x y. Held A x y) (sym (put-at j n k entry q)) (sym (recs-older j n entry k (omega arith) ∙ ap (recs j) q)) new)
    (lt-or-le k n)
