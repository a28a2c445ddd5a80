-- What each thing that the steps do to a state is to what the theory sees of it: the searches, a row opened, an edge put into a row, two ends finished, a row
-- freed, an outline closed. Each is the steps' definition read once.
use Rattle.std.specs.Prelude.{Some, None, Err}
use mathlib.Core.Path.{◌≡◌, refl, ap, ◌∙◌}
use mathlib.Core.Bool.{Bool, true, false, ◌&&◌, cond}
use mathlib.Core.List.{List, ◌∷◌}
use mathlib.Core.Logic.{◌⊎◌, inl, inr, ⊎_elim}
use Prim.Native.Nat.{ℕ, suc, ◌+◌, ◌≤◌, ◌<◌}
use native.Mathlib.Omega.{arith}
use lib.IntN.{pos}
use lib.Dec.{ltb}
use borrow.Author.Tests.{lt-ltb, le-leb}
use Rattle.laws.proofs.Deciding.{not-both}
use Rattle.sheet.specs.Edges.{Drawing}
use Rattle.steps.specs.declared.Side.{Side}
use Rattle.steps.specs.Rows.{other_side, on, Row, Record, LevelEdge, Room, closing, lowest_free}
use Rattle.steps.specs.SweepUp as up
use Rattle.steps.specs.SweepUp.{State, has_tip, signed, most_length}
use Rattle.steps.specs.Plain as plain
use Rattle.steps.specs.Plain.{plain_table, plain_journal, new_row, free_row}
use Rattle.steps.specs.Swept.{places_of, plain_room}
use Rattle.steps.proofs.Finding.{found_at, found_none}
use Rattle.steps.proofs.Alone.{plain-alone, can-open}
use Rattle.laws.proofs.Lowest.{lowest-is}
use Rattle.hartley.proofs.Paths.DownLaw.{Rec, put, close, of_row, name_at}
use Rattle.hartley.proofs.Paths.JournalRead.{recs, recs-written}
use Rattle.hartley.proofs.Invariant.TableTied.{Table}
use Rattle.hartley.proofs.Step.RowOfStepOne.{HasTip}
use Rattle.hartley.proofs.Invariant.Branches.{lengthened, matched}
use Rattle.hartley.proofs.Step.TableSeen.{view, view_in, view-above, view-opened, view-lengthened, view-matched, view-freed, tip-of, tip-to}
use Rattle.steps.specs.declared.Halt.TheVariants.{Overrun}

-- a state at plain tables, and what the theory sees of it
abbrev pub Work : Type 0
Work = State (ℕ → Row ℕ) (ℕ → Record)

abbrev pub table_of : Work → Table
table_of s = view s.rows s.reach

abbrev pub journal_of : Work → List Rec
journal_of s = recs s.journal s.records

module _ (sh : Drawing) (n m : ℕ) where
  abbrev room : Room ℕ (ℕ → Row ℕ) (ℕ → Record)
  room = plain_room sh n m

  -- steps 1 and 4
  pub find_at : (s : Work) (level : ℕ) (side : Side) (p r : ℕ) → up.find room s level side p ≡ Some r → (r < s.reach) × HasTip (table_of s r) side level p
  unfolding up.find plain_table
  find_at s level side p r e =
      let f = found_at (λ r. (s.rows r).used && has_tip (places_of sh) level side p (s.rows r)) s.reach r e in
      (f.0, tip-of sh s.rows s.reach level p side r f.0 f.1)

  pub find_none : (s : Work) (level : ℕ) (side : Side) (p : ℕ) → up.find room s level side p ≡ None → (r : ℕ) → HasTip (table_of s r) side level p → ⊥
  unfolding up.find plain_table
  find_none s level side p e r t =
      let h = tip-to sh s.rows s.reach level p side r t in
      let f = found_none (λ r. (s.rows r).used && has_tip (places_of sh) level side p (s.rows r)) s.reach e r h.0 in
      not-both h.1 f

  -- the lowest free row, and it opened
  module _ (s : Work) (level p : ℕ) where
    abbrev r : ℕ
    r = up.chosen room s

    abbrev s₁ : Work
    s₁ = up.open_row room s r level p

    pub record Opened : Type 0 where
      pub free : (table_of s r).used ≡ false
      pub below : r < s₁.reach
      pub table : table_of s₁ ≡ plain.put (table_of s) r (new_row level p)
      -- the reach is raised by one where all rows within it are in use, and only there
      pub reach : ((r < s.reach) × (s₁.reach ≡ s.reach)) ⊎ ((r ≡ s.reach) × (s₁.reach ≡ suc s.reach) × ((x : ℕ) → x < s.reach → (s.rows x).used ≡ true))

    pub open_is : Opened
    unfolding up.open_row up.chosen lowest_free plain_table
    open_is = ⊎_elim
        (λ h. record {
          free = ap (λ (v : Row ℕ). v.used) (view_in s.rows s.reach _ h.0) ∙ h.1;
          below = omega (arith, h.0, h.2);
          table = view-opened s.rows s.reach _ (new_row level p) _ (omega (arith, h.0, h.2)) (λ x d. (λ l. omega (arith, h.2), λ l. omega (arith, h.2)));
          reach = inl (h.0, h.2);
        })
        (λ h. record {
          free = view-above s.rows s.reach _ (omega (arith, h.0));
          below = omega (arith, h.0, h.1);
          table = view-opened s.rows s.reach _ (new_row level p) _ (omega (arith, h.0, h.1)) (λ x d. (λ l. omega (arith, h.1), λ l. omega (arith, h.0, h.1, d)));
          reach = inr h;
        })
        (lowest-is (λ x. (s.rows x).used) s.reach)

    -- one may be opened where a row within the reach is free, and only where one of those lent is
    pub opens : s.reach ≤ n → up.can_open room s ≡ ltb r n
    opens l = can-open room plain-alone s refl (λ i a b. absurd (omega arith))

    pub spare_low : (i : ℕ) → i < s.reach → (s.rows i).used ≡ false → r < s.reach
    unfolding up.chosen lowest_free plain_table
    spare_low i l u = ⊎_elim (λ h. h.0) (λ h. absurd (not-both (h.2 i l) u)) (lowest-is (λ x. (s.rows x).used) s.reach)

    pub open-journal : (s₁.journal ≡ s.journal) × (s₁.records ≡ s.records) × (s₁.end ≡ s.end)
    unfolding up.open_row
    open-journal = (refl, refl, refl)

  -- steps 2 and 3, where there is room
  module _ (s : Work) (level : ℕ) (side : Side) (e : LevelEdge ℕ) (r : ℕ) where
    abbrev pub attached : Work
    attached = up.move room (up.write room s (up.chain_record room level side (up.look room s r) e r)) r side (up.top side e) (up.longer room side (up.look room s r) e)

    pub attach-is : s.records < m → up.longer room side (up.look room s r) e ≤ most_length → up.attach room s level side e r ≡ attached
    unfolding up.attach
    attach-is a b = ap (λ t. cond t attached (up.ended (Err Overrun) s)) (both (lt-ltb _ _ a) (le-leb _ _ b))
      where
        both : {x y : Bool} → x ≡ true → y ≡ true → (x && y) ≡ true
        both p q = rw (p, q)

    pub attached-rest : (attached.reach ≡ s.reach) × (attached.records ≡ s.records + 1) × (attached.end ≡ s.end)
    unfolding up.move up.write
    attached-rest = (refl, refl, refl)

    pub attached-record : attached.journal ≡ plain.put s.journal s.records (up.chain_record room level side (s.rows r) e r)
    unfolding up.move up.write plain_table plain_journal
    attached-record = refl

    pub attached-table : r < s.reach → table_of attached ≡ lengthened side (table_of s) r e
    unfolding up.move up.write plain_table
    attached-table l = view-lengthened s.rows s.reach side r e l

    pub attached-journal : journal_of attached ≡ put (name_at level e.name) r (signed side ((on side (table_of s r).branch).length + on (other_side side) e.length)) ∷ journal_of s
    unfolding up.move up.write plain_table plain_journal view
    attached-journal = recs-written s.journal s.records _

  -- the two ends of a match finished
  module _ (s : Work) (side : Side) (q r : ℕ) where
    abbrev pub joined : Work
    joined = up.finish room (up.finish room s q (other_side side)) r side

    pub joined-rest : (joined.journal ≡ s.journal) × (joined.reach ≡ s.reach) × (joined.records ≡ s.records) × (joined.end ≡ s.end)
    unfolding up.finish
    joined-rest = (refl, refl, refl, refl)

    pub joined-table : r < s.reach → q < s.reach → table_of joined ≡ matched side (table_of s) r q
    unfolding up.finish plain_table
    joined-table lr lq = view-matched s.rows s.reach side r q lr lq

  pub free-table : (s : Work) (r : ℕ) → r < s.reach → table_of (up.free room s r) ≡ plain.put (table_of s) r (free_row (table_of s r))
  unfolding up.free plain_table
  free-table s r l = view-freed s.rows s.reach r l

  pub free-rest : (s : Work) (r : ℕ) → ((up.free room s r).journal ≡ s.journal) × ((up.free room s r).reach ≡ s.reach) × ((up.free room s r).records ≡ s.records) × ((up.free room s r).end ≡ s.end)
  unfolding up.free
  free-rest s r = (refl, refl, refl, refl)

  -- a closing edge
  module _ (s : Work) (level : ℕ) (e : LevelEdge ℕ) where
    abbrev pub closed : Work
    closed = up.write room s (record { level = level; name = e.name; chain = closing; offset = pos e.length.falling })

    pub close-is : s.records < m → up.close room s level e ≡ closed
    unfolding up.close
    close-is a = ap (λ t. cond t closed (up.ended (Err Overrun) s)) (lt-ltb _ _ a)

    pub closed-rest : (table_of closed ≡ table_of s) × (closed.reach ≡ s.reach) × (closed.records ≡ s.records + 1) × (closed.end ≡ s.end)
    unfolding up.write
    closed-rest = (refl, refl, refl, refl)

    pub closed-record : closed.journal ≡ plain.put s.journal s.records (record { level = level; name = e.name; chain = closing; offset = pos e.length.falling })
    unfolding up.write plain_journal
    closed-record = refl

    pub closed-journal : journal_of closed ≡ close (of_row e.name) (pos e.length.falling) ∷ journal_of s
    unfolding up.write plain_journal
    closed-journal = recs-written s.journal s.records _
