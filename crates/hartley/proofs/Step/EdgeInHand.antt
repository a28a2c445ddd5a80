-- One edge in hand at plain tables, followed through the four steps: the row found or opened (`Slotted`), the edge put into it (`guards`: the journal and the lengths
-- have room), and the row met at its top or none (`Met`).
use Rattle.std.specs.Prelude.{Option, Some, None, Ok, Err}
use mathlib.Core.Path.{◌≡◌, refl, ap, sym, ◌∙◌}
use mathlib.Core.Bool.{Bool, true, false}
use mathlib.Core.List.{◌∷◌}
use Prim.Native.Nat.{ℕ, ◌+◌, ◌-◌, ◌*◌, ◌≤◌, ◌<◌}
use native.Mathlib.Omega.{arith}
use Rattle.laws.specs.Counting.{count}
use Rattle.laws.proofs.Deciding.{not-both}
use Rattle.sheet.specs.Corners.{apart}
use Rattle.steps.specs.declared.Side.{Side}
use Rattle.steps.specs.declared.Side.TheVariants.{Rising, Falling}
use Rattle.steps.specs.Rows.{other_side, on, Row, Record, LevelEdge, Room}
use Rattle.steps.specs.SweepUp as up
use Rattle.steps.specs.SweepUp.{bottom, top, signed}
use Rattle.steps.specs.Plain.{plain_table, new_row}
use Rattle.hartley.proofs.Paths.Plan.{Plan, Lawful, height}
use Rattle.hartley.proofs.Paths.DownLaw.{name_at, put}
use Rattle.hartley.proofs.Paths.TableWritten.{put-at, put-off}
use Rattle.hartley.proofs.Paths.JournalRead.{recs, records-recs}
use Rattle.hartley.proofs.Paths.Paths.{Owner, edge, row, Paths, size}
use Rattle.hartley.proofs.Paths.JournalLinked.{Naming}
use Rattle.hartley.proofs.Paths.RecordsCounted.{edge_bit, listed}
use Rattle.hartley.proofs.Seams.LongOutline as weight
use Rattle.hartley.proofs.Invariant.Invariant.{Time}
use Rattle.hartley.proofs.Invariant.TableTied.{Table, State, Tied, B', Y', live-row, row_is, reborn-state, reborn-tied}
use Rattle.hartley.proofs.Invariant.Branches.{lengthened, matched, tie-lengthened, tie-finishing}
use Rattle.hartley.proofs.Invariant.LeftAlone.{WholeBy, Kept, reborn-kept}
use Rattle.hartley.proofs.Bounds.LengthsAndLevels.{size_small, records-small}
use Rattle.hartley.proofs.Bounds.RowsOfALevel.{passes}
use Rattle.hartley.proofs.Step.RowOfStepOne.{Pre, HasTip, Slot, found-slot, pre-opened, opened-slot}
use Rattle.hartley.proofs.Step.StepsOnARow as steps
use Rattle.hartley.proofs.Step.StepsOnARow.{alive₂, not-x₂, one-name₂, unmet, met, tie-slot}
use Rattle.hartley.proofs.Step.TableSeen.{view_in}
use Rattle.hartley.proofs.Step.StepsSeen.{Work, table_of, journal_of, find_at, find_none, Opened, open_is, open-journal, attached, attach-is, attached-rest, attached-table, attached-journal, joined, joined-rest, joined-table}
use Rattle.hartley.proofs.Step.Given.{Held, Setting, laws, plan, room_in}
use Rattle.steps.specs.declared.Halt.TheVariants.{NoFreeRow}

-- the sweep's height is that of p, and h edges are treated or in hand
module _ (A : Setting) {p h : ℕ} (E : Time (plan A) p h) where
  abbrev sh : Plan
  sh = plan A

  abbrev N : Lawful sh
  N = laws A

  abbrev room : Room ℕ (ℕ → Row ℕ) (ℕ → Record)
  room = room_in A

  -- the invariant at plain tables: rows by their births, names, paths, and the owner in hand
  pub record Inv (s : Work) (Y : Table) (B : Naming) (G : Paths) (x : Owner) : Type 0 where
    pub state : State sh p h Y (journal_of s) B G
    pub tied : Tied A.rows (table_of s) Y B G x
    pub held : (k : ℕ) → k < s.records → Held A (s.journal k) (recs s.journal k)
    pub reach_rows : s.reach ≤ A.rows
    pub reach_records : s.reach ≤ s.records
    pub is_done : s.end ≡ Ok tt

  -- where no row is left the rows are few: as many for each level as edges pass, less two
  abbrev pub Crowded : Type 0
  Crowded = (b : ℕ) → ((l : ℕ) → weight.Room sh l → l ≤ b) → (1 ≤ b) × (2 ≤ count (passes sh p) sh.list.edges) × (A.rows ≤ b * (count (passes sh p) sh.list.edges - 2))

  -- step 1 finds no row for an edge of the list itself, and none is free
  pub record FindsNone (s : Work) (e : LevelEdge ℕ) : Type 0 where
    pub unfound : up.find room s 0 (up.side_of room.places e) (bottom (up.side_of room.places e) e) ≡ None
    pub none_free : up.can_open room s ≡ false

  -- a treatment that is done: the invariant again with no row in hand, and so many of the list's edges recorded
  pub record Went (s : Work) (l : ℕ) (Q : Table → Naming → Paths → Type 0) : Type 0 where
    pub births : Table
    pub names : Naming
    pub paths : Paths
    pub inv : Inv s births names paths (edge 0)
    pub listed_is : listed (journal_of s) ≡ l
    pub kept : Q births names paths

  -- an edge passed up finds a row: the one that was freed for it at least
  abbrev pub Spare : ℕ → Work → Type 0
  Spare level s = 0 < level → (i : ℕ) × (i < s.reach) × ((s.rows i).used ≡ false)

  -- a treatment's end: done, or at an edge of the list no row
  pub data Outcome (level : ℕ) (s : Work) (e : LevelEdge ℕ) (s' : Work) (l : ℕ) (Q : Table → Naming → Paths → Type 0) : Type 0 where
    went : Went s' l Q → Outcome level s e s' l Q
    full : level ≡ 0 → s'.end ≡ Err NoFreeRow → FindsNone s e → Crowded → Outcome level s e s' l Q

  -- one edge in hand
  module _ {s : Work} {Y : Table} {B : Naming} {G : Paths} {level : ℕ} {e : LevelEdge ℕ} {x : Owner} (I : Inv s Y B G x) (P : Pre sh p h Y B G level e x) (K : WholeBy level Y G)
      (counted : edge_bit (name_at level e.name) + listed (journal_of s) ≤ A.sheet.edges) (side : Side) (goes : height sh (bottom side e) < height sh (top side e)) where
    -- the row of step 1, r by name and c by birth, in the state s₁
    pub record Slotted (s₁ : Work) (r c : ℕ) (Y₁ : Table) (B₁ : Naming) : Type 0 where
      pub state₁ : State sh p h Y₁ (journal_of s) B₁ G
      pub tied₁ : Tied A.rows (table_of s) Y₁ B₁ G x
      pub pre₁ : Pre sh p h Y₁ B₁ G level e x
      pub whole₁ : WholeBy level Y₁ G
      pub slot : Slot sh Y₁ B₁ G side level x c
      pub name_is : B₁.name c ≡ r
      pub below : r < s₁.reach
      pub at_r : table_of s₁ r ≡ Y₁ c
      pub used_r : (table_of s₁ r).used ≡ true
      pub others : (q : ℕ) → (q ≡ r → ⊥) → table_of s₁ q ≡ table_of s q
      pub inside : s₁.reach ≤ A.rows
      pub not_high : s₁.reach ≤ s₁.records + 1
      pub journal_same : s₁.journal ≡ s.journal
      pub records_same : s₁.records ≡ s.records
      pub is_done₁ : s₁.end ≡ Ok tt
      pub born : B.born ≤ B₁.born
      pub old : (b : ℕ) → b < B.born → size G (row b) ≡ 0 → b ≡ c → ⊥
      pub kept₁ : {Y₄ : Table} {B₄ : Naming} {G₄ : Paths} → Kept level x B.born Y₁ Y₄ B₁ B₄ G G₄ → Kept level x B.born Y Y₄ B B₄ G G₄

    pub found-row : (r : ℕ) → up.find room s level side (bottom side e) ≡ Some r → (c : ℕ) × Slotted s r c Y B
    found-row r q = (
      c,
      record {
        state₁ = I.state;
        tied₁ = I.tied;
        pre₁ = P;
        whole₁ = K;
        slot = found-slot I.state P side c o.1 (rw (row_is I.state.one_name I.tied r f.1.used) at f.1);
        name_is = o.3;
        below = f.0;
        at_r = row_is I.state.one_name I.tied r f.1.used;
        used_r = f.1.used;
        others = λ q d. refl;
        inside = I.reach_rows;
        not_high = omega (arith, I.reach_records);
        journal_same = refl;
        records_same = refl;
        is_done₁ = I.is_done;
        born = omega arith;
        old = λ b l z d. omega (arith, z, o.1, ap (λ i. size G (row i)) d);
        kept₁ = λ k. k;
      },
    )
      where
        f : (r < s.reach) × HasTip (table_of s r) side level (bottom side e)
        f = find_at A.sheet A.rows A.records s level side (bottom side e) r q

        o : (b : ℕ) × (0 < size G (row b)) × (row b ≡ x → ⊥) × (B.name b ≡ r)
        o = I.tied.to_live r f.1.used

        c : ℕ
        c = o.0

    abbrev r₁ : ℕ
    r₁ = up.chosen room s

    abbrev s₁ : Work
    s₁ = up.open_row room s r₁ level (bottom side e)

    abbrev new : Row ℕ
    new = new_row level (bottom side e)

    pub opened-row : up.find room s level side (bottom side e) ≡ None → r₁ < A.rows → Slotted s₁ r₁ B.born (Y' I.state r₁ new) (B' I.state r₁ new)
    opened-row nothing l = record {
      state₁ = reborn-state I.state r₁ new;
      tied₁ = reborn-tied I.state r₁ new I.tied;
      pre₁ = pre-opened I.state P side N E I.tied goes none r₁ O.free;
      whole₁ = λ b k w. let q = live-row I.state r₁ new b k in rw q (K b k (rw q at w));
      slot = opened-slot I.state P side N E I.tied goes none r₁ O.free;
      name_is = put-at B.name B.born B.born r₁ refl;
      below = O.below;
      at_r = at_new ∙ sym (put-at Y B.born B.born new refl);
      used_r = ap (λ (v : Row ℕ). v.used) at_new;
      others = λ q d. ap (λ T. T q) O.table ∙ put-off (table_of s) r₁ q new d;
      inside = reach-fits.0;
      not_high = reach-fits.1;
      journal_same = J.0;
      records_same = J.1;
      is_done₁ = J.2 ∙ I.is_done;
      born = omega arith;
      old = λ b k z d. omega arith;
      kept₁ = reborn-kept I.state r₁ new;
    }
      where
        O : Opened A.sheet A.rows A.records s level (bottom side e)
        O = open_is A.sheet A.rows A.records s level (bottom side e)

        J : (s₁.journal ≡ s.journal) × (s₁.records ≡ s.records) × (s₁.end ≡ s.end)
        J = open-journal A.sheet A.rows A.records s level (bottom side e)

        none : (q : ℕ) → HasTip (table_of s q) side level (bottom side e) → ⊥
        none q t = find_none A.sheet A.rows A.records s level side (bottom side e) nothing q t

        at_new : table_of s₁ r₁ ≡ new
        at_new = ap (λ T. T r₁) O.table ∙ put-at (table_of s) r₁ r₁ new refl

        reach-fits : (s₁.reach ≤ A.rows) × (s₁.reach ≤ s₁.records + 1)
        reach-fits = mathlib.Core.Logic.⊎_elim (λ k. (omega (arith, k.1, I.reach_rows), omega (arith, k.1, J.1, I.reach_records))) (λ k. (omega (arith, k.0, k.1, l), omega (arith, k.1, J.1, I.reach_records))) O.reach

    -- the edge put into the row of step 1
    module _ {s₂ : Work} {r c : ℕ} {Y₁ : Table} {B₁ : Naming} (L : Slotted s₂ r c Y₁ B₁) where
      pub slot-journal : journal_of s₂ ≡ journal_of s
      slot-journal = rw (L.journal_same, L.records_same)

      abbrev pub a : Work
      a = attached A.sheet A.rows A.records s₂ level side e r

      abbrev pub H : Paths
      H = steps.H N E L.state₁ L.pre₁ side goes c L.slot

      abbrev pub Y₂ : Table
      Y₂ = lengthened side Y₁ c e

      pub a-rest : (a.reach ≡ s₂.reach) × (a.records ≡ s₂.records + 1) × (a.end ≡ s₂.end)
      a-rest = attached-rest A.sheet A.rows A.records s₂ level side e r

      a-journal : journal_of a ≡ put (name_at level e.name) (B₁.name c) (signed side ((on side (Y₁ c).branch).length + on (other_side side) e.length)) ∷ journal_of s
      a-journal = attached-journal A.sheet A.rows A.records s₂ level side e r ∙ rw (L.at_r, L.name_is, slot-journal) refl

      pub a-listed : listed (journal_of a) ≡ edge_bit (name_at level e.name) + listed (journal_of s)
      unfolding listed
      a-listed = ap listed a-journal

      names₂ : (b d : ℕ) → 0 < size H (row b) → 0 < size H (row d) → B₁.name b ≡ B₁.name d → b ≡ d
      names₂ = one-name₂ N E L.state₁ L.pre₁ side goes c L.slot

      alive-c : 0 < size H (row c)
      alive-c = alive₂ N E L.state₁ L.pre₁ side goes c L.slot

      gone-x : (y : Owner) → 0 < size H y → y ≡ x → ⊥
      gone-x = not-x₂ N E L.state₁ L.pre₁ side goes c L.slot

      pub a-tied : Tied A.rows (table_of a) Y₂ B₁ H x
      a-tied = rw (attached-table A.sheet A.rows A.records s₂ level side e r L.below)
          (tie-lengthened names₂ (tie-slot N E L.state₁ L.pre₁ side goes c L.slot L.tied₁ r L.name_is (omega (arith, L.below, L.inside)) L.at_r L.used_r L.others) c alive-c (gone-x (row c) alive-c) r L.name_is side e)

      -- step 4: no row met, or one whose tip is there, q by name and d by birth
      pub record MetRow (q d : ℕ) : Type 0 where
        pub within : q < a.reach
        pub alive : 0 < size H (row d)
        pub name_met : B₁.name d ≡ q
        pub tip_met : HasTip (Y₂ d) (other_side side) level (top side e)
        pub together : apart sh.list (top side e) ≡ false

      pub data Met : Option ℕ → Type 0 where
        none : State sh p h Y₂ (journal_of a) B₁ H → Met None
        some : {q d : ℕ} → MetRow q d → Met (Some q)

      met-none : ((q : ℕ) → apart sh.list (top side e) ≡ false → HasTip (table_of a q) (other_side side) level (top side e) → ⊥) → Met None
      met-none clear = none (rw a-journal (unmet N E L.state₁ L.pre₁ side goes c L.slot (λ b l o t.
          let w = a-tied.of_live b l (gone-x (row b) l) in
          clear (B₁.name b) o (rw w.1 (record { used = sym (ap (λ (v : Row ℕ). v.used) w.1) ∙ w.0; level_is = t.0; unfinished = t.1; tip_is = t.2 })))))

      met_some : (q : ℕ) → (q < a.reach) × HasTip (table_of a q) (other_side side) level (top side e) → apart sh.list (top side e) ≡ false → Met (Some q)
      met_some q f o =
          let w = a-tied.to_live q f.1.used in
          some (record { within = f.0; alive = w.1; name_met = w.3; tip_met = rw (row_is names₂ a-tied q f.1.used) at f.1; together = o })

      pub meets : (f : Option ℕ) → up.meeting room a level side e ≡ f → Met f
      unfolding up.meeting up.pick_meeting
      meets f q = by e.apart (sym (P.parts side goes)) f q
        where
          by : (o : Bool) → apart sh.list (top side e) ≡ o → (f : Option ℕ) → up.pick_meeting o (up.find room a level (other_side side) (top side e)) ≡ f → Met f
          by true o None q = met-none (λ i c t. not-both o c)
          by true o (Some i) q = let z : ◌≡◌ {A = ℕ} 0 1 = cc in absurd (omega arith)
          by false o None q = met-none (λ i c t. find_none A.sheet A.rows A.records a level (other_side side) (top side e) q i t)
          by false o (Some i) q = met_some i (find_at A.sheet A.rows A.records a level (other_side side) (top side e) i q) o

      -- the two ends of a match finished
      module _ {q d : ℕ} (M : MetRow q d) where
        abbrev pub b : Work
        b = joined A.sheet A.rows A.records a side q r

        abbrev pub Y₃ : Table
        Y₃ = matched side Y₂ c d

        b_rest : (b.journal ≡ a.journal) × (b.reach ≡ a.reach) × (b.records ≡ a.records) × (b.end ≡ a.end)
        b_rest = joined-rest A.sheet A.rows A.records a side q r

        pub b-journal : journal_of b ≡ journal_of a
        b-journal = rw (b_rest.0, b_rest.2)

        pub b-state : State sh p h Y₃ (journal_of b) B₁ H
        b-state = rw (b-journal, a-journal) (met N E L.state₁ L.pre₁ side goes c L.slot d M.alive M.tip_met M.together)

        pub b-tied : Tied A.rows (table_of b) Y₃ B₁ H x
        b-tied = rw (joined-table A.sheet A.rows A.records a side q r (omega (arith, L.below, a-rest.0)) M.within)
            (tie-finishing names₂ (tie-finishing names₂ a-tied d M.alive (gone-x (row d) M.alive) q M.name_met (other_side side)) c alive-c (gone-x (row c) alive-c) r L.name_is side)

      by_size : (t : Side) (y : Owner) → G.length t y ≤ size G y
      by_size Rising y = unfold size in omega arith
      by_size Falling y = unfold size in omega arith

      row-short : (on side (s₂.rows r).branch).length ≤ A.sheet.edges
      row-short = omega (arith, ap (λ (v : Row ℕ). (on side v.branch).length) (sym (view_in s₂.rows s₂.reach r L.below) ∙ L.at_r), L.slot.length side, by_size side (row c), size_small I.state.frame.chain (row c))

      child-short : e.length.falling + e.length.rising ≤ A.sheet.edges
      unfolding size
      child-short = omega (arith, P.length_is Falling, P.length_is Rising, size_small I.state.frame.chain x)

      guarded : s₂.records < A.records → up.attach room s₂ level side e r ≡ a
      unfolding plain_table
      guarded l = attach-is A.sheet A.rows A.records s₂ level side e r l (omega (arith, child-short, row-short, A.few))

      -- what the state after the step says of the journal
      journal-room : {Y₄ : Table} {B₄ : Naming} {X : Paths} → State sh p h Y₄ (journal_of a) B₄ X → s₂.records < A.records
      journal-room I₂ = omega (arith, records-small I₂ A.sheet.edges (omega (arith, a-listed, counted)), records-recs a.journal a.records, a-rest.1, A.journal_long)

      pub guards : {f : Option ℕ} → Met f → up.attach room s₂ level side e r ≡ a
      guards (none I₂) = guarded (journal-room I₂)
      guards (some M) = guarded (journal-room (rw (b-journal M) at (b-state M)))
