-- Treating an edge of any level at plain tables keeps the invariant, by induction on the levels left. Levels do not run out, since an edge that does not close has
-- an outline with room for one level more. An edge passed up never lacks a row, since one was freed for it; where an edge of the list does, all rows are in
-- use, and they are few: `Crowded`.
use Rattle.std.specs.Prelude.{Option, Some, None, Result, ⊤, Ok, Err}
use mathlib.Core.Path.{◌≡◌, refl, ap, sym, ◌∙◌, subst, subst₂}
use mathlib.Core.Bool.{Bool, true, false, cond}
use mathlib.Core.List.{List, ◌∷◌}
use mathlib.Core.Logic.{⊎_elim}
use Prim.Native.Nat.{ℕ, zero, suc, ◌+◌, ◌-◌, ◌*◌, ◌≤◌, ◌<◌}
use native.Mathlib.Omega.{arith}
use lib.Dec.{eqb, ltb}
use lib.IntN.{pos}
use borrow.Author.Tests.{eqb-true, eqb-false, ltb-true, ltb-false}
use Rattle.laws.specs.Counting.{count}
use Rattle.laws.proofs.Deciding.{lt-or-le, eq-or-ne, not-both, both_true}
use Rattle.laws.proofs.Counting.{count-all}
use Rattle.steps.specs.declared.Side.{Side}
use Rattle.steps.specs.declared.Side.TheVariants.{Rising, Falling}
use Rattle.steps.specs.Rows as steps
use Rattle.steps.specs.Rows.{other_side, on, Row, Record, LevelEdge, Room}
use Rattle.steps.specs.SweepUp as up
use Rattle.steps.specs.SweepUp.{as_edge, both_finished, bottom, top}
use Rattle.steps.specs.Plain.{plain_table, free_row}
use Rattle.hartley.proofs.Paths.Plan.{Plan, Lawful, height, tip}
use Rattle.hartley.proofs.Paths.Differences.{diff}
use Rattle.hartley.proofs.Paths.DownLaw.{of_edge, of_row, name_at, Rec, close, at, place}
use Rattle.hartley.proofs.Paths.TableWritten.{put-at}
use Rattle.hartley.proofs.Paths.JournalRead.{recs, records-recs}
use Rattle.hartley.proofs.Paths.Paths.{Owner, edge, row, Paths, size, first-real}
use Rattle.hartley.proofs.Paths.JournalLinked.{Naming, name_of, to_place}
use Rattle.hartley.proofs.Paths.RecordsCounted.{edge_bit, listed}
use Rattle.hartley.proofs.Invariant.Invariant.{Time, side-cases, lone-real, single}
use Rattle.hartley.proofs.Invariant.TableTied.{Table, State, Tied, marks_of, not-edge, tie-free, tie_none}
use Rattle.hartley.proofs.Invariant.LeftAlone.{Whole, WholeBy, Kept, Passed, untouched}
use Rattle.hartley.proofs.Bounds.LengthsAndLevels.{size_small, level-small, records-small}
use Rattle.hartley.proofs.Bounds.RowsOfALevel.{passes}
use Rattle.hartley.proofs.Bounds.RowsByLevel.{rows-in-use-le}
use Rattle.hartley.proofs.Step.RowOfStepOne.{Pre, top-other, ends-apart, room-above}
use Rattle.hartley.proofs.Step.OutlineClosed as closing
use Rattle.hartley.proofs.Step.OutlineClosed.{closing, closing-tied, closing-kept}
use Rattle.hartley.proofs.Step.RowPassedUp.{pre-row}
use Rattle.hartley.proofs.Step.StepsOnARow.{alive₂, gone₂}
use Rattle.hartley.proofs.Step.BothPassedUp.{kept₂, level-of, level-of-met, clean-met, second, kept-both}
use Rattle.hartley.proofs.Step.TableSeen.{view_in, view-used, used-view}
use Rattle.hartley.proofs.Step.StepsSeen.{Work, table_of, journal_of, find_none, open_is, opens, spare_low, attached, attached-record, joined, joined-rest, free-table, free-rest, closed, close-is, closed-rest, closed-record, closed-journal}
use Rattle.hartley.proofs.Step.Given.{Held, NameFits, Setting, held_more, laws, plan, room_in}
use Rattle.hartley.proofs.Step.EdgeInHand.{Inv, Crowded, Went, Spare, Outcome, went, full, Slotted, found-row, opened-row, slot-journal, H, Y₂, a-rest, a-listed, a-tied, MetRow, Met, none, some, meets, b-journal, b-state, b-tied, guards}
use Rattle.steps.specs.declared.Halt.{Halt}
use Rattle.steps.specs.declared.Halt.TheVariants.{NoFreeRow, Overrun}

afterwards : (x y z : Work) (d : Result ⊤ Halt) → x.end ≡ d → up.after_done x.end y z ≡ up.after_done d y z
afterwards x y z d e = ap (λ t. up.after_done t y z) e

-- the sweep's height is that of p, and h edges are treated or in hand
module _ (A : Setting) {p h : ℕ} (E : Time (plan A) p h) where
  abbrev sh : Plan
  sh = plan A

  abbrev N : Lawful sh
  N = laws A

  abbrev room : Room ℕ (ℕ → Row ℕ) (ℕ → Record)
  room = room_in A

  -- how an edge of a level is treated
  abbrev pub Treats : ℕ → (Work → LevelEdge ℕ → Work) → Type 0
  Treats level next = (s : Work) (e : LevelEdge ℕ) (Y : Table) (B : Naming) (G : Paths) (x : Owner) → Inv A E s Y B G x → Pre sh p h Y B G level e x → WholeBy level Y G → Spare A E level s → edge_bit (name_at level e.name) + listed (journal_of s) ≤ A.sheet.edges
      → Outcome A E level s e (next s e) (edge_bit (name_at level e.name) + listed (journal_of s)) (λ Y' B' G'. Kept level x B.born Y Y' B B' G G')

  -- a row freed and passed up, if it is whole
  module _ (level : ℕ) (next : Work → LevelEdge ℕ → Work) (ih : Treats (suc level) next) where
    module _ {s : Work} {q c : ℕ} {Y : Table} {B : Naming} {X : Paths} (I : Inv A E s Y B X (edge 0)) (l : 0 < size X (row c)) (nm : B.name c ≡ q) (of-level : (Y c).level ≡ level) (K : WholeBy (suc level) Y X) (few : listed (journal_of s) ≤ A.sheet.edges) where
      abbrev After : Work → Type 0
      After s' = Went A E s' (listed (journal_of s)) (λ Y' B' G'. Passed (suc level) c Y Y' B B' X G')

      here : ((table_of s q).used ≡ true) × (table_of s q ≡ Y c)
      here = let o = I.tied.of_live c l (not-edge c 0) in (ap (λ i. (table_of s i).used) (sym nm) ∙ o.0, ap (table_of s) (sym nm) ∙ o.1)

      in_reach : q < s.reach
      in_reach = (view-used s.rows s.reach q here.0).0

      seen : s.rows q ≡ Y c
      seen = sym (view_in s.rows s.reach q in_reach) ∙ here.1

      abbrev s₁ : Work
      s₁ = up.free room s q

      same : (s₁.journal ≡ s.journal) × (s₁.reach ≡ s.reach) × (s₁.records ≡ s.records) × (s₁.end ≡ s.end)
      same = free-rest A.sheet A.rows A.records s q

      same-journal : journal_of s₁ ≡ journal_of s
      same-journal = rw (same.0, same.2)

      free-inv : Inv A E s₁ Y B X (row c)
      free-inv = record {
        state = rw same-journal I.state;
        tied = rw (free-table A.sheet A.rows A.records s q in_reach) (tie-free I.state.one_name I.tied (λ b k. not-edge b 0) c l q nm);
        held = λ k m. rw same.0 (I.held k (omega (arith, same.2)));
        reach_rows = omega (arith, same.1, I.reach_rows);
        reach_records = omega (arith, same.1, same.2, I.reach_records);
        is_done = same.3 ∙ I.is_done;
      }

      free-spare : Spare A E (suc level) s₁
      unfolding up.free plain_table
      free-spare z = (q, in_reach, ap (λ (v : Row ℕ). v.used) (put-at s.rows q q (free_row (s.rows q)) refl))

      passed : (s' : Work) → Outcome A E (suc level) s₁ (as_edge q (s.rows q)) s' (0 + listed (journal_of s₁)) (λ Y' B' G'. Kept (suc level) (row c) B.born Y Y' B B' X G') → After s'
      passed s' (full z e n cr) = absurd (omega arith)
      passed s' (went w) = record { births = w.births; names = w.names; paths = w.paths; inv = w.inv; listed_is = omega (arith, w.listed_is, ap listed same-journal); kept = record { stays = w.kept.stays; self = λ v. w.kept.gone } }

      pub pass-outcome : After (up.pass_up room next s q)
      unfolding up.pass_up plain_table as_edge
      pass-outcome = by (both_finished (s.rows q)) refl
        where
          by : (b : Bool) → both_finished (s.rows q) ≡ b → After (cond b (next s₁ (as_edge q (s.rows q))) s)
          by false f = record { births = Y; names = B; paths = X; inv = I; listed_is = refl; kept = record { stays = untouched (suc level) X K; self = λ w. absurd (not-both (rw seen (rw (w Rising, w Falling) refl)) f) } }
          by true f =
              let v = both_true (s.rows q).branch.rising.finished _ f in
              let w : Whole (Y c) = rw seen at (side-cases (λ t. (on t (s.rows q).branch).finished ≡ true) Rising v.0 v.1) in
              let P : Pre sh p h Y B X (suc level) (as_edge q (s.rows q)) (row c) = subst₂ (λ n u. Pre sh p h Y B X (suc n) (as_edge q u) (row c)) of-level (sym seen) (pre-row N E Y (journal_of s) B X c q I.state l w nm) in
              passed (next s₁ (as_edge q (s.rows q))) (ih s₁ (as_edge q (s.rows q)) Y B X (row c) free-inv P K free-spare (omega (arith, ap listed same-journal)))

  -- a live owner's name is that of an edge of the list or of a row
  name-fits : {T Y : Table} {J : List Rec} {B : Naming} {G : Paths} (x : Owner) → State sh p h Y J B G → Tied A.rows T Y B G x → (level name : ℕ) → 0 < size G x → name_of B x ≡ name_at level name → NameFits A level name
  name-fits {B = B} (edge a) I K zero name l q = let c : a ≡ name = cc in rw c at (lone-real N E I.frame a l).0
  name-fits {B = B} (edge a) I K (suc level) name l q = let z : ◌≡◌ {A = ℕ} 0 1 = cc in absurd (omega arith)
  name-fits {B = B} (row b) I K zero name l q = let z : ◌≡◌ {A = ℕ} 0 1 = cc in absurd (omega arith)
  name-fits {B = B} (row b) I K (suc level) name l q = let c : B.name b ≡ name = cc in rw c at (K.named b l)

  -- the first edge of a live owner stands so far before its reference point
  first-there : {Y : Table} {J : List Rec} {B : Naming} {G : Paths} → State sh p h Y J B G → (y : Owner) → 0 < size G y → place J (of_edge (G.end Falling y)) ≡ at (name_of B y) (diff 0 (G.length Falling y))
  unfolding to_place
  first-there {B = B} {G = G} I y l = I.linked _ (first-real I.frame.chain y l) ∙ ap (to_place B G) (I.frame.chain.first y l)

  falling-short : {Y : Table} {J : List Rec} {B : Naming} {G : Paths} → State sh p h Y J B G → (y : Owner) → G.length Falling y ≤ A.sheet.edges
  unfolding size
  falling-short I y = omega (arith, size_small I.frame.chain y)

  -- an edge in hand that goes up on a side
  module _ (level : ℕ) (next : Work → LevelEdge ℕ → Work) (ih : Treats (suc level) next) {s : Work} {Y : Table} {B : Naming} {G : Paths} {e : LevelEdge ℕ} {x : Owner} (I : Inv A E s Y B G x) (P : Pre sh p h Y B G level e x) (K : WholeBy level Y G)
      (counted : edge_bit (name_at level e.name) + listed (journal_of s) ≤ A.sheet.edges) (side : Side) (goes : height sh (bottom side e) < height sh (top side e)) where
    abbrev k : ℕ
    k = edge_bit (name_at level e.name) + listed (journal_of s)

    abbrev pub Ended : Work → Type 0
    Ended s' = Went A E s' k (λ Y' B' G'. Kept level x B.born Y Y' B B' G G')

    -- steps 2 to 4 on the row of step 1
    module _ {s₂ : Work} {r c : ℕ} {Y₁ : Table} {B₁ : Naming} (L : Slotted A E I P K counted side goes s₂ r c Y₁ B₁) where
      abbrev a₁ : Work
      a₁ = attached A.sheet A.rows A.records s₂ level side e r

      abbrev X : Paths
      X = H A E I P K counted side goes L

      rest : (a₁.reach ≡ s₂.reach) × (a₁.records ≡ s₂.records + 1) × (a₁.end ≡ s₂.end)
      rest = a-rest A E I P K counted side goes L

      listed₁ : listed (journal_of a₁) ≡ k
      listed₁ = a-listed A E I P K counted side goes L

      held-attached : (k : ℕ) → k < a₁.records → Held A (a₁.journal k) (recs a₁.journal k)
      held-attached = subst (λ j. (k : ℕ) → k < a₁.records → Held A (j k) (recs j k)) (sym (attached-record A.sheet A.rows A.records s₂ level side e r))
          (λ k l. held_more A s₂.journal s₂.records (up.chain_record room level side (s₂.rows r) e r) (λ k m. rw L.journal_same (I.held k (omega (arith, L.records_same)))) new k (omega (arith, rest.1)))
        where
          new : Held A (up.chain_record room level side (s₂.rows r) e r) (recs s₂.journal s₂.records)
          new = rw (slot-journal A E I P K counted side goes L) (record {
            first = G.end Falling x;
            real = first-real I.state.frame.chain x P.live;
            before = G.length Falling x;
            short = falling-short I.state x;
            there = first-there I.state x P.live ∙ ap (λ w. at w (diff 0 (G.length Falling x))) P.named;
            fits = (omega (arith, L.below, L.inside), name-fits x I.state I.tied level e.name P.live P.named);
          })

      gone : (b : ℕ) → 0 < size X (row b) → row b ≡ x → ⊥
      gone b l q = omega (arith, l, ap (size X) q, gone₂ N E L.state₁ L.pre₁ side goes c L.slot)

      -- both rows of a match passed up
      module _ {q d : ℕ} (M : MetRow A E I P K counted side goes L q d) where
        abbrev b₁ : Work
        b₁ = joined A.sheet A.rows A.records a₁ side q r

        J : (b₁.journal ≡ a₁.journal) × (b₁.reach ≡ a₁.reach) × (b₁.records ≡ a₁.records) × (b₁.end ≡ a₁.end)
        J = joined-rest A.sheet A.rows A.records a₁ side q r

        listed_b : listed (journal_of b₁) ≡ k
        listed_b = ap listed (b-journal A E I P K counted side goes L M) ∙ listed₁

        abbrev F : Table
        F = Rattle.hartley.proofs.Invariant.Branches.matched side (Y₂ A E I P K counted side goes L) c d

        Ib : Inv A E b₁ F B₁ X (edge 0)
        Ib = record {
          state = b-state A E I P K counted side goes L M;
          tied = tie_none (b-tied A E I P K counted side goes L M) gone 0;
          held = λ k m. rw J.0 (held-attached k (omega (arith, J.2)));
          reach_rows = omega (arith, L.inside, rest.0, J.1);
          reach_records = omega (arith, L.not_high, rest.0, rest.1, J.1, J.2);
          is_done = J.3 ∙ rest.2 ∙ L.is_done₁;
        }

        abbrev Pass : Work → ℕ → Table → Naming → Paths → Work → Type 0
        Pass u i Y₃ B₃ G₃ v = Went A E v (listed (journal_of u)) (λ Y' B' G'. Passed (suc level) i Y₃ Y' B₃ B' G₃ G')

        first-pass : Pass b₁ d F B₁ X (up.pass_up room next b₁ q)
        first-pass = pass-outcome level next ih Ib M.alive M.name_met (level-of-met N E L.state₁ L.pre₁ L.whole₁ side goes c L.slot B.born L.born L.old d M.alive M.tip_met)
            (clean-met N E L.state₁ L.pre₁ L.whole₁ side goes c L.slot B.born L.born L.old d M.alive M.tip_met) (omega (arith, listed_b, counted))

        both-kept : (Y₃ Y₄ : Table) (B₃ B₄ : Naming) (G₃ G₄ : Paths) → Passed (suc level) d F Y₃ B₁ B₃ X G₃ → Passed (suc level) c Y₃ Y₄ B₃ B₄ G₃ G₄ → Kept level x B.born Y Y₄ B B₄ G G₄
        both-kept Y₃ Y₄ B₃ B₄ G₃ G₄ P₃ P₄ = L.kept₁ (kept-both N E L.state₁ L.pre₁ L.whole₁ side goes c L.slot B.born L.born L.old d M.alive M.tip_met Y₃ Y₄ B₃ B₄ G₃ G₄ P₃ P₄)

        -- one row: it is not whole any more
        once : d ≡ c → (u : Work) → Pass b₁ d F B₁ X u → Ended u
        once f u w = record {
          births = w.births;
          names = w.names;
          paths = w.paths;
          inv = w.inv;
          listed_is = w.listed_is ∙ listed_b;
          kept = both-kept w.births w.births w.names w.names w.paths w.paths w.kept (record { stays = untouched (suc level) w.paths w.kept.stays.whole; self = not_left });
        }
          where
            not_left : Whole (w.births c) → size w.paths (row c) ≡ 0
            not_left v = ⊎_elim
                (λ l. let o = w.kept.stays.back c l (w.kept.stays.whole c l v) in let v' : Whole (F d) = λ t. ap (λ i. (on t (F i).branch).finished) f ∙ sym (ap (λ (u : Row ℕ). (on t u.branch).finished) o.1) ∙ v t in ap (λ i. size w.paths (row i)) (sym f) ∙ w.kept.self v')
                (λ l. omega arith)
                (lt-or-le 0 (size w.paths (row c)))

        -- two: the second is as it was
        twice : (d ≡ c → ⊥) → (u : Work) → Pass b₁ d F B₁ X u → Ended (up.pass_up room next u r)
        twice f u w =
            let g = second N E L.state₁ L.pre₁ L.whole₁ side goes c L.slot B.born L.born L.old d M.alive M.tip_met w.births w.names w.paths w.kept (λ z. f (sym z)) in
            let lv = level-of N E L.state₁ L.pre₁ L.whole₁ side goes c L.slot B.born L.born L.old d M.alive M.tip_met in
            let v = pass-outcome level next ih w.inv g.1 (g.2 ∙ L.name_is) (ap (λ (i : Row ℕ). i.level) g.0 ∙ lv) w.kept.stays.whole (omega (arith, w.listed_is, listed_b, counted)) in
            record {
              births = v.births;
              names = v.names;
              paths = v.paths;
              inv = v.inv;
              listed_is = v.listed_is ∙ w.listed_is ∙ listed_b;
              kept = both-kept w.births v.births w.names v.names w.paths v.paths w.kept v.kept;
            }

        both-outcome : Ended (up.pass_both room next b₁ q r)
        unfolding up.pass_both
        both-outcome = by (eqb q r) refl
          where
            u : Work
            u = up.pass_up room next b₁ q

            same-birth : q ≡ r → d ≡ c
            same-birth z = Ib.state.one_name d c M.alive (alive₂ N E L.state₁ L.pre₁ side goes c L.slot) (M.name_met ∙ z ∙ sym L.name_is)

            other-birth : (q ≡ r → ⊥) → d ≡ c → ⊥
            other-birth z w = z (sym M.name_met ∙ ap B₁.name w ∙ L.name_is)

            by : (t : Bool) → eqb q r ≡ t → Ended (cond t u (up.after_done u.end u (up.pass_up room next u r)))
            by true f = once (same-birth (eqb-true q r f)) u first-pass
            by false f = subst Ended (sym (afterwards u u (up.pass_up room next u r) (Ok tt) first-pass.inv.is_done)) (twice (other-birth (eqb-false q r f)) u first-pass)

      met-outcome : {f : Option ℕ} → Met A E I P K counted side goes L f → Ended (up.meet room next a₁ side r f)
      unfolding up.meet
      met-outcome (none I₂) = record {
        births = Y₂ A E I P K counted side goes L;
        names = B₁;
        paths = X;
        inv = record {
          state = I₂;
          tied = tie_none (a-tied A E I P K counted side goes L) gone 0;
          held = held-attached;
          reach_rows = omega (arith, L.inside, rest.0);
          reach_records = omega (arith, L.not_high, rest.0, rest.1);
          is_done = rest.2 ∙ L.is_done₁;
        };
        listed_is = listed₁;
        kept = L.kept₁ (kept₂ N E L.state₁ L.pre₁ L.whole₁ side goes c L.slot B.born L.born L.old);
      }
      met-outcome (some M) = both-outcome M

      on-row-is : up.attach room s₂ level side e r ≡ a₁ → up.on_row room next s₂ level side e r ≡ up.meet room next a₁ side r (up.meeting room a₁ level side e)
      unfolding up.on_row
      on-row-is q = ap (λ v. up.after_done v.end v (up.meet room next v side r (up.meeting room v level side e))) q ∙ afterwards a₁ a₁ (up.meet room next a₁ side r (up.meeting room a₁ level side e)) (Ok tt) (rest.2 ∙ L.is_done₁)

      pub on-row-outcome : Ended (up.on_row room next s₂ level side e r)
      on-row-outcome =
          let M = meets A E I P K counted side goes L (up.meeting room a₁ level side e) refl in
          subst Ended (sym (on-row-is (guards A E I P K counted side goes L M))) (met-outcome M)

    abbrev r₁ : ℕ
    r₁ = up.chosen room s

    opens_by : up.can_open room s ≡ ltb r₁ A.rows
    opens_by = opens A.sheet A.rows A.records s level (bottom side e) I.reach_rows

    -- an edge of the list that finds no row where none is free: all rows are in use
    module _ (nothing : up.find room s level side (bottom side e) ≡ None) (none_free : A.rows ≤ r₁) (flat : level ≡ 0) where
      all-used : (i : ℕ) → i < A.rows → (table_of s i).used ≡ true
      all-used i l = ⊎_elim
          (λ h. absurd (omega (arith, h.0, none_free, I.reach_rows)))
          (λ h. let m : i < s.reach = omega (arith, l, none_free, h.0) in used-view s.rows s.reach i m (h.2 i m))
          (open_is A.sheet A.rows A.records s level (bottom side e)).reach

      pub crowded : Crowded A E
      unfolding marks_of
      crowded b most = by x refl
        where
          levels-there : 1 ≤ b
          levels-there = omega (arith, flat, most _ (room-above N E I.state P (ends-apart sh side e goes)))

          by : (y : Owner) → x ≡ y → (1 ≤ b) × (2 ≤ count (passes sh p) sh.list.edges) × (A.rows ≤ b * (count (passes sh p) sh.list.edges - 2))
          by (row d) q = absurd (omega (arith, flat, P.level_is, ap (marks_of Y).own_level q))
          by (edge i) q =
              let l : 0 < size G (edge i) = rw q at P.live in
              let w : (t : Side) → G.end t (edge i) ≡ i = single N E I.state.frame i l in
              let g = P.goes side goes in
              let end-side : G.end side x ≡ i = ap (G.end side) q ∙ w side in
              let start : tip sh (other_side side) i ≡ bottom side e = ap (tip sh (other_side side)) (sym (ap (G.end (other_side side)) q ∙ w (other_side side))) ∙ P.end_is (other_side side) ∙ top-other side e in
              let v = rows-in-use-le N E I.state i (rw q at I.tied) side l (rw end-side at g.0)
              (λ c lc lv f t. let o = I.tied.of_live c lc (λ z. not-edge c i (z ∙ q)) in find_none A.sheet A.rows A.records s level side (bottom side e) nothing (B.name c) (rw o.1 (record { used = sym (ap (λ (u : Row ℕ). u.used) o.1) ∙ o.0; level_is = omega (arith, lv, flat); unfinished = f; tip_is = (I.state.told c lc).tip_is side ∙ t ∙ start })))
              (ap (tip sh side) (sym end-side) ∙ g.1) b most in
              (levels-there, v.0, omega (arith, v.1, count-all (λ r. (table_of s r).used) A.rows all-used))

    abbrev Ends : Work → Type 0
    Ends s' = Outcome A E level s e s' k (λ Y' B' G'. Kept level x B.born Y Y' B B' G G')

    -- step 1 and what follows
    module _ (spare : Spare A E level s) (is-side : side ≡ up.side_of room.places e) where
      no_row : up.find room s level side (bottom side e) ≡ None → A.rows ≤ r₁ → up.can_open room s ≡ false → Ends (up.ended (Err NoFreeRow) s)
      no_row q l c = ⊎_elim above (λ z. let f : level ≡ 0 = omega arith in full f refl (record { unfound = rw (f, is-side) at q; none_free = c }) (crowded q l f)) (lt-or-le 0 level)
        where
          above : 0 < level → Ends (up.ended (Err NoFreeRow) s)
          above z = let w = spare z in absurd (omega (arith, l, I.reach_rows, spare_low A.sheet A.rows A.records s level (bottom side e) w.0 w.1 w.2))

      chain-outcome : (f : Option ℕ) → up.find room s level side (bottom side e) ≡ f → Ends (up.in_chain room next s level side e f)
      unfolding up.in_chain
      chain-outcome (Some r) q = let o = found-row A E I P K counted side goes r q in went (on-row-outcome o.1)
      chain-outcome None q = by (up.can_open room s) refl
        where
          by : (t : Bool) → up.can_open room s ≡ t → Ends (cond t (up.on_row room next (up.open_row room s r₁ level (bottom side e)) level side e r₁) (up.ended (Err NoFreeRow) s))
          by true t = went (on-row-outcome (opened-row A E I P K counted side goes q (ltb-true r₁ A.rows (sym opens_by ∙ t))))
          by false t = no_row q (ltb-false r₁ A.rows (sym opens_by ∙ t)) t

      pub steps-outcome : Ends (up.steps_on room next s level side e)
      unfolding up.steps_on
      steps-outcome = chain-outcome (up.find room s level side (bottom side e)) refl

  -- a closing edge
  module _ {s : Work} {l c : ℕ} {e : LevelEdge ℕ} {Y : Table} {B : Naming} {G : Paths} (I : Inv A E s Y B G (row c)) (P : Pre sh p h Y B G (suc l) e (row c)) (K : WholeBy (suc l) Y G) (few : listed (journal_of s) ≤ A.sheet.edges) (ends : e.tail ≡ e.head) where
    abbrev z : Work
    z = closed A.sheet A.rows A.records s (suc l) e

    abbrev w : Owner
    w = row c

    R : (table_of z ≡ table_of s) × (z.reach ≡ s.reach) × (z.records ≡ s.records + 1) × (z.end ≡ s.end)
    R = closed-rest A.sheet A.rows A.records s (suc l) e

    journal-is : journal_of z ≡ close (of_row e.name) (pos e.length.falling) ∷ journal_of s
    journal-is = closed-journal A.sheet A.rows A.records s (suc l) e

    listed_is : listed (journal_of z) ≡ 0 + listed (journal_of s)
    unfolding listed
    listed_is = ap listed journal-is

    held-closed : (k : ℕ) → k < z.records → Held A (z.journal k) (recs z.journal k)
    held-closed = subst (λ j. (k : ℕ) → k < z.records → Held A (j k) (recs j k)) (sym (closed-record A.sheet A.rows A.records s (suc l) e)) (λ k m. held_more A s.journal s.records entry I.held new k (omega (arith, R.2)))
      where
        entry : Record
        entry = record { level = suc l; name = e.name; chain = steps.closing; offset = pos e.length.falling }

        new : Held A entry (recs s.journal s.records)
        new = record {
          first = G.end Falling w;
          real = first-real I.state.frame.chain w P.live;
          before = G.length Falling w;
          short = falling-short I.state w;
          there = first-there I.state w P.live ∙ ap (λ c. at c (diff 0 (G.length Falling w))) P.named;
          fits = name-fits w I.state I.tied (suc l) e.name P.live P.named;
        }

    pub close-outcome : Went A E (up.close room s (suc l) e) (0 + listed (journal_of s)) (λ Y' B' G'. Kept (suc l) w B.born Y Y' B B' G G')
    close-outcome =
        let X = closing.X N E I.state P ends in
        let k = closing-kept N E I.state P ends K in
        let I₂ : State sh p h Y (journal_of z) B X = rw journal-is (closing N E I.state P ends) in
        let room-left : s.records < A.records = omega (arith, records-small I₂ A.sheet.edges (omega (arith, listed_is, few)), records-recs z.journal z.records, R.2, A.journal_long) in
        rw (close-is A.sheet A.rows A.records s (suc l) e room-left)
        (record {
          births = Y;
          names = B;
          paths = X;
          inv = record {
            state = I₂;
            tied = rw R.0 (tie_none (closing-tied N E I.state P ends I.tied) (λ b m q. omega (arith, m, ap (size X) q, k.gone)) 0);
            held = held-closed;
            reach_rows = omega (arith, R.1, I.reach_rows);
            reach_records = omega (arith, R.1, R.2, I.reach_records);
            is_done = R.3 ∙ I.is_done;
          };
          listed_is = listed_is;
          kept = k;
        })

  -- an edge that does not close has a level to go to
  level-left : {s : Work} {level : ℕ} {e : LevelEdge ℕ} {Y : Table} {B : Naming} {G : Paths} {x : Owner} → Inv A E s Y B G x → Pre sh p h Y B G level e x → (e.tail ≡ e.head → ⊥) → suc level ≤ 12
  level-left {level = level} I P d = level-small N A.few (suc level) (room-above N E I.state P d)

  goes_on : {level : ℕ} {e : LevelEdge ℕ} {Y : Table} {B : Naming} {G : Paths} {x : Owner} → Pre sh p h Y B G level e x → (e.tail ≡ e.head → ⊥) → (t : Bool) → ltb (A.sheet.height e.tail) (A.sheet.height e.head) ≡ t
      → height sh (bottom (cond t Rising Falling) e) < height sh (top (cond t Rising Falling) e)
  goes_on {e = e} P d true t = ltb-true (A.sheet.height e.tail) (A.sheet.height e.head) t
  goes_on {e = e} P d false t = ⊎_elim (λ q. absurd (d (P.flat q))) (λ q. omega (arith, ltb-false (A.sheet.height e.tail) (A.sheet.height e.head) t, q)) (eq-or-ne (A.sheet.height e.tail) (A.sheet.height e.head))

  -- an edge of any level, with the levels left above it
  abbrev TreatEnds : (level : ℕ) (s : Work) (e : LevelEdge ℕ) → Table → Naming → Paths → Owner → Work → Type 0
  TreatEnds level s e Y B G x s' = Outcome A E level s e s' (edge_bit (name_at level e.name) + listed (journal_of s)) (λ Y' B' G'. Kept level x B.born Y Y' B B' G G')

  shuts : (level : ℕ) (s : Work) (e : LevelEdge ℕ) (Y : Table) (B : Naming) (G : Paths) (x : Owner) → Inv A E s Y B G x → Pre sh p h Y B G level e x → WholeBy level Y G → edge_bit (name_at level e.name) + listed (journal_of s) ≤ A.sheet.edges → e.tail ≡ e.head → TreatEnds level s e Y B G x (up.close room s level e)
  shuts level s e Y B G (edge a) I P K few q = let w = P.is_row q in absurd (not-edge w.0 a (sym w.1))
  shuts zero s e Y B G (row c) I P K few q = let v = P.named in let z : ◌≡◌ {A = ℕ} 0 1 = cc in absurd (omega arith)
  shuts (suc l) s e Y B G (row c) I P K few q = went (close-outcome I P K (omega arith) q)

  pub treat-outcome : (left level : ℕ) → left + level ≡ 12 → Treats level (up.treat room left level)
  unfolding up.treat
  treat-outcome zero level q s e Y B G x I P K spare few = by (eqb e.tail e.head) refl
    where
      by : (t : Bool) → eqb e.tail e.head ≡ t → TreatEnds level s e Y B G x (cond t (up.close room s level e) (up.ended (Err Overrun) s))
      by true t = shuts level s e Y B G x I P K few (eqb-true e.tail e.head t)
      by false t = absurd (omega (arith, level-left I P (eqb-false e.tail e.head t), q))
  treat-outcome (suc left) level q s e Y B G x I P K spare few = by (treat-outcome left (suc level) (omega arith)) (eqb e.tail e.head) refl
    where
      by : Treats (suc level) (up.treat room left (suc level)) → (t : Bool) → eqb e.tail e.head ≡ t → TreatEnds level s e Y B G x (cond t (up.close room s level e) (up.steps_on room (up.treat room left (suc level)) s level (up.side_of room.places e) e))
      by ih true t = shuts level s e Y B G x I P K few (eqb-true e.tail e.head t)
      by ih false t = steps-outcome level (up.treat room left (suc level)) ih I P K few (up.side_of room.places e) (goes_on P (eqb-false e.tail e.head t) (ltb (A.sheet.height e.tail) (A.sheet.height e.head)) refl) spare refl
