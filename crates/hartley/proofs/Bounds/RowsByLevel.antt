-- The rows in use before an edge of the list that finds no row, level by level. Those of one level are fewer by two than the edges that pass the sweep's height, and
-- where no outline has room for an own level above b there are at most b levels.
use mathlib.Core.Path.{◌≡◌, refl, ap, sym, ◌∙◌}
use mathlib.Core.Bool.{Bool, true, false, ◌&&◌, ◌||◌}
use mathlib.Core.List.{List}
use mathlib.Core.Logic.{⊎_elim}
use Prim.Native.Nat.{ℕ, zero, suc, ◌-◌, ◌*◌, ◌≤◌, ◌<◌}
use native.Mathlib.Omega.{arith}
use lib.Dec.{eqb, ltb}
use borrow.Author.Tests.{eq-eqb, eqb-true, lt-ltb, le-ltb, ltb-true}
use Rattle.laws.specs.Counting.{count}
use Rattle.laws.proofs.Deciding.{lt-or-le, both_true}
use Rattle.laws.proofs.Counting.{count-or, count_none, count-implies}
use Rattle.steps.specs.declared.Side.{Side}
use Rattle.steps.specs.Rows.{other_side, Row}
use Rattle.hartley.proofs.Paths.Plan.{Plan, Lawful, tip, Climbs}
use Rattle.hartley.proofs.Paths.DownLaw.{Rec}
use Rattle.hartley.proofs.Paths.Paths.{edge, row, Paths, size}
use Rattle.hartley.proofs.Paths.JournalLinked.{Naming}
use Rattle.hartley.proofs.Seams.LongOutline.{Room}
use Rattle.hartley.proofs.Invariant.Invariant.{Time, frame_at}
use Rattle.hartley.proofs.Invariant.TableTied.{Table, State, Tied, marks_of, row_is}
use Rattle.hartley.proofs.Bounds.RowsOfALevel.{passes}
use Rattle.hartley.proofs.Bounds.TwoUnreached.{two-pass, rows-less}

-- the numbers in use of a level, and those of the levels below one
module _ (used : ℕ → Bool) (level : ℕ → ℕ) where
  abbrev of_level : ℕ → ℕ → Bool
  of_level j i = eqb (level i) j && used i

  abbrev under : ℕ → ℕ → Bool
  under k i = ltb (level i) k && used i

  under_next : (k i : ℕ) → under (suc k) i ≡ true → (under k i || of_level k i) ≡ true
  under_next k i h =
      let a = both_true (ltb (level i) (suc k)) (used i) h in
      ⊎_elim (λ l. rw (lt-ltb (level i) k l, a.1)) (λ l. second (under k i) (of_level k i) (rw (eq-eqb (level i) k (omega (arith, ltb-true (level i) (suc k) a.0)), a.1))) (lt-or-le (level i) k)
    where
      second : (a b : Bool) → b ≡ true → (a || b) ≡ true
      second true b e = refl
      second false b e = e

  count_under : (n c : ℕ) → ((j : ℕ) → count (of_level j) n ≤ c) → (k : ℕ) → count (under k) n ≤ k * c
  count_under n c h zero = omega (arith, count_none (under 0) n (λ i l. none i))
    where
      none : (i : ℕ) → under 0 i ≡ false
      none i = ap (λ b. b && used i) (le-ltb (level i) 0 (omega arith))
  count_under n c h (suc k) = omega (arith, count_under n c h k, h k, count-or (under (suc k)) (under k) (of_level k) n (λ i l t. under_next k i t))

-- the edge i of the list climbs on s to p, and no row of level 0 has its tip at its bottom
module _ {sh : Plan} (N : Lawful sh) {p m n : ℕ} (E : Time sh p m) {T Y : Table} {J : List Rec} {B : Naming} {G : Paths} (I : State sh p m Y J B G) (i : ℕ) (K : Tied n T Y B G (edge i)) (s : Side) (l : 0 < size G (edge i)) (climbs : Climbs sh s i)
    (none : (c : ℕ) → 0 < size G (row c) → (marks_of Y).own_level (row c) ≡ 1 → (marks_of Y).finished s (row c) ≡ false → tip sh s (G.end s (row c)) ≡ tip sh (other_side s) i → ⊥) (at_top : tip sh s i ≡ p) where
  abbrev used : ℕ → Bool
  used r = (T r).used

  abbrev level : ℕ → ℕ
  level r = (T r).level

  abbrev passing : ℕ
  passing = count (passes sh p) sh.list.edges

  some-pass : 2 ≤ passing
  some-pass = two-pass N I.frame.chain I.seams (frame_at N E I.frame) I.frame.edge_finished s i l climbs none at_top

  -- a row in use by its birth
  birth : (r : ℕ) (u : (T r).used ≡ true) → (b : ℕ) × (B.name b ≡ r) × (0 < size G (row b)) × (T r ≡ Y b)
  birth r u = let o = K.to_live r u in (o.0, o.3, o.1, row_is I.one_name K r u)

  level-le : (j : ℕ) → count (of_level used level j) n ≤ passing - 2
  unfolding marks_of
  level-le j = omega (arith, some-pass, rows-less N I.frame.chain I.seams (frame_at N E I.frame) I.frame.edge_finished s i l climbs none at_top n (suc j) (of_level used level j) B.name live)
    where
      live : (r : ℕ) → r < n → of_level used level j r ≡ true → (b : ℕ) × (B.name b ≡ r) × (0 < size G (row b)) × (suc (Y b).level ≡ suc j)
      live r h u =
          let a = both_true (eqb (level r) j) (used r) u in
          let o = birth r a.1 in
          (o.0, o.1, o.2, ap suc (sym (ap (λ (v : Row ℕ). v.level) o.3) ∙ eqb-true (level r) j a.0))

  pub rows-in-use-le : (b : ℕ) → ((l : ℕ) → Room sh l → l ≤ b) → (2 ≤ passing) × (count used n ≤ b * (passing - 2))
  rows-in-use-le b most = (some-pass, omega (arith, count-implies used (under used level b) n low, count_under used level n (passing - 2) level-le b))
    where
      low : (r : ℕ) → r < n → used r ≡ true → under used level b r ≡ true
      low r h u = let o = birth r u in rw (lt-ltb (level r) b (omega (arith, most _ (I.told o.0 o.2).room, ap (λ (v : Row ℕ). v.level) o.3)), u)
