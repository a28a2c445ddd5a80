-- Looking at all rows comes to the same as looking only as far as rows have been opened, where all rows are free at the start: what is past that was never
-- opened and is not in use. The two runs hold the same rows and records and count the same peak.
use mathlib.Core.Path.{◌≡◌, refl, ap, ◌∙◌}
use mathlib.Core.Bool.{Bool, false, cond}
use Prim.Native.Nat.{ℕ, ◌≤◌, ◌<◌}
use native.Mathlib.Omega.{arith}
use borrow.Author.Tests.{ne_eqb}
use Rattle.steps.specs.Rows.{on, Row, Record, LevelEdge, Places, Room}
use Rattle.steps.specs.SweepUp.{Sweep, sweep_up, start}
use Rattle.steps.specs.Plain.{put, new_row, with_branch, finished_branch, free_row, plain_table, plain_journal}
use Rattle.steps.proofs.Alike.{Match, AlikeSweep, start-alike, sweep-alike}
use Rattle.steps.proofs.Alone.{plain-alone}
use Rattle.steps.proofs.Bounded.{no_film, self, most_name, same_edges}

pub record SameRun {T J : Type 0} (w w' : Sweep T J) : Type 0 where
  pub rows : w.state.rows ≡ w'.state.rows
  pub journal : w.state.journal ≡ w'.state.journal
  pub records : w.state.records ≡ w'.state.records
  pub peak : w.state.peak ≡ w'.state.peak
  pub end : w.state.end ≡ w'.state.end
  pub edge : w.edge ≡ w'.edge

module _ {P : Type 0} (places : Places P) (rows records : ℕ) where
  abbrev room : Room P (ℕ → Row P) (ℕ → Record)
  room = record { places = places; table = plain_table; journal = plain_journal; rows = rows; share = rows; records = records }

  -- the same table, in which the rows from k on are free
  record FreeFrom (k : ℕ) (t t' : ℕ → Row P) : Type 0 where
    same : t ≡ t'
    free : (r : ℕ) → k ≤ r → r < rows → (t' r).used ≡ false

  -- a row below that written
  still-free : {k k' : ℕ} {t t' : ℕ → Row P} → FreeFrom k t t' → (r : ℕ) (v : Row P) → r < k' → k ≤ k' → (q : ℕ) → k' ≤ q → q < rows → (put t' r v q).used ≡ false
  still-free {k} {k'} {t} {t'} F r v l m q a b = ap (λ (u : Bool). (cond u v (t' q)).used) (ne_eqb q r (λ h. omega arith)) ∙ F.free q (omega arith) b

  further : (most : ℕ) → records ≤ most → Match room room (λ p q. p ≡ q) no_film FreeFrom (λ k j j'. j ≡ j') most rows
  unfolding plain_table
  further most names =
      let S = self room plain-alone most names in
      record {
        same_film = S.same_film;
        row_film = S.row_film;
        opened_film = λ {k} F r level p l s. S.opened_film {k = k} F.same r level p l s;
        same = S.same;
        below = S.below;
        look = λ F r l. S.look F.same r l;
        unopened = λ F r l m. F.free r l m;
        opened = λ {p' = p'} F e r level l m. record { same = S.opened F.same e r level l m; free = still-free F r (new_row level p') (omega arith) (omega arith) };
        moved = λ {t' = t'} {p' = p'} F e r s n l f. record { same = S.moved F.same e r s n l f; free = still-free F r (with_branch (t' r) s (record { tip = p'; length = n; finished = false })) l (omega arith) };
        finished = λ {t' = t'} F r s l. record { same = S.finished F.same r s l; free = still-free F r (with_branch (t' r) s (finished_branch (on s (t' r).branch))) l (omega arith) };
        freed = λ {t' = t'} F r l. record { same = S.freed F.same r l; free = still-free F r (free_row (t' r)) l (omega arith) };
        written = S.written;
        alone = plain-alone;
        alone' = plain-alone;
        rows = refl;
        share = refl;
        records = refl;
        names = names;
      }

  module _ (list : ℕ → LevelEdge P) (t : ℕ → Row P) (j : ℕ → Record) (free : (r : ℕ) → r < rows → (t r).used ≡ false) (n : ℕ) where
    abbrev M : Match room room (λ p q. p ≡ q) no_film FreeFrom (λ k j j'. j ≡ j') (most_name room list n) rows
    M = further (most_name room list n) (omega arith)

    alike : AlikeSweep M (sweep_up room list (start 0 t j) n) (sweep_up room list (start rows t j) n)
    alike = sweep-alike M list list n (same_edges room list n) (start-alike M (record { same = refl; free = λ r l m. free r m }) refl)

    pub all-rows : SameRun (sweep_up room list (start 0 t j) n) (sweep_up room list (start rows t j) n)
    all-rows = let B = alike in record { rows = B.state.rows.same; journal = B.state.journal; records = B.state.records; peak = B.state.peak; end = B.state.end; edge = B.edge }

    -- the second goes on looking at all rows
    pub all-reached : (sweep_up room list (start rows t j) n).state.reach ≡ rows
    all-reached = omega (arith, alike.state.reach, alike.state.named)
