-- Tables, journals and lists as plain functions of a name: with these the steps compute, and the theory speaks of these.
use Rattle.std.specs.Prelude.{ℕ, true, false, cond, eqb}
use Rattle.steps.specs.declared.Side.{Side}
use Rattle.steps.specs.Rows.{on, with, Branch, Row, Record, Table, Journal, lowest_free}
use Rattle.steps.specs.SweepDown.{Pair, Tables}

abbrev pub put : {A : Type 0} → (ℕ → A) → ℕ → A → ℕ → A
put f i a j = cond (eqb j i) a (f j)

abbrev new_branch : {P : Type 0} → P → Branch P
new_branch p = record { tip = p; length = 0; finished = false }

abbrev pub new_row : {P : Type 0} → ℕ → P → Row P
new_row level p = record { used = true; level = level; branch = record { rising = new_branch p; falling = new_branch p } }

abbrev pub with_branch : {P : Type 0} → Row P → Side → Branch P → Row P
with_branch row s b = record { used = row.used; level = row.level; branch = with s b row.branch }

abbrev pub finished_branch : {P : Type 0} → Branch P → Branch P
finished_branch b = record { tip = b.tip; length = b.length; finished = true }

abbrev pub free_row : {P : Type 0} → Row P → Row P
free_row row = record { used = false; level = row.level; branch = row.branch }

-- the table of a sheet alone: every row in use is mine, and the lowest free one is opened
unfoldable pub plain_table : {P : Type 0} → Table P (ℕ → Row P)
plain_table =
    record {
      look = λ t r. t r;
      mine = λ t r. (t r).used;
      choose = lowest_free (λ t r. t r);
      opened = λ t r level p. put t r (new_row level p);
      moved = λ t r s p n. put t r (with_branch (t r) s (record { tip = p; length = n; finished = false }));
      finished = λ t r s. put t r (with_branch (t r) s (finished_branch (on s (t r).branch)));
      freed = λ t r. put t r (free_row (t r));
    }

unfoldable pub plain_journal : Journal (ℕ → Record)
plain_journal = record { read = λ j k. j k; written = λ j k entry. put j k entry }

unfoldable pub plain_tables : Tables (ℕ → Pair) (ℕ → Pair)
plain_tables = record { look = λ t r. t r; given = λ t r v. put t r v; answered = λ a e v. put a e v }
