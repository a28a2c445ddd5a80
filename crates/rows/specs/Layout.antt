-- How a table of rows lies in a slice of signed numbers, row r in the eight from 8 r on. Number 0 is the level and 1 of a row in use, and 0 or below
-- in a free one, which so keeps the level that it had. Numbers 1, 2, 3 are x, y and length of the rising branch, numbers 4, 5, 6 those of the falling
-- one, number 7 is the film of both. A length below 0 is that of a finished branch: negsuc n, which is -1 - n, for the length n.
use Rattle.std.specs.Prelude.{ℕ, zero, suc, ◌+◌, ◌-◌, ◌*◌, ◌≤◌, Bool, not, ◌&&◌, List, [], ◌∷◌, leb, ℤ, pos, negsuc, length, get_or, set}
use Rattle.std.proofs.lemmas.List.Edits.{sets}
use Rattle.std.specs.Int.Signed.{lt_z, non_neg, mag}
use Rattle.sheet.specs.declared.Point.{Point}
use Rattle.sheet.specs.Points.{same_z, is_same, is_below}
use Rattle.steps.specs.declared.Side.{Side}
use Rattle.steps.specs.declared.Side.TheVariants.{Rising, Falling}
use Rattle.steps.specs.Rows.{Branch, Row, Places, Table, lowest_free}
use Rattle.steps.specs.SweepUp.{has_tip}
use Rattle.steps.specs.Swept.{numbers_per_row}
use Rattle.rows.specs.declared.Place.{Place}

abbrev pub on_film : ℤ → Point → Place
on_film film p = record { film = film; point = p }

-- places are the same only within a film, and compare as their points do
unfoldable pub film_places : Places Place
film_places = record { same = λ p q. same_z p.film q.film && is_same p.point q.point; below = λ p q. is_below p.point q.point }

-- that a slice has row r
abbrev pub HasRow : List ℤ → ℕ → Type 0
HasRow s r = numbers_per_row * r + numbers_per_row ≤ length s

-- where a branch's three numbers start
abbrev pub branch_at : Side → ℕ → ℕ
branch_at Rising r = numbers_per_row * r + 1
branch_at Falling r = numbers_per_row * r + 4

-- a row's film
unfoldable pub film_in : List ℤ → ℕ → ℤ
film_in s r = get_or s (numbers_per_row * r + 7) (pos 0)

-- the level that a row's number 0 tells
unfoldable pub level_in : ℤ → ℕ
level_in (pos n) = n - 1
level_in (negsuc n) = n

-- a row's number 0 where the row is freed
unfoldable pub freed_number : ℤ → ℤ
freed_number (pos zero) = pos zero
freed_number (pos (suc n)) = negsuc n
freed_number (negsuc n) = negsuc n

unfoldable pub look_branch : List ℤ → ℤ → ℕ → Branch Place
look_branch s film b =
    record {
      tip = on_film film (record { x = get_or s b (pos 0); y = get_or s (b + 1) (pos 0) });
      length = mag (get_or s (b + 2) (pos 0));
      finished = not (non_neg (get_or s (b + 2) (pos 0)));
    }

unfoldable pub look_row : List ℤ → ℕ → Row Place
look_row s r =
    record {
      used = leb (numbers_per_row * r + numbers_per_row) (length s) && lt_z (pos 0) (get_or s (numbers_per_row * r) (pos 0));
      level = level_in (get_or s (numbers_per_row * r) (pos 0));
      branch = record { rising = look_branch s (film_in s r) (branch_at Rising r); falling = look_branch s (film_in s r) (branch_at Falling r) };
    }

-- row r is in use and has such a tip
unfoldable pub has_tip_in : List ℤ → ℕ → Side → Place → ℕ → Bool
has_tip_in s level side tip r = (look_row s r).used && has_tip film_places level side tip (look_row s r)

unfoldable pub opened_in : List ℤ → ℕ → ℕ → Place → List ℤ
opened_in s r level p =
    sets s (numbers_per_row * r) (pos (level + 1) ∷ p.point.x ∷ p.point.y ∷ pos 0 ∷ p.point.x ∷ p.point.y ∷ pos 0 ∷ p.film ∷ [])

-- a tip stays on its row's film, which is not written again
unfoldable pub moved_in : List ℤ → ℕ → Side → Place → ℕ → List ℤ
moved_in s r side p n = sets s (branch_at side r) (p.point.x ∷ p.point.y ∷ pos n ∷ [])

unfoldable pub finished_in : List ℤ → ℕ → Side → List ℤ
finished_in s r side = set s (branch_at side r + 2) (negsuc (mag (get_or s (branch_at side r + 2) (pos 0))))

unfoldable pub freed_in : List ℤ → ℕ → List ℤ
freed_in s r = set s (numbers_per_row * r) (freed_number (get_or s (numbers_per_row * r) (pos 0)))

-- a slice is the table of one sheet: every row in use is its own, and the lowest free one is opened
unfoldable pub row_slice : Table Place (List ℤ)
row_slice =
    record {
      look = look_row;
      mine = λ s r. (look_row s r).used;
      choose = lowest_free look_row;
      opened = opened_in;
      moved = moved_in;
      finished = finished_in;
      freed = freed_in;
    }
