-- What a branch's numbers say, side by side.
use mathlib.Core.Path.{◌≡◌, refl}
use mathlib.Core.Bool.{not}
use mathlib.Core.List.{List}
use Prim.Native.Nat.{ℕ, ◌+◌}
use lib.IntN.{ℤ, pos}
use lib.ListN.{get_or}
use lib.Signed.{non_neg, mag}
use Rattle.steps.specs.declared.Side.{Side}
use Rattle.steps.specs.declared.Side.TheVariants.{Rising, Falling}
use Rattle.steps.specs.Rows.{on}
use Rattle.rows.specs.Layout.{on_film, film_in, branch_at, look_branch, look_row}

module _ (s : List ℤ) (r : ℕ) where
  pub branch-is : (side : Side) → on side (look_row s r).branch ≡ look_branch s (film_in s r) (branch_at side r)
  unfolding look_row
  branch-is Rising = refl
  branch-is Falling = refl

  pub length_is : (side : Side) → (on side (look_row s r).branch).length ≡ mag (get_or s (branch_at side r + 2) (pos 0))
  unfolding look_branch
  length_is side = rw branch-is

  pub finished-is : (side : Side) → (on side (look_row s r).branch).finished ≡ not (non_neg (get_or s (branch_at side r + 2) (pos 0)))
  unfolding look_branch
  finished-is side = rw branch-is

  pub tip_is : (side : Side) →
      (on side (look_row s r).branch).tip ≡ on_film (film_in s r) (record { x = get_or s (branch_at side r) (pos 0); y = get_or s (branch_at side r + 1) (pos 0) })
  unfolding look_branch
  tip_is side = rw branch-is

  -- both tips of a row are on its film
  pub one_film : (look_row s r).branch.falling.tip.film ≡ (look_row s r).branch.rising.tip.film
  unfolding look_row look_branch
  one_film = refl
