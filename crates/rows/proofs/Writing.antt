-- A row read after each of the four writes. A row is what its first number and its branches' numbers say; a write changes some numbers of its own row,
-- and none of any other.
use mathlib.Core.Path.{◌≡◌, refl, ◌∙◌}
use mathlib.Core.Bool.{false, not}
use mathlib.Core.Logic.{◌⊎◌, inl, inr, ⊎_elim}
use mathlib.Core.List.{List, [], ◌∷◌}
use Prim.Native.Nat.{ℕ, zero, suc, ◌+◌, ◌-◌, ◌*◌, ◌≤◌, ◌<◌}
use native.Mathlib.Omega.{arith}
use lib.IntN.{ℤ, pos, negsuc}
use lib.ListN.{length, get_or, length-set}
use lib.Seq.{length-sets, get_or-set_same, get_or-set_other}
use lib.Signed.{lt_z, non_neg, mag}
use borrow.Author.Tests.{lt-ltb, le-leb}
use Rattle.laws.proofs.Deciding.{lt-or-le}
use Rattle.steps.specs.declared.Side.{Side}
use Rattle.steps.specs.declared.Side.TheVariants.{Rising, Falling}
use Rattle.steps.specs.Rows.{on, Branch}
use Rattle.steps.specs.Plain.{new_row, with_branch, finished_branch, free_row}
use Rattle.rows.specs.declared.Place.{Place}
use Rattle.rows.specs.Layout.{on_film, film_in, HasRow, branch_at, level_in, freed_number, look_branch, look_row, opened_in, moved_in, finished_in, freed_in}
use Rattle.laws.proofs.Sets.{get_or-sets-other, get_or-sets-in}
use Rattle.rows.proofs.Looking.{branch-is}
use Rattle.steps.specs.Swept.{numbers_per_row}

-- the numbers that are stored
abbrev pub opening : ℕ → Place → List ℤ
opening level p = pos (level + 1) ∷ p.point.x ∷ p.point.y ∷ pos 0 ∷ p.point.x ∷ p.point.y ∷ pos 0 ∷ p.film ∷ []

abbrev pub moving : Place → ℕ → List ℤ
moving p n = p.point.x ∷ p.point.y ∷ pos n ∷ []

-- a freed number says that the row is free, and the same level
freed-number-free : (z : ℤ) → lt_z (pos 0) (freed_number z) ≡ false
unfolding freed_number
freed-number-free (pos zero) = refl
freed-number-free (pos (suc n)) = refl
freed-number-free (negsuc n) = refl

freed-number-level : (z : ℤ) → level_in (freed_number z) ≡ level_in z
unfolding freed_number level_in
freed-number-level (pos zero) = refl
freed-number-level (pos (suc n)) = omega arith
freed-number-level (negsuc n) = refl

-- a branch by its numbers
abbrev branch_of : ℤ → ℤ → ℤ → ℤ → Branch Place
branch_of film x y z = record { tip = on_film film (record { x = x; y = y }); length = mag z; finished = not (non_neg z) }

branch_read : (t : List ℤ) (b : ℕ) {film film' x y z : ℤ} → film' ≡ film → get_or t b (pos 0) ≡ x → get_or t (b + 1) (pos 0) ≡ y → get_or t (b + 2) (pos 0) ≡ z → look_branch t film' b ≡ branch_of film x y z
unfolding look_branch
branch_read t b ef ex ey ez = rw (ef, ex, ey, ez)

branch_kept : (s t : List ℤ) (b : ℕ) {film film' : ℤ} → film' ≡ film → ((j : ℕ) → b ≤ j → j < b + 3 → get_or t j (pos 0) ≡ get_or s j (pos 0)) → look_branch t film' b ≡ look_branch s film b
unfolding look_branch
branch_kept s t b f same =
    branch_read t b f (same b (omega arith) (omega arith)) (same (b + 1) (omega arith) (omega arith)) (same (b + 2) (omega arith) (omega arith))

-- t is s but for row r
pub record OnlyRow (s t : List ℤ) (r : ℕ) : Type 0 where
  pub kept : length t ≡ length s
  pub outside : (j : ℕ) → (j < numbers_per_row * r) ⊎ (numbers_per_row * r + numbers_per_row ≤ j) → get_or t j (pos 0) ≡ get_or s j (pos 0)

-- a row's film is its last number
film-kept : (s t : List ℤ) (q : ℕ) → ((j : ℕ) → j ≡ numbers_per_row * q + 7 → get_or t j (pos 0) ≡ get_or s j (pos 0)) → film_in t q ≡ film_in s q
unfolding film_in
film-kept s t q same = same _ refl

pub other_row : {s t : List ℤ} {r : ℕ} → OnlyRow s t r → (q : ℕ) → (q ≡ r → ⊥) → look_row t q ≡ look_row s q
unfolding look_row
other_row {s} {t} {r} o q d = rw (
  o.kept,
  same (numbers_per_row * q) (omega arith) (omega arith),
  branch_kept s t (numbers_per_row * q + 1) film (λ j l h. same j (omega arith) (omega arith)),
  branch_kept s t (numbers_per_row * q + 4) film (λ j l h. same j (omega arith) (omega arith)),
)
  where
    same : (j : ℕ) → numbers_per_row * q ≤ j → j < numbers_per_row * q + 8 → get_or t j (pos 0) ≡ get_or s j (pos 0)
    same j l h = o.outside j (⊎_elim (λ b. inl (omega arith)) (λ b. inr (omega (arith, d))) (lt-or-le q r))

    film : film_in t q ≡ film_in s q
    film = film-kept s t q (λ j e. same j (omega arith) (omega arith))

-- t is s but for one branch of row r
record OnlyBranch (s t : List ℤ) (r : ℕ) (side : Side) : Type 0 where
  kept : length t ≡ length s
  outside : (j : ℕ) → (j < branch_at side r) ⊎ (branch_at side r + 3 ≤ j) → get_or t j (pos 0) ≡ get_or s j (pos 0)

branch-inside : (r : ℕ) (side : Side) → (numbers_per_row * r < branch_at side r) × (branch_at side r + 3 < numbers_per_row * r + numbers_per_row)
branch-inside r Rising = (omega arith, omega arith)
branch-inside r Falling = (omega arith, omega arith)

branch-film : {s t : List ℤ} {r : ℕ} (side : Side) → OnlyBranch s t r side → film_in t r ≡ film_in s r
branch-film {s} {t} {r} side o = film-kept s t r (λ j e. o.outside j (inr (omega (arith, branch-inside r side))))

only_row : {s t : List ℤ} {r : ℕ} {side : Side} → OnlyBranch s t r side → OnlyRow s t r
only_row {r = r} {side} o = record {
  kept = o.kept;
  outside = λ j h. o.outside j (⊎_elim (λ l. inl (omega (arith, branch-inside r side))) (λ l. inr (omega (arith, branch-inside r side))) h);
}

-- so its row is what it was with that branch
with-branch : {s t : List ℤ} {r : ℕ} (side : Side) → OnlyBranch s t r side → {b : Branch Place} → look_branch t (film_in t r) (branch_at side r) ≡ b →
    look_row t r ≡ with_branch (look_row s r) side b
unfolding look_row
with-branch {s} {t} {r} Rising o e =
    rw (o.kept, o.outside (numbers_per_row * r) (inl (omega arith)), e, branch_kept s t (numbers_per_row * r + 4) (branch-film Rising o) (λ j l h. o.outside j (inr (omega arith))))
with-branch {s} {t} {r} Falling o e =
    rw (o.kept, o.outside (numbers_per_row * r) (inl (omega arith)), e, branch_kept s t (numbers_per_row * r + 1) (branch-film Falling o) (λ j l h. o.outside j (inl (omega arith))))

module _ (s : List ℤ) (r : ℕ) where
  pub opened-only : (level : ℕ) (p : Place) → OnlyRow s (opened_in s r level p) r
  unfolding opened_in
  opened-only level p = record { kept = length-sets s (numbers_per_row * r) (opening level p); outside = λ j h. get_or-sets-other (pos 0) (opening level p) s (numbers_per_row * r) j h }

  moved-branch : (side : Side) (p : Place) (n : ℕ) → OnlyBranch s (moved_in s r side p n) r side
  unfolding moved_in
  moved-branch side p n =
      record { kept = length-sets s (branch_at side r) (moving p n); outside = λ j h. get_or-sets-other (pos 0) (moving p n) s (branch_at side r) j h }

  pub moved-only : (side : Side) (p : Place) (n : ℕ) → OnlyRow s (moved_in s r side p n) r
  moved-only side p n = only_row (moved-branch side p n)

  finished-kept : (side : Side) (j : ℕ) → (j ≡ branch_at side r + 2 → ⊥) → get_or (finished_in s r side) j (pos 0) ≡ get_or s j (pos 0)
  unfolding finished_in
  finished-kept side j d = get_or-set_other s (branch_at side r + 2) j _ (pos 0) d

  finished-branch : (side : Side) → OnlyBranch s (finished_in s r side) r side
  unfolding finished_in
  finished-branch side = record { kept = length-set s _ _; outside = λ j h. finished-kept side j (λ e. ⊎_elim (λ l. omega arith) (λ l. omega arith) h) }

  pub finished-only : (side : Side) → OnlyRow s (finished_in s r side) r
  finished-only side = only_row (finished-branch side)

  freed-kept : (j : ℕ) → (j ≡ numbers_per_row * r → ⊥) → get_or (freed_in s r) j (pos 0) ≡ get_or s j (pos 0)
  unfolding freed_in
  freed-kept j d = get_or-set_other s (numbers_per_row * r) j _ (pos 0) d

  pub freed-only : OnlyRow s (freed_in s r) r
  unfolding freed_in
  freed-only = record { kept = length-set s _ _; outside = λ j h. freed-kept j (λ e. ⊎_elim (λ l. omega arith) (λ l. omega arith) h) }

  module _ (has : HasRow s r) where
    pub opened-here : (level : ℕ) (p : Place) → look_row (opened_in s r level p) r ≡ new_row level p
    unfolding level_in look_row film_in opened_in
    opened-here level p =
        let e : level + 1 - 1 ≡ level = omega arith in
        let t = opened_in s r level p in
        rw (
          (opened-only level p).kept,
          le-leb (numbers_per_row * r + numbers_per_row) (length s) has,
          at 0 (numbers_per_row * r) (omega arith) (omega arith),
          e,
          lt-ltb 0 (level + 1) (omega arith),
          branch_read t (numbers_per_row * r + 1) (at 7 _ refl (omega arith)) (at 1 _ (omega arith) (omega arith)) (at 2 _ (omega arith) (omega arith)) (at 3 _ (omega arith) (omega arith)),
          branch_read t (numbers_per_row * r + 4) (at 7 _ refl (omega arith)) (at 4 _ (omega arith) (omega arith)) (at 5 _ (omega arith) (omega arith)) (at 6 _ (omega arith) (omega arith)),
        )
      where
        at : (k j : ℕ) → j ≡ numbers_per_row * r + k → k < 8 → get_or (opened_in s r level p) j (pos 0) ≡ get_or (opening level p) k (pos 0)
        at k j e h = rw e (get_or-sets-in (pos 0) (opening level p) s (numbers_per_row * r) k h has)

    pub moved_here : (p : Place) (n : ℕ) (side : Side) → look_row (moved_in s r side p n) r ≡ with_branch (look_row s r) side (record { tip = on_film (film_in s r) p.point; length = n; finished = false })
    unfolding moved_in
    moved_here p n side = with-branch side
        (moved-branch side p n)
        (branch_read (moved_in s r side p n) (branch_at side r) (branch-film side (moved-branch side p n)) (at 0 _ (omega arith) (omega arith)) (at 1 _ refl (omega arith)) (at 2 _ refl (omega arith)))
      where
        at : (k j : ℕ) → j ≡ branch_at side r + k → k < 3 → get_or (moved_in s r side p n) j (pos 0) ≡ get_or (moving p n) k (pos 0)
        at k j e h = rw e (get_or-sets-in (pos 0) (moving p n) s (branch_at side r) k h (omega (arith, branch-inside r side)))

    finished-put : (side : Side) → get_or (finished_in s r side) (branch_at side r + 2) (pos 0) ≡ negsuc (mag (get_or s (branch_at side r + 2) (pos 0)))
    unfolding finished_in
    finished-put side = get_or-set_same s (branch_at side r + 2) _ (pos 0) (omega (arith, branch-inside r side))

    pub finished-here : (side : Side) → look_row (finished_in s r side) r ≡ with_branch (look_row s r) side (finished_branch (on side (look_row s r).branch))
    unfolding look_branch
    finished-here side = with-branch side
        (finished-branch side)
        (branch_read (finished_in s r side) (branch_at side r) (branch-film side (finished-branch side)) (finished-kept side _ (λ e. omega arith)) (finished-kept side _ (λ e. omega arith)) (finished-put side)
        ∙ is)
      where
        is : branch_of (film_in s r) (get_or s (branch_at side r) (pos 0)) (get_or s (branch_at side r + 1) (pos 0)) (negsuc (mag (get_or s (branch_at side r + 2) (pos 0)))) ≡ finished_branch (on side (look_row s r).branch)
        is = rw (branch-is s r side)

    freed-put : get_or (freed_in s r) (numbers_per_row * r) (pos 0) ≡ freed_number (get_or s (numbers_per_row * r) (pos 0))
    unfolding freed_in
    freed-put = get_or-set_same s (numbers_per_row * r) _ (pos 0) (omega arith)

    pub freed-here : look_row (freed_in s r) r ≡ free_row (look_row s r)
    unfolding look_row
    freed-here =
        let t = freed_in s r in
        let film = film-kept s t r (λ j e. freed-kept j (λ q. omega arith)) in
        rw (
          freed-only.kept,
          le-leb (numbers_per_row * r + numbers_per_row) (length s) has,
          freed-put,
          freed-number-free (get_or s (numbers_per_row * r) (pos 0)),
          freed-number-level (get_or s (numbers_per_row * r) (pos 0)),
          branch_kept s t (numbers_per_row * r + 1) film (λ j l h. freed-kept j (λ e. omega arith)),
          branch_kept s t (numbers_per_row * r + 4) film (λ j l h. freed-kept j (λ e. omega arith)),
        )
