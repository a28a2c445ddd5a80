-- What treating an edge of a level leaves alone. Live rows of an own level up to j are not changed, nor their paths, but for the edge's own; rows that are whole are
-- of low levels. Passing up a row leaves as much of the others.
use mathlib.Core.Path.{◌≡◌, refl, ◌∙◌}
use mathlib.Core.Bool.{true}
use mathlib.Core.List.{List}
use Prim.Native.Nat.{ℕ, suc, ◌≤◌, ◌<◌}
use native.Mathlib.Omega.{arith}
use Rattle.steps.specs.declared.Side.{Side}
use Rattle.steps.specs.declared.Side.TheVariants.{Rising, Falling}
use Rattle.steps.specs.Rows.{on, Row}
use Rattle.hartley.proofs.Paths.Plan.{Plan}
use Rattle.hartley.proofs.Paths.DownLaw.{Rec}
use Rattle.hartley.proofs.Paths.TableWritten.{put-off}
use Rattle.hartley.proofs.Paths.Paths.{Owner, edge, row, Paths, size}
use Rattle.hartley.proofs.Paths.JournalLinked.{Naming}
use Rattle.hartley.proofs.Invariant.TableTied.{Table, State, B', Y', live-row}

-- both ends finished
abbrev pub Whole : Row ℕ → Type 0
Whole v = (s : Side) → (on s v.branch).finished ≡ true

-- while an edge of the level j is treated live rows that are whole are of own levels up to j
abbrev pub WholeBy : ℕ → Table → Paths → Type 0
WholeBy j Y G = (b : ℕ) → 0 < size G (row b) → Whole (Y b) → suc (Y b).level ≤ j

abbrev pub SamePath : Paths → Paths → Owner → Type 0
SamePath G G' y = ((s : Side) → G'.length s y ≡ G.length s y) × ((s : Side) → G'.end s y ≡ G.end s y)

pub same_size : (G G' : Paths) (y : Owner) → SamePath G G' y → size G' y ≡ size G y
unfolding size
same_size G G' y h = omega (arith, h.0 Rising, h.0 Falling)

-- live rows of own levels up to j, but for x, stay, and there are no others of these levels afterwards; the first k births keep their names, and what is gone of them
-- does not come back
pub record Stays (j : ℕ) (x : Owner) (k : ℕ) (Y Y' : Table) (B B' : Naming) (G G' : Paths) : Type 0 where
  pub rows : (b : ℕ) → 0 < size G (row b) → suc (Y b).level ≤ j → (row b ≡ x → ⊥) → (Y' b ≡ Y b) × SamePath G G' (row b)
  pub back : (b : ℕ) → 0 < size G' (row b) → suc (Y' b).level ≤ j → (0 < size G (row b)) × (Y' b ≡ Y b)
  pub names : (b : ℕ) → b < k → B'.name b ≡ B.name b
  pub dead : (b : ℕ) → b < k → size G (row b) ≡ 0 → size G' (row b) ≡ 0
  pub grows : k ≤ B'.born
  pub edges : (a : ℕ) → (edge a ≡ x → ⊥) → size G' (edge a) ≡ size G (edge a)
  pub whole : WholeBy j Y' G'

-- what treating an edge x of the level j leaves as it was
pub record Kept (j : ℕ) (x : Owner) (k : ℕ) (Y Y' : Table) (B B' : Naming) (G G' : Paths) : Type 0 where
  pub stays : Stays j x k Y Y' B B' G G'
  pub gone : size G' x ≡ 0

-- what passing up the row c, if it is whole, leaves
pub record Passed (j c : ℕ) (Y Y' : Table) (B B' : Naming) (G G' : Paths) : Type 0 where
  pub stays : Stays j (row c) B.born Y Y' B B' G G'
  pub self : Whole (Y c) → size G' (row c) ≡ 0

-- nothing done
pub untouched : {Y : Table} {B : Naming} {x : Owner} (j : ℕ) (G : Paths) → WholeBy j Y G → Stays j x B.born Y Y B B G G
untouched j G K = record { rows = λ b l h d. (refl, ((λ s. refl), λ s. refl)); back = λ b l h. (l, refl); names = λ b l. refl; dead = λ b l h. h; grows = omega arith; edges = λ a h. refl; whole = K }

-- a row opened under the name r has a new birth, which changes nothing of the others
pub reborn-kept : {sh : Plan} {p m : ℕ} {Y : Table} {J : List Rec} {B : Naming} {G : Paths} (I : State sh p m Y J B G) (r : ℕ) (v : Row ℕ) {j : ℕ} {x : Owner} {Y₁ : Table} {B₁ : Naming} {G₁ : Paths} → Kept j x B.born (Y' I r v) Y₁ (B' I r v) B₁ G G₁ → Kept j x B.born Y Y₁ B B₁ G G₁
reborn-kept {Y = Y} {B = B} I r v K = record {
  stays = record {
    rows = λ b l h d. let w = live-row I r v b l in let o = K.stays.rows b l (rw w h) d in (o.0 ∙ w, o.1);
    back = λ b l h. let o = K.stays.back b l h in (o.0, o.1 ∙ live-row I r v b o.0);
    names = λ b l. K.stays.names b l ∙ put-off B.name B.born b r (λ e. omega arith);
    dead = K.stays.dead;
    grows = K.stays.grows;
    edges = K.stays.edges;
    whole = K.stays.whole;
  };
  gone = K.gone;
}
