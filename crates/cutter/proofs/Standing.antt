-- What the lists that outlines are cut from say of the positions of the turn list, for the functions that read them.
use mathlib.Core.Path.{◌≡◌}
use mathlib.Core.List.{List}
use Prim.Native.Nat.{ℕ, ◌<◌}
use native.Mathlib.Omega.{arith}
use lib.IntN.{ℤ}
use lib.ListN.{length, get_or}
use Rattle.sheet.specs.TurnList.{number_lists}
use Rattle.cutter.specs.Joined.{Within, Standing, Drawable}
use Rattle.cutter.proofs.RightTurns.{run_long, sequence-back}

module _ {list : List ℤ} {polygons sequences turns : List ℕ} (D : Drawable list polygons sequences turns) where
  pub as_long : length turns ≡ length polygons
  as_long = run_long polygons sequences turns D.runs

  pub edge-there : (i : ℕ) → i < length turns → get_or turns i 0 < length polygons
  unfolding number_lists
  edge-there i l = D.runs.to_end.places i (omega (arith, l, as_long))

  pub within-polygons : Within polygons turns
  within-polygons = record { few = omega (arith, as_long, D.few); edges = edge-there }

  pub standing : Standing sequences turns
  standing = record {
    within = record { few = omega (arith, as_long, D.few); edges = λ i l. omega (arith, edge-there i l, D.same) };
    before = sequence-back polygons sequences turns D.runs;
  }
