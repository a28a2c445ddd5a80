-- A list runs along the numbers of two lists just where these are accepted and it is their turn list: a list that runs is the turn list of a good numbering
-- (RunIsTurnList.antt), the turn list of a good numbering runs (TurnListRuns.antt), and the good numberings are those that are accepted. What going
-- back along it (AlongRun.antt) says of the lists is told in their own words.
use Rattle.std.specs.Prelude.{Ok}
use mathlib.Core.Path.{◌≡◌}
use mathlib.Core.List.{List}
use mathlib.Core.Logic.{◌⊎◌}
use Prim.Native.Nat.{ℕ, suc, ◌-◌, ◌≤◌, ◌<◌}
use native.Mathlib.Omega.{arith}
use lib.ListN.{length, get_or}
use Rattle.sheet.specs.Amounts.{most_edges}
use Rattle.sheet.specs.TurnList.{number_lists, turned, TurnList}
use Rattle.sheet.proofs.ExactlyAccepted.{accepts-exactly}
use Rattle.cutter.specs.Runs.{Runs}
use Rattle.cutter.proofs.AlongRun.{sequence-within, polygon-within, back}
use Rattle.cutter.proofs.RunIsTurnList.{run-turn-list, run-good}
use Rattle.cutter.proofs.TurnListRuns.{turn-list-runs}

module _ (polygons sequences turns : List ℕ) (same : length sequences ≡ length polygons) (few : length polygons ≤ most_edges) where
  pub runs-right : Runs (number_lists polygons sequences) turns → (c : ℕ) × (turned polygons sequences (length turns) ≡ Ok c) × TurnList (number_lists polygons sequences) turns
  unfolding number_lists
  runs-right R = (_, (accepts-exactly polygons sequences (length turns) _).1 (record { sequences_too = same; turns_too = R.size; few = few; numbering = run-good R }), run-turn-list R)

  pub right-runs : (c : ℕ) → turned polygons sequences (length turns) ≡ Ok c → TurnList (number_lists polygons sequences) turns → Runs (number_lists polygons sequences) turns
  right-runs c q T = turn-list-runs T ((accepts-exactly polygons sequences (length turns) c).0 q).numbering

module _ (polygons sequences turns : List ℕ) (R : Runs (number_lists polygons sequences) turns) where
  pub run_long : length turns ≡ length polygons
  unfolding number_lists
  run_long = R.size

  within : (i : ℕ) → i < length turns → i < length polygons
  within i l = omega (arith, run_long)

  -- the numbers along it, as they stand in the lists
  pub run-begins : 0 < length turns → (get_or polygons (get_or turns 0 0) 0 ≡ 1) × (get_or sequences (get_or turns 0 0) 0 ≡ 0)
  unfolding number_lists
  run-begins l = R.to_end.begins (within 0 l)

  pub run-onward : (i : ℕ) → suc i < length turns
      → ((get_or polygons (get_or turns (suc i) 0) 0 ≡ get_or polygons (get_or turns i 0) 0) × (get_or sequences (get_or turns (suc i) 0) 0 ≡ suc (get_or sequences (get_or turns i 0) 0)))
      ⊎ ((get_or polygons (get_or turns (suc i) 0) 0 ≡ suc (get_or polygons (get_or turns i 0) 0)) × (get_or sequences (get_or turns (suc i) 0) 0 ≡ 0))
  unfolding number_lists
  run-onward i l = R.to_end.onward i (within (suc i) l)

  pub sequence-back : (i : ℕ) → i < length turns → get_or sequences (get_or turns i 0) 0 ≤ i
  unfolding number_lists
  sequence-back i l = sequence-within R.to_end i (within i l)

  pub polygon_small : (i : ℕ) → i < length turns → get_or polygons (get_or turns i 0) 0 ≤ suc i
  unfolding number_lists
  polygon_small i l = (polygon-within R.to_end i (within i l)).1

  -- where the edge 0 of the polygon stands
  pub zero-before : (i : ℕ) → i < length turns →
      (get_or polygons (get_or turns (i - get_or sequences (get_or turns i 0) 0) 0) 0 ≡ get_or polygons (get_or turns i 0) 0) × (get_or sequences (get_or turns (i - get_or sequences (get_or turns i 0) 0) 0) 0 ≡ 0)
  unfolding number_lists
  zero-before i l =
      let w = back R.to_end (get_or sequences (get_or turns i 0) 0) i (i - get_or sequences (get_or turns i 0) 0) (within i l) (omega (arith, sequence-back i l)) (omega arith) in
      (w.0, omega (arith, w.1))
