-- The instructions of either machine for outlines in range and closed are good to cut by.
use mathlib.Core.List.{List}
use Rattle.cutter.specs.declared.machines.Machine.{Machine}
use Rattle.cutter.specs.Places.{place_for, point_at}
use Rattle.cutter.specs.Programme.{Outline, Cuttable}
use Rattle.cutter.proofs.Places.{point-back}
use Rattle.cutter.proofs.Drawings.{Drawn, AllClosed}
use Rattle.cutter.proofs.ReadBack.{outlines-back}
use Rattle.cutter.proofs.Heads.{outline-length, orderly, cut_down, apart, stands}

pub cuttable : (m : Machine) (os : List Outline) → Drawn os → AllClosed os → Cuttable (place_for m) (point_at m) os
cuttable m os drawn closed = record {
  read_back = outlines-back (place_for m) (point_at m) (point-back m) os drawn;
  size = outline-length (place_for m);
  orderly = orderly (place_for m) os closed;
  down = λ done rest p e h. cut_down done p h;
  apart = apart (place_for m) os;
  stands = stands (place_for m) os closed;
}
