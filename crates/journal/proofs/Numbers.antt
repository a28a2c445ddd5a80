-- What is read back of 32 bits is the number that was stored.
use Rattle.std.proofs.lemmas.Int.{to_z-of_z, ints, clamps}

pub ruleset reads = (to_z-of_z, ints, clamps)
