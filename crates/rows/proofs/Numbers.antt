-- What numbers say that are read from a row: what is read back of 32 bits is the number that was stored, and what it says of a branch.
use Rattle.std.proofs.lemmas.Int.{to_z-of_z, ints}
use Rattle.std.proofs.lemmas.Bool.Decides.{nat_tests}
use Rattle.rows.proofs.Looking.{length_is, finished-is, tip_is}

pub ruleset reads = (to_z-of_z, ints, nat_tests, length_is, finished-is, tip_is)
