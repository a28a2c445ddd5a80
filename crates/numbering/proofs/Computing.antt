use Rattle.std.specs.Prelude.{⊤}
use Rattle.numbering.specs.Outcome as outcomes
use Rattle.steps.proofs.Computing.{steps_computed}

-- `unfolding numbering_computed` lets `refl` compute what a call leaves where its list is written out
unfoldable pub numbering_computed : ⊤
unfolding
    steps_computed
    outcomes.up
    outcomes.down
    outcomes.outcome
numbering_computed = tt
