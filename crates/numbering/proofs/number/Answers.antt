-- `number` meets its contract: the answer sheet by the checks, the rest by the theorems of Promising.
use mathlib.Core.Path.{refl, sym, ap, ◌∙◌}
use native.Mathlib.Omega.{arith}
use Rattle.std.proofs.lemmas.Result.{err_from_is_err_and}
use Rattle.sheet.specs.Edges.{edges_in}
use Rattle.checks.proofs.Passed.{passed}
use Rattle.numbering.specs.Outcome.{lent, call_of}
use Rattle.numbering.specs.OnSlices.{sweeps_on}
use Rattle.numbering.proofs.Leaving.{when-refused}
use Rattle.numbering.proofs.Tops.{tops-marked, places-numbered}
use Rattle.numbering.proofs.Running.{runs}
use Rattle.numbering.proofs.Promising.{promised}
use Rattle.numbering.proofs.number.Goals as goal

pub returns-in_err-check : goal.returns-in_err-check
returns-in_err-check c = let a = c.args in
    let p = err_from_is_err_and c.from_residual.result c.from_residual.ensures.1 in
    let l = lent a.edges.now a.polygons.now a.sequences.now a.turns a.journal.now a.rows.now in
    promised l _ (rw (p.1, p.2) (when-refused l _ (sym c.check.ensures.value ∙ c.in_err-check.was)))

pub invariant_of-list : goal.invariant_of-list
unfolding edges_in
invariant_of-list c = let a = c.args in
    let p = passed (call_of (lent a.edges.now a.polygons.now a.sequences.now a.turns a.journal.now a.rows.now)) (sym c.in_ok-check.ensures.value) in
    let marks = c.in_ok-check.ensures.marks_after.seen refl in
    let numbers = c.in_ok-check.ensures.numbers_after.passed refl in
    record { there = (omega arith, omega (arith, p.few, marks.size), omega (arith, p.few, numbers.size)); marked = tops-marked p marks }

pub number_checked-requires-clause-lengths : goal.number_checked-requires-clause-lengths
unfolding edges_in
number_checked-requires-clause-lengths c = let a = c.args in
    let p = passed (call_of (lent a.edges.now a.polygons.now a.sequences.now a.turns a.journal.now a.rows.now)) (sym c.in_ok-check.ensures.value) in
    (refl, p.few, p.journal)

pub number_checked-requires-clause-numbers : goal.number_checked-requires-clause-numbers
unfolding edges_in
number_checked-requires-clause-numbers c = places-numbered (c.in_ok-check.ensures.numbers_after.passed refl)

pub returns : goal.returns
returns c = let a = c.args in
    let l = lent a.edges.now a.polygons.now a.sequences.now a.turns a.journal.now a.rows.now in
    let ok = sym c.in_ok-check.ensures.value in
    let p = passed (call_of l) ok in
    promised l _ (c.number_checked.ensures ∙ ap (λ t. sweeps_on (lent a.edges.now a.polygons.now a.sequences.now t a.journal.now a.rows.now)) (p.polygons ∙ sym p.turns) ∙ runs l ok)
