-- `sweep_both` meets its contract: the two sweeps, and what each end of the first leaves, are those of the outcome.
use mathlib.Core.Path.{sym, ap, ◌∙◌}
use native.Mathlib.Omega.{arith}
use Rattle.numbering.specs.OnSlices.{fitted}
use Rattle.numbering.proofs.Leaving as leaving
use Rattle.numbering.proofs.Leaving.{counted, is-done-end}
use Rattle.numbering.proofs.sweep_both.Goals as goal

pub overflow_cast-result : goal.overflow_cast-result
overflow_cast-result c = let a = c.args in
    let l = fitted a.list.edges.now a.polygons.now a.sequences.now a.journal.now a.rows.now in
    let edge = leaving.edge-fits l (omega (arith, c.requires.lengths)) (omega (arith, c.requires.lengths)) in
    record { fits = omega (arith, ap (λ w. w.edge) (counted l c.requires.lengths.0 c.sweep_up-swept.ensures.result_after), edge) }

pub returns-then-not-is_done : goal.returns-then-not-is_done
returns-then-not-is_done c = let a = c.args in
    let l = fitted a.list.edges.now a.polygons.now a.sequences.now a.journal.now a.rows.now in
    leaving.when-stopped l (counted l c.requires.lengths.0 c.sweep_up-swept.ensures.result_after) c.sweep_up-swept.auto.journal (sym c.is_done.ensures ∙ c.if-not-is_done.true) c.sweep_up-swept.auto.rows c.zero_from.ensures c.clear.ensures

pub overflow_cast-result-2 : goal.overflow_cast-result-2
overflow_cast-result-2 c = let a = c.args in
    let l = fitted a.list.edges.now a.polygons.now a.sequences.now a.journal.now a.rows.now in
    let E = counted l c.requires.lengths.0 c.sweep_up-swept.ensures.result_after in
    let d = is-done-end _ (sym c.is_done.ensures ∙ c.if-not-is_done.false) in
    let count = leaving.count_fits l E c.sweep_up-swept.auto.journal d c.sweep_up-swept.ensures.records_in_bounds c.sweep_down-count.ensures in
    record { fits = omega (arith, count, c.sweep_up-swept.ensures.records_in_bounds, c.requires.lengths) }

pub overflow_cast-result-3 : goal.overflow_cast-result-3
overflow_cast-result-3 c = let a = c.args in
    let l = fitted a.list.edges.now a.polygons.now a.sequences.now a.journal.now a.rows.now in
    let E = counted l c.requires.lengths.0 c.sweep_up-swept.ensures.result_after in
    let d = is-done-end _ (sym c.is_done.ensures ∙ c.if-not-is_done.false) in
    let peak = leaving.peak-fits l (omega (arith, c.requires.lengths)) (omega (arith, c.requires.lengths)) (sym (ap (λ w. w.state.end) E) ∙ d) in
    record { fits = omega (arith, ap (λ w. w.state.peak) E, peak) }

pub returns : goal.returns
returns c = let a = c.args in
    let l = fitted a.list.edges.now a.polygons.now a.sequences.now a.journal.now a.rows.now in
    leaving.when-done l (counted l c.requires.lengths.0 c.sweep_up-swept.ensures.result_after) c.sweep_up-swept.auto.journal (is-done-end _ (sym c.is_done.ensures ∙ c.if-not-is_done.false)) c.sweep_up-swept.ensures.records_in_bounds c.sweep_down-count.ensures (c.sweep_down-count.auto.rows ∙ c.sweep_up-swept.auto.rows) c.zero_from-2.ensures c.clear-2.ensures
