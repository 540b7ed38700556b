use Rattle.std.proofs.Common.{◌≡◌, map, ◌∙◌, subst, drop, length}
use Rattle.graph.proofs.Tabled.{take_whole}
use Rattle.witness.specs.Completions.{Completes}
use Rattle.witness.specs.Cleared.{kept_by}
use Rattle.witness.proofs.ClearLaws.{latch_lits, true_from, kept_completes, state_is}
use Rattle.witness.proofs.resting.left_of.Goals as goal

pub returns-clause-enough : goal.returns-clause-enough
returns-clause-enough c =
    let m = c.args.circuit.now in
    let w = c.args.values.now in
    let marks = c.deref.result.now in
    let same : marks ≡ c.mark.new.marks = c.deref.ensures.value ∙ take_whole c.in_ok-marks.marks.len c.mark.new.marks (drop (length c.mark.new.marks) c.in_ok-marks.marks.items) (c.in_ok-mark.ensures.same_places ∙ c.deref_mut.ensures.len) in
    rw (c.in_ok-left.ensures.state, c.in_ok-left.ensures.row, c.requires.latches, same) (true_from m w c.mark.new.marks c.args.lits.now c.parts.ensures.well_formed c.value_laws.ensures.lifted c.requires.agrees c.in_ok-mark.ensures.justified c.in_ok-mark.ensures.marked c.requires.known c.requires.are_true)

pub returns-clause-state : goal.returns-clause-state
returns-clause-state c =
    let m = c.args.circuit.now in
    let w = c.args.values.now in
    let marks = c.deref.result.now in
    rw (c.in_ok-left.ensures.state, c.requires.latches) (subst (Completes (map (kept_by w marks) (latch_lits m.latches))) (state_is w m.latches) (kept_completes w marks (latch_lits m.latches)))

pub returns-clause-row : goal.returns-clause-row
returns-clause-row c = rw c.in_ok-left.ensures.row (kept_completes c.args.values.now c.deref.result.now c.args.circuit.now.inputs)
