use Rattle.std.proofs.Common.{◌≢◌, All, ◌∙◌, ap, refl, subst}
use Rattle.ic3_frames.specs.Clauses.{invariant_above}
use Rattle.ic3_frames.proofs.Translated.{lits_small}
use Rattle.ic3_frames.proofs.Fixed.{is_invariant}
use Rattle.ic3_frames.specs.declared.frames.Entry.{Entry}
use Rattle.ic3_frames.proofs.frames.Frames.invariant_at.Goals as goal

pub clauses_above-requires : goal.clauses_above-requires
clauses_above-requires c = lits_small c.args.circuit.now c.latches.result.now c.well_formed-2.ensures c.latches.ensures

pub returns-clause-invariant : goal.returns-clause-invariant
returns-clause-invariant c = λ frames.
    let same = c.as_slice-entries.ensures.value ∙ ap (λ f. f.entries) c.self.view_is in
    is_invariant c.args.circuit.now c.args.self.now c.args.level c.in_ok-clauses.clauses c.well_formed-2.ensures frames c.requires.left
    (subst (All (λ (e : Entry). e.level ≢ c.args.level)) same (c.if-not-is_left.ensures.0 refl))
    (c.in_ok-clauses.ensures ∙ ap (λ ls. invariant_above ls c.as_slice-entries.result.now c.args.level) c.latches.ensures
    ∙ ap (λ es. invariant_above c.args.circuit.now.latches es c.args.level) same)
