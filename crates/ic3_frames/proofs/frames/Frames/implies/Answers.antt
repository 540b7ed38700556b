use Rattle.std.proofs.Common.{◌≡◌, ◌≤◌, ◌∙◌, List, All, ap, subst, sym}
use Rattle.std.proofs.lemmas.Bool.{false≢true}
use Rattle.states.specs.States.{IsPartOf}
use Rattle.ic3_frames.specs.declared.frames.Entry.{Entry}
use Rattle.ic3_frames.specs.Frames.{Levels, InFrame}
use Rattle.ic3_frames.proofs.Marking.{implied, not_implied}
use Rattle.ic3_frames.proofs.frames.Frames.implies.Goals as goal

pub returns-clause-sound : goal.returns-clause-sound
returns-clause-sound c = λ told s frame.
    let are : c.as_slice-entries.result.now ≡ c.args.self.now.entries = c.as_slice-entries.ensures.value ∙ ap (λ (f : Levels). f.entries) c.self.view_is in
    implied c.args.clause.now c.in_ok-marks.marks.words.items c.as_slice-entries.result.now c.args.level c.in_ok-marks.ensures.marks (c.have_one.ensures.sound told) s
    (subst (λ (es : List Entry). InFrame es c.args.level s) (sym are) frame)

pub returns-clause-complete : goal.returns-clause-complete
returns-clause-complete c = λ told.
    let are : c.as_slice-entries.result.now ≡ c.args.self.now.entries = c.as_slice-entries.ensures.value ∙ ap (λ (f : Levels). f.entries) c.self.view_is in
    subst (All (λ (e : Entry). c.args.level ≤ e.level → IsPartOf e.clause c.args.clause.now → ⊥)) are
    (not_implied c.args.clause.now c.in_ok-marks.marks.words.items c.as_slice-entries.result.now c.args.level c.in_ok-marks.ensures.marks
    (λ any. false≢true (sym told ∙ c.have_one.ensures.complete c.args.clause.now c.in_ok-marks.ensures.marks c.in_ok-marks.ensures.signature any)))
