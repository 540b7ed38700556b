use Rattle.std.proofs.Common.{◌∙◌}
use Rattle.std.proofs.lemmas.Bool.{le-leb}
use Rattle.ic3_frames.proofs.Marking.{marked_part}
use Rattle.ic3_frames.proofs.marks.Marks.have_entry.Goals as goal
use Rattle.ic3_frames.proofs.marks.Marks.have_entry.Goals.{then-covers, else-covers}

pub returns-else-level-entry-clause-complete : goal.returns-else-level-entry-clause-complete
returns-else-level-entry-clause-complete c = λ clause marks of_whole of_part h.
    let told = c.covers.ensures.parts clause c.args.entry.now.clause of_whole of_part (marked_part clause c.args.entry.now.clause c.args.self.now.words.items marks h.1) in
    elim c.if-covers.branch [
      | then-covers w ↦ w.value-is ∙ le-leb _ _ h.0
      | else-covers w ↦ w.value-is ∙ told
    ]
