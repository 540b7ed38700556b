use Rattle.std.proofs.Common.{◌∙◌}
use Rattle.std.proofs.lemmas.Bool.{le-leb, eq-eqb}
use Rattle.ic3_frames.proofs.Marking.{marked_part}
use Rattle.ic3_frames.proofs.marks.Marks.have_ending.Goals as goal
use Rattle.ic3_frames.proofs.marks.Marks.have_ending.Goals.{then-covers, else-covers, then-entry-level, else-entry-level}

pub returns-else-least-len-clause-complete : goal.returns-else-least-len-clause-complete
returns-else-least-len-clause-complete c = λ clause marks of_whole of_part at long marked.
    let told = c.covers.ensures.parts clause c.args.entry.now.clause of_whole of_part (marked_part clause c.args.entry.now.clause c.args.self.now.words.items marks marked) in
    elim c.if-entry-level.branch [
      | then-entry-level w ↦ w.value-is ∙ rw w.len.ensures (le-leb _ _ long)
      | else-entry-level w ↦ elim c.if-covers.branch [
        | then-covers v ↦ w.value-is ∙ v.value-is ∙ eq-eqb _ _ at
        | else-covers v ↦ w.value-is ∙ v.value-is ∙ told
      ]
    ]
