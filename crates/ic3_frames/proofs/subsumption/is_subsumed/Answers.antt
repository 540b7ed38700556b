use Rattle.std.proofs.Common.{◌∙◌, subst, sym}
use Rattle.std.proofs.lemmas.Bool.{leb-true, le-leb, false≢true}
use Rattle.states.specs.States.{IsPartOf}
use Rattle.ic3_frames.specs.Frames.{IsRising}
use Rattle.ic3_frames.proofs.subsumption.is_subsumed.Goals as goal
use Rattle.ic3_frames.proofs.subsumption.is_subsumed.Goals.{then-covers, else-covers}

pub returns-then-entry-level : goal.returns-then-entry-level
returns-then-entry-level c = record {
  sound = λ part. elim c.if-covers.branch [
    | then-covers w ↦ (leb-true _ _ (sym w.value-is ∙ c.if-entry-level.true), subst (IsPartOf c.args.clause.now) c.as_slice.ensures (c.is_part.ensures.sound part))
    | else-covers w ↦ absurd (false≢true (sym w.if-covers.false ∙ sym w.value-is ∙ c.if-entry-level.true))
  ];
  complete = λ rising entry_rising subsumption.
      c.is_part.ensures.complete (subst IsRising (sym c.as_slice.ensures) entry_rising) (subst (IsPartOf c.args.clause.now) (sym c.as_slice.ensures) subsumption.1);
}

pub returns-else-entry-level-clause-complete : goal.returns-else-entry-level-clause-complete
returns-else-entry-level-clause-complete c = λ rising entry_rising subsumption. elim c.if-covers.branch [
  | then-covers w ↦ w.value-is ∙ le-leb _ _ subsumption.0
  | else-covers w ↦ w.value-is ∙ c.covers.ensures.parts c.args.entry.now.clause c.args.clause.now c.requires.entry c.requires.clause subsumption.1
]
