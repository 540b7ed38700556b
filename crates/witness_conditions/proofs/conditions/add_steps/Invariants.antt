use Rattle.std.proofs.Common.{take}
use Rattle.witness_conditions.specs.Conditions.{AreNext}
use Rattle.witness_pairs.specs.Drafts.{GoesOn}
use Rattle.witness_conditions.proofs.conditions.add_steps.Given as goal

abbrev pub invariant-loop-position : goal.invariant-loop-position
invariant-loop-position l = record {
  goes_on : GoesOn l.initial.draft.gates l.draft.gates;
  facts : AreNext l.draft.gates l.first l.then (take l.position l.latches) l.shared l.initial.facts l.facts;
}
