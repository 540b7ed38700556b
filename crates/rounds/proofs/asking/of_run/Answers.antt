use Rattle.std.proofs.Common.{subst}
use Rattle.graph.specs.declared.circuit.Property.TheVariants.{Bad}
use Rattle.graph.specs.declared.parts.Parts.{Parts}
use Rattle.stimulus.specs.declared.value.Stimulus.TheVariants.{Violated}
use Rattle.stimulus.specs.Shown.{Shows}
use Rattle.rounds.proofs.Tried.{shown_more}
use Rattle.rounds.proofs.asking.of_run.Goals as goal

pub returns-in-Ok-clause-tried : goal.returns-in-Ok-clause-tried
returns-in-Ok-clause-tried c =
    shown_more c.args.circuit.now c.args.position c.args.rounds c.args.initial c.args.inputs c.rounds_laws.ensures.exact
    (subst (λ (q : Parts). Shows q (Violated (Bad 0) c.args.initial c.args.inputs)) c.requires.counter c.in-Ok.ensures.shown)
