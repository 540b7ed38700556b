use Rattle.std.proofs.Common.{◌<◌, List, length, All, sym, subst}
use Rattle.graph.specs.declared.circuit.Lit.{Lit}
use Rattle.graph.specs.Circuits.{variable}
use Rattle.graph.proofs.Evaluation.{latches_in_range}
use Rattle.witness.proofs.ClearLaws.{small_latches, small_inputs}
use Rattle.witness.proofs.resting.left_by.Goals as goal

pub kept-requires : goal.kept-requires
kept-requires c = subst (λ (lits : List Lit). All (λ a. variable a < length c.args.values.now) lits) (sym c.requires.latches)
    (small_latches c.args.circuit.now.latches c.args.values.now c.args.circuit.now.max_var (latches_in_range c.args.circuit.now c.well_formed-2.ensures) c.requires.places)

pub kept-requires-2 : goal.kept-requires-2
kept-requires-2 c = subst (λ (lits : List Lit). All (λ a. variable a < length c.args.values.now) lits) (sym c.inputs.ensures)
    (small_inputs c.args.circuit.now c.args.values.now c.well_formed-2.ensures c.requires.places)
