use Rattle.std.proofs.Common.{◌<◌, length, map}
use Rattle.graph.specs.Circuits.{variable}
use Rattle.graph.proofs.Evaluation.{All-left, All-right, All-unmap}
use Rattle.graph.proofs.Tabled.{StaysCounted-join}
use Rattle.graph.proofs.definitions.define_all.Goals as goal

pub define_latches-requires : goal.define_latches-requires
define_latches-requires c =
    let m = c.args.parts.now in
    rw (c.as_slice-2.ensures, c.define_inputs.ensures.places) (All-unmap (λ a. variable a < length c.args.table.now) (λ l. l.lit) m.latches
    (All-right (λ a. variable a < length c.args.table.now) m.inputs _ (All-left (λ a. variable a < length c.args.table.now) _ (map (λ g. g.lhs) m.gates) c.requires)))

pub define_gates-requires : goal.define_gates-requires
define_gates-requires c =
    let m = c.args.parts.now in
    rw (c.as_slice-3.ensures, c.define_latches.ensures.places, c.define_inputs.ensures.places) (All-unmap (λ a. variable a < length c.args.table.now) (λ g. g.lhs) m.gates
    (All-right (λ a. variable a < length c.args.table.now) _ (map (λ g. g.lhs) m.gates) c.requires))

pub returns : goal.returns
returns c =
    StaysCounted-join _ _ _ _ _
    (StaysCounted-join _ _ _ _ _ (rw c.as_slice.ensures at c.define_inputs.ensures) (rw c.as_slice-2.ensures at c.define_latches.ensures))
    (rw c.as_slice-3.ensures at c.define_gates.ensures)
