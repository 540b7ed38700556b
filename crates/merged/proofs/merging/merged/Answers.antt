use Rattle.std.proofs.Common.{◌∙◌}
use Rattle.merged.proofs.Laws.{laws}
use Rattle.merged.proofs.Noted.{roomy, formed, is_merged}
use Rattle.merged.proofs.merging.merged.Goals as goal

pub read_parts-requires : goal.read_parts-requires
read_parts-requires c = roomy c.args.circuit.now c.args.clauses.now c.args.table.now c.well_formed-2.ensures c.requires.over c.requires.table

pub model_of-requires : goal.model_of-requires
model_of-requires c = formed c.args.circuit.now c.in_ok-parts.parts c.args.clauses.now c.args.table.now c.well_formed-2.ensures c.requires.over c.requires.table c.in_ok-parts.ensures

pub returns-clause-merged : goal.returns-clause-merged
returns-clause-merged c = is_merged c.args.circuit.now c.in_ok-merged.merged c.args.clauses.now c.args.table.now c.requires.table (c.in_ok-merged.ensures ∙ c.in_ok-parts.ensures)

pub returns-clause-laws : goal.returns-clause-laws
returns-clause-laws c =
    laws c.args.circuit.now c.in_ok-merged.merged c.args.clauses.now c.well_formed-2.ensures
    (is_merged c.args.circuit.now c.in_ok-merged.merged c.args.clauses.now c.args.table.now c.requires.table (c.in_ok-merged.ensures ∙ c.in_ok-parts.ensures))
