use Rattle.std.proofs.Common.{◌∙◌, sym, ap}
use Rattle.graph.specs.Circuits.{place, value_of}
use Rattle.latch_map.proofs.Tables.{variable_is, set_read}
use Rattle.latch_map.proofs.table.lead.Goals as goal

pub returns-then-variable-table : goal.returns-then-variable-table
returns-then-variable-table c = λ w same reads.
    set_read w c.args.table.now c.variable-variable.result c.negated_as.result c.if-variable-table.true
    (ap (place w) c.variable-variable.ensures ∙ variable_is w c.args.lit c.args.same same ∙ ap (value_of w) (sym c.negated_as.ensures)) reads
