use Rattle.std.proofs.Common.{rules}
use Rattle.unrolling.proofs.Arranged.{true_table, first_table, second_table, third_table, fourth_table}
use Rattle.unrolling.proofs.function.variable_table.Goals as goal

pub returns-then-variable-eq1 : goal.returns-then-variable-eq1
returns-then-variable-eq1 c = true_table c.args.leaves c.args.variable (search rules)

pub returns-then-variable-leaves : goal.returns-then-variable-leaves
returns-then-variable-leaves c = first_table c.args.leaves c.args.variable (search rules)

pub returns-then-variable-leaves-2 : goal.returns-then-variable-leaves-2
returns-then-variable-leaves-2 c = second_table c.args.leaves c.args.variable (search rules)

pub returns-then-variable-leaves-3 : goal.returns-then-variable-leaves-3
returns-then-variable-leaves-3 c = third_table c.args.leaves c.args.variable (search rules)

pub returns-else-variable-leaves-3 : goal.returns-else-variable-leaves-3
returns-else-variable-leaves-3 c = fourth_table c.args.leaves c.args.variable c.requires.among (search rules) (search rules) (search rules)
