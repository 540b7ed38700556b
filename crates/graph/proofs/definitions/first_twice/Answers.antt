use Rattle.std.proofs.Common.{arith, rules}
use Rattle.graph.proofs.Tabled.{least_twice, none_twice}
use Rattle.graph.proofs.definitions.first_twice.Goals as goal

pub returns-then-eq : goal.returns-then-eq
returns-then-eq c vs counted = least_twice c.args.table.now vs c.loop-v.v counted (search rules) c.loop-v.invariant

pub returns : goal.returns
returns c vs counted = none_twice c.args.table.now vs counted (λ u u_in. c.loop-v.invariant u (omega arith))
