use Rattle.std.proofs.Common.{arith, rules}
use Rattle.graph.proofs.Tabled.{least_undefined, none_undefined}
use Rattle.graph.proofs.definitions.first_undefined.Goals as goal

pub returns-then-eq : goal.returns-then-eq
returns-then-eq c lits vs counted marked =
    least_undefined c.args.table.now c.args.used.now lits vs c.loop-v.v counted marked record { no_constant = λ e. omega (arith, e); used = c.if-used-v.true; undefined = search rules } c.loop-v.invariant

pub returns : goal.returns
returns c lits vs counted marked v = none_undefined c.args.table.now c.args.used.now lits vs v c.requires.same_length counted marked (λ u u_in. c.loop-v.invariant u (omega arith))
