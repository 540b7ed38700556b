use Rattle.truth_tables.proofs.Cubed.{holds_free, holds_true, holds_false}
use Rattle.truth_tables.proofs.cube.Side.table.Goals as goal

pub returns-in-Free : goal.returns-in-Free
returns-in-Free c = holds_free c.args.self c.in-Free.is c.args.input

pub returns-in-True : goal.returns-in-True
returns-in-True c = holds_true c.args.self c.args.input c.in-True.is

pub returns-in-False : goal.returns-in-False
returns-in-False c = holds_false c.args.self c.args.input c.complement.result c.in-False.is c.complement.ensures
