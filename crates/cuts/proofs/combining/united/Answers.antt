use Rattle.cuts.proofs.Joined.{union_some}
use Rattle.cuts.proofs.combining.united.Goals as goal

pub returns : goal.returns
returns c = union_some c.args.one c.args.other c.in_ok-leaves.leaves c.in_ok-leaves-2.leaves c.in_ok-leaves-3.leaves c.with-4.result c.in_ok-leaves.ensures c.in_ok-leaves-2.ensures c.in_ok-leaves-3.ensures c.with-4.ensures
