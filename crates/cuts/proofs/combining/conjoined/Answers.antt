use Rattle.cuts.proofs.Joined.{joined_of}
use Rattle.cuts.proofs.combining.conjoined.Goals as goal

pub returns : goal.returns
returns c = joined_of c.args.gate c.args.one c.args.other c.args.leaves c.conjunction-table.result c.side_over.result c.side_over-2.result c.requires c.conjunction-table.ensures c.side_over.ensures c.side_over-2.ensures
