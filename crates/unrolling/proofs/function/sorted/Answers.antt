use Rattle.std.proofs.Common.{rules, SFits, w32}
use Rattle.lrat.proofs.Fit.{read32}
use Rattle.unrolling.proofs.Arranged.{among_sorted}
use Rattle.unrolling.proofs.function.sorted.Goals as goal

pub returns : goal.returns
returns c =
    let fx : SFits w32 c.args.leaves.0 = search rules in
    let fy : SFits w32 c.args.leaves.1 = search rules in
    let fz : SFits w32 c.args.leaves.2 = search rules in
    let fw : SFits w32 c.args.leaves.3 = search rules in
    let fa : SFits w32 c.descending-a.result.0 = search rules in
    let fb : SFits w32 c.descending-a.result.1 = search rules in
    let fc : SFits w32 c.descending-c.result.0 = search rules in
    let fd : SFits w32 c.descending-c.result.1 = search rules in
    let fa2 : SFits w32 c.descending-a-2.result.0 = search rules in
    let fc2 : SFits w32 c.descending-a-2.result.1 = search rules in
    let fb2 : SFits w32 c.descending-b.result.0 = search rules in
    let fd2 : SFits w32 c.descending-b.result.1 = search rules in
    let fb3 : SFits w32 c.descending-b-2.result.0 = search rules in
    let fc3 : SFits w32 c.descending-b-2.result.1 = search rules in
    let first = rw (read32 _ fx, read32 _ fy) at c.descending-a.ensures in
    let second = rw (read32 _ fz, read32 _ fw) at c.descending-c.ensures in
    let third = rw (read32 _ fa, read32 _ fc) at c.descending-a-2.ensures in
    let fourth = rw (read32 _ fb, read32 _ fd) at c.descending-b.ensures in
    let fifth = rw (read32 _ fb2, read32 _ fc2) at c.descending-b-2.ensures in
    rw (read32 _ fa2, read32 _ fb3, read32 _ fc3, read32 _ fd2) (among_sorted _ _ _ _ _ _ _ _ _ _ _ _ _ _ first second third fourth fifth)
