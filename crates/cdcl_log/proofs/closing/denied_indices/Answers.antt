use Rattle.std.proofs.Common.{rules, ◌≡◌, ℤ, pos, neg_ℤ, SFits, w32, get_or, arith}
use Rattle.lrat.proofs.Fit.{read32}
use Rattle.cdcl_log.proofs.Closings.{denied_next}
use Rattle.cdcl_log.proofs.Ended.{denied_at}
use Rattle.cdcl_log.proofs.closing.denied_indices.Goals as goal

pub index_of-index-requires-clause-there : goal.index_of-index-requires-clause-there
index_of-index-requires-clause-there c =
    let x : ℤ = get_or c.args.clause.now c.loop-literal.literal-index (pos 0) in
    let f : SFits w32 x = search rules in
    let g : SFits w32 c.negated.result = search rules in
    rw (read32 c.negated.result g, c.negated.ensures, read32 x f) (denied_at c.args.units.now c.args.clause.now c.loop-literal.literal-index c.loop-literal-test.true c.requires.denied)

pub loop-literal-preserved : goal.loop-literal-preserved
loop-literal-preserved c =
    let x : ℤ = get_or c.args.clause.now c.loop-literal.literal-index (pos 0) in
    let f : SFits w32 x = search rules in
    let g : SFits w32 c.negated.result = search rules in
    let inside = c.index_of-index.ensures.inside in
    let there : get_or c.args.units.now c.index_of-index.result (pos 0) ≡ neg_ℤ x = rw (read32 c.negated.result g, c.negated.ensures, read32 x f) at c.index_of-index.ensures.there in
    record {
      inside = omega (arith, inside);
      are = rw c.in_ok-push.ensures.items
          (denied_next c.args.units.now c.args.clause.now c.loop-literal.indices.items c.loop-literal.literal-index c.index_of-index.result c.loop-literal-test.true inside there c.loop-literal.invariant.are);
    }
