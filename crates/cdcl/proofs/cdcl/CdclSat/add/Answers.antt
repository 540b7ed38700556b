use Rattle.std.proofs.Common.{◌≤◌, length, subst, arith}
use Rattle.cdcl_log.proofs.Few.{length-added}
use Rattle.cdcl.proofs.cdcl.CdclSat.add.Goals as goal

pub returns-clause-few : goal.returns-clause-few
returns-clause-few c =
    let le : length c.known.result.now.kept ≤ 4294967295 = c.clauses-ids.ensures.few in
    let all = length-added c.known.result.now.kept in
    subst (λ cs. length cs ≤ 4294967295) c.known.ensures.clauses (omega (arith, all, le))
