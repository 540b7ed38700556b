use Rattle.lrat.proofs.ProofLaws.{proof_spelled}
use Rattle.lrat.proofs.writing.write.Goals as goal

pub returns-in_err-put_lines-clause-spelled : goal.returns-in_err-put_lines-clause-spelled
returns-in_err-put_lines-clause-spelled g c = proof_spelled c.args.proof.now c.lines.ensures.are_lines

pub returns-clause-spelled : goal.returns-clause-spelled
returns-clause-spelled g c = proof_spelled c.args.proof.now c.lines.ensures.are_lines
