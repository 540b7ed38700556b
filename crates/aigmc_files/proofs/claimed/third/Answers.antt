use Rattle.certificate3.proofs.PieceLaws.{claim_of_piece}
use Rattle.aigmc_files.proofs.claimed.third.Goals as goal

pub line-requires-clause-line : goal.line-requires-clause-line
line-requires-clause-line c = claim_of_piece
