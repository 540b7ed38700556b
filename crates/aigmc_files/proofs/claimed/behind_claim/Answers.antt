use Rattle.certificate3.proofs.PieceLaws.{sizes_of_piece}
use Rattle.aigmc_files.proofs.claimed.behind_claim.Goals as goal

pub line-requires-clause-line : goal.line-requires-clause-line
line-requires-clause-line c = sizes_of_piece
