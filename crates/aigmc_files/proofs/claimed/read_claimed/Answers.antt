use Rattle.certificate3.proofs.FormatLaws.{format_of_piece}
use Rattle.aigmc_files.proofs.claimed.read_claimed.Goals as goal

pub line-requires-clause-line : goal.line-requires-clause-line
line-requires-clause-line c = format_of_piece
