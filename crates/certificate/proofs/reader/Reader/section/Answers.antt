use Rattle.certificate.proofs.LineLaws.{letter_of_piece}
use Rattle.certificate.proofs.reader.Reader.section.Goals as goal

pub line-requires-clause-line : goal.line-requires-clause-line
line-requires-clause-line g c = letter_of_piece c.args.kind
