use Rattle.certificate3.proofs.FormatLaws.{format_of_piece}
use Rattle.checker.proofs.AnyText.{IsOutcome, earlier_told, format_stops, third_told}
use Rattle.checker.proofs.certificate_text.check_text.Goals as goal

pub line-requires-clause-line : goal.line-requires-clause-line
line-requires-clause-line g c = format_of_piece

pub returns-in_err-format-clause-says : goal.returns-in_err-format-clause-says
returns-in_err-format-clause-says g c =
    format_stops (IsOutcome c.args.circuit.now) c.in_err-format.field-0.0 _ _ _ c.args.reader.now.held c.line.new.self.held c.from_residual.ensures.1 c.in_err-format.ensures.says

pub returns-in-Earlier-clause-says : goal.returns-in-Earlier-clause-says
returns-in-Earlier-clause-says g c =
    earlier_told c.args.circuit.now c.in_ok-format.format c.in-Earlier.version c.check_earlier.result _ _ _ c.args.reader.now.held c.line.new.self.held c.check_earlier.new.reader.held c.in-Earlier.is c.in_ok-format.ensures.says c.check_earlier.ensures.says

pub returns-in-Three-clause-says : goal.returns-in-Three-clause-says
returns-in-Three-clause-says g c =
    third_told c.args.circuit.now c.in_ok-format.format c.check_third.result _ _ _ c.args.reader.now.held c.line.new.self.held c.check_third.new.reader.held c.in-Three.is c.in_ok-format.ensures.says c.check_third.ensures.says
