use Rattle.aig.proofs.WritingLaws.{file_written}
use Rattle.aig.proofs.writing.write.Goals as goal

pub returns-in_err-put_file-clause-spelled : goal.returns-in_err-put_file-clause-spelled
returns-in_err-put_file-clause-spelled g c = file_written c.args.file.now (rw c.model-2.ensures at c.parts.ensures.well_formed) c.symbols.ensures.symbols

pub returns-clause-spelled : goal.returns-clause-spelled
returns-clause-spelled g c = file_written c.args.file.now (rw c.model-2.ensures at c.parts.ensures.well_formed) c.symbols.ensures.symbols
