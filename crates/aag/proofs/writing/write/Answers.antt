use Rattle.aag.proofs.WritingLaws.{file_written}
use Rattle.aag.proofs.writing.write.Goals as goal

pub returns-in_err-put_file-clause-spelled : goal.returns-in_err-put_file-clause-spelled
returns-in_err-put_file-clause-spelled g c = file_written c.args.file.now (rw c.model.ensures at c.parts-parts.ensures.well_formed) c.symbols-symbols.ensures.symbols

pub returns-clause-spelled : goal.returns-clause-spelled
returns-clause-spelled g c = file_written c.args.file.now (rw c.model.ensures at c.parts-parts.ensures.well_formed) c.symbols-symbols.ensures.symbols
