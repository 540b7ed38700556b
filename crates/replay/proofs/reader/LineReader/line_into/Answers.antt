use Rattle.stimulus.specs.Reading.{line_at}
use Rattle.replay.proofs.StreamLaws.{buffer_found, fails_answer, moved}
use Rattle.replay.proofs.reader.LineReader.line_into.Goals as goal

pub returns-clause-says : goal.returns-clause-says
returns-clause-says g c text later left =
    let (ys, before, found) = c.line_into.ensures.says text later left in
    (ys, before, buffer_found _ line_at c.self.inside.lines c.args.self.now c.line_into.new.self ys later c.line_into.result c.answered.result c.line_into.new.buffer c.self.view_is c.answered.ensures found)

pub returns-clause-device : goal.returns-clause-device
returns-clause-device g c = fails_answer c.line_into.result c.answered.result _ _ c.answered.ensures c.line_into.ensures.device

pub returns-clause-moves : goal.returns-clause-moves
returns-clause-moves g c = moved c.line_into.result c.answered.result c.line_into.new.self c.self.inside.lines c.args.self.now _ _ c.self.view_is c.answered.ensures c.line_into.ensures.moves
