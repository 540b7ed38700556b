use Rattle.scan.specs.Lists.{items_at}
use Rattle.stimulus.specs.Reading.{value_at}
use Rattle.replay.proofs.StreamLaws.{buffer_found, fails_answer}
use Rattle.replay.proofs.reader.LineReader.values_into.Goals as goal

pub returns-clause-says : goal.returns-clause-says
returns-clause-says g c text later left =
    let (ys, before, found) = c.line_into.ensures.says text later left in
    (ys, before, buffer_found _ (items_at value_at) c.self.inside.lines c.args.self.now c.line_into.new.self ys later c.line_into.result c.answered.result c.line_into.new.buffer c.self.view_is c.answered.ensures found)

pub returns-clause-device : goal.returns-clause-device
returns-clause-device g c = fails_answer c.line_into.result c.answered.result _ _ c.answered.ensures c.line_into.ensures.device
