use Rattle.pieces.specs.Lines.{end_at}
use Rattle.replay.proofs.StreamLaws.{fails_answer, line_found}
use Rattle.replay.proofs.reader.LineReader.end.Goals as goal

pub returns-clause-says : goal.returns-clause-says
returns-clause-says g c text later left =
    let (ys, before, found) = c.end.ensures.says text later left in
    (ys, before, line_found end_at c.self.inside.lines c.args.self.now c.end.new.self ys later c.end.result c.answered.result c.self.view_is c.answered.ensures found)

pub returns-clause-device : goal.returns-clause-device
returns-clause-device g c = fails_answer c.end.result c.answered.result _ _ c.answered.ensures c.end.ensures.device
