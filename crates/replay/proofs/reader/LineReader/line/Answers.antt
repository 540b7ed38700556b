use Rattle.replay.proofs.StreamLaws.{fails_answer, line_found}
use Rattle.replay.proofs.reader.LineReader.line.Goals as goal

pub returns-clause-says : goal.returns-clause-says
returns-clause-says g c text later left =
    let (ys, before, found) = c.line.ensures.says text later left in
    (ys, before, line_found (g.L.LineKind.at c.args.context) c.self.inside.lines c.args.self.now c.line.new.self ys later c.line.result c.answered.result c.self.view_is c.answered.ensures found)

pub returns-clause-device : goal.returns-clause-device
returns-clause-device g c = fails_answer c.line.result c.answered.result _ _ c.answered.ensures c.line.ensures.device
