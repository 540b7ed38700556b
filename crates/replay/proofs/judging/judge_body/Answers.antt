use Rattle.std.proofs.Common.{◌++◌, subst, sym}
use Rattle.replay.specs.Reading.{IsConclusion}
use Rattle.replay.proofs.TextFound.{violated_body}
use Rattle.replay.proofs.judging.judge_body.Goals as goal

pub returns-in-Violated-clause-says : goal.returns-in-Violated-clause-says
returns-in-Violated-clause-says g c text later left =
    let (ys, before, found) = c.judge_run.ensures.says text later left in
    (ys, before, violated_body c.args.circuit.now c.args.property c.args.status (c.args.reader.now ++ ys) c.judge_run.new.reader later c.judge_run.result c.in-Violated.is found)

pub returns-in-Holds-clause-says : goal.returns-in-Holds-clause-says
returns-in-Holds-clause-says g c text later left =
    let (ys, before, found) = c.refuse_concluded.ensures.says text later left in
    (ys, before, found c.args.circuit.now c.args.status c.args.property (subst IsConclusion (sym c.in-Holds.is) tt))

pub returns-in-Unknown-clause-says : goal.returns-in-Unknown-clause-says
returns-in-Unknown-clause-says g c text later left =
    let (ys, before, found) = c.refuse_concluded-in-Unknown.ensures.says text later left in
    (ys, before, found c.args.circuit.now c.args.status c.args.property (subst IsConclusion (sym c.in-Unknown.is) tt))
