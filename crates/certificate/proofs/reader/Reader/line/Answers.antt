use Rattle.std.proofs.Common.{rules, ◌≡◌, None, ap, sym}
use Rattle.certificate.specs.Held.{held_of}
use Rattle.certificate.proofs.StreamLaws.{fails_answer, held_open, line_found, ok_answer, refused_again}
use Rattle.certificate.proofs.reader.Reader.line.Goals as goal

pub returns-in-Some-clause-says : goal.returns-in-Some-clause-says
returns-in-Some-clause-says g c text later left =
    (later, left, refused_again (g.L.LineKind.at c.args.context) c.requires.line c.self.inside.lines c.self.inside.refusal c.in-Some.refusal c.args.self.now later c.self.view_is c.in-Some.is)

pub returns-clause-says : goal.returns-clause-says
returns-clause-says g c text later left =
    let (ys, before, found) = c.line.ensures.says text later left in
    let none : c.self.inside.refusal ≡ None = search rules in
    let same = held_open c.self.inside.lines c.self.inside.refusal c.args.self.now c.self.view_is none in
    (ys, before, line_found (g.L.LineKind.at c.args.context) c.self.inside.lines c.args.self.now.held c.line.new.self ys later (held_of c.line.new.self c.told-self-inside.result) c.line.result c.answered-answer.result same c.answered-answer.ensures (ap (held_of c.line.new.self) (sym c.told-self-inside.ensures)) found)

pub returns-clause-device : goal.returns-clause-device
returns-clause-device g c = fails_answer c.line.result c.answered-answer.result _ _ c.answered-answer.ensures c.line.ensures.device

pub returns-clause-given : goal.returns-clause-given
returns-clause-given g c = ok_answer _ c.line.result c.answered-answer.result c.answered-answer.ensures c.line.ensures.given
