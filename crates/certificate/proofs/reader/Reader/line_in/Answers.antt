use Rattle.std.proofs.Common.{rules, ◌≡◌, None, ap, sym}
use Rattle.certificate.specs.Held.{held_of}
use Rattle.certificate.proofs.StreamLaws.{buffer_found, fails_answer, held_open, refused_again}
use Rattle.certificate.proofs.reader.Reader.line_in.Goals as goal

pub returns-in-Some-clause-says : goal.returns-in-Some-clause-says
returns-in-Some-clause-says g c text later left =
    (later, left, refused_again (g.L.BufferKind.at c.args.context) c.requires.line c.self.inside.lines c.self.inside.refusal c.in-Some.refusal c.args.self.now later c.self.view_is c.in-Some.is)

pub returns-clause-says : goal.returns-clause-says
returns-clause-says g c text later left =
    let (ys, before, found) = c.line_into.ensures.says text later left in
    let none : c.self.inside.refusal ≡ None = search rules in
    let same = held_open c.self.inside.lines c.self.inside.refusal c.args.self.now c.self.view_is none in
    (ys, before, buffer_found g.L.BufferKind.seen (g.L.BufferKind.at c.args.context) c.self.inside.lines c.args.self.now.held c.line_into.new.self ys later (held_of c.line_into.new.self c.told-self-inside.result) c.line_into.result c.answered-answer.result c.line_into.new.buffer same c.answered-answer.ensures (ap (held_of c.line_into.new.self) (sym c.told-self-inside.ensures)) found)

pub returns-clause-device : goal.returns-clause-device
returns-clause-device g c = fails_answer c.line_into.result c.answered-answer.result _ _ c.answered-answer.ensures c.line_into.ensures.device
