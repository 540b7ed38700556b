use Rattle.std.proofs.Common.{rules, ◌≡◌, None, ap, sym}
use Rattle.certificate.specs.Held.{held_of}
use Rattle.pieces.specs.Lines.{end_at}
use Rattle.certificate.proofs.StreamLaws.{end_refused_again, fails_answer, held_open, line_found}
use Rattle.certificate.proofs.reader.Reader.end.Goals as goal

pub returns-in-Some-clause-says : goal.returns-in-Some-clause-says
returns-in-Some-clause-says g c text later left =
    (later, left, end_refused_again c.self.inside.lines c.self.inside.refusal c.in-Some.refusal c.args.self.now later c.self.view_is c.in-Some.is)

pub returns-clause-says : goal.returns-clause-says
returns-clause-says g c text later left =
    let (ys, before, found) = c.end.ensures.says text later left in
    let none : c.self.inside.refusal ≡ None = search rules in
    let same = held_open c.self.inside.lines c.self.inside.refusal c.args.self.now c.self.view_is none in
    (ys, before, line_found end_at c.self.inside.lines c.args.self.now.held c.end.new.self ys later (held_of c.end.new.self c.told-self-inside.result) c.end.result c.answered-answer.result same c.answered-answer.ensures (ap (held_of c.end.new.self) (sym c.told-self-inside.ensures)) found)

pub returns-clause-device : goal.returns-clause-device
returns-clause-device g c = fails_answer c.end.result c.answered-answer.result _ _ c.answered-answer.ensures c.end.ensures.device
