use Rattle.std.proofs.Common.{◌++◌, Ok, None, ap, subst, sym}
use Rattle.lrat.specs.Courses.{Course}
use Rattle.certificate.specs.Reading.{lemmas_at}
use Rattle.certificate.specs.Streams.{FindsWith}
use Rattle.checker2.specs.Streamed.{AreLemmas, AreTaken}
use Rattle.checker2.proofs.Streaming.{taken_from}
use Rattle.checker2.proofs.TextParts.{no_lemmas, some_lemmas}
use Rattle.checker2.proofs.certificate_text.share_lemmas.Goals as goal

pub returns-in-One-clause-says : goal.returns-in-One-clause-says
returns-in-One-clause-says g c text later left = (
  later,
  left,
  λ m inv begun.
      let b = c.args.refuter.now.base in
      subst (λ v. FindsWith (AreTaken m inv b) (lemmas_at v (c.args.reader.now.held ++ later)) (Ok None) c.args.reader.now.held later) (sym c.in-One.is)
      (no_lemmas (AreTaken m inv b) None c.args.reader.now.held later (ap (λ (r : Course). r.base) begun)),
)

pub returns-in-Two-clause-says : goal.returns-in-Two-clause-says
returns-in-Two-clause-says g c text later left =
    let r = c.args.refuter.now in
    let b = c.take_lemmas.new.refuter.base in
    let (ys, before, taken) = c.take_lemmas.ensures.says text later left in (
      ys,
      before,
      λ m inv begun.
          subst (λ v. FindsWith (AreTaken m inv b) (lemmas_at v (c.args.reader.now.held ++ ys)) c.take_lemmas.result c.take_lemmas.new.reader.held later) (sym c.in-Two.is)
          (some_lemmas (AreLemmas r.base.vars r.stage b) (AreTaken m inv b) (c.args.reader.now.held ++ ys) c.take_lemmas.new.reader.held later c.take_lemmas.result (taken_from m inv r b begun) taken),
    )
