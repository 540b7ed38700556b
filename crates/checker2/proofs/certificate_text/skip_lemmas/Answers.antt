use Rattle.std.proofs.Common.{◌++◌, Ok, subst, sym}
use Rattle.certificate.specs.Reading.{lemmas_at}
use Rattle.certificate.specs.Streams.{FindsWith}
use Rattle.checker2.proofs.TextParts.{no_lemmas, some_lemmas}
use Rattle.checker2.proofs.certificate_text.skip_lemmas.Goals as goal

pub returns-in-One-clause-says : goal.returns-in-One-clause-says
returns-in-One-clause-says g c text later left = (
  later,
  left,
  subst (λ v. FindsWith (λ lemmas x. Unit {0}) (lemmas_at v (c.args.reader.now.held ++ later)) (Ok (tt {0})) c.args.reader.now.held later) (sym c.in-One.is)
      (no_lemmas (λ lemmas x. Unit {0}) (tt {0}) c.args.reader.now.held later tt),
)

pub returns-in-Two-clause-says : goal.returns-in-Two-clause-says
returns-in-Two-clause-says g c text later left =
    let (ys, before, lines) = c.skip_section.ensures.says text later left in (
      ys,
      before,
      subst (λ v. FindsWith (λ lemmas x. Unit {0}) (lemmas_at v (c.args.reader.now.held ++ ys)) c.skip_section.result c.skip_section.new.reader.held later) (sym c.in-Two.is)
          (some_lemmas (λ lines x. Unit {0}) (λ lemmas x. Unit {0}) (c.args.reader.now.held ++ ys) c.skip_section.new.reader.held later c.skip_section.result (λ lines x u. tt) lines),
    )
