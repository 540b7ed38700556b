use Rattle.std.proofs.Common.{◌++◌, length}
use Rattle.lrat.specs.Texts.{Puts}
use Rattle.lrat.proofs.PutLaws.{puts_then}
use Rattle.certificate.specs.Texts.{lemma_text, sections_text}
use Rattle.certificate.specs.Writing.{head_text}
use Rattle.certificate.proofs.PutLaws.{stops, puts_as, certificate_parts}
use Rattle.certificate.proofs.writing.put_certificate.Goals as goal

pub returns-in_err-put_head-clause-puts : goal.returns-in_err-put_head-clause-puts
returns-in_err-put_head-clause-puts g c =
    let certificate = c.args.certificate.now in
    let r = c.from_residual.result in
    let lemmas = lemma_text certificate.lemmas in
    let sections = sections_text (length certificate.invariant) certificate.sections in
    let before = g.W.Sink.contents c.args.out.now in
    let one = g.W.Sink.contents c.put_head.new.out in
    puts_as r before one _ _ (certificate_parts certificate) (stops r before one (head_text certificate) (lemmas ++ sections) c.from_residual.ensures.0 c.in_err-put_head.ensures.puts)

pub returns-in_err-put_lemmas-clause-puts : goal.returns-in_err-put_lemmas-clause-puts
returns-in_err-put_lemmas-clause-puts g c =
    let certificate = c.args.certificate.now in
    let r = c.from_residual-in_err-put_lemmas.result in
    let lemmas = lemma_text certificate.lemmas in
    let sections = sections_text (length certificate.invariant) certificate.sections in
    let before = g.W.Sink.contents c.args.out.now in
    let one = g.W.Sink.contents c.put_head.new.out in
    let two = g.W.Sink.contents c.put_lemmas.new.out in
    puts_as r before two _ _ (certificate_parts certificate)
    (puts_then r before one two (head_text certificate) (lemmas ++ sections) c.in_ok-put_head.ensures.puts
    (stops r one two lemmas sections c.from_residual-in_err-put_lemmas.ensures.0 c.in_err-put_lemmas.ensures.puts))

pub returns-clause-puts : goal.returns-clause-puts
returns-clause-puts g c =
    let certificate = c.args.certificate.now in
    let r = c.put_sections.result in
    let lemmas = lemma_text certificate.lemmas in
    let sections = sections_text (length certificate.invariant) certificate.sections in
    let before = g.W.Sink.contents c.args.out.now in
    let one = g.W.Sink.contents c.put_head.new.out in
    let two = g.W.Sink.contents c.put_lemmas.new.out in
    let after = g.W.Sink.contents c.put_sections.new.out in
    let last : Puts r two after sections = rw (c.as_slice-clauses.ensures, c.as_slice.ensures) at c.put_sections.ensures.puts in
    puts_as r before after _ _ (certificate_parts certificate)
    (puts_then r before one after (head_text certificate) (lemmas ++ sections) c.in_ok-put_head.ensures.puts
    (puts_then r one two after lemmas sections c.in_ok-put_lemmas.ensures.puts last))
