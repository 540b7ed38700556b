use Rattle.std.proofs.Common.{◌≡◌, ◌∷◌, [], ◌++◌, ◌∙◌}
use Rattle.std.specs.Prelude.{codes, decimal}
use Rattle.graph.specs.Circuits.{position_of}
use Rattle.base.specs.Devices.{PutsBeginning}
use Rattle.std.specs.Io.KnownBytes.{Appends}
use Rattle.lrat.specs.Texts.{Puts}
use Rattle.lrat.proofs.PutLaws.{puts_then}
use Rattle.certificate.specs.Writing.{letter_of}
use Rattle.certificate.proofs.PutLaws.{stops, puts_as, property_parts}
use Rattle.certificate.proofs.writing.put_property.Goals as goal

pub returns-in_err-put_all-clause-puts : goal.returns-in_err-put_all-clause-puts
returns-in_err-put_all-clause-puts g c =
    let p = c.args.property in
    let r = c.from_residual.result in
    let before = g.W.Sink.contents c.args.out.now in
    let after = g.W.Sink.contents c.put_all.new.out in
    let begun : PutsBeginning before after (letter_of p ∷ []) = rw c.letter.ensures at c.in_err-put_all.ensures.beginning in
    puts_as r before after _ _ (property_parts p) (stops r before after (letter_of p ∷ []) (decimal (position_of p) ++ codes "\n") c.from_residual.ensures.0 begun)

pub returns-clause-puts : goal.returns-clause-puts
returns-clause-puts g c =
    let p = c.args.property in
    let r = c.put_number.result in
    let before = g.W.Sink.contents c.args.out.now in
    let between = g.W.Sink.contents c.put_all.new.out in
    let after = g.W.Sink.contents c.put_number.new.out in
    let first : Appends before between (letter_of p ∷ []) = rw c.letter.ensures at c.in_ok-put_all.ensures.whole in
    let number : c.from.result ≡ position_of p = c.from.ensures ∙ c.position.ensures in
    let last : Puts r between after (decimal (position_of p) ++ codes "\n") = rw number at c.put_number.ensures.puts in
    puts_as r before after _ _ (property_parts p) (puts_then r before between after (letter_of p ∷ []) (decimal (position_of p) ++ codes "\n") first last)
