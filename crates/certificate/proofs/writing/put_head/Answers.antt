use Rattle.std.proofs.Common.{◌++◌, length}
use Rattle.std.specs.Prelude.{codes, flat_map}
use Rattle.std.specs.Io.KnownBytes.{Appends}
use Rattle.base.specs.Devices.{PutsBeginning}
use Rattle.graph.specs.Circuits.{property_text}
use Rattle.lrat.specs.Texts.{Puts}
use Rattle.lrat.proofs.PutLaws.{puts_then}
use Rattle.certificate.specs.Texts.{first_line, clause_line, number_line}
use Rattle.certificate.proofs.PutLaws.{stops, puts_as, head_parts}
use Rattle.certificate.proofs.writing.put_head.Goals as goal

pub returns-in_err-put_first_line-clause-puts : goal.returns-in_err-put_first_line-clause-puts
returns-in_err-put_first_line-clause-puts g c =
    let certificate = c.args.certificate.now in
    let clauses = flat_map clause_line certificate.invariant in
    let count = number_line (length certificate.invariant) in
    let property = property_text certificate.property ++ codes "\n" in
    let version = first_line certificate.lemmas in
    let before = g.W.Sink.contents c.args.out.now in
    let one = g.W.Sink.contents c.put_first_line.new.out in
    let r = c.from_residual.result in
    puts_as r before one _ _ (head_parts certificate) (stops r before one version (property ++ (count ++ clauses)) c.from_residual.ensures.0 c.in_err-put_first_line.ensures.puts)

pub returns-in_err-put_property-clause-puts : goal.returns-in_err-put_property-clause-puts
returns-in_err-put_property-clause-puts g c =
    let certificate = c.args.certificate.now in
    let clauses = flat_map clause_line certificate.invariant in
    let count = number_line (length certificate.invariant) in
    let property = property_text certificate.property ++ codes "\n" in
    let version = first_line certificate.lemmas in
    let before = g.W.Sink.contents c.args.out.now in
    let one = g.W.Sink.contents c.put_first_line.new.out in
    let two = g.W.Sink.contents c.put_property.new.out in
    let r = c.from_residual-in_err-put_property.result in
    puts_as r before two _ _ (head_parts certificate)
    (puts_then r before one two version (property ++ (count ++ clauses)) c.in_ok-put_first_line.ensures.puts
    (stops r one two property (count ++ clauses) c.from_residual-in_err-put_property.ensures.0 c.in_err-put_property.ensures.puts))

pub returns-in_err-put_number-clause-puts : goal.returns-in_err-put_number-clause-puts
returns-in_err-put_number-clause-puts g c =
    let certificate = c.args.certificate.now in
    let clauses = flat_map clause_line certificate.invariant in
    let count = number_line (length certificate.invariant) in
    let property = property_text certificate.property ++ codes "\n" in
    let version = first_line certificate.lemmas in
    let before = g.W.Sink.contents c.args.out.now in
    let one = g.W.Sink.contents c.put_first_line.new.out in
    let two = g.W.Sink.contents c.put_property.new.out in
    let three = g.W.Sink.contents c.put_number.new.out in
    let r = c.from_residual-in_err-put_number.result in
    let begun : PutsBeginning two three count = rw c.as_slice-clauses.ensures at c.in_err-put_number.ensures.puts in
    puts_as r before three _ _ (head_parts certificate)
    (puts_then r before one three version (property ++ (count ++ clauses)) c.in_ok-put_first_line.ensures.puts
    (puts_then r one two three property (count ++ clauses) c.in_ok-put_property.ensures.puts
    (stops r two three count clauses c.from_residual-in_err-put_number.ensures.0 begun)))

pub returns-clause-puts : goal.returns-clause-puts
returns-clause-puts g c =
    let certificate = c.args.certificate.now in
    let clauses = flat_map clause_line certificate.invariant in
    let count = number_line (length certificate.invariant) in
    let property = property_text certificate.property ++ codes "\n" in
    let version = first_line certificate.lemmas in
    let before = g.W.Sink.contents c.args.out.now in
    let one = g.W.Sink.contents c.put_first_line.new.out in
    let two = g.W.Sink.contents c.put_property.new.out in
    let three = g.W.Sink.contents c.put_number.new.out in
    let after = g.W.Sink.contents c.put_clauses.new.out in
    let r = c.put_clauses.result in
    let counted : Appends two three count = rw c.as_slice-clauses.ensures at c.in_ok-put_number.ensures.puts in
    let last : Puts r three after clauses = rw c.as_slice-clauses.ensures at c.put_clauses.ensures.puts in
    puts_as r before after _ _ (head_parts certificate)
    (puts_then r before one after version (property ++ (count ++ clauses)) c.in_ok-put_first_line.ensures.puts
    (puts_then r one two after property (count ++ clauses) c.in_ok-put_property.ensures.puts
    (puts_then r two three after count clauses counted last)))
