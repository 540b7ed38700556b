use Rattle.std.proofs.Common.{◌++◌, length}
use Rattle.std.specs.Prelude.{codes, decimal, flat_map}
use Rattle.std.specs.Io.KnownBytes.{Appends}
use Rattle.std.proofs.lemmas.List.{append-nil}
use Rattle.lrat.proofs.PutLaws.{puts_of, puts_then}
use Rattle.certificate.specs.Writing.{literal_text}
use Rattle.certificate.proofs.PutLaws.{stops, puts_as, clause_parts}
use Rattle.certificate.proofs.writing.put_clause.Goals as goal

pub returns-in_err-put_literals-clause-puts : goal.returns-in_err-put_literals-clause-puts
returns-in_err-put_literals-clause-puts g c =
    let clause = c.args.clause.now in
    let r = c.from_residual-in_err-put_literals.result in
    let before = g.W.Sink.contents c.args.out.now in
    let one = g.W.Sink.contents c.put_number.new.out in
    let two = g.W.Sink.contents c.put_literals.new.out in
    let count = decimal (length clause) in
    let literals = flat_map literal_text clause in
    let first : Appends before one count = rw (append-nil count) at c.in_ok-put_number.ensures.puts in
    puts_as r before two _ _ (clause_parts clause)
    (puts_then r before one two count (literals ++ codes "\n") first (stops r one two literals (codes "\n") c.from_residual-in_err-put_literals.ensures.0 c.in_err-put_literals.ensures.puts))

pub returns-clause-puts : goal.returns-clause-puts
returns-clause-puts g c =
    let clause = c.args.clause.now in
    let r = c.put_all.result in
    let before = g.W.Sink.contents c.args.out.now in
    let one = g.W.Sink.contents c.put_number.new.out in
    let two = g.W.Sink.contents c.put_literals.new.out in
    let after = g.W.Sink.contents c.put_all.new.out in
    let count = decimal (length clause) in
    let literals = flat_map literal_text clause in
    let first : Appends before one count = rw (append-nil count) at c.in_ok-put_number.ensures.puts in
    puts_as r before after _ _ (clause_parts clause)
    (puts_then r before one after count (literals ++ codes "\n") first
    (puts_then r one two after literals (codes "\n") c.in_ok-put_literals.ensures.puts (puts_of r two after (codes "\n") c.put_all.ensures.whole c.put_all.ensures.beginning)))
