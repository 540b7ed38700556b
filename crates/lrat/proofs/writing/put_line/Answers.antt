use Rattle.std.proofs.Common.{◌≡◌, ℕ, ℤ, List, ◌++◌, append_assoc}
use Rattle.std.specs.Prelude.{codes, decimal}
use Rattle.std.specs.Fmt.{signed_decimal}
use Rattle.base.specs.Devices.{PutsBeginning}
use Rattle.lrat.specs.Texts.{Puts, line_text, spaced}
use Rattle.lrat.specs.declared.line.Line.TheVariants.{Add, Delete}
use Rattle.lrat.proofs.PutLaws.{begins_behind, begins_more, puts_err, puts_then}
use Rattle.lrat.proofs.writing.put_line.Goals as goal

-- the texts that are put, one after another
abbrev id_text : ℕ → List ℕ
id_text id = decimal id ++ codes " "

abbrev clause_text : List ℤ → List ℕ
clause_text clause = spaced signed_decimal clause ++ codes "0 "

abbrev hints_text : List ℤ → List ℕ
hints_text hints = spaced signed_decimal hints ++ codes "0\n"

added : (id : ℕ) (clause hints : List ℤ) → id_text id ++ (clause_text clause ++ hints_text hints) ≡ line_text (Add id clause hints)
added id clause hints = simp append_assoc

deleted : (id : ℕ) (ids : List ℕ) → (decimal id ++ codes " d ") ++ (spaced decimal ids ++ codes "0\n") ≡ line_text (Delete id ids)
deleted id ids = simp append_assoc

pub returns-in_err-put_number-in-Add-clause-puts : goal.returns-in_err-put_number-in-Add-clause-puts
returns-in_err-put_number-in-Add-clause-puts g c =
    let id = c.in-Add.id in
    let clause = c.in-Add.clause in
    let hints = c.in-Add.hints in
    let before = g.W.Sink.contents c.args.out.now in
    let after = g.W.Sink.contents c.put_number.new.out in
    rw (c.in-Add.is, ← added id clause hints)
    (puts_err c.from_residual.result before after _ c.from_residual.ensures.0 (begins_more before after (id_text id) (clause_text clause ++ hints_text hints) c.in_err-put_number-in-Add.ensures.puts))

pub returns-in_err-put_numbers-in-Add-clause-puts : goal.returns-in_err-put_numbers-in-Add-clause-puts
returns-in_err-put_numbers-in-Add-clause-puts g c =
    let id = c.in-Add.id in
    let clause = c.in-Add.clause in
    let hints = c.in-Add.hints in
    let before = g.W.Sink.contents c.args.out.now in
    let between = g.W.Sink.contents c.put_number.new.out in
    let after = g.W.Sink.contents c.put_numbers.new.out in
    let begun : PutsBeginning between after (clause_text clause) = rw c.as_slice.ensures at c.in_err-put_numbers-in-Add.ensures.puts in
    rw (c.in-Add.is, ← added id clause hints)
    (puts_err c.from_residual-in_err-put_numbers-in-Add.result before after _ c.from_residual-in_err-put_numbers-in-Add.ensures.0
    (begins_behind before between after (id_text id) (clause_text clause ++ hints_text hints) c.in_ok-put_number-in-Add.ensures.puts (begins_more between after (clause_text clause) (hints_text hints) begun)))

pub returns-in_ok-put_numbers-in-Add-clause-puts : goal.returns-in_ok-put_numbers-in-Add-clause-puts
returns-in_ok-put_numbers-in-Add-clause-puts g c =
    let id = c.in-Add.id in
    let clause = c.in-Add.clause in
    let hints = c.in-Add.hints in
    let before = g.W.Sink.contents c.args.out.now in
    let one = g.W.Sink.contents c.put_number.new.out in
    let two = g.W.Sink.contents c.put_numbers.new.out in
    let after = g.W.Sink.contents c.put_numbers-in-Add.new.out in
    let put = rw c.as_slice.ensures at c.in_ok-put_numbers-in-Add.ensures.puts in
    let last : Puts c.put_numbers-in-Add.result two after (hints_text hints) = rw c.as_slice-in-Add.ensures at c.put_numbers-in-Add.ensures.puts in
    rw (c.in-Add.is, ← added id clause hints)
    (puts_then c.put_numbers-in-Add.result before one after (id_text id) (clause_text clause ++ hints_text hints) c.in_ok-put_number-in-Add.ensures.puts
    (puts_then c.put_numbers-in-Add.result one two after (clause_text clause) (hints_text hints) put last))

pub returns-in_err-put_number-in-Delete-clause-puts : goal.returns-in_err-put_number-in-Delete-clause-puts
returns-in_err-put_number-in-Delete-clause-puts g c =
    let id = c.in-Delete.id in
    let ids = c.in-Delete.ids in
    let before = g.W.Sink.contents c.args.out.now in
    let after = g.W.Sink.contents c.put_number-in-Delete.new.out in
    rw (c.in-Delete.is, ← deleted id ids)
    (puts_err c.from_residual-in_err-put_number-in-Delete.result before after _ c.from_residual-in_err-put_number-in-Delete.ensures.0
    (begins_more before after (decimal id ++ codes " d ") (spaced decimal ids ++ codes "0\n") c.in_err-put_number-in-Delete.ensures.puts))

pub returns-in_ok-put_number-in-Delete-clause-puts : goal.returns-in_ok-put_number-in-Delete-clause-puts
returns-in_ok-put_number-in-Delete-clause-puts g c =
    let id = c.in-Delete.id in
    let ids = c.in-Delete.ids in
    let before = g.W.Sink.contents c.args.out.now in
    let between = g.W.Sink.contents c.put_number-in-Delete.new.out in
    let after = g.W.Sink.contents c.put_numbers-in-Delete.new.out in
    let last : Puts c.put_numbers-in-Delete.result between after (spaced decimal ids ++ codes "0\n") = rw c.as_slice-in-Delete.ensures at c.put_numbers-in-Delete.ensures.puts in
    rw (c.in-Delete.is, ← deleted id ids)
    (puts_then c.put_numbers-in-Delete.result before between after (decimal id ++ codes " d ") (spaced decimal ids ++ codes "0\n") c.in_ok-put_number-in-Delete.ensures.puts last)
