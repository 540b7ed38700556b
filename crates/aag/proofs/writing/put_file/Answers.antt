use Rattle.std.proofs.Common.{subst}
use Rattle.std.specs.Prelude.{flat_map}
use Rattle.base.specs.Devices.{Puts}
use Rattle.base.proofs.Putting.{puts_then}
use Rattle.aag.specs.Tail.{symbol_line}
use Rattle.aag.proofs.PieceLaws.{file_is, first_fails}
use Rattle.aag.proofs.writing.put_file.Goals as goal

pub returns-in_err-put-clause-puts : goal.returns-in_err-put-clause-puts
returns-in_err-put-clause-puts g c =
    let text = g.C.Piece.text c.args.parts.now in
    let r = c.from_residual in
    subst (Puts r.result _ _) (file_is text c.args.symbols.now _)
    (first_fails r.result _ _ text _ r.ensures.0 c.in_err-put.ensures.puts)

pub returns-in_err-put_each-clause-puts : goal.returns-in_err-put_each-clause-puts
returns-in_err-put_each-clause-puts g c =
    let text = g.C.Piece.text c.args.parts.now in
    let r = c.from_residual-in_err-put_each in
    subst (Puts r.result _ _) (file_is text c.args.symbols.now _)
    (puts_then r.result _ (g.W.Sink.contents c.put.new.out) _ text _ c.in_ok-put.ensures.puts
    (first_fails r.result _ _ (flat_map symbol_line c.args.symbols.now) _ r.ensures.0 c.in_err-put_each.ensures.puts))

pub returns-clause-puts : goal.returns-clause-puts
returns-clause-puts g c =
    let text = g.C.Piece.text c.args.parts.now in
    let r = c.put_comment in
    subst (Puts r.result _ _) (file_is text c.args.symbols.now _)
    (puts_then r.result _ (g.W.Sink.contents c.put.new.out) _ text _ c.in_ok-put.ensures.puts
    (puts_then r.result _ (g.W.Sink.contents c.put_each.new.out) _ (flat_map symbol_line c.args.symbols.now) _ c.in_ok-put_each.ensures.puts r.ensures.puts))
