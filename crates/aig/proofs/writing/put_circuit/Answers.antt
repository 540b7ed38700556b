use Rattle.std.proofs.Common.{subst}
use Rattle.std.specs.Prelude.{codes, flat_map}
use Rattle.base.specs.Devices.{Puts}
use Rattle.base.proofs.Putting.{puts_then}
use Rattle.aag.specs.Writing.{header_line, use_lines}
use Rattle.aag.proofs.PieceLaws.{first_fails}
use Rattle.aig.specs.Writing.{latch_line}
use Rattle.aig.proofs.PieceLaws.{circuit_is}
use Rattle.aig.proofs.writing.put_circuit.Goals as goal

pub returns-in_err-put_header-clause-puts : goal.returns-in_err-put_header-clause-puts
returns-in_err-put_header-clause-puts g c =
    let m = c.args.parts.now in
    let r = c.from_residual in
    subst (Puts r.result _ _) (circuit_is m)
    (first_fails r.result _ _ (header_line (codes "aig ") m) _ r.ensures.0 c.in_err-put_header.ensures.puts)

pub returns-in_err-put_each-clause-puts : goal.returns-in_err-put_each-clause-puts
returns-in_err-put_each-clause-puts g c =
    let m = c.args.parts.now in
    let r = c.from_residual-in_err-put_each in
    subst (Puts r.result _ _) (circuit_is m)
    (puts_then r.result _ (g.W.Sink.contents c.put_header.new.out) _ (header_line (codes "aig ") m) _ c.in_ok-put_header.ensures.puts
    (first_fails r.result _ _ (flat_map latch_line m.latches) _ r.ensures.0 (rw c.as_slice.ensures at c.in_err-put_each.ensures.puts)))

pub returns-in_err-put_uses-clause-puts : goal.returns-in_err-put_uses-clause-puts
returns-in_err-put_uses-clause-puts g c =
    let m = c.args.parts.now in
    let r = c.from_residual-in_err-put_uses in
    subst (Puts r.result _ _) (circuit_is m)
    (puts_then r.result _ (g.W.Sink.contents c.put_header.new.out) _ (header_line (codes "aig ") m) _ c.in_ok-put_header.ensures.puts
    (puts_then r.result _ (g.W.Sink.contents c.put_each.new.out) _ (flat_map latch_line m.latches) _ (rw c.as_slice.ensures at c.in_ok-put_each.ensures.puts)
    (first_fails r.result _ _ (use_lines m) _ r.ensures.0 c.in_err-put_uses.ensures.puts)))

pub returns-clause-puts : goal.returns-clause-puts
returns-clause-puts g c =
    let m = c.args.parts.now in
    let r = c.put_blocks in
    subst (Puts r.result _ _) (circuit_is m)
    (puts_then r.result _ (g.W.Sink.contents c.put_header.new.out) _ (header_line (codes "aig ") m) _ c.in_ok-put_header.ensures.puts
    (puts_then r.result _ (g.W.Sink.contents c.put_each.new.out) _ (flat_map latch_line m.latches) _ (rw c.as_slice.ensures at c.in_ok-put_each.ensures.puts)
    (puts_then r.result _ (g.W.Sink.contents c.put_uses.new.out) _ (use_lines m) _ c.in_ok-put_uses.ensures.puts (rw c.as_slice-2.ensures at r.ensures.puts))))
