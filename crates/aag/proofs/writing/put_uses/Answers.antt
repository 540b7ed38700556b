use Rattle.std.proofs.Common.{subst}
use Rattle.std.specs.Prelude.{flat_map}
use Rattle.base.specs.Devices.{Puts}
use Rattle.base.proofs.Putting.{puts_then}
use Rattle.aag.specs.Writing.{literal_line, size_line}
use Rattle.aag.proofs.PieceLaws.{first_fails, justice_lines, uses_is}
use Rattle.aag.proofs.writing.put_uses.Goals as goal

pub returns-in_err-put_each-clause-puts : goal.returns-in_err-put_each-clause-puts
returns-in_err-put_each-clause-puts g c =
    let m = c.args.parts.now in
    let r = c.from_residual in
    subst (Puts r.result _ _) (uses_is m)
    (first_fails r.result _ _ (flat_map literal_line m.outputs) _ r.ensures.0 (rw c.as_slice.ensures at c.in_err-put_each.ensures.puts))

pub returns-in_err-put_each-2-clause-puts : goal.returns-in_err-put_each-2-clause-puts
returns-in_err-put_each-2-clause-puts g c =
    let m = c.args.parts.now in
    let r = c.from_residual-in_err-put_each-2 in
    subst (Puts r.result _ _) (uses_is m)
    (puts_then r.result _ (g.W.Sink.contents c.put_each.new.out) _ (flat_map literal_line m.outputs) _ (rw c.as_slice.ensures at c.in_ok-put_each.ensures.puts)
    (first_fails r.result _ _ (flat_map literal_line m.bad) _ r.ensures.0 (rw c.as_slice-2.ensures at c.in_err-put_each-2.ensures.puts)))

pub returns-in_err-put_each-3-clause-puts : goal.returns-in_err-put_each-3-clause-puts
returns-in_err-put_each-3-clause-puts g c =
    let m = c.args.parts.now in
    let r = c.from_residual-in_err-put_each-3 in
    subst (Puts r.result _ _) (uses_is m)
    (puts_then r.result _ (g.W.Sink.contents c.put_each.new.out) _ (flat_map literal_line m.outputs) _ (rw c.as_slice.ensures at c.in_ok-put_each.ensures.puts)
    (puts_then r.result _ (g.W.Sink.contents c.put_each-2.new.out) _ (flat_map literal_line m.bad) _ (rw c.as_slice-2.ensures at c.in_ok-put_each-2.ensures.puts)
    (first_fails r.result _ _ (flat_map literal_line m.constraints) _ r.ensures.0 (rw c.as_slice-3.ensures at c.in_err-put_each-3.ensures.puts))))

pub returns-in_err-put_each-4-clause-puts : goal.returns-in_err-put_each-4-clause-puts
returns-in_err-put_each-4-clause-puts g c =
    let m = c.args.parts.now in
    let r = c.from_residual-in_err-put_each-4 in
    subst (Puts r.result _ _) (uses_is m)
    (puts_then r.result _ (g.W.Sink.contents c.put_each.new.out) _ (flat_map literal_line m.outputs) _ (rw c.as_slice.ensures at c.in_ok-put_each.ensures.puts)
    (puts_then r.result _ (g.W.Sink.contents c.put_each-2.new.out) _ (flat_map literal_line m.bad) _ (rw c.as_slice-2.ensures at c.in_ok-put_each-2.ensures.puts)
    (puts_then r.result _ (g.W.Sink.contents c.put_each-3.new.out) _ (flat_map literal_line m.constraints) _ (rw c.as_slice-3.ensures at c.in_ok-put_each-3.ensures.puts)
    (first_fails r.result _ _ (flat_map size_line m.justice) _ r.ensures.0 (rw c.as_slice-4.ensures at c.in_err-put_each-4.ensures.puts)))))

pub returns-in_err-put_each-5-clause-puts : goal.returns-in_err-put_each-5-clause-puts
returns-in_err-put_each-5-clause-puts g c =
    let m = c.args.parts.now in
    let r = c.from_residual-in_err-put_each-5 in
    subst (Puts r.result _ _) (uses_is m)
    (puts_then r.result _ (g.W.Sink.contents c.put_each.new.out) _ (flat_map literal_line m.outputs) _ (rw c.as_slice.ensures at c.in_ok-put_each.ensures.puts)
    (puts_then r.result _ (g.W.Sink.contents c.put_each-2.new.out) _ (flat_map literal_line m.bad) _ (rw c.as_slice-2.ensures at c.in_ok-put_each-2.ensures.puts)
    (puts_then r.result _ (g.W.Sink.contents c.put_each-3.new.out) _ (flat_map literal_line m.constraints) _ (rw c.as_slice-3.ensures at c.in_ok-put_each-3.ensures.puts)
    (puts_then r.result _ (g.W.Sink.contents c.put_each-4.new.out) _ (flat_map size_line m.justice) _ (rw c.as_slice-4.ensures at c.in_ok-put_each-4.ensures.puts)
    (first_fails r.result _ _ (justice_lines m.justice) _ r.ensures.0 (rw c.as_slice-5.ensures at c.in_err-put_each-5.ensures.puts))))))

pub returns-clause-puts : goal.returns-clause-puts
returns-clause-puts g c =
    let m = c.args.parts.now in
    let r = c.put_each-6 in
    subst (Puts r.result _ _) (uses_is m)
    (puts_then r.result _ (g.W.Sink.contents c.put_each.new.out) _ (flat_map literal_line m.outputs) _ (rw c.as_slice.ensures at c.in_ok-put_each.ensures.puts)
    (puts_then r.result _ (g.W.Sink.contents c.put_each-2.new.out) _ (flat_map literal_line m.bad) _ (rw c.as_slice-2.ensures at c.in_ok-put_each-2.ensures.puts)
    (puts_then r.result _ (g.W.Sink.contents c.put_each-3.new.out) _ (flat_map literal_line m.constraints) _ (rw c.as_slice-3.ensures at c.in_ok-put_each-3.ensures.puts)
    (puts_then r.result _ (g.W.Sink.contents c.put_each-4.new.out) _ (flat_map size_line m.justice) _ (rw c.as_slice-4.ensures at c.in_ok-put_each-4.ensures.puts)
    (puts_then r.result _ (g.W.Sink.contents c.put_each-5.new.out) _ (justice_lines m.justice) _ (rw c.as_slice-5.ensures at c.in_ok-put_each-5.ensures.puts) (rw c.as_slice-6.ensures at r.ensures.puts))))))
