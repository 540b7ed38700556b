use Rattle.std.proofs.Common.{◌<◌, length, arith, subst, sym, ◌∙◌}
use Rattle.std.proofs.lemmas.Bool.{eqb-false}
use Rattle.std.specs.Prelude.{codes, flat_map}
use Rattle.base.specs.Devices.{Puts}
use Rattle.base.proofs.Putting.{puts_then}
use Rattle.graph.specs.Circuits.{value_of}
use Rattle.stimulus.specs.Texts.{value_text}
use Rattle.stimulus.proofs.RowLaws.{literal_field}
use Rattle.stimulus.proofs.WriteLaws.{first_fails}
use Rattle.stimulus.proofs.table.put_literal_field.Goals as goal

pub returns-in_err-put_all-clause-puts : goal.returns-in_err-put_all-clause-puts
returns-in_err-put_all-clause-puts g c = λ w is_w.
    let lits = c.args.lits.now in
    let some : 0 < length c.args.lits.now = omega (arith, eqb-false (length c.args.lits.now) 0 (sym c.is_empty.ensures ∙ c.if-is_empty.false)) in
    let r = c.from_residual in
    subst (Puts r.result (g.W.Sink.contents c.args.out.now) (g.W.Sink.contents c.put_all-2.new.out)) (literal_field w lits some)
    (first_fails r.result _ _ (codes " ") (flat_map (λ a. value_text (value_of w a)) lits) r.ensures.0 c.in_err-put_all.ensures.beginning)

pub returns-clause-puts : goal.returns-clause-puts
returns-clause-puts g c = λ w is_w.
    let lits = c.args.lits.now in
    let some : 0 < length c.args.lits.now = omega (arith, eqb-false (length c.args.lits.now) 0 (sym c.is_empty.ensures ∙ c.if-is_empty.false)) in
    let r = c.put_literals in
    subst (Puts r.result (g.W.Sink.contents c.args.out.now) (g.W.Sink.contents c.put_literals.new.out)) (literal_field w lits some)
    (puts_then r.result _ (g.W.Sink.contents c.put_all-2.new.out) _ (codes " ") (flat_map (λ a. value_text (value_of w a)) lits) c.in_ok-put_all.ensures.whole (r.ensures.puts w is_w))
