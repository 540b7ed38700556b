use Rattle.std.proofs.Common.{rules, ◌≡◌, subst}
use Rattle.cdcl_log.specs.Closings.{IsClosingOf}
use Rattle.certify.proofs.Closed.{one_closed}
use Rattle.certify.proofs.closed_cases.ClosedCases.close.Goals as goal

pub returns-in_ok-push-in-Closing-2-clause-closed : goal.returns-in_ok-push-in-Closing-2-clause-closed
returns-in_ok-push-in-Closing-2-clause-closed c =
    let shown : IsClosingOf c.show_part.new.self c.as_slice.result.now c.in-Closing.closing = rw c.in-Closing.is at c.in_ok-closing.ensures.lawful in
    let units : c.as_slice.result.now ≡ c.args.units = search rules in
    one_closed c.args.self.now (record { refuter = c.show_part.new.self; units = c.push.new.self; closings = c.push-in-Closing.new.self }) c.args.units c.in-Closing.closing c.requires.closed c.in_ok-closing.ensures.stays
    (subst (λ us. IsClosingOf c.show_part.new.self us c.in-Closing.closing) units shown) c.in_ok-push-in-Closing.ensures.ok c.in_ok-push-in-Closing-2.ensures.ok
