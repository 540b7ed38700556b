use Rattle.std.proofs.Common.{subst}
use Rattle.std.specs.Prelude.{codes, ◌++◌}
use Rattle.base.specs.Devices.{Puts}
use Rattle.base.proofs.Putting.{puts_of, puts_then}
use Rattle.stimulus.specs.Texts.{property_line}
use Rattle.stimulus.proofs.Pieces.{three}
use Rattle.stimulus.proofs.WriteLaws.{first_fails}
use Rattle.stimulus.proofs.writing.put_concluded.Goals as goal

pub returns-in_err-put_all-clause-puts : goal.returns-in_err-put_all-clause-puts
returns-in_err-put_all-clause-puts g c =
    let r = c.from_residual in
    subst (Puts r.result _ _) (three c.args.status.now (property_line c.args.property) (codes ".\n")) (
    first_fails r.result _ _ c.args.status.now (property_line c.args.property ++ codes ".\n") r.ensures.0 c.in_err-put_all.ensures.beginning)

pub returns-in_err-put_property-clause-puts : goal.returns-in_err-put_property-clause-puts
returns-in_err-put_property-clause-puts g c =
    let r = c.from_residual-in_err-put_property in
    subst (Puts r.result _ _) (three c.args.status.now (property_line c.args.property) (codes ".\n")) (
    puts_then r.result _ (g.W.Sink.contents c.put_all.new.out) _ c.args.status.now (property_line c.args.property ++ codes ".\n") c.in_ok-put_all.ensures.whole
    (first_fails r.result _ _ (property_line c.args.property) (codes ".\n") r.ensures.0 (rw c.name_of-position.ensures.text at c.in_err-put_property.ensures.puts)))

pub returns-clause-puts : goal.returns-clause-puts
returns-clause-puts g c =
    let r = c.put_all-2 in
    let between = g.W.Sink.contents c.put_property.new.out in
    subst (Puts r.result _ _) (three c.args.status.now (property_line c.args.property) (codes ".\n")) (
    puts_then r.result _ (g.W.Sink.contents c.put_all.new.out) _ c.args.status.now (property_line c.args.property ++ codes ".\n") c.in_ok-put_all.ensures.whole
    (puts_then r.result _ between _ (property_line c.args.property) (codes ".\n") (rw c.name_of-position.ensures.text at c.in_ok-put_property.ensures.puts)
    (puts_of r.result between _ (codes ".\n") r.ensures.whole r.ensures.beginning))
    )
