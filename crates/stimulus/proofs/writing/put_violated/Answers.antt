use Rattle.std.proofs.Common.{subst}
use Rattle.std.specs.Prelude.{codes, flat_map, ◌++◌}
use Rattle.base.specs.Devices.{Puts}
use Rattle.base.proofs.Putting.{puts_of, puts_then}
use Rattle.stimulus.specs.Texts.{line_text, property_line}
use Rattle.stimulus.proofs.Pieces.{five}
use Rattle.stimulus.proofs.WriteLaws.{first_fails}
use Rattle.stimulus.proofs.writing.put_violated.Goals as goal

pub returns-in_err-put_all-clause-puts : goal.returns-in_err-put_all-clause-puts
returns-in_err-put_all-clause-puts g c =
    let r = c.from_residual in
    subst (Puts r.result _ _) (five (codes "1\n") (property_line c.args.property) (line_text c.args.initial.now) (flat_map line_text c.args.inputs.now) (codes ".\n")) (
    first_fails r.result _ _ (codes "1\n") (property_line c.args.property ++ (line_text c.args.initial.now ++ (flat_map line_text c.args.inputs.now ++ codes ".\n"))) r.ensures.0 c.in_err-put_all.ensures.beginning)

pub returns-in_err-put_property-clause-puts : goal.returns-in_err-put_property-clause-puts
returns-in_err-put_property-clause-puts g c =
    let r = c.from_residual-in_err-put_property in
    subst (Puts r.result _ _) (five (codes "1\n") (property_line c.args.property) (line_text c.args.initial.now) (flat_map line_text c.args.inputs.now) (codes ".\n")) (
    puts_then r.result _ (g.W.Sink.contents c.put_all.new.out) _ (codes "1\n") (property_line c.args.property ++ (line_text c.args.initial.now ++ (flat_map line_text c.args.inputs.now ++ codes ".\n"))) c.in_ok-put_all.ensures.whole
    (first_fails r.result _ _ (property_line c.args.property) (line_text c.args.initial.now ++ (flat_map line_text c.args.inputs.now ++ codes ".\n")) r.ensures.0 (rw c.name_of-position.ensures.text at c.in_err-put_property.ensures.puts)))

pub returns-in_err-put_line-clause-puts : goal.returns-in_err-put_line-clause-puts
returns-in_err-put_line-clause-puts g c =
    let r = c.from_residual-in_err-put_line in
    subst (Puts r.result _ _) (five (codes "1\n") (property_line c.args.property) (line_text c.args.initial.now) (flat_map line_text c.args.inputs.now) (codes ".\n")) (
    puts_then r.result _ (g.W.Sink.contents c.put_all.new.out) _ (codes "1\n") (property_line c.args.property ++ (line_text c.args.initial.now ++ (flat_map line_text c.args.inputs.now ++ codes ".\n"))) c.in_ok-put_all.ensures.whole
    (puts_then r.result _ (g.W.Sink.contents c.put_property.new.out) _ (property_line c.args.property) (line_text c.args.initial.now ++ (flat_map line_text c.args.inputs.now ++ codes ".\n")) (rw c.name_of-position.ensures.text at c.in_ok-put_property.ensures.puts)
    (first_fails r.result _ _ (line_text c.args.initial.now) (flat_map line_text c.args.inputs.now ++ codes ".\n") r.ensures.0 c.in_err-put_line.ensures.puts)))

pub returns-in_err-put_lines-clause-puts : goal.returns-in_err-put_lines-clause-puts
returns-in_err-put_lines-clause-puts g c =
    let r = c.from_residual-in_err-put_lines in
    subst (Puts r.result _ _) (five (codes "1\n") (property_line c.args.property) (line_text c.args.initial.now) (flat_map line_text c.args.inputs.now) (codes ".\n")) (
    puts_then r.result _ (g.W.Sink.contents c.put_all.new.out) _ (codes "1\n") (property_line c.args.property ++ (line_text c.args.initial.now ++ (flat_map line_text c.args.inputs.now ++ codes ".\n"))) c.in_ok-put_all.ensures.whole
    (puts_then r.result _ (g.W.Sink.contents c.put_property.new.out) _ (property_line c.args.property) (line_text c.args.initial.now ++ (flat_map line_text c.args.inputs.now ++ codes ".\n")) (rw c.name_of-position.ensures.text at c.in_ok-put_property.ensures.puts)
    (puts_then r.result _ (g.W.Sink.contents c.put_line.new.out) _ (line_text c.args.initial.now) (flat_map line_text c.args.inputs.now ++ codes ".\n") c.in_ok-put_line.ensures.puts
    (first_fails r.result _ _ (flat_map line_text c.args.inputs.now) (codes ".\n") r.ensures.0 c.in_err-put_lines.ensures.puts))))

pub returns-clause-puts : goal.returns-clause-puts
returns-clause-puts g c =
    let r = c.put_all-2 in
    let between = g.W.Sink.contents c.put_lines.new.out in
    subst (Puts r.result _ _) (five (codes "1\n") (property_line c.args.property) (line_text c.args.initial.now) (flat_map line_text c.args.inputs.now) (codes ".\n")) (
    puts_then r.result _ (g.W.Sink.contents c.put_all.new.out) _ (codes "1\n") (property_line c.args.property ++ (line_text c.args.initial.now ++ (flat_map line_text c.args.inputs.now ++ codes ".\n"))) c.in_ok-put_all.ensures.whole
    (puts_then r.result _ (g.W.Sink.contents c.put_property.new.out) _ (property_line c.args.property) (line_text c.args.initial.now ++ (flat_map line_text c.args.inputs.now ++ codes ".\n")) (rw c.name_of-position.ensures.text at c.in_ok-put_property.ensures.puts)
    (puts_then r.result _ (g.W.Sink.contents c.put_line.new.out) _ (line_text c.args.initial.now) (flat_map line_text c.args.inputs.now ++ codes ".\n") c.in_ok-put_line.ensures.puts
    (puts_then r.result _ between _ (flat_map line_text c.args.inputs.now) (codes ".\n") c.in_ok-put_lines.ensures.puts
    (puts_of r.result between _ (codes ".\n") r.ensures.whole r.ensures.beginning)))))
