use Rattle.std.proofs.Common.{◌∷◌, []}
use Rattle.std.specs.List.{flat_map}
use Rattle.base.proofs.Putting.{puts_of, puts_then}
use Rattle.stimulus.specs.Texts.{value_text}
use Rattle.stimulus.proofs.WriteLaws.{first_fails}
use Rattle.stimulus.proofs.writing.put_line.Goals as goal

pub returns-in_err-put_values-clause-puts : goal.returns-in_err-put_values-clause-puts
returns-in_err-put_values-clause-puts g c =
    first_fails c.from_residual.result _ _ (flat_map value_text c.args.values.now) (10 ∷ []) c.from_residual.ensures.0 c.in_err-put_values.ensures.puts

pub returns-clause-puts : goal.returns-clause-puts
returns-clause-puts g c =
    let between = g.W.Sink.contents c.put_values.new.out in
    puts_then c.put_all.result _ between _ (flat_map value_text c.args.values.now) (10 ∷ []) c.in_ok-put_values.ensures.puts
    (puts_of c.put_all.result between _ (10 ∷ []) c.put_all.ensures.whole c.put_all.ensures.beginning)
