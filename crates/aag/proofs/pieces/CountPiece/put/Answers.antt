use Rattle.std.proofs.Common.{subst, ◌∷◌, []}
use Rattle.base.specs.Devices.{Puts}
use Rattle.base.proofs.Putting.{puts_then}
use Rattle.aag.proofs.PieceLaws.{count_is}
use Rattle.aag.proofs.pieces.CountPiece.put.Goals as goal

pub returns-clause-puts : goal.returns-clause-puts
returns-clause-puts g c =
    let last = c.put_number in
    subst (Puts last.result _ _) (count_is c.args.item.now) (puts_then last.result _ (g.W.Sink.contents c.put_all.new.out) _ (32 ∷ []) _ c.in_ok-put_all.ensures.whole last.ensures.puts)
