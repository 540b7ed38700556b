use Rattle.std.proofs.Common.{◌≡◌, true, get_or, rules}
use Rattle.signal_classes.specs.Known.{is_kept_in}
use Rattle.signal_classes.proofs.Marked.{marked_so_far}
use Rattle.signal_classes.proofs.reduced.mark_all.Goals as goal

pub loop-place-preserved : goal.loop-place-preserved
loop-place-preserved c =
    let here : is_kept_in c.mark.new.marks (get_or c.args.list.now c.loop-place.place-index 0) ≡ true = search rules in
    record {
      marked = marked_so_far c.args.list.now c.loop-place.place-index c.loop-place.marks c.mark.new.marks c.loop-place-test.true c.loop-place.invariant.marked here c.mark.ensures.more;
      more = λ v h. c.mark.ensures.more v (c.loop-place.invariant.more v h);
    }
