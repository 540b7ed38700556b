use Rattle.std.proofs.Common.{rules, ◌≡◌, length-set}
use Rattle.graph.specs.declared.ordering.Mark.TheVariants.{Waiting, Open}
use Rattle.graph.specs.Search.{mark_of}
use Rattle.graph.proofs.Searching.{entered_first, waits_less}
use Rattle.graph.proofs.ordering.Search.settle.Goals as goal

pub searching-init : goal.searching-init
searching-init c =
    let marks = c.args.self.now.marks.items in
    let waiting : mark_of marks c.args.root ≡ Waiting = search rules in
    record {
      search = rw (c.enter.ensures.marks, c.enter.ensures.order, c.in_ok-enter.ensures.stack)
          (entered_first c.args.gates.now marks c.args.self.now.order.items c.args.self.now.stack.items c.args.root c.requires.search c.requires.empty c.requires.root waiting);
      long = rw c.enter.ensures.marks (length-set marks c.args.root Open);
      waiting = λ v waits. waits_less marks c.args.root v c.requires.root (rw c.enter.ensures.marks at waits);
    }
