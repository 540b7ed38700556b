use Rattle.ic3_blocking.proofs.Queued.{added_there, not_added}
use Rattle.ic3_blocking.proofs.obligation_queue.ObligationQueue.add.Goals as goal

pub returns-clause-added : goal.returns-clause-added
returns-clause-added c =
    added_there c.push.result c.args.self.now.frames.items c.args.level c.args.index c.index_mut.result.now c.push.new.to c.requires c.index_mut.ensures.value c.push.ensures.items

pub returns-clause-err : goal.returns-clause-err
returns-clause-err c = not_added c.push.result c.args.self.now.frames.items c.args.level c.args.index c.index_mut.result.now c.push.new.to c.index_mut.ensures.value c.push.ensures.items
