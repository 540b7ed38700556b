use Rattle.ic3_frames.proofs.Failing.{clauses_kept}
use Rattle.ic3_frames.proofs.failed_pushes.FailedPushes.trim.Goals as goal

pub returns-else-len-entries : goal.returns-else-len-entries
returns-else-len-entries c = clauses_kept c.args.self.now.items.items
