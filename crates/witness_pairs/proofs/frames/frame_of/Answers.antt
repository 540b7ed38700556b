use Rattle.witness_pairs.proofs.Drafted.{goes_on_by}
use Rattle.witness_pairs.proofs.Seen.{seen_gates}
use Rattle.witness_pairs.proofs.frames.frame_of.Goals as goal

pub returns-clause-goes_on : goal.returns-clause-goes_on
returns-clause-goes_on c = goes_on_by _ _ _ _ c.in_ok-names.ensures.gates c.in_ok-add_gates.ensures

pub returns-clause-seen : goal.returns-clause-seen
returns-clause-seen c x follows = seen_gates _ _ _ _ _ _ x c.deref.ensures.value c.gates.ensures c.in_ok-add_gates.ensures follows
