use Rattle.std.proofs.Common.{[], refl}
use Rattle.witness.proofs.SeenLaws.{seen_none}
use Rattle.witness.proofs.lasso.times_to_lasso.Goals as goal

pub times_to_close-requires-clause-seen : goal.times_to_close-requires-clause-seen
times_to_close-requires-clause-seen c = rw c.state.ensures at (c.in_ok-first_passed.ensures [] refl (seen_none c.new-seen.result c.new-seen.ensures.empty)).0
