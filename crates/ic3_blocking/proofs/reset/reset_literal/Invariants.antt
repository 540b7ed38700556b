use Rattle.std.proofs.Common.{ℕ, ◌<◌, get_or}
use Rattle.states.specs.declared.state_lit.StateLit.{StateLit}
use Rattle.ic3_frames.specs.Clauses.{IsResetLit}
use Rattle.ic3_blocking.proofs.reset.reset_literal.Given as goal

abbrev pub invariant-looking : goal.invariant-looking
invariant-looking l = (k : ℕ) (d : StateLit) → k < l.lit-index → IsResetLit l.latches (get_or l.clause k d) → ⊥
