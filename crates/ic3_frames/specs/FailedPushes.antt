-- Clauses that could not be pushed.
use Rattle.std.specs.Prelude.{List, map}
use Rattle.states.specs.declared.state_lit.StateLit.{StateLit}
use Rattle.ic3_frames.specs.declared.failed_pushes.FailedPush.{FailedPush}

-- the clauses of failed pushes
abbrev pub clauses_of : List FailedPush → List (List StateLit)
clauses_of pushes = map (λ (p : FailedPush). p.clause) pushes
