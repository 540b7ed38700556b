use Rattle.std.proofs.Common.{◌<◌, ◌≤◌, All}
use Rattle.ic3_blocking.proofs.frame_solver.guards_from.Given as goal

abbrev pub invariant-listing : goal.invariant-listing
invariant-listing l = All (λ g. (l.first ≤ g) × (g < l.end)) l.guards
