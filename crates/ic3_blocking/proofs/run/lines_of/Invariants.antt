use Rattle.std.proofs.Common.{◌<◌, length, get_or}
use Rattle.graph.specs.declared.parts.Parts.{Parts}
use Rattle.ic3_blocking.specs.declared.obligation.Obligation.{Obligation}
use Rattle.ic3_blocking.specs.Answers.{AreObligations}
use Rattle.ic3_blocking.proofs.Obligations.{IsBegun}
use Rattle.ic3_blocking.proofs.run.lines_of.Given as goal

abbrev pub invariant-listing : goal.invariant-listing
invariant-listing l = record {
  inside : l.at < length l.found;
  begun : (m : Parts) (d : Obligation) → AreObligations m l.found → IsBegun m (get_or l.found l.from d) (get_or l.found l.at d) l.lines;
}

abbrev pub decreases-listing : goal.decreases-listing
decreases-listing l = l.at
