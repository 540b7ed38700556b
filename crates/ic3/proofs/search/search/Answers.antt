use Rattle.cnf.specs.Formulas.{bad_literal}
use Rattle.engine.specs.Findings.{IsSo}
use Rattle.ic3_blocking.specs.Answers.{IsFound}
use Rattle.ic3.specs.Answers.{IsDecided}
use Rattle.ic3_blocking.proofs.Outcomes.{if_ok}
use Rattle.ic3.proofs.search.search.Goals as goal

pub load-requires-clause-laws : goal.load-requires-clause-laws
load-requires-clause-laws g c = c.in_ok-frames.ensures.laws (bad_literal c.args.circuit.now 0)

pub returns-clause-so : goal.returns-clause-so
returns-clause-so g c =
    let m = c.args.circuit.now in
    let after = c.search_from.new.budget in
    if_ok (IsFound m c.search_from.new.frames after) (IsSo m after) c.search_from.result (λ x found. found.so) c.search_from.ensures.found

pub returns-clause-decided : goal.returns-clause-decided
returns-clause-decided g c =
    let m = c.args.circuit.now in
    let f = c.search_from.new.frames in
    if_ok (IsFound m f c.search_from.new.budget) (IsDecided m) c.search_from.result (λ x found. (f, found.decided)) c.search_from.ensures.found
