use Rattle.graph.specs.declared.circuit.Property.TheVariants.{Justice}
use Rattle.graph.specs.Circuits.{wanted_of}
use Rattle.stimulus.proofs.Ranges.{wanted_in_range}
use Rattle.witness.specs.Cutting.{Closes, EndsFirst, NeverEnds, NeverShows, ShowsFirst}
use Rattle.witness.proofs.ShownLaws.{lasso_first, lasso_never, time_so}
use Rattle.witness.proofs.lasso.first_lasso.Goals as goal

pub times_to_lasso-requires-clause-in_range : goal.times_to_lasso-requires-clause-in_range
times_to_lasso-requires-clause-in_range c =
    rw (c.deref.ensures.value, c.in_ok-wanted.ensures, c.parts.ensures.parts, c.in_ok-replay.ensures.begun.0) (wanted_in_range c.args.circuit.now c.args.j c.parts.ensures.well_formed c.requires.there)

pub returns-clause-first : goal.returns-clause-first
returns-clause-first c =
    let m = c.args.circuit.now in
    let j = c.args.j in
    let initial = c.args.initial.now in
    let lines = c.args.lines.now in
    time_so _ (NeverEnds (Closes m (wanted_of m j)) m initial lines) (NeverShows m (Justice j) initial lines) (EndsFirst (Closes m (wanted_of m j)) m initial lines) (ShowsFirst m (Justice j) initial lines)
    (lasso_never m j initial lines) (λ t. lasso_first m j initial lines t)
    (rw (c.in_ok-replay.ensures.begun.0, c.deref.ensures.value, c.in_ok-wanted.ensures, c.parts.ensures.parts) at c.in_ok-times_to_lasso.ensures)
