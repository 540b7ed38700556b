use Rattle.std.proofs.Common.{◌≡◌, ◌∙◌, sym, subst}
use Rattle.graph.specs.declared.parts.Parts.{Parts}
use Rattle.graph.specs.WellFormed.{IsWellFormed, only_bad}
use Rattle.extension.specs.Rounds.{always}
use Rattle.cover_circuits.specs.Covering.{IsAlwaysBad}
use Rattle.cover_circuits.proofs.Steps.{always_well_formed, always_bad}
use Rattle.cover_circuits.proofs.covering.always_bad.Goals as goal

pub watching-requires : goal.watching-requires
watching-requires c =
    let same : c.in_ok-parts.parts ≡ c.args.circuit.now = c.in_ok-parts.ensures ∙ c.parts.ensures.parts in
    subst (λ (m : Parts). IsWellFormed (only_bad m always)) (sym same) (always_well_formed c.args.circuit.now c.well_formed-2.ensures)

pub returns-clause-exact : goal.returns-clause-exact
returns-clause-exact c =
    let same : c.in_ok-parts.parts ≡ c.args.circuit.now = c.in_ok-parts.ensures ∙ c.parts.ensures.parts in
    let made : c.in_ok-covered.covered ≡ only_bad c.args.circuit.now always = rw same at c.in_ok-covered.ensures in
    subst (IsAlwaysBad c.args.circuit.now) (sym made) (always_bad c.args.circuit.now)
