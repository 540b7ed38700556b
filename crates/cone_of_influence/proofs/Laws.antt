-- What is found of the reduced circuit is so of the circuit.
use Rattle.std.proofs.Common.{◌≡◌, ℕ, Bool, List, map, Result, inl, inr, refl, sym, ap, subst}
use Rattle.base.specs.Budget.{Steps}
use Rattle.graph.specs.declared.circuit.Property.TheVariants.{Bad}
use Rattle.graph.specs.declared.parts.Parts.{Parts}
use Rattle.graph.specs.WellFormed.{IsModel}
use Rattle.stimulus.specs.declared.value.Stimulus.TheVariants.{Violated}
use Rattle.stimulus.specs.Shown.{ShowsBad}
use Rattle.engine.specs.declared.engine_error.EngineError.{EngineError}
use Rattle.engine.specs.declared.finding.Finding.{Finding}
use Rattle.engine.specs.declared.finding.Finding.TheVariants.{Invariant, Run, Unknown}
use Rattle.engine.specs.declared.finding.Reason.{Reason}
use Rattle.engine.specs.declared.finding.Reason.TheVariants.{Budget, Depth, NoEvidence}
use Rattle.engine.specs.Findings.{IsForBad, IsSo}
use Rattle.cone_of_influence.specs.declared.tables.Tables.{Tables}
use Rattle.cone_of_influence.specs.Numbers.{renamed}
use Rattle.cone_of_influence.specs.Reduced.{latch_filler, filled, IsReduced}
use Rattle.cone_of_influence.specs.Laws.{AreLaws}
use Rattle.cone_of_influence.specs.Answered.{carried, carried_back, IsOfCone}
use Rattle.cone_of_influence.proofs.Valued.{AreGiven, part}
use Rattle.cone_of_influence.proofs.Runs.{runs_law, clear_law}
use Rattle.cone_of_influence.proofs.Filled.{violation_law}
use Rattle.cone_of_influence.proofs.Cases.{AreFormed, invariant_law}

pub laws : (m s : Parts) (t : Tables) (order part_order : List ℕ) → IsModel m order → IsModel s part_order → IsForBad m → IsReduced m s t → AreLaws m s t
laws m s t order part_order model part_model for_bad h =
    let marks : List Bool = h.marks in
    let numbers : List ℕ = h.numbers in
    let given : AreGiven m marks t.kept numbers = record { well = model.well_formed; for_bad = for_bad; cone = h.cone; numbered = h.numbered } in
    let is_model : IsModel (part m marks t.kept numbers) part_order = subst (λ x. IsModel x part_order) h.only part_model in
    let formed : AreFormed m marks t.kept numbers = record { given = given; order = order; model = model; part_well = is_model.well_formed } in
    subst (λ x. AreLaws m x t) (sym h.only) (record {
      runs = runs_law m marks t.kept numbers given;
      violation = λ initial lines shown.
          subst (λ fs. ShowsBad m (Violated (Bad 0) (filled fs initial) (map (filled t.inputs) lines))) (sym h.latches)
          (subst (λ fs. ShowsBad m (Violated (Bad 0) (filled (map (latch_filler marks) m.latches) initial) (map (filled fs) lines))) (sym h.inputs)
          (violation_law m marks t.kept numbers order part_order given model is_model initial lines shown));
      clear = clear_law m marks t.kept numbers given;
      invariants = invariant_law m marks t.kept numbers formed;
    })

-- the reduced circuit has one bad literal too
pub for_bad_too : (m s : Parts) (t : Tables) → IsReduced m s t → IsForBad m → IsForBad s
for_bad_too m s t h for_bad =
    subst IsForBad (sym h.only) (record { bad = renamed h.numbers for_bad.bad; one = ap (map (renamed h.numbers)) for_bad.one; no_justice = refl })

unknown_so : (m s : Parts) (t : Tables) (after : Steps) (reason : Reason) → AreLaws m s t → IsSo s after (Unknown reason) → IsSo m after (Unknown reason)
unknown_so m s t after Budget laws h = h
unknown_so m s t after (Depth steps) laws h = laws.clear steps h
unknown_so m s t after NoEvidence laws h = h

pub carried_so : (m s : Parts) (t : Tables) (after : Steps) (finding : Finding) → AreLaws m s t → IsSo s after finding → IsSo m after (carried t finding)
carried_so m s t after (Run initial inputs) laws h = laws.violation initial inputs h
carried_so m s t after (Invariant inv) laws h = laws.invariants inv h
carried_so m s t after (Unknown reason) laws h = unknown_so m s t after reason laws h

abbrev Others : Type 1
Others = Parts → Steps → Result Finding EngineError → Steps → Type 0

-- an answer about the circuit as it is, and about the reduced one
pub answered_plain : (others : Others) (m : Parts) (before after : Steps) (r : Result Finding EngineError) → others m before r after → IsOfCone others m before r after
answered_plain others m before after r answered = inr (inl answered)

pub answered_reduced : (others : Others) (m s : Parts) (t : Tables) (before after : Steps) (answer r : Result Finding EngineError) → IsReduced m s t →
    others s before answer after → r ≡ carried_back t answer → IsOfCone others m before r after
answered_reduced others m s t before after answer r reduced answered back =
    inr (inr (record { circuit = s; tables = t; answer = answer; is_reduced = reduced; answered = answered; back = back }))
