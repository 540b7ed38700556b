-- What is found of the merged circuit is so of the circuit.
use Rattle.std.proofs.Common.{◌≡◌, ◌∙◌, inl, inr, List, map, Result, refl, sym, ap, subst, arith}
use Rattle.base.specs.Budget.{Spends, Steps}
use Rattle.graph.specs.declared.circuit.Lit.{Lit}
use Rattle.graph.specs.declared.parts.Parts.{Parts}
use Rattle.engine.specs.declared.engine_error.EngineError.{EngineError}
use Rattle.engine.specs.declared.finding.Finding.{Finding}
use Rattle.engine.specs.declared.finding.Finding.TheVariants.{Invariant, Run, Unknown}
use Rattle.engine.specs.declared.finding.Reason.{Reason}
use Rattle.engine.specs.declared.finding.Reason.TheVariants.{Budget, Depth, NoEvidence}
use Rattle.engine.specs.Findings.{IsForBad, IsSo}
use Rattle.merged.specs.Reading.{read_as}
use Rattle.merged.specs.Merged.{IsMerged}
use Rattle.merged.specs.Laws.{AreInductive, AreLaws}
use Rattle.correspondence.specs.Answered.{carried, carried_back, IsAnswered}

-- the merged circuit has one bad literal too
pub for_bad : (m s : Parts) (cs : List (List Lit)) → IsMerged m s cs → IsForBad m → IsForBad s
for_bad m s cs merged h =
    subst IsForBad (sym merged.only) (record {
      bad = read_as merged.table h.bad;
      one = ap (map (read_as merged.table)) h.one;
      no_justice = refl;
    })

unknown_so : (m s : Parts) (cs : List (List Lit)) (after : Steps) (reason : Reason) → AreLaws m s cs → AreInductive m cs → IsSo s after (Unknown reason) → IsSo m after (Unknown reason)
unknown_so m s cs after Budget laws inductive_in h = h
unknown_so m s cs after (Depth steps) laws inductive_in h = laws.clear inductive_in steps h
unknown_so m s cs after NoEvidence laws inductive_in h = h

pub carried_so : (m s : Parts) (cs : List (List Lit)) (after : Steps) (finding : Finding) → AreLaws m s cs → AreInductive m cs → IsSo s after finding → IsSo m after (carried cs finding)
carried_so m s cs after (Run initial inputs) laws inductive_in h = laws.violation inductive_in initial inputs h
carried_so m s cs after (Invariant inv) laws inductive_in h = laws.invariants inductive_in inv h
carried_so m s cs after (Unknown reason) laws inductive_in h = unknown_so m s cs after reason laws inductive_in h

abbrev Others : Type 1
Others = Parts → Steps → Result Finding EngineError → Steps → Type 0

nothing_spent : (b : Steps) → Spends b b
nothing_spent b = record { together = refl; less = omega arith }

spends_then : (a b c : Steps) → Spends a b → Spends b c → Spends a c
spends_then a b c first second = let one = first.less in let two = second.less in record { together = second.together ∙ first.together; less = omega (arith, one, two) }

-- an answer about the circuit as it is, and about the merged one
pub answered_plain : (others : Others) (m : Parts) (before after : Steps) (r : Result Finding EngineError) → others m before r after → IsAnswered others m before r after
answered_plain others m before after r answered = inr (before, nothing_spent before, inl answered)

pub answered_merged : (others : Others) (m s : Parts) (cs : List (List Lit)) (before after : Steps) (answer r : Result Finding EngineError) → AreInductive m cs → IsMerged m s cs →
    others s before answer after → r ≡ carried_back cs answer → IsAnswered others m before r after
answered_merged others m s cs before after answer r inductive_in merged answered back =
    inr (before, nothing_spent before, inr (record { clauses = cs; circuit = s; answer = answer; inductive_in = inductive_in; is_merged = merged; answered = answered; back = back }))

-- an answer after some of the budget is spent
pub answered_later : (others : Others) (m : Parts) (before middle after : Steps) (r : Result Finding EngineError) → Spends before middle → IsAnswered others m middle r after → IsAnswered others m before r after
answered_later others m before middle after r spends (inl own) = inl own
answered_later others m before middle after r spends (inr (later, spent, other)) = inr (later, spends_then before middle later spends spent, other)
