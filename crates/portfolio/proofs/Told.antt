-- Why nothing is known, by what is left of a budget.
use Rattle.std.proofs.Common.{◌≡◌, ℕ, ◌≤◌, ◌-◌, arith, subst}
use Rattle.base.specs.Budget.{Steps}
use Rattle.graph.specs.declared.circuit.Property.{Property}
use Rattle.graph.specs.declared.parts.Parts.{Parts}
use Rattle.arguments.specs.declared.request.EngineKind.{EngineKind}
use Rattle.engine.specs.declared.finding.Reason.{Reason}
use Rattle.engine.specs.declared.finding.Reason.TheVariants as reason
use Rattle.rounds.specs.Counted.{IsMeant as AreMeant, IsWhy as AreWhy}
use Rattle.rounds.specs.declared.counted.Cause.{Cause}
use Rattle.rounds.specs.declared.counted.Cause.TheVariants as cause
use Rattle.rounds.specs.declared.counted.Counted.{Counted}
use Rattle.rounds.specs.declared.counted.Counted.TheVariants as counted
use Rattle.verdict.specs.Verdicts.{IsMeant, IsWhy}
use Rattle.verdict.specs.declared.verdict.Verdict.{Verdict}
use Rattle.verdict.specs.declared.verdict.Verdict.TheVariants.{Safe, Unsafe, Unknown}
use Rattle.portfolio.specs.Conclusions.{AreMeantWith, IsMeantWith, IsTold}
use Rattle.portfolio.specs.declared.conclusion.Conclusion.{Conclusion}

why_with : (m : Parts) (p : Property) (after : Steps) (r : Reason) → IsWhy m p after r → IsWhy m p (record { spent = 0; left = after.left }) r
why_with m p after reason.Budget why = why
why_with m p after (reason.Depth steps) why = why
why_with m p after reason.NoEvidence why = why

pub meant_with : (m : Parts) (p : Property) (after : Steps) (v : Verdict) → IsMeant m p after v → IsMeantWith m p after.left v
meant_with m p after (Safe c) meant = tt
meant_with m p after (Unsafe s) meant = tt
meant_with m p after (Unknown r) meant = why_with m p after r meant

are_why_with : (m : Parts) (j held : ℕ) (after : Steps) (c : Cause) → AreWhy m j held after c → AreWhy m j held (record { spent = 0; left = after.left }) c
are_why_with m j held after cause.Budget why = why
are_why_with m j held after (cause.Depth steps) why = why
are_why_with m j held after cause.NoEvidence why = why
are_why_with m j held after cause.Unaccepted why = why
are_why_with m j held after cause.Unbounded why = why
are_why_with m j held after cause.Variables why = why

pub are_meant_with : (m : Parts) (j : ℕ) (after : Steps) (c : Counted) → AreMeant m j after c → AreMeantWith m j after.left c
are_meant_with m j after (counted.Bounded k text) meant = tt
are_meant_with m j after (counted.Unknown c held) meant = are_why_with m j held after c meant

why_less : (m : Parts) (p : Property) (left rest : ℕ) (r : Reason) → rest ≤ left → IsWhy m p (record { spent = 0; left = left }) r → IsWhy m p (record { spent = 0; left = rest }) r
why_less m p left rest reason.Budget few why = omega (arith, few, why)
why_less m p left rest (reason.Depth steps) few why = why
why_less m p left rest reason.NoEvidence few why = why

-- with fewer steps left the reason stands too
pub meant_less : (m : Parts) (p : Property) (left rest : ℕ) (v : Verdict) → rest ≤ left → IsMeantWith m p left v → IsMeantWith m p rest v
meant_less m p left rest (Safe c) few meant = tt
meant_less m p left rest (Unsafe s) few meant = tt
meant_less m p left rest (Unknown r) few meant = why_less m p left rest r few meant

-- what is spent says what is left
pub told_by : (kind : EngineKind) (m : Parts) (p : Property) (budget left steps : ℕ) (c : Conclusion) → left ≤ budget → steps ≡ budget - left → IsTold kind m p left c → IsTold kind m p (budget - steps) c
told_by kind m p budget left steps c few is = subst (λ n. IsTold kind m p n c) (omega (arith, few, is))
