-- What a conclusion says.
use Rattle.std.specs.Prelude.{◌≡◌, ◌⊎◌, ℕ, Option, Some}
use Rattle.arguments.specs.declared.request.EngineKind.{EngineKind}
use Rattle.arguments.specs.declared.request.EngineKind.TheVariants.{Rounds}
use Rattle.graph.specs.declared.circuit.Property.{Property}
use Rattle.graph.specs.declared.circuit.Property.TheVariants.{Justice}
use Rattle.graph.specs.declared.parts.Parts.{Parts}
use Rattle.graph.specs.Circuits.{IsUpheld}
use Rattle.engine.specs.declared.finding.Reason.TheVariants.{NoEvidence}
use Rattle.verdict.specs.Verdicts.{IsBacked, IsMeant, status_of}
use Rattle.verdict.specs.declared.verdict.Verdict.{Verdict}
use Rattle.verdict.specs.declared.verdict.Verdict.TheVariants.{Safe, Unknown, Unsafe}
use Rattle.rounds.specs.Counted.{IsBacked as AreBacked, IsMeant as AreMeant}
use Rattle.rounds.specs.declared.counted.Counted.{Counted as CountedRounds}
use Rattle.rounds.specs.declared.counted.Counted.TheVariants as counted
use Rattle.shown.specs.Shown.{IsShownBy}
use Rattle.portfolio.specs.declared.conclusion.Conclusion.{Conclusion}
use Rattle.portfolio.specs.declared.conclusion.Conclusion.TheVariants.{Decided, Counted, Shown}

-- what is known has its evidence, and rounds are those of a justice property; a text spells an accepted certificate
abbrev pub IsConcluded : Parts → Property → Conclusion → Type 0
IsConcluded m p (Decided v) = IsBacked m p v
IsConcluded m p (Counted c) = (j : ℕ) × (p ≡ Justice j) × AreBacked m j c
IsConcluded m p (Shown text) = IsShownBy m p text × IsUpheld m p

-- where nothing is known, the reason stands with so many steps left
abbrev pub IsMeantWith : Parts → Property → ℕ → Verdict → Type 0
IsMeantWith m p left = IsMeant m p (record { spent = 0; left = left })

-- and so does the cause, where rounds were counted
abbrev pub AreMeantWith : Parts → ℕ → ℕ → CountedRounds → Type 0
AreMeantWith m j left = AreMeant m j (record { spent = 0; left = left })

-- the same of a conclusion
abbrev pub IsMeantIn : Parts → Property → ℕ → Conclusion → Type 0
IsMeantIn m p left (Decided v) = IsMeantWith m p left v
IsMeantIn m p left (Counted c) = (j : ℕ) × (p ≡ Justice j) × AreMeantWith m j left c
IsMeantIn m p left (Shown text) = Unit {0}

-- what a verdict decides is given as it is
abbrev pub IsGiven : Verdict → Option Conclusion → Type 0
IsGiven (Safe c) given = given ≡ Some (Decided (Safe c))
IsGiven (Unsafe s) given = given ≡ Some (Decided (Unsafe s))
IsGiven (Unknown r) given = Unit {0}

-- nothing is known, since a property without rounds has none to count
abbrev pub IsWithoutRounds : Property → Conclusion → Type 0
IsWithoutRounds p c = ((j : ℕ) → p ≡ Justice j → ⊥) × (c ≡ Decided (Unknown NoEvidence))

-- where nothing is known, why this is so: with so many steps left the reason stands, or rounds alone were to be counted where there
-- are none
abbrev pub IsTold : EngineKind → Parts → Property → ℕ → Conclusion → Type 0
IsTold kind m p left c = IsMeantIn m p left c ⊎ ((kind ≡ Rounds) × IsWithoutRounds p c)

-- 0 where the property holds, 1 for a violation, 2 where nothing is known
abbrev pub status_in : Conclusion → ℕ
status_in (Decided v) = status_of v
status_in (Counted (counted.Bounded rounds text)) = 0
status_in (Counted (counted.Unknown cause held)) = 2
status_in (Shown text) = 0
