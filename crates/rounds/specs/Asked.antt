-- What is known of one number of rounds.
use Rattle.std.specs.Prelude.{◌≡◌, ℕ, Result, Ok, Err}
use Rattle.base.specs.Budget.{Steps}
use Rattle.base.specs.Witness.{witness}
use Rattle.graph.specs.declared.circuit.Property.TheVariants.{Bad, Justice}
use Rattle.graph.specs.declared.parts.Parts.{Parts}
use Rattle.graph.specs.Circuits.{IsUpheld}
use Rattle.solver.specs.Full.{full}
use Rattle.engine.specs.Bounds.{IsClear}
use Rattle.engine.specs.declared.finding.Reason.{Reason}
use Rattle.engine.specs.declared.finding.Reason.TheVariants as reason
use Rattle.extension.specs.Rounds.{HoldsFew, HoldsMore, rounds_of}
use Rattle.certify3.specs.declared.certified.Certified.{Certified}
use Rattle.certify3.specs.declared.certified.Certified.TheVariants.{Certificate, NotInvariant, Spent, Unaccepted as NotAccepted}
use Rattle.certify3.specs.declared.certify_error.CertifyError.{CertifyError}
use Rattle.certify3.specs.declared.certify_error.CertifyError.TheVariants as certify
use Rattle.verdict.specs.declared.decide_error.DecideError.{DecideError}
use Rattle.verdict.specs.declared.decide_error.DecideError.TheVariants.{Limit, IdsTaken, OutOfMemory}
use Rattle.rounds.specs.declared.asking.Tried.{Tried}
use Rattle.rounds.specs.declared.asking.Tried.TheVariants.{Bounded, Exceeded, TooLarge, Unknown}
use Rattle.rounds.specs.declared.counted.Cause.{Cause}
use Rattle.rounds.specs.declared.counted.Cause.TheVariants.{Budget, Depth, NoEvidence, Unaccepted, Unbounded, Variables}
use Rattle.rounds.specs.Counted.{IsShownBy, IsTooLarge}

-- the text is accepted and the property upheld, and no run holds more rounds; or a run holds more, or they cannot be counted, or
-- nothing is known
abbrev pub IsTried : Parts → ℕ → ℕ → Tried → Type 0
IsTried m j k (Bounded text) = IsShownBy m j k text × IsUpheld m (Justice j) × HoldsFew m j k
IsTried m j k Exceeded = HoldsMore m j k
IsTried m j k TooLarge = IsTooLarge m j k
IsTried m j k (Unknown cause) = Unit {0}

-- why nothing is known, where the engine is honest
abbrev pub IsCause : Parts → ℕ → ℕ → Steps → Cause → Type 0
IsCause m j k after Budget = after.left ≡ 0
IsCause m j k after (Depth steps) = IsClear (rounds_of m j k) (Bad 0) steps
IsCause m j k after NoEvidence = ⊥
IsCause m j k after Unaccepted = Unit {0}
IsCause m j k after Unbounded = ⊥
IsCause m j k after Variables = ⊥

abbrev pub IsMeantFor : Parts → ℕ → ℕ → Steps → Tried → Type 0
IsMeantFor m j k after (Bounded text) = Unit {0}
IsMeantFor m j k after Exceeded = Unit {0}
IsMeantFor m j k after TooLarge = Unit {0}
IsMeantFor m j k after (Unknown cause) = IsCause m j k after cause

-- the cause that an engine's reason is
abbrev pub cause_in : Reason → Cause
cause_in reason.Budget = Budget
cause_in (reason.Depth steps) = Depth steps
cause_in reason.NoEvidence = NoEvidence

-- what comes of a refusal to make a certificate: a limit, used-up ids and out of memory end the asking
abbrev pub tried_of : CertifyError → Result Tried DecideError
tried_of (certify.NoProperty n) = Ok (Unknown NoEvidence)
tried_of (certify.Refused r) = Ok (Unknown NoEvidence)
tried_of certify.TooMany = Err Limit
tried_of (certify.Repeated k) = Ok (Unknown NoEvidence)
tried_of (certify.IdsTaken used_up) = Err (IdsTaken full)
tried_of (certify.OutOfMemory refused) = Err (OutOfMemory witness)

-- what comes of a certificate of clauses, or of why there is none
abbrev pub tried_on : Result Certified CertifyError → Result Tried DecideError
tried_on (Ok (Certificate text)) = Ok (Bounded text)
tried_on (Ok (NotInvariant found)) = Ok (Unknown NoEvidence)
tried_on (Ok Spent) = Ok (Unknown Budget)
tried_on (Ok NotAccepted) = Ok (Unknown Unaccepted)
tried_on (Err e) = tried_of e
