-- Which engines were asked, in what order, and what came of their answers.
use Rattle.std.specs.Prelude.{◌≡◌, ◌≢◌, ◌+◌, ◌<◌, ◌⊎◌, Bool, List, [], ◌∷◌, ◌++◌, length, drop, All, None, Result, Ok, Err, IfOk, IfErr, OnOk}
use Rattle.base.specs.Budget.{Spends, Steps}
use Rattle.base.specs.Witness.{witness}
use Rattle.graph.specs.declared.circuit.Lit.{Lit}
use Rattle.graph.specs.declared.circuit.Property.{Property}
use Rattle.graph.specs.declared.parts.Parts.{Parts}
use Rattle.stimulus.specs.Shown.{Shows}
use Rattle.stimulus.specs.Texts.{property_of}
use Rattle.cnf.specs.Invariants.{IsInductive}
use Rattle.checker2.specs.Accepted.{IsAcceptedCertificate, IsGood, bad_of, circuit_of}
use Rattle.solver.specs.Full.{full}
use Rattle.certify.specs.Causes.{HasCause as IsUncertified}
use Rattle.certify.specs.declared.certify_error.CertifyError.TheVariants as certify
use Rattle.engine.specs.declared.engine_error.EngineError.{EngineError}
use Rattle.engine.specs.declared.finding.Finding.{Finding}
use Rattle.engine.specs.declared.finding.Finding.TheVariants as finding
use Rattle.engine.specs.declared.finding.Reason.{Reason}
use Rattle.engine.specs.declared.finding.Reason.TheVariants.{Budget, Depth, NoEvidence}
use Rattle.verdict.specs.Numbers.{of_engine}
use Rattle.verdict.specs.Reasons.{reason_of, weightier_of}
use Rattle.verdict.specs.Verdicts.{IsAsked, IsViolation}
use Rattle.verdict.specs.declared.decide_error.DecideError.{DecideError}
use Rattle.verdict.specs.declared.decide_error.DecideError.TheVariants.{NoProperty, Limit, IdsTaken, OutOfMemory}
use Rattle.verdict.specs.declared.verdict.Verdict.{Verdict}
use Rattle.verdict.specs.declared.verdict.Verdict.TheVariants.{Safe, Unsafe, Unknown}

-- ---- what comes of one engine's answer

-- the verdict on a stimulus: it shows a violation, or there is no evidence
abbrev pub IsOfReplay : Verdict → Type 0
IsOfReplay (Safe c) = ⊥
IsOfReplay (Unsafe s) = Unit {0}
IsOfReplay (Unknown reason) = reason ≡ NoEvidence

-- the verdict on a run: a stimulus of the property shows its violation; or there is no evidence, and the run is no violation
abbrev pub IsOfRun : Parts → Property → List Bool → List (List Bool) → Verdict → Type 0
IsOfRun m p initial inputs (Safe c) = ⊥
IsOfRun m p initial inputs (Unsafe s) = Shows m s × (property_of s ≡ p)
IsOfRun m p initial inputs (Unknown reason) = (reason ≡ NoEvidence) × (IsViolation m p initial inputs → ⊥)

-- why there is no certificate of clauses: the budget is exhausted, or they are no invariant that upholds the property
abbrev pub IsUnproved : Parts → Property → List (List Lit) → Steps → Reason → Type 0
IsUnproved m p inv after Budget = after.left ≡ 0
IsUnproved m p inv after (Depth steps) = ⊥
IsUnproved m p inv after NoEvidence = All (IsGood (circuit_of m p)) inv → IsInductive (circuit_of m p) inv (bad_of m p) → ⊥

-- the verdict on clauses: an accepted certificate of them for the property, or none, and why
abbrev pub IsOfClauses : Parts → Property → List (List Lit) → Steps → Verdict → Type 0
IsOfClauses m p inv after (Safe c) = (c.property ≡ p) × (c.invariant ≡ inv) × IsAcceptedCertificate m c
IsOfClauses m p inv after (Unsafe s) = ⊥
IsOfClauses m p inv after (Unknown reason) = IsUnproved m p inv after reason

-- what stops the making of a certificate of clauses: a limit of `certify`, used-up ids, or out of memory
abbrev pub Stops : Parts → Property → List (List Lit) → DecideError → Type 0
Stops m p inv (NoProperty n) = ⊥
Stops m p inv Limit = IsUncertified m p inv certify.Limit
Stops m p inv (IdsTaken used_up) = IsUncertified m p inv (certify.IdsTaken full)
Stops m p inv (OutOfMemory refused) = Unit {0}

-- what comes of a finding that left so much of the budget: a run is replayed, and of clauses a certificate is made
abbrev pub ComesOfFinding : Parts → Property → Finding → Steps → Result Verdict DecideError → Steps → Type 0
ComesOfFinding m p (finding.Run initial inputs) left r after = IfOk r (IsOfRun m p initial inputs) × IfErr r (λ e. e ≡ OutOfMemory witness) × (after ≡ left)
ComesOfFinding m p (finding.Invariant inv) left r after = IfOk r (IsOfClauses m p inv after) × IfErr r (Stops m p inv) × Spends left after
ComesOfFinding m p (finding.Unknown reason) left r after = (r ≡ Ok (Unknown reason)) × (after ≡ left)

-- what comes of an answer: a refusal is handed on
abbrev pub ComesOf : Parts → Property → Result Finding EngineError → Steps → Result Verdict DecideError → Steps → Type 0
ComesOf m p (Ok f) left r after = ComesOfFinding m p f left r after
ComesOf m p (Err e) left r after = (r ≡ Err (of_engine e)) × (after ≡ left)

-- an engine that may answer so was asked once, and this came of its answer
pub record IsVerdictOf (answers : Steps → Result Finding EngineError → Steps → Type 0) (m : Parts) (p : Property) (before : Steps) (r : Result Verdict DecideError) (after : Steps) : Type 0 where
  pub answer : Result Finding EngineError
  pub left : Steps
  pub answered : answers before answer left
  pub comes : ComesOf m p answer left r after

-- ---- one engine after the other

-- each engine was asked once, in order, with what the one before it left of the budget, and nothing is known by any; after
-- the reason that was reported before them this one is reported behind them, the weightiest
abbrev pub HaveTold : {E : Type 0} → (E → Steps → Result Finding EngineError → Steps → Type 0) → Parts → Property → List E → Reason → Steps → Reason → Steps → Type 0
HaveTold answers m p [] told before last after = (last ≡ told) × (after ≡ before)
HaveTold answers m p (e ∷ es) told before last after =
    (found : Reason) × (left : Steps) × IsVerdictOf (answers e) m p before (Ok (Unknown found)) left × HaveTold answers m p es (weightier_of told found) left last after

-- all engines were asked, and nothing is known
pub record AllTold {E : Type 0} (answers : E → Steps → Result Finding EngineError → Steps → Type 0) (m : Parts) (p : Property) (engines : List E) (before : Steps) (r : Result Verdict DecideError) (after : Steps) : Type 0 where
  pub reason : Reason
  pub told : HaveTold answers m p engines NoEvidence before reason after
  pub is : r ≡ Ok (Unknown reason)

-- the first engine that has evidence or refuses: nothing is known by those before it, and those behind it were not asked
pub record EndsAt {E : Type 0} (answers : E → Steps → Result Finding EngineError → Steps → Type 0) (m : Parts) (p : Property) (old new : List E) (before : Steps) (r : Result Verdict DecideError) (after : Steps) : Type 0 where
  pub earlier : List E
  pub engine : E
  pub later : List E
  pub are : old ≡ earlier ++ engine ∷ later
  pub reason : Reason
  pub left : Steps
  pub told : HaveTold answers m p earlier NoEvidence before reason left
  pub answered : IsVerdictOf (answers engine) m p left r after
  pub ends : reason_of r ≡ None
  pub unasked : drop (length earlier + 1) new ≡ later

-- the engines were asked in order, up to the first that has evidence or refuses
abbrev pub AskedInOrder : {E : Type 0} → (E → Steps → Result Finding EngineError → Steps → Type 0) → Parts → Property → List E → List E → Steps → Result Verdict DecideError → Steps → Type 0
AskedInOrder answers m p old new before r after = AllTold answers m p old before r after ⊎ EndsAt answers m p old new before r after

-- ---- about the circuit that is meant

-- there is no circuit to ask about (no such property, over the limit, or out of memory), and no engine was asked
pub record IsUnasked {E : Type 0} (m : Parts) (p : Property) (old new : List E) (before : Steps) (r : Result Verdict DecideError) (after : Steps) : Type 0 where
  pub refused : OnOk r ⊥
  pub large : IfErr r (λ e. e ≡ Limit → 4194303 < (circuit_of m p).max_var)
  pub own : IfErr r (λ e. e ≢ IdsTaken full)
  pub engines : new ≡ old
  pub budget : after ≡ before

-- they were asked in order about the circuit with one bad literal that is the property's
pub record IsAskedAbout {E : Type 0} (answers : E → Parts → Steps → Result Finding EngineError → Steps → Type 0) (m : Parts) (p : Property) (old new : List E) (before : Steps) (r : Result Verdict DecideError) (after : Steps) : Type 0 where
  pub circuit : Parts
  pub asked : IsAsked m p circuit
  pub order : AskedInOrder (λ e. answers e circuit) m p old new before r after

-- what a call comes to that asks engines about a property
abbrev pub Asks : {E : Type 0} → (E → Parts → Steps → Result Finding EngineError → Steps → Type 0) → Parts → Property → List E → List E → Steps → Result Verdict DecideError → Steps → Type 0
Asks answers m p old new before r after = IsUnasked m p old new before r after ⊎ IsAskedAbout answers m p old new before r after

-- there is no circuit to ask about: no such property, over the limit, or out of memory
abbrev pub IsNoCircuit : Parts → Property → DecideError → Type 0
IsNoCircuit m p e = (e ≡ Limit → 4194303 < (circuit_of m p).max_var) × (e ≢ IdsTaken full)

-- what a call comes to that asks one engine: there is no circuit to ask about, and it was not asked; or it was asked once, about
-- the circuit with one bad literal that is the property's
abbrev pub AsksOne : (Parts → Steps → Result Finding EngineError → Steps → Type 0) → Parts → Property → Steps → Result Verdict DecideError → Steps → Type 0
AsksOne answers m p before r after = (OnOk r ⊥ × IfErr r (IsNoCircuit m p) × (after ≡ before)) ⊎ ((one : Parts) × IsAsked m p one × IsVerdictOf (answers one) m p before r after)
