-- The clauses of an accepted certificate hold in each run that keeps the constraints.
use Rattle.std.proofs.Common.{◌≡◌, ◌∙◌, ℕ, ◌+◌, ◌*◌, ◌<◌, Bool, true, false, ◌⊎◌, inl, inr, List, [], ◌∷◌, ◌++◌, length, get_or, All, Option, None, Some, IfSome, sym, subst, arith}
use Rattle.std.specs.FinMap as fin
use Rattle.std.proofs.lemmas.Bool.{cases_Bool}
use Rattle.std.proofs.lemmas.List.Elements.{All-nil, All-cons, All-head, All-tail}
use Rattle.graph.proofs.Evaluation.{All-left, All-right}
use Rattle.graph.specs.declared.circuit.Lit.{Lit}
use Rattle.graph.specs.declared.parts.Parts.{Parts}
use Rattle.graph.specs.Circuits.{Valuation, place, value_of, IsValuation, Agrees, IsInitial, IsStep, Steps, IsRun, KeepsConstraints}
use Rattle.graph.specs.WellFormed.{IsWellFormed}
use Rattle.lrat.specs.declared.formula.Formula.{Formula}
use Rattle.lrat.specs.declared.line.Line.{Line as ProofLine}
use Rattle.lrat.specs.Literals.{IsSatisfied, Satisfies}
use Rattle.lrat.specs.Proofs.{Solves}
use Rattle.lrat.specs.Shared.{unit_clauses}
use Rattle.lrat.proofs.Sharing.{over_sound_law}
use Rattle.cnf.specs.Formulas.{IsOverLatches, shared_formula, start_formula}
use Rattle.cnf.specs.Meaning.{extension_of, HoldsClause, Denies, DeniesNext, KeepsNow, IsKept}
use Rattle.cnf.specs.Invariants.{AreContradictory}
use Rattle.cnf.proofs.Listed.{one_or_all, satisfied-units}
use Rattle.cnf.proofs.CaseLaws.{init_law, step_law, next_value}
use Rattle.certificate.specs.declared.certificate.Certificate.{Certificate}
use Rattle.checker2.specs.Accepted.{Case, init_case, step_case, cases, IsProofOf, RefuteBelow, IsAcceptedFor}
use Rattle.checker2.specs.Causes.{IsCaseAt}
use Rattle.checker2.proofs.InOrder.{case_init, case_step}
use Rattle.checker2.proofs.Shared.{base_true, shared_true}
use Rattle.latch_map.specs.declared.mapping.Line.{Line}
use Rattle.latch_map.specs.Equal.{AreEqual, AreValues, IsKeptBy, IsLine, IsLineIn}

-- nothing satisfies the clauses of a case that lines refute, where the base has no more to satisfy than these
contradictory : (f : Formula) (c : Case) (p : List ProofLine) → ((v : ℕ → Bool) → Solves v f → Satisfies v (fin.get c.base.present)) → IsProofOf c p →
    AreContradictory (f.clauses ++ unit_clauses c.units)
contradictory f c p base proof v sat =
    over_sound_law c.base c.units p proof.0 proof.1 v (base v (All-left (IsSatisfied v) f.clauses (unit_clauses c.units) sat))
    (satisfied-units v c.units (All-right (IsSatisfied v) f.clauses (unit_clauses c.units) sat))

-- the case at k has a proof
proof_at : (cs : List Case) (ps : List (List ProofLine)) (n k : ℕ) (c : Case) → RefuteBelow cs ps n → k < n → IsCaseAt cs k c → IsProofOf c (get_or ps k [])
proof_at cs ps n k c refute k_in at = subst (λ x. IsProofOf x (get_or ps k [])) (at c) (refute k k_in c [])

-- what is given
record IsGiven (m : Parts) (a : Lit) (c : Certificate) : Type 0 where
  well : IsWellFormed m
  accepted : IsAcceptedFor m a c

abbrev HoldsAll : List (List Lit) → Valuation → Type 0
HoldsAll cs w = All (HoldsClause w) cs

overs : (m : Parts) (a : Lit) (c : Certificate) → IsGiven m a c → All (IsOverLatches m) c.invariant
overs m a c given k d k_in = (given.accepted.clauses k d k_in).over

holds_or_denies : (w : Valuation) (c : List Lit) → HoldsClause w c ⊎ Denies w c
holds_or_denies w c = one_or_all (λ a. value_of w a ≡ true) (λ a. value_of w a ≡ false) c (λ a. cases_Bool (value_of w a))

-- the clauses hold at first, and after a step
holds_first : (m : Parts) (a : Lit) (c : Certificate) (w : Valuation) → IsGiven m a c → IsValuation m w → IsInitial m w → HoldsAll c.invariant w
holds_first m a c w given valuation initial k d k_in =
    let inv : List (List Lit) = c.invariant in
    let clause : List Lit = get_or inv k d in
    let count : length c.sections ≡ 2 * length inv + 1 = given.accepted.count in
    let none = contradictory (start_formula m) (init_case m clause) (get_or c.sections k []) (base_true (start_formula m))
    (proof_at (cases m given.accepted.base inv a) c.sections (length c.sections) k (init_case m clause) given.accepted.sections (omega (arith, count, k_in)) (case_init m given.accepted.base inv a k d k_in)) in
    elim (holds_or_denies w clause) [
      | inl holds ↦ holds
      | inr denies ↦ absurd (none (extension_of w) ((init_law m clause given.well (overs m a c given k d k_in) w valuation).0 (initial, denies)))
    ]

holds_next : (m : Parts) (a : Lit) (c : Certificate) (w x : Valuation) → IsGiven m a c → Agrees m w → KeepsNow m w → HoldsAll c.invariant w → IsStep m w x → HoldsAll c.invariant x
holds_next m a c w x given agrees keeps holds step k d k_in =
    let inv : List (List Lit) = c.invariant in
    let clause : List Lit = get_or inv k d in
    let count : length c.sections ≡ 2 * length inv + 1 = given.accepted.count in
    let none = contradictory (shared_formula m inv) (step_case m given.accepted.base clause) (get_or c.sections (length inv + k) []) (shared_true m inv c.lemmas given.accepted.base given.accepted.shared)
    (proof_at (cases m given.accepted.base inv a) c.sections (length c.sections) (length inv + k) (step_case m given.accepted.base clause) given.accepted.sections (omega (arith, count, k_in)) (case_step m given.accepted.base inv a k d k_in)) in
    elim (holds_or_denies x clause) [
      | inl there ↦ there
      | inr denies ↦
          let kept : IsKept m inv w = record { agrees = agrees; keeps = keeps; holds = holds } in
          let next : DeniesNext m w clause = λ i b i_in. sym (next_value m w x (get_or clause i b) given.well step (overs m a c given k d k_in i b i_in)) ∙ denies i b i_in in
          absurd (none (extension_of w) ((step_law m inv clause given.well (overs m a c given) (overs m a c given k d k_in) w agrees.valuation).0 (kept, next)))
    ]

-- what holds where the clauses hold
abbrev Follows : List (List Lit) → (Valuation → Type 0) → Type 0
Follows cs P = (w : Valuation) → place w 0 ≡ false → HoldsAll cs w → P w

-- holds along a run of the circuit that keeps the constraints
along_run : (m : Parts) (a : Lit) (c : Certificate) (P : Valuation → Type 0) (w : Valuation) (r : List Valuation) → IsGiven m a c → Follows c.invariant P → All (Agrees m) (w ∷ r) → KeepsConstraints m (w ∷ r) →
    Steps m (w ∷ r) → HoldsAll c.invariant w → All P (w ∷ r)
along_run m a c P w [] given follows agrees keeps steps holds =
    All-cons P w [] (follows w (All-head (Agrees m) w [] agrees).valuation.constant holds) (All-nil P)
along_run m a c P w (x ∷ r) given follows agrees keeps steps holds =
    let here : Agrees m w = All-head (Agrees m) w (x ∷ r) agrees in
    All-cons P w (x ∷ r) (follows w here.valuation.constant holds)
    (along_run m a c P x r given follows (All-tail (Agrees m) w (x ∷ r) agrees) (All-tail (KeepsNow m) w (x ∷ r) keeps) steps.1
    (holds_next m a c w x given here (All-head (KeepsNow m) w (x ∷ r) keeps) holds steps.0))

in_run : (m : Parts) (a : Lit) (c : Certificate) (P : Valuation → Type 0) (r : List Valuation) → IsGiven m a c → Follows c.invariant P → IsRun m r → KeepsConstraints m r → All P r
in_run m a c P [] given follows run keeps = All-nil P
in_run m a c P (w ∷ r) given follows run keeps =
    along_run m a c P w r given follows run.agrees keeps run.steps (holds_first m a c w given (All-head (Agrees m) w r run.agrees).valuation run.starts)

-- what a line says
line_with : (m : Parts) (a : Lit) (c : Certificate) (x : Lit) (same : Option Lit) → IsGiven m a c →
    Follows c.invariant (λ w. IfSome same (λ b. value_of w x ≡ value_of w b)) → IfSome same (AreEqual m x)
line_with m a c x None given follows = tt
line_with m a c x (Some b) given follows = λ r run keeps. in_run m a c (λ w. value_of w x ≡ value_of w b) r given follows run keeps

-- what the lines say where the clauses hold is so in each run
pub lines_hold : (m : Parts) (a : Lit) (c : Certificate) (ls : List Line) → IsWellFormed m → IsAcceptedFor m a c → ((w : Valuation) → IsKeptBy c.invariant w → All (IsLineIn w) ls) → All (IsLine m) ls
lines_hold m a c ls well accepted lines k d k_in =
    line_with m a c (get_or ls k d).latch (get_or ls k d).same (record { well = well; accepted = accepted }) (λ w off holds. lines w (record { constant = off; hold = holds }) k d k_in)

-- what a table of the clauses says
pub map_holds : (m : Parts) (c : Certificate) (cs : List (List Lit)) (ls : List Line) (t u : List (Option Lit)) → IsWellFormed m → cs ≡ c.invariant → u ≡ t →
    ((w : Valuation) → IsKeptBy cs w → AreValues w t) → ((w : Valuation) → AreValues w u → All (IsLineIn w) ls) → (a : Lit) → IsAcceptedFor m a c → All (IsLine m) ls
map_holds m c cs ls t u well are same noted lines a accepted =
    lines_hold m a c ls well accepted (λ w kept. lines w (subst (AreValues w) (sym same) (noted w (subst (λ x. IsKeptBy x w) (sym are) kept))))
