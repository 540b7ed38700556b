-- What the refusal of a whole proof says.
use Rattle.base.specs.Witness.{witness}
use Rattle.std.proofs.Common.{◌≡◌, ◌≢◌, ◌⊎◌, inl, inr, ℕ, ◌+◌, ◌<◌, ◌≤◌, true, false, List, length, take, drop, get_or, refl, sym, ◌∙◌, ap, subst, arith}
use Rattle.std.proofs.lemmas.List.{length-take-le}
use Rattle.lrat.specs.Stages.{Stage, GoAlong}
use Rattle.lrat.specs.Halts.{Halts}
use Rattle.lrat.specs.Proofs.{first_stage, IsAcceptedProof, IsRefusedProof}
use Rattle.lrat.specs.declared.formula.Formula.{Formula}
use Rattle.lrat.specs.declared.line.Line.{Line}
use Rattle.lrat.specs.declared.step_error.StepError.{StepError}
use Rattle.lrat.specs.declared.fault.Fault.{Fault}
use Rattle.lrat.specs.declared.fault.Fault.TheVariants.{OutOfMemory, UnknownId, IdOrder, SeveralLeft, TrueAlready, NotFalse, EarlyConflict, NoHints, NegativeHint, RepeatedLiteral, NoEmptyClause, AfterEmpty, VariableRange, EmptyLemma, NoIds}
use Rattle.lrat.proofs.Exact.{parts_at, along_next_is, along_unique}
use Rattle.lrat.proofs.Halting.{halts_not}

pub is_memory : (e : Fault) → (e ≡ OutOfMemory witness) ⊎ (e ≢ OutOfMemory witness)
is_memory (OutOfMemory refused) = inl refl
is_memory UnknownId = inr (λ x. cc)
is_memory IdOrder = inr (λ x. cc)
is_memory SeveralLeft = inr (λ x. cc)
is_memory TrueAlready = inr (λ x. cc)
is_memory NotFalse = inr (λ x. cc)
is_memory EarlyConflict = inr (λ x. cc)
is_memory NoHints = inr (λ x. cc)
is_memory NegativeHint = inr (λ x. cc)
is_memory RepeatedLiteral = inr (λ x. cc)
is_memory NoEmptyClause = inr (λ x. cc)
is_memory AfterEmpty = inr (λ x. cc)
is_memory VariableRange = inr (λ x. cc)
is_memory EmptyLemma = inr (λ x. cc)
is_memory NoIds = inr (λ x. cc)

pub same_error : (e : StepError) (fault : Fault) (line : ℕ) → e.fault ≡ fault → e.line ≡ line → e ≡ record { fault = fault; line = line }
same_error e fault line p q = λ i. record { fault = p i; line = q i }

-- the line at place i is refused
pub refused_at : (f : Formula) (ls : List Line) (i : ℕ) (s : Stage) (x : Line) (fault : Fault) (e : StepError) → i < length ls → GoAlong f.vars (first_stage f) (take i ls) s → x ≡ get_or ls i x → Halts f.vars s x fault → e.fault ≡ fault → (fault ≢ OutOfMemory witness → e.line ≡ i) → (fault ≡ OutOfMemory witness → e.line ≡ 0) → IsRefusedProof f ls e
refused_at f ls i s x fault e lt along at halts is line none =
    elim (is_memory fault) [
      | inl memory ↦ inl (same_error e (OutOfMemory witness) 0 (is ∙ memory) (none memory))
      | inr ne ↦
          let le : i ≤ length ls = omega arith in
          inr (inl (record {
            done = take i ls;
            line = get_or ls i x;
            later = drop (i + 1) ls;
            reached = s;
            are = parts_at ls i x lt;
            place = line ne ∙ sym (length-take-le i ls le);
            along = along;
            halts = subst (λ y. Halts f.vars s y e.fault) at (subst (Halts f.vars s x) (sym is) halts);
          }))
    ]

-- no line adds the empty clause
pub refused_open : (f : Formula) (ls : List Line) (s : Stage) (fault : Fault) (e : StepError) → GoAlong f.vars (first_stage f) ls s → s.closed ≡ false → fault ≡ NoEmptyClause → e.fault ≡ fault → (fault ≢ OutOfMemory witness → e.line ≡ length ls) → IsRefusedProof f ls e
refused_open f ls s fault e along shut is same line =
    inr (inr (same ∙ is, record { reached = s; along = along; open_end = shut; place = line (λ x. cc) }))

-- a proof that is refused is not accepted
pub refused_proof_not : (f : Formula) (ls : List Line) (e : StepError) → IsRefusedProof f ls e → e.fault ≢ OutOfMemory witness → IsAcceptedProof f ls → ⊥
refused_proof_not f ls e (inl memory) ne accepted = ne (ap (λ x. x.fault) memory)
refused_proof_not f ls e (inr (inl halt)) ne accepted =
    let next = along_next_is f.vars halt.done halt.line halt.later (first_stage f) halt.reached accepted.0 halt.along (subst (λ us. GoAlong f.vars (first_stage f) us accepted.0) halt.are accepted.1) in
    halts_not f.vars halt.reached halt.line e.fault halt.halts ne next.0 next.1
refused_proof_not f ls e (inr (inr stays)) ne accepted =
    let same = along_unique f.vars ls (first_stage f) stays.1.reached accepted.0 stays.1.along accepted.1 in
    let shut : stays.1.reached.closed ≡ true = ap (λ s. s.closed) same ∙ accepted.2 in
    let o : stays.1.reached.closed ≡ false = stays.1.open_end in
    cc
