-- Why lines are no proof of a case.
use Rattle.std.proofs.Common.{◌≡◌, ◌≢◌, ◌⊎◌, inl, inr, ℕ, ◌+◌, ◌<◌, ◌≤◌, ◌^◌, true, false, List, [], ◌∷◌, All, length, take, drop, get_or, refl, sym, ◌∙◌, ap, subst, arith}
use Rattle.std.proofs.lemmas.List.{length-take-le}
use Rattle.std.proofs.lemmas.List.Elements.{All-head, All-tail}
use Rattle.base.specs.Witness.{witness}
use Rattle.lrat.specs.declared.fault.Fault.{Fault}
use Rattle.lrat.specs.declared.fault.Fault.TheVariants.{OutOfMemory, NoEmptyClause, NoIds}
use Rattle.lrat.specs.declared.line.Line.{Line}
use Rattle.lrat.specs.declared.line.Line.TheVariants.{Add, Delete}
use Rattle.lrat.specs.declared.step_error.StepError.{StepError}
use Rattle.lrat.specs.Halts.{Halts}
use Rattle.lrat.specs.Limits.{IsLine}
use Rattle.lrat.specs.Proofs.{HaltsAt}
use Rattle.lrat.specs.Shared.{over}
use Rattle.lrat.specs.Stages.{Stage, GoAlong}
use Rattle.lrat.proofs.Exact.{parts_at, along_next_is, along_unique}
use Rattle.lrat.proofs.Halting.{halts_not}
use Rattle.lrat.proofs.Refusing.{is_memory, same_error}
use Rattle.checker2.specs.Accepted.{Case, IsProofOf}
use Rattle.checker2.specs.Causes.{HasIds, IsRefusedCase}

-- the units are refused, before any line
pub refused_units : (c : Case) (ls : List Line) (fault : Fault) (e : StepError) →
    ((fault ≡ OutOfMemory witness) × (c.base.top + length c.units < 2 ^ 32)) ⊎ ((fault ≡ NoIds) × (2 ^ 32 ≤ c.base.top + length c.units)) →
    e.fault ≡ fault → (fault ≢ OutOfMemory witness → e.line ≡ 0) → (fault ≡ OutOfMemory witness → e.line ≡ 0) → IsRefusedCase c ls e
refused_units c ls fault e (inl memory) is line none = inl (same_error e (OutOfMemory witness) 0 (is ∙ memory.0) (none memory.0))
refused_units c ls fault e (inr ids) is line none =
    let many = ids.1 in
    inr (inl (same_error e NoIds 0 (is ∙ ids.0) (line (λ memory. let same : NoIds ≡ OutOfMemory witness = sym ids.0 ∙ memory in cc)), omega arith))

-- the line at place i is refused
pub refused_line : (c : Case) (ls : List Line) (i : ℕ) (s : Stage) (x : Line) (fault : Fault) (e : StepError) → HasIds c → i < length ls → GoAlong c.base.vars (over c.base c.units) (take i ls) s →
    x ≡ get_or ls i x → Halts c.base.vars s x fault → e.fault ≡ fault → (fault ≢ OutOfMemory witness → e.line ≡ i) → (fault ≡ OutOfMemory witness → e.line ≡ 0) → IsRefusedCase c ls e
refused_line c ls i s x fault e ids lt along at halts is line none =
    elim (is_memory fault) [
      | inl memory ↦ inl (same_error e (OutOfMemory witness) 0 (is ∙ memory) (none memory))
      | inr ne ↦
          let le : i ≤ length ls = omega arith in
          inr (inr (
            ids,
            inl (record {
              done = take i ls;
              line = get_or ls i x;
              later = drop (i + 1) ls;
              reached = s;
              are = parts_at ls i x lt;
              place = line ne ∙ sym (length-take-le i ls le);
              along = along;
              halts = subst (λ y. Halts c.base.vars s y e.fault) at (subst (Halts c.base.vars s x) (sym is) halts);
            }),
          ))
    ]

-- no line adds the empty clause
pub refused_open : (c : Case) (ls : List Line) (s : Stage) (fault : Fault) (e : StepError) → HasIds c → GoAlong c.base.vars (over c.base c.units) ls s → s.closed ≡ false →
    fault ≡ NoEmptyClause → e.fault ≡ fault → (fault ≢ OutOfMemory witness → e.line ≡ length ls) → IsRefusedCase c ls e
refused_open c ls s fault e ids along shut is same line =
    inr (inr (ids, inr (same ∙ is, record { reached = s; along = along; open_end = shut; place = line (λ x. cc) })))

-- lines that halt lead on to no stage
halted_not : (n : ℕ) (s : Stage) (ls : List Line) (e : Fault) (k : ℕ) → HaltsAt n s ls e k → e ≢ OutOfMemory witness → (t : Stage) → GoAlong n s ls t → ⊥
halted_not n s ls e k halt ne t along =
    let next = along_next_is n halt.done halt.line halt.later s halt.reached t halt.along (subst (λ us. GoAlong n s us t) halt.are along) in
    halts_not n halt.reached halt.line e halt.halts ne next.0 next.1

-- lines add the empty clause only where an id is left for it
id_left : (n : ℕ) (ls : List Line) (s t : Stage) → All IsLine ls → s.closed ≡ false → GoAlong n s ls t → t.closed ≡ true → s.top < 4294967295
id_left n [] s t lines shut same closed = let both : s.closed ≡ true = sym (ap (λ (u : Stage). u.closed) same) ∙ closed in cc
id_left n (Add id c hints ∷ ls) s t lines shut along closed =
    let line : IsLine (Add id c hints) = All-head IsLine (Add id c hints) ls lines in
    let few = line.0.1 in
    let goes = along.1.1 in
    omega arith
id_left n (Delete id ids ∷ ls) s t lines shut along closed =
    let later : along.0.top < 4294967295 = id_left n ls along.0 t (All-tail IsLine (Delete id ids) ls lines) along.1.2 along.2 closed in
    let same : along.0.top ≡ s.top = along.1.1 in
    omega arith

-- what is refused is no proof
pub refused_case_not : (c : Case) (ls : List Line) (e : StepError) → IsRefusedCase c ls e → e.fault ≢ OutOfMemory witness → IsProofOf c ls → ⊥
refused_case_not c ls e (inl memory) ne proof = ne (ap (λ (x : StepError). x.fault) memory)
refused_case_not c ls e (inr (inl none)) ne proof =
    let few : c.base.top + length c.units < 4294967295 = id_left c.base.vars ls (over c.base c.units) proof.1.0 proof.0 refl proof.1.1 proof.1.2 in
    let many = none.1 in
    omega arith
refused_case_not c ls e (inr (inr (ids, inl halt))) ne proof = halted_not c.base.vars (over c.base c.units) ls e.fault e.line halt ne proof.1.0 proof.1.1
refused_case_not c ls e (inr (inr (ids, inr open_end))) ne proof =
    let stays = open_end.1 in
    let same = along_unique c.base.vars ls (over c.base c.units) stays.reached proof.1.0 stays.along proof.1.1 in
    let shut : stays.reached.closed ≡ true = ap (λ (s : Stage). s.closed) same ∙ proof.1.2 in
    let o : stays.reached.closed ≡ false = stays.open_end in
    cc
