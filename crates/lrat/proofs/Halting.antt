-- A line that is refused leads on from no stage.
use Rattle.base.specs.Witness.{witness}
use Rattle.std.proofs.Common.{◌≡◌, ◌≢◌, ℕ, ◌<◌, inl, inr, true, false, List, map, All, IsSome, is_some, ℤ, unsigned_abs, refl, ap, subst, arith}
use Rattle.std.specs.FinMap as fin
use Rattle.lrat.specs.Literals.{Finder}
use Rattle.lrat.specs.Store.{ById}
use Rattle.lrat.specs.Faults.{IsImproper, Stops, StopsLast}
use Rattle.lrat.specs.Refusals.{IsRefusedLine}
use Rattle.lrat.specs.Stages.{Stage, TakesOut, IsPositive, Goes}
use Rattle.lrat.specs.Halts.{LacksOne, Halts}
use Rattle.lrat.specs.declared.line.Line.{Line}
use Rattle.lrat.specs.declared.line.Line.TheVariants.{Add, Delete}
use Rattle.lrat.specs.declared.fault.Fault.{Fault}
use Rattle.lrat.specs.declared.fault.Fault.TheVariants.{OutOfMemory, UnknownId, IdOrder, SeveralLeft, TrueAlready, NotFalse, EarlyConflict, NoHints, NegativeHint, RepeatedLiteral, NoEmptyClause, AfterEmpty, VariableRange, EmptyLemma, NoIds}
use Rattle.lrat.proofs.Complete.{refused_not}
use Rattle.lrat.proofs.Exact.{takes_next}

-- no clause with its hints is refused for e
other_cause : (n : ℕ) (m : Finder) (c : List ℤ) (hints : List ℕ) (e : Fault) → (IsImproper n c e → ⊥) → e ≢ NoHints → ((s : List ℤ) (id : ℕ) → Stops m s id e → ⊥) → ((s : List ℤ) (id : ℕ) → StopsLast m s id e → ⊥) → IsRefusedLine n m c hints e → ⊥
other_cause n m c hints e p q r s (inl improper) = p improper
other_cause n m c hints e p q r s (inr (proper, inl (none, is))) = q is
other_cause n m c hints e p q r s (inr (proper, inr (inl early))) = r early.stops.3 early.stops.1 early.stops.6
other_cause n m c hints e p q r s (inr (proper, inr (inr late))) = s late.reached late.last late.stops

-- an addition that is refused for its clause and hints
pub halts_add : (n : ℕ) (s : Stage) (id : ℕ) (c hints : List ℤ) (e : Fault) → s.closed ≡ false → s.top < id → All IsPositive hints → IsRefusedLine n (fin.get s.present) c (map unsigned_abs hints) e → Halts n s (Add id c hints) e
halts_add n s id c hints (OutOfMemory refused) o lt all why = tt
halts_add n s id c hints UnknownId o lt all why = (o, lt, all, why)
halts_add n s id c hints IdOrder o lt all why = absurd (other_cause n _ c _ IdOrder (λ x. x) (λ x. cc) (λ t i x. x) (λ t i x. x) why)
halts_add n s id c hints SeveralLeft o lt all why = (o, lt, all, why)
halts_add n s id c hints TrueAlready o lt all why = (o, lt, all, why)
halts_add n s id c hints NotFalse o lt all why = (o, lt, all, why)
halts_add n s id c hints EarlyConflict o lt all why = (o, lt, all, why)
halts_add n s id c hints NoHints o lt all why = (o, lt, all, why)
halts_add n s id c hints NegativeHint o lt all why = absurd (other_cause n _ c _ NegativeHint (λ x. x) (λ x. cc) (λ t i x. x) (λ t i x. x) why)
halts_add n s id c hints RepeatedLiteral o lt all why = (o, lt, all, why)
halts_add n s id c hints NoEmptyClause o lt all why = (o, lt, all, why)
halts_add n s id c hints AfterEmpty o lt all why = absurd (other_cause n _ c _ AfterEmpty (λ x. x) (λ x. cc) (λ t i x. x) (λ t i x. x) why)
halts_add n s id c hints VariableRange o lt all why = (o, lt, all, why)
halts_add n s id c hints EmptyLemma o lt all why = (o, lt, all, why)
halts_add n s id c hints NoIds o lt all why = (o, lt, all, why)

-- and what it says
cause_add : (n : ℕ) (s : Stage) (id : ℕ) (c hints : List ℤ) (e : Fault) → e ≢ OutOfMemory witness → Halts n s (Add id c hints) e → s.closed ≡ false → s.top < id → All IsPositive hints → IsRefusedLine n (fin.get s.present) c (map unsigned_abs hints) e
cause_add n s id c hints (OutOfMemory refused) ne why o lt all = absurd (ne refl)
cause_add n s id c hints UnknownId ne why o lt all = why.3
cause_add n s id c hints IdOrder ne why o lt all = absurd (let le = why.1 in omega (arith, le, lt))
cause_add n s id c hints SeveralLeft ne why o lt all = why.3
cause_add n s id c hints TrueAlready ne why o lt all = why.3
cause_add n s id c hints NotFalse ne why o lt all = why.3
cause_add n s id c hints EarlyConflict ne why o lt all = why.3
cause_add n s id c hints NoHints ne why o lt all = why.3
cause_add n s id c hints NegativeHint ne why o lt all = absurd (why.2 all)
cause_add n s id c hints RepeatedLiteral ne why o lt all = why.3
cause_add n s id c hints NoEmptyClause ne why o lt all = why.3
cause_add n s id c hints AfterEmpty ne why o lt all = absurd (let shut : s.closed ≡ true = why in cc)
cause_add n s id c hints VariableRange ne why o lt all = why.3
cause_add n s id c hints EmptyLemma ne why o lt all = why.3
cause_add n s id c hints NoIds ne why o lt all = why.3

lacks_not : (m n : ById) (ids : List ℕ) → LacksOne m ids → TakesOut m ids n → ⊥
lacks_not m n ids lacks takes =
    let here : IsSome (fin.get lacks.reached lacks.id) = takes_next lacks.done lacks.id lacks.later m n lacks.reached lacks.takes (subst (λ us. TakesOut m us n) lacks.are takes) in
    let none = lacks.absent in
    let gone : is_some (fin.get lacks.reached lacks.id) ≡ false = ap is_some none in
    cc

delete_not : (n : ℕ) (s : Stage) (id : ℕ) (ids : List ℕ) (e : Fault) → e ≢ OutOfMemory witness → Halts n s (Delete id ids) e → (t : Stage) → Goes n s (Delete id ids) t → ⊥
delete_not n s id ids (OutOfMemory refused) ne why t goes = ne refl
delete_not n s id ids UnknownId ne why t goes = lacks_not s.present t.present ids why.1 goes.3
delete_not n s id ids IdOrder ne why t goes = why
delete_not n s id ids SeveralLeft ne why t goes = why
delete_not n s id ids TrueAlready ne why t goes = why
delete_not n s id ids NotFalse ne why t goes = why
delete_not n s id ids EarlyConflict ne why t goes = why
delete_not n s id ids NoHints ne why t goes = why
delete_not n s id ids NegativeHint ne why t goes = why
delete_not n s id ids RepeatedLiteral ne why t goes = why
delete_not n s id ids NoEmptyClause ne why t goes = why
delete_not n s id ids AfterEmpty ne why t goes = let shut : s.closed ≡ true = why in let o : s.closed ≡ false = goes.0 in cc
delete_not n s id ids VariableRange ne why t goes = why
delete_not n s id ids EmptyLemma ne why t goes = why
delete_not n s id ids NoIds ne why t goes = why

-- a line that is refused leads nowhere
pub halts_not : (n : ℕ) (s : Stage) (l : Line) (e : Fault) → Halts n s l e → e ≢ OutOfMemory witness → (t : Stage) → Goes n s l t → ⊥
halts_not n s (Add id c hints) e why ne t goes =
    refused_not n _ c _ e (cause_add n s id c hints e ne why goes.0 goes.1 goes.2) ne goes.3
halts_not n s (Delete id ids) e why ne t goes = delete_not n s id ids e ne why t goes
