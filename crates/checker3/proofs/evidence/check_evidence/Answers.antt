use Rattle.scan.specs.Reading.{◌>>=◌}
use Rattle.scan.specs.Lists.{many_at}
use Rattle.certificate3.specs.Reading.{clauses_at, evidence_at, gate_at, latch_at, sizes_at}
use Rattle.certificate3.proofs.ChainLaws.{goes_on, same_reads, stops}
use Rattle.certificate3.proofs.PartLaws.{evidence_is, then_gates, then_latches}
use Rattle.certificate3.proofs.PieceLaws.{sizes_of_piece}
use Rattle.checker3.specs.Judged.{IsJudgedFor}
use Rattle.checker3.proofs.evidence.check_evidence.Goals as goal

pub line-requires-clause-line : goal.line-requires-clause-line
line-requires-clause-line g c = sizes_of_piece

pub returns-in_err-sizes-clause-says : goal.returns-in_err-sizes-clause-says
returns-in_err-sizes-clause-says g c =
    let P = IsJudgedFor c.args.circuit.now c.args.bad in
    same_reads P (λ bytes. sizes_at bytes >>= λ s. then_latches s.0 s.1) evidence_at _ _ _ _ _ evidence_is
    (stops P sizes_at then_latches c.in_err-sizes.field-0.0 _ _ _ _ _ c.from_residual.ensures.1 c.in_err-sizes.ensures.says)

pub returns-in_err-latches-clause-says : goal.returns-in_err-latches-clause-says
returns-in_err-latches-clause-says g c =
    let P = IsJudgedFor c.args.circuit.now c.args.bad in
    let s = c.in_ok-sizes.sizes in
    same_reads P (λ bytes. sizes_at bytes >>= λ s. then_latches s.0 s.1) evidence_at _ _ _ _ _ evidence_is
    (goes_on P sizes_at then_latches s _ _ _ _ _ _ _ c.in_ok-sizes.ensures.says
    (stops P (many_at latch_at s.latches) (then_gates s) c.in_err-latches.field-0.0 _ _ _ _ _ c.from_residual-in_err-latches.ensures.1 c.in_err-latches.ensures.says))

pub returns-in_err-gates-clause-says : goal.returns-in_err-gates-clause-says
returns-in_err-gates-clause-says g c =
    let P = IsJudgedFor c.args.circuit.now c.args.bad in
    let s = c.in_ok-sizes.sizes in
    let ls = c.in_ok-latches.latches in
    same_reads P (λ bytes. sizes_at bytes >>= λ s. then_latches s.0 s.1) evidence_at _ _ _ _ _ evidence_is
    (goes_on P sizes_at then_latches s _ _ _ _ _ _ _ c.in_ok-sizes.ensures.says
    (goes_on P (many_at latch_at s.latches) (then_gates s) ls _ _ _ _ _ _ _ c.in_ok-latches.ensures.says
    (stops P (many_at gate_at s.gates) (clauses_at ls) c.in_err-gates.field-0.0 _ _ _ _ _ c.from_residual-in_err-gates.ensures.1 c.in_err-gates.ensures.says)))

pub returns-clause-says : goal.returns-clause-says
returns-clause-says g c =
    let P = IsJudgedFor c.args.circuit.now c.args.bad in
    let s = c.in_ok-sizes.sizes in
    let ls = c.in_ok-latches.latches in
    let gs = c.in_ok-gates.gates in
    same_reads P (λ bytes. sizes_at bytes >>= λ s. then_latches s.0 s.1) evidence_at _ _ _ _ _ evidence_is
    (goes_on P sizes_at then_latches s _ _ _ _ _ _ _ c.in_ok-sizes.ensures.says
    (goes_on P (many_at latch_at s.latches) (then_gates s) ls _ _ _ _ _ _ _ c.in_ok-latches.ensures.says
    (goes_on P (many_at gate_at s.gates) (clauses_at ls) gs _ _ _ _ _ _ _ c.in_ok-gates.ensures.says
    (rw (c.as_slice.ensures, c.as_slice-2.ensures) at c.check_over.ensures.says))))
