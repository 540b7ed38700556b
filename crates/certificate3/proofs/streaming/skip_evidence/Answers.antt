use Rattle.scan.specs.Reading.{◌>>=◌}
use Rattle.scan.specs.Lists.{many_at}
use Rattle.certificate3.specs.Reading.{clauses_at, evidence_at, gate_at, latch_at, sizes_at}
use Rattle.certificate3.proofs.ChainLaws.{goes_on, same_reads, stops}
use Rattle.certificate3.proofs.PartLaws.{evidence_is, then_gates, then_latches}
use Rattle.certificate3.proofs.PieceLaws.{sizes_of_piece}
use Rattle.certificate3.proofs.SkipLaws.{Skips}
use Rattle.certificate3.proofs.streaming.skip_evidence.Goals as goal

pub line-requires-clause-line : goal.line-requires-clause-line
line-requires-clause-line g c = sizes_of_piece

pub returns-in_err-sizes-clause-says : goal.returns-in_err-sizes-clause-says
returns-in_err-sizes-clause-says g c =
    same_reads Skips (λ bytes. sizes_at bytes >>= λ s. then_latches s.0 s.1) evidence_at _ _ _ _ _ evidence_is
    (stops Skips sizes_at then_latches c.in_err-sizes.field-0.0 _ _ _ _ _ c.from_residual.ensures.1 c.in_err-sizes.ensures.says)

pub returns-in_err-_latches-clause-says : goal.returns-in_err-_latches-clause-says
returns-in_err-_latches-clause-says g c =
    let s = c.in_ok-sizes.sizes in
    same_reads Skips (λ bytes. sizes_at bytes >>= λ s. then_latches s.0 s.1) evidence_at _ _ _ _ _ evidence_is
    (goes_on Skips sizes_at then_latches s _ _ _ _ _ _ _ c.in_ok-sizes.ensures.says
    (stops Skips (many_at latch_at s.latches) (then_gates s) c.in_err-_latches.field-0.0 _ _ _ _ _ c.from_residual-in_err-_latches.ensures.1 c.in_err-_latches.ensures.says))

pub returns-in_err-_gates-clause-says : goal.returns-in_err-_gates-clause-says
returns-in_err-_gates-clause-says g c =
    let s = c.in_ok-sizes.sizes in
    let ls = c.in_ok-_latches._latches in
    same_reads Skips (λ bytes. sizes_at bytes >>= λ s. then_latches s.0 s.1) evidence_at _ _ _ _ _ evidence_is
    (goes_on Skips sizes_at then_latches s _ _ _ _ _ _ _ c.in_ok-sizes.ensures.says
    (goes_on Skips (many_at latch_at s.latches) (then_gates s) ls _ _ _ _ _ _ _ c.in_ok-_latches.ensures.says
    (stops Skips (many_at gate_at s.gates) (clauses_at ls) c.in_err-_gates.field-0.0 _ _ _ _ _ c.from_residual-in_err-_gates.ensures.1 c.in_err-_gates.ensures.says)))

pub returns-clause-says : goal.returns-clause-says
returns-clause-says g c =
    let s = c.in_ok-sizes.sizes in
    let ls = c.in_ok-_latches._latches in
    let gs = c.in_ok-_gates._gates in
    same_reads Skips (λ bytes. sizes_at bytes >>= λ s. then_latches s.0 s.1) evidence_at _ _ _ _ _ evidence_is
    (goes_on Skips sizes_at then_latches s _ _ _ _ _ _ _ c.in_ok-sizes.ensures.says
    (goes_on Skips (many_at latch_at s.latches) (then_gates s) ls _ _ _ _ _ _ _ c.in_ok-_latches.ensures.says
    (goes_on Skips (many_at gate_at s.gates) (clauses_at ls) gs _ _ _ _ _ _ _ c.in_ok-_gates.ensures.says (c.skip_clauses.ensures.says ls gs))))
