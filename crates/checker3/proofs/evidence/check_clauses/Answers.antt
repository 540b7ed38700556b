use Rattle.std.proofs.Common.{◌≤◌, subst, sym}
use Rattle.scan.specs.Reading.{◌>>=◌}
use Rattle.scan.specs.Lists.{many_at}
use Rattle.scan.specs.Words.{any, field_at}
use Rattle.certificate.specs.Reading.{greatest, clause_at}
use Rattle.certificate3.specs.Reading.{clauses_at, evidence_of, proofs_at}
use Rattle.certificate3.specs.Texts.{Proofs}
use Rattle.certificate3.proofs.ChainLaws.{goes_on, maps, same_reads, stops}
use Rattle.certificate3.proofs.PartLaws.{clauses_is, then_invariant, then_proofs}
use Rattle.checker3.specs.Judged.{IsProvedOver}
use Rattle.checker3.proofs.evidence.check_clauses.Goals as goal

pub returns-in_err-count-clause-says : goal.returns-in_err-count-clause-says
returns-in_err-count-clause-says g c ls gs =
    let P = IsProvedOver c.args.circuit.now c.args.bad in
    same_reads P (λ bytes. field_at greatest any 10 bytes >>= λ n. then_invariant ls gs n.0 n.1) (clauses_at ls gs) _ _ _ _ _ (clauses_is ls gs)
    (stops P (field_at greatest any 10) (then_invariant ls gs) c.in_err-count.field-0.0 _ _ _ _ _ c.from_residual.ensures.1 c.in_err-count.ensures.says)

pub returns-in_err-invariant-clause-says : goal.returns-in_err-invariant-clause-says
returns-in_err-invariant-clause-says g c ls gs =
    let P = IsProvedOver c.args.circuit.now c.args.bad in
    let n = c.in_ok-count.count in
    same_reads P (λ bytes. field_at greatest any 10 bytes >>= λ n. then_invariant ls gs n.0 n.1) (clauses_at ls gs) _ _ _ _ _ (clauses_is ls gs)
    (goes_on P (field_at greatest any 10) (then_invariant ls gs) n _ _ _ _ _ _ _ c.in_ok-count.ensures.says
    (stops P (many_at clause_at n) (then_proofs ls gs n) c.in_err-invariant.field-0.0 _ _ _ _ _ c.from_residual-in_err-invariant.ensures.1 c.in_err-invariant.ensures.says))

pub check_invariant-requires-clause-few : goal.check_invariant-requires-clause-few
check_invariant-requires-clause-few g c = subst (λ k. k ≤ 4194303) (sym c.in_ok-invariant.ensures.many) c.in_ok-count.ensures.few

pub returns-clause-says : goal.returns-clause-says
returns-clause-says g c ls gs =
    let P = IsProvedOver c.args.circuit.now c.args.bad in
    let n = c.in_ok-count.count in
    let inv = c.in_ok-invariant.invariant in
    same_reads P (λ bytes. field_at greatest any 10 bytes >>= λ n. then_invariant ls gs n.0 n.1) (clauses_at ls gs) _ _ _ _ _ (clauses_is ls gs)
    (goes_on P (field_at greatest any 10) (then_invariant ls gs) n _ _ _ _ _ _ _ c.in_ok-count.ensures.says
    (goes_on P (many_at clause_at n) (then_proofs ls gs n) inv _ _ _ _ _ _ _ c.in_ok-invariant.ensures.says
    (maps (λ (p : Proofs) found. P (evidence_of ls gs inv p) found) P (proofs_at n) (evidence_of ls gs inv) _ _ _ _ _ (rw c.in_ok-invariant.ensures.many at (c.check_invariant.ensures.says ls gs)) (λ p x u. u))))
