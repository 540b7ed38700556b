use Rattle.scan.specs.Reading.{◌>>=◌}
use Rattle.scan.specs.Lists.{many_at}
use Rattle.scan.specs.Words.{any, field_at}
use Rattle.certificate.specs.Reading.{greatest, clause_at}
use Rattle.certificate3.specs.Reading.{clauses_at, evidence_of, proofs_at}
use Rattle.certificate3.proofs.ChainLaws.{goes_on, maps, same_reads, stops}
use Rattle.certificate3.proofs.PartLaws.{clauses_is, then_invariant, then_proofs}
use Rattle.certificate3.proofs.SkipLaws.{Skips}
use Rattle.certificate3.proofs.streaming.skip_clauses.Goals as goal

pub returns-in_err-count-clause-says : goal.returns-in_err-count-clause-says
returns-in_err-count-clause-says g c ls gs =
    same_reads Skips (λ bytes. field_at greatest any 10 bytes >>= λ n. then_invariant ls gs n.0 n.1) (clauses_at ls gs) _ _ _ _ _ (clauses_is ls gs)
    (stops Skips (field_at greatest any 10) (then_invariant ls gs) c.in_err-count.field-0.0 _ _ _ _ _ c.from_residual.ensures.1 c.in_err-count.ensures.says)

pub returns-in_err-_clauses-clause-says : goal.returns-in_err-_clauses-clause-says
returns-in_err-_clauses-clause-says g c ls gs =
    let n = c.in_ok-count.count in
    same_reads Skips (λ bytes. field_at greatest any 10 bytes >>= λ n. then_invariant ls gs n.0 n.1) (clauses_at ls gs) _ _ _ _ _ (clauses_is ls gs)
    (goes_on Skips (field_at greatest any 10) (then_invariant ls gs) n _ _ _ _ _ _ _ c.in_ok-count.ensures.says
    (stops Skips (many_at clause_at n) (then_proofs ls gs n) c.in_err-_clauses.field-0.0 _ _ _ _ _ c.from_residual-in_err-_clauses.ensures.1 c.in_err-_clauses.ensures.says))

pub returns-clause-says : goal.returns-clause-says
returns-clause-says g c ls gs =
    let n = c.in_ok-count.count in
    let inv = c.in_ok-_clauses._clauses in
    same_reads Skips (λ bytes. field_at greatest any 10 bytes >>= λ n. then_invariant ls gs n.0 n.1) (clauses_at ls gs) _ _ _ _ _ (clauses_is ls gs)
    (goes_on Skips (field_at greatest any 10) (then_invariant ls gs) n _ _ _ _ _ _ _ c.in_ok-count.ensures.says
    (goes_on Skips (many_at clause_at n) (then_proofs ls gs n) inv _ _ _ _ _ _ _ c.in_ok-_clauses.ensures.says
    (maps Skips Skips (proofs_at n) (evidence_of ls gs inv) _ _ _ _ _ c.skip_proofs.ensures.says (λ p x u. tt))))
