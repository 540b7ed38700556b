use Rattle.std.proofs.Common.{rules, All, None, Some, length, subst}
use Rattle.certificate3.specs.Reading.{evidence_of, proofs_at}
use Rattle.certificate3.specs.Texts.{Proofs}
use Rattle.certificate3.proofs.ChainLaws.{finds_to, stops_all}
use Rattle.certificate3.proofs.SkipLaws.{Skips}
use Rattle.extension.specs.Inductive.{IsOverAll}
use Rattle.checker3.specs.declared.check_error.CheckError.TheVariants.{Outside, Line}
use Rattle.checker3.specs.Judged.{HasProofs, IsOutside, IsProvedOver}
use Rattle.checker3.proofs.evidence.check_invariant.Goals as goal

pub returns-in_err-skip_proofs-clause-says : goal.returns-in_err-skip_proofs-clause-says
returns-in_err-skip_proofs-clause-says g c ls gs =
    let inv = c.args.claims.invariant.now in
    stops_all (λ (p : Proofs) found. IsProvedOver c.args.claims.circuit.now c.args.claims.bad (evidence_of ls gs inv p) found) (proofs_at (length inv)) c.in_err-skip_proofs.field-0.0 _ _ _ _ _
    c.from_residual.ensures.1 (rw c.len.ensures at c.in_err-skip_proofs.ensures.says)

pub returns-in-Some-clause-says : goal.returns-in-Some-clause-says
returns-in-Some-clause-says g c ls gs =
    let inv = c.args.claims.invariant.now in
    let m = c.args.claims.circuit.now in
    let outside : IsOutside m inv c.in-Some.clause = search rules in
    finds_to Skips (λ (p : Proofs) found. IsProvedOver m c.args.claims.bad (evidence_of ls gs inv p) found) (proofs_at (length inv)) (tt {0}) (Some (Outside c.in-Some.clause)) _ _ _ _
    (rw c.len.ensures at c.in_ok-skip_proofs.ensures.says) (λ p u. outside)

pub check_proofs-requires-clause-over : goal.check_proofs-requires-clause-over
check_proofs-requires-clause-over g c = search rules

pub returns-in_err-found-clause-says : goal.returns-in_err-found-clause-says
returns-in_err-found-clause-says g c ls gs =
    let inv = c.args.claims.invariant.now in
    stops_all (λ (p : Proofs) found. IsProvedOver c.args.claims.circuit.now c.args.claims.bad (evidence_of ls gs inv p) found) (proofs_at (length inv)) c.in_err-found.field-0.0 _ _ _ _ _
    c.from_residual-in_err-found.ensures.1 c.in_err-found.ensures.says

pub returns-in-None-clause-says : goal.returns-in-None-clause-says
returns-in-None-clause-says g c ls gs =
    let inv = c.args.claims.invariant.now in
    let m = c.args.claims.circuit.now in
    let a = c.args.claims.bad in
    let over : All (IsOverAll m) inv = search rules in
    finds_to (HasProofs m a inv) (λ (p : Proofs) found. IsProvedOver m a (evidence_of ls gs inv p) found) (proofs_at (length inv)) c.in_ok-found.found None _ _ _ _
    c.in_ok-found.ensures.says (λ p has. (c.requires.few, over, subst (λ o. HasProofs m a inv p o) c.in-None.is has))

pub returns-in-Some-found-clause-says : goal.returns-in-Some-found-clause-says
returns-in-Some-found-clause-says g c ls gs =
    let inv = c.args.claims.invariant.now in
    let m = c.args.claims.circuit.now in
    let a = c.args.claims.bad in
    let over : All (IsOverAll m) inv = search rules in
    finds_to (HasProofs m a inv) (λ (p : Proofs) found. IsProvedOver m a (evidence_of ls gs inv p) found) (proofs_at (length inv)) c.in_ok-found.found (Some (Line c.in-Some-found.fault)) _ _ _ _
    c.in_ok-found.ensures.says (λ p has. (over, subst (λ o. HasProofs m a inv p o) c.in-Some-found.is has))
