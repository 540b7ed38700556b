use Rattle.std.proofs.Common.{rules, ◌<◌, Some}
use Rattle.extension.specs.Rounds.{rounds_of}
use Rattle.certificate3.specs.Reading.{evidence_at}
use Rattle.certificate3.proofs.ChainLaws.{finds_to, stops_all, weakens}
use Rattle.certificate3.proofs.PartLaws.{a_certificate}
use Rattle.certificate3.proofs.SkipLaws.{Skips}
use Rattle.checker3.specs.declared.check_error.CheckError.TheVariants.{Limit}
use Rattle.checker3.specs.Judged.{IsJudged, IsJudgedFor}
use Rattle.checker3.proofs.Claiming.{countable_here, counter_here, ended_here, ended_range, limit_here, unshowable_here}
use Rattle.checker3.proofs.Judging.{judged_for}
use Rattle.checker3.proofs.text.check_justice.Goals as goal

pub check_evidence-requires-clause-bad : goal.check_evidence-requires-clause-bad
check_evidence-requires-clause-bad g c = ended_range c.args.circuit.now c.in-Ok.counter c.args.claim.rounds c.args.position c.bad.result.now c.well_formed-in-Ok.ensures c.in-Ok.ensures.counter c.bad.ensures

pub returns-in-Ok-clause-says : goal.returns-in-Ok-clause-says
returns-in-Ok-clause-says g c =
    let m = c.args.circuit.now in
    let claim = c.args.claim in
    let s = c.in-Ok.counter in
    let n = c.args.position in
    weakens (λ e found. IsJudgedFor s _ e found) (λ e found. IsJudged m (a_certificate claim e) found) evidence_at _ _ _ _ _
    (λ e x. judged_for m s _ claim e x (countable_here m claim n c.requires.property c.requires.there c.requires.few c.in-Ok.ensures.countable.within) (counter_here m s claim.property claim.rounds n c.requires.property c.in-Ok.ensures.counter)
    (ended_here m s claim.property claim.rounds n c.bad.result.now c.requires.property c.in-Ok.ensures.counter c.bad.ensures)) c.check_evidence.ensures.says

pub returns-in_err-skip_evidence-in-Err-Limit-clause-says : goal.returns-in_err-skip_evidence-in-Err-Limit-clause-says
returns-in_err-skip_evidence-in-Err-Limit-clause-says g c =
    stops_all (λ e found. IsJudged c.args.circuit.now (a_certificate c.args.claim e) found) evidence_at c.in_err-skip_evidence-in-Err-Limit.field-0.0 _ _ _ _ _ c.from_residual.ensures.1 c.in_err-skip_evidence-in-Err-Limit.ensures.says

pub returns-in_ok-skip_evidence-in-Err-Limit-clause-says : goal.returns-in_ok-skip_evidence-in-Err-Limit-clause-says
returns-in_ok-skip_evidence-in-Err-Limit-clause-says g c =
    let m = c.args.circuit.now in
    let claim = c.args.claim in
    let many : 4194303 < (rounds_of m c.args.position claim.rounds).max_var = search rules in
    finds_to Skips (λ e found. IsJudged m (a_certificate claim e) found) evidence_at (tt {0}) (Some Limit) _ _ _ _ c.in_ok-skip_evidence-in-Err-Limit.ensures.says
    (λ e u. unshowable_here m claim e Limit (limit_here m claim c.args.position c.requires.property c.requires.there c.requires.few many))
