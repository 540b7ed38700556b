use Rattle.std.proofs.Common.{rules, ◌≡◌, None, Some, subst}
use Rattle.certificate.specs.Reading.{section_at}
use Rattle.certificate3.proofs.ChainLaws.{finds_to, stops_all}
use Rattle.checker3.specs.Judged.{AreFed, IsRefuted}
use Rattle.checker3.proofs.Feeding.{refuted_closed, refuted_halts, refuted_open}
use Rattle.checker3.proofs.sections.check_refuted.Goals as goal

pub returns-in_err-found-clause-says : goal.returns-in_err-found-clause-says
returns-in_err-found-clause-says g c f is =
    stops_all (IsRefuted f) (section_at 98) c.in_err-found.field-0.0 _ _ _ _ _ c.from_residual.ensures.1 c.in_err-found.ensures.says

pub returns-in-Some-clause-says : goal.returns-in-Some-clause-says
returns-in-Some-clause-says g c f is =
    let r = c.args.refuter.now in
    let t = c.feed_section.new.refuter.stage in
    let fault = c.in-Some.fault in
    finds_to (AreFed r.base.vars r.stage t) (IsRefuted f) (section_at 98) c.in_ok-found.found (Some fault) _ _ _ _ c.in_ok-found.ensures.says
    (λ lines fed. refuted_halts f r t fault is lines (subst (λ o. AreFed r.base.vars r.stage t lines o) c.in-Some.is fed))

pub returns-in-Ok-clause-says : goal.returns-in-Ok-clause-says
returns-in-Ok-clause-says g c f is =
    let r = c.args.refuter.now in
    let t = c.feed_section.new.refuter.stage in
    let none : c.in_ok-found.found ≡ None = search rules in
    finds_to (AreFed r.base.vars r.stage t) (IsRefuted f) (section_at 98) c.in_ok-found.found None _ _ _ _ c.in_ok-found.ensures.says
    (λ lines fed. refuted_closed f r t is lines (subst (λ o. AreFed r.base.vars r.stage t lines o) none fed) c.in-Ok.ensures.ok.1)

pub returns-in-Err-clause-says : goal.returns-in-Err-clause-says
returns-in-Err-clause-says g c f is =
    let r = c.args.refuter.now in
    let t = c.feed_section.new.refuter.stage in
    let fault = c.in-Err.fault in
    let none : c.in_ok-found.found ≡ None = search rules in
    let fresh : c.feed_section.new.refuter.refusal ≡ None = search rules in
    let e = c.in-Err.ensures.open_end fresh in
    finds_to (AreFed r.base.vars r.stage t) (IsRefuted f) (section_at 98) c.in_ok-found.found (Some fault) _ _ _ _ c.in_ok-found.ensures.says
    (λ lines fed. refuted_open f r t fault is lines (subst (λ o. AreFed r.base.vars r.stage t lines o) none fed) e.0 e.1)
