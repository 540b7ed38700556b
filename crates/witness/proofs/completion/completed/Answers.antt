use Rattle.std.proofs.Common.{◌≡◌, ◌∙◌, Bool, None, get_or, ap, sym, subst}
use Rattle.std.specs.Prelude.{slice_get}
use Rattle.std.proofs.lemmas.List.{take_all}
use Rattle.witness.specs.Completions.{Completes, completion, reset_at, value_or}
use Rattle.witness.proofs.CompletionLaws.{completion_completes, completion_next}
use Rattle.witness.proofs.completion.completed.Goals as goal

pub loop-position-preserved : goal.loop-position-preserved
loop-position-preserved c =
    let row = c.args.row.now in
    let latches = c.args.latches.now in
    let k = c.loop-position.position in
    let is : c.given_or.result ≡ value_or (reset_at c.args.other (slice_get latches k)) (get_or row k None) =
    c.given_or.ensures ∙ ap (λ (r : Bool). value_or r (get_or row k None)) (c.reset_or-reset.ensures ∙ ap (reset_at c.args.other) c.latch_at.ensures) in
    c.in_ok-push.ensures.ok ∙ completion_next latches c.args.other row c.loop-position.values k c.given_or.result c.loop-position-test.true c.loop-position.invariant is

pub returns-clause-completes : goal.returns-clause-completes
returns-clause-completes c =
    let all = c.loop-position.invariant ∙ ap (completion c.args.latches.now c.args.other) (take_all c.loop-position.position c.args.row.now c.loop-position-test.false) in
    subst (Completes c.args.row.now) (sym all) (completion_completes c.args.latches.now c.args.other c.args.row.now)
