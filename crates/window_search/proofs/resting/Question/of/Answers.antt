use Rattle.std.proofs.Common.{rules, SFits, w32}
use Rattle.window_search.proofs.Literals.{unit}
use Rattle.window_search.proofs.resting.Question.of.Goals as goal

pub returns : goal.returns
returns c =
    let n = c.args.frames.now in
    let truth_fits : SFits w32 c.truth.result = search rules in
    let bad_fits : SFits w32 c.literal-bad.result = search rules in
    let truth = c.in_ok-push_clause.ensures.within n c.in_ok-add_times.ensures (unit n c.truth.result truth_fits c.truth.ensures) in
    c.in_ok-push_clause-2.ensures.within n truth (unit n c.literal-bad.result bad_fits c.literal-bad.ensures)
