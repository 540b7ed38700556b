use Rattle.std.proofs.Common.{◌∙◌, [], map, ap, sym, subst}
use Rattle.std.proofs.lemmas.List.{take_all}
use Rattle.witness.specs.Completions.{CompleteFirst, completion}
use Rattle.witness.proofs.CompletionLaws.{completions_complete}
use Rattle.witness.proofs.completion.completed_rows.Goals as goal

pub returns-clause-complete : goal.returns-clause-complete
returns-clause-complete c =
    let all = c.loop-row.invariant ∙ ap (map (completion [] c.args.other)) (take_all c.loop-row.row-index c.args.rows.now c.loop-row-test.false) in
    subst (CompleteFirst c.args.rows.now) (sym all) (completions_complete c.args.other c.args.rows.now)
