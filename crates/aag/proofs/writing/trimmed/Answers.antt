use Rattle.std.proofs.Common.{rules, ◌∙◌}
use Rattle.aag.proofs.TrimLaws.{trimmed_none, trimmed_shorter, trimmed_whole}
use Rattle.aag.proofs.writing.trimmed.Goals as goal

pub loop-kept-preserved : goal.loop-kept-preserved
loop-kept-preserved c = record { same = trimmed_shorter c.loop-kept.kept.now c.in-len1-up.len_at_least c.if-last-eq0.true ∙ c.loop-kept.invariant.same; few = search rules }

pub returns-then-kept-lt1 : goal.returns-then-kept-lt1
returns-then-kept-lt1 c = trimmed_none c.loop-kept.kept.now (search rules) ∙ c.loop-kept.invariant.same

pub returns-else-last-eq0 : goal.returns-else-last-eq0
returns-else-last-eq0 c = trimmed_whole c.loop-kept.kept.now c.in-len1-up.len_at_least c.if-last-eq0.false ∙ c.loop-kept.invariant.same
