use Rattle.std.proofs.Common.{◌≡◌, ◌∙◌, sym, subst}
use Rattle.graph.specs.Circuits.{Valuation, value_of}
use Rattle.stimulus.proofs.LassoLaws.{if_some_at}
use Rattle.replay.specs.Found.{ArePlayed}
use Rattle.replay.proofs.Trials.{at_end_missing, at_end_not_set, at_end_set}
use Rattle.replay.proofs.playing.found_at_end.Goals as goal

pub returns-then-not-some : goal.returns-then-not-some
returns-then-not-some c m p initial lines watched starts long played =
    at_end_missing m p c.args.bad initial c.args.replay.now lines watched long (subst (λ b. ArePlayed m initial b c.args.replay.now lines) c.if-not-some.true played)

pub returns-then-value : goal.returns-then-value
returns-then-value c m p initial lines watched starts long played =
    at_end_set m p c.args.bad initial c.args.replay.now lines watched starts (subst (λ b. ArePlayed m initial b c.args.replay.now lines) c.if-not-some.false played)
    (λ w is. sym (if_some_at (λ (u : Valuation). c.value.result ≡ value_of u c.args.bad) c.args.replay.now.now w c.value.ensures is) ∙ c.if-value.true)

pub returns-else-value : goal.returns-else-value
returns-else-value c m p initial lines watched starts long played =
    at_end_not_set m p c.args.bad initial c.args.replay.now lines watched starts (subst (λ b. ArePlayed m initial b c.args.replay.now lines) c.if-not-some.false played)
    (λ w is. sym (if_some_at (λ (u : Valuation). c.value.result ≡ value_of u c.args.bad) c.args.replay.now.now w c.value.ensures is) ∙ c.if-value.false)
