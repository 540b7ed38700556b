use Rattle.std.proofs.Common.{◌≡◌, sym, ◌∙◌, inl}
use Rattle.graph.specs.Circuits.{Valuation, value_of}
use Rattle.stimulus.specs.Shown.{last_of}
use Rattle.stimulus.proofs.LassoLaws.{if_some_at}
use Rattle.stimulus.proofs.judging.judge_bad.Goals as goal

pub value-requires-clause-in_range : goal.value-requires-clause-in_range
value-requires-clause-in_range c = rw c.requires.runs.circuit c.requires.in_range

pub returns-then-value-clause-shown : goal.returns-then-value-clause-shown
returns-then-value-clause-shown c p watched =
    let run = c.requires.runs in
    let v = if_some_at (λ (u : Valuation). c.value.result ≡ value_of u c.args.bad) c.args.replay.now.now (last_of run.valuations) c.value.ensures run.has_now in
    inl (record {
      bad = c.args.bad;
      replay = run.valuations;
      watched = watched;
      replays = run.is_run.replays;
      runs = run.is_run.runs;
      keeps = run.is_run.keeps;
      sets = sym v ∙ c.if-value.true;
    })

pub returns-else-value-clause-refused : goal.returns-else-value-clause-refused
returns-else-value-clause-refused c p watched =
    let run = c.requires.runs in
    let v = if_some_at (λ (u : Valuation). c.value.result ≡ value_of u c.args.bad) c.args.replay.now.now (last_of run.valuations) c.value.ensures run.has_now in
    record {
      bad = c.args.bad;
      replay = run.valuations;
      watched = watched;
      runs = run.is_run;
      not_set = sym v ∙ c.if-value.false;
    }
