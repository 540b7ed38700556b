use Rattle.std.proofs.Common.{ap, ◌∙◌, ◌+◌, arith}
use Rattle.std.proofs.lemmas.List.{length_push}
use Rattle.engine_random.specs.Words.{draws}
use Rattle.engine_random.proofs.DrawLaws.{drawn-more, drawn-all}
use Rattle.engine_random.proofs.drawing.draw_row.Goals as goal

pub loop-preserved : goal.loop-preserved
loop-preserved c =
    rw c.in_ok-push.ensures.items (
      length_push c.loop.row.items c.draw_lanes.result ∙ ap (λ n. n + 1) c.loop.invariant.0,
      drawn-more c.loop.row.items c.args.count c.loop.counter c.loop.generator c.draw_lanes.new.generator c.draw_lanes.result (draws c.args.count c.args.generator.now) (omega arith)
          c.draw_lanes.ensures c.loop.invariant.1,
    )

pub returns-clause-drawn : goal.returns-clause-drawn
returns-clause-drawn c = rw c.from_vec.ensures (drawn-all c.loop.row.items _ c.loop.generator (draws c.args.count c.args.generator.now) (omega arith) c.loop.invariant.1)
