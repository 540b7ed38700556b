use Rattle.std.proofs.Common.{◌≡◌, ◌<◌, ◌∙◌, ℕ, arith, subst}
use Rattle.std.specs.Io.KnownBytes.{Appends}
use Rattle.base.proofs.Putting.{puts_err}
use Rattle.trace.specs.Widths.{spaces}
use Rattle.trace.proofs.WidthLaws.{spaces_cut, spaces_more}
use Rattle.trace.proofs.widths.put_spaces.Goals as goal

pub loop-space-preserved : goal.loop-space-preserved
loop-space-preserved g c = record {
  steady = c.in_ok-put_all.ensures.counts ∙ c.loop-space.invariant.steady;
  put = spaces_more c.loop-space._space (g.W.Sink.contents c.args.out.now) (g.W.Sink.contents c.loop-space.out) (g.W.Sink.contents c.put_all.new.out) c.loop-space.invariant.put c.in_ok-put_all.ensures.whole;
}

pub returns-in_err-put_all-clause-puts : goal.returns-in_err-put_all-clause-puts
returns-in_err-put_all-clause-puts g c =
    let n_in : c.loop-space._space < c.args.count = omega arith in
    puts_err c.from_residual.result (g.W.Sink.contents c.args.out.now) (g.W.Sink.contents c.put_all.new.out) (spaces c.args.count) c.from_residual.ensures.0
    (spaces_cut c.args.count c.loop-space._space (g.W.Sink.contents c.args.out.now) (g.W.Sink.contents c.loop-space.out) (g.W.Sink.contents c.put_all.new.out) n_in c.loop-space.invariant.put c.in_err-put_all.ensures.beginning)

pub returns-clause-puts : goal.returns-clause-puts
returns-clause-puts g c =
    let all : c.loop-space._space ≡ c.args.count = omega arith in
    subst (λ (n : ℕ). Appends (g.W.Sink.contents c.args.out.now) (g.W.Sink.contents c.loop-space.out) (spaces n)) all c.loop-space.invariant.put
