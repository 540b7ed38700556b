use Rattle.std.proofs.Common.{◌≡◌, ◌<◌, [], length, get_or, refl, sym, ◌∙◌, arith}
use Rattle.std.proofs.lemmas.List.{get_or_default}
use Rattle.graph.specs.Circuits.{Valuation, value_of}
use Rattle.stimulus.proofs.CourseLaws.{moves_of}
use Rattle.stimulus.proofs.LassoLaws.{if_some_at}
use Rattle.witness.specs.Cutting.{SetsLast}
use Rattle.witness.proofs.CuttingLaws.{not_set_last, set_last, unended_ends, unended_more, unended_never, unended_none}
use Rattle.witness.proofs.cutting.times_to_set.Goals as goal

pub loop-t-init : goal.loop-t-init
loop-t-init c = unended_none (SetsLast c.args.lit) c.args.replay.now.circuit c.args.lines.now c.args.replay.now refl

pub returns-then-value : goal.returns-then-value
returns-then-value c =
    let m = c.args.replay.now.circuit in
    let a = c.args.lit in
    let t_in : c.loop-t.t < length c.args.lines.now = omega arith in
    let is_line : get_or c.args.lines.now c.loop-t.t [] ≡ c.as_slice.result.now = get_or_default c.args.lines.now c.loop-t.t [] c.index-lines-t.result t_in ∙ sym c.index-lines-t.is ∙ sym c.as_slice.ensures in
    let s = moves_of m c.loop-t.replay c.step.new.self c.as_slice.result.now c.loop-t.invariant.stepped.circuit c.step.ensures in
    let is : c.value.result ≡ value_of c.step.ensures.now a = if_some_at (λ (u : Valuation). c.value.result ≡ value_of u a) c.step.new.self.now c.step.ensures.now c.value.ensures s.is_now in
    unended_ends (SetsLast a) m c.args.replay.now.state c.as_slice.result.now c.args.lines.now c.loop-t.t c.loop-t.replay c.step.new.self c.step.ensures.now t_in is_line c.loop-t.invariant s
    (set_last a c.loop-t.invariant.valuations c.step.ensures.now (sym is ∙ c.if-value.true))

pub loop-t-preserved : goal.loop-t-preserved
loop-t-preserved c =
    let m = c.args.replay.now.circuit in
    let a = c.args.lit in
    let t_in : c.loop-t.t < length c.args.lines.now = omega arith in
    let is_line : get_or c.args.lines.now c.loop-t.t [] ≡ c.as_slice.result.now = get_or_default c.args.lines.now c.loop-t.t [] c.index-lines-t.result t_in ∙ sym c.index-lines-t.is ∙ sym c.as_slice.ensures in
    let s = moves_of m c.loop-t.replay c.step.new.self c.as_slice.result.now c.loop-t.invariant.stepped.circuit c.step.ensures in
    let is : c.value.result ≡ value_of c.step.ensures.now a = if_some_at (λ (u : Valuation). c.value.result ≡ value_of u a) c.step.new.self.now c.step.ensures.now c.value.ensures s.is_now in
    unended_more (SetsLast a) m c.args.replay.now.state c.as_slice.result.now c.args.lines.now c.loop-t.t c.loop-t.replay c.step.new.self c.step.ensures.now t_in is_line c.loop-t.invariant s
    (not_set_last a c.loop-t.invariant.valuations c.step.ensures.now (sym is ∙ c.if-value.false))

pub returns : goal.returns
returns c = unended_never (SetsLast c.args.lit) c.args.replay.now.circuit c.args.replay.now.state c.args.lines.now c.loop-t.t c.loop-t.replay (omega arith) c.loop-t.invariant
