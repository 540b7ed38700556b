use Rattle.std.proofs.Common.{◌≡◌, ◌∙◌, ap, subst, arith}
use Rattle.std.proofs.lemmas.List.{take_all}
use Rattle.lrat.specs.Halts.{Halts}
use Rattle.lrat.specs.Shared.{over, IsAcceptedOver}
use Rattle.lrat.specs.Stages.{GoAlong, Goes}
use Rattle.lrat.proofs.Refuted.{along_next}
use Rattle.checker2.specs.Accepted.{Case}
use Rattle.checker2.specs.Causes.{HasIds, IsRefusedCase}
use Rattle.checker2.proofs.RefusedCases.{refused_units, refused_line, refused_open}
use Rattle.checker2.proofs.sections.refute.Goals as goal

pub returns-in-Err-clause-refused : goal.returns-in-Err-clause-refused
returns-in-Err-clause-refused c =
    let case : Case = record { base = c.args.refuter.now.base; units = c.args.units.now } in
    let a = c.at.ensures in
    refused_units case c.args.proof.now c.in-Err.fault _ (c.in-Err.ensures.memory c.requires.fresh) a.fault a.line a.memory

pub loop-i-preserved : goal.loop-i-preserved
loop-i-preserved c =
    let i = c.loop-i.invariant in
    let n : c.loop-i.refuter.base.vars ≡ c.args.refuter.now.base.vars = ap (λ b. b.vars) i.base in
    record {
      base = c.in-Ok-feed.ensures.base ∙ i.base;
      open_ = c.in-Ok-feed.ensures.ok.1;
      along = along_next _ _ _ _ _ _ _ _ c.loop-i-test.true i.along c.index-lines-i.is
          (subst (λ k. Goes k c.loop-i.refuter.stage c.index-lines-i.result c.feed.new.self.stage) n (subst (λ l. Goes c.loop-i.refuter.base.vars c.loop-i.refuter.stage l c.feed.new.self.stage) c.as_ref.ensures c.in-Ok-feed.ensures.ok.2));
    }

pub returns-in-Err-feed-clause-refused : goal.returns-in-Err-feed-clause-refused
returns-in-Err-feed-clause-refused c =
    let i = c.loop-i.invariant in
    let case : Case = record { base = c.args.refuter.now.base; units = c.args.units.now } in
    let ids : HasIds case = let few = c.in-Ok.ensures.few in omega arith in
    let n : c.loop-i.refuter.base.vars ≡ c.args.refuter.now.base.vars = ap (λ b. b.vars) i.base in
    let a = c.at-in-Err-feed.ensures in
    subst (λ ls. IsRefusedCase case ls c.at-in-Err-feed.result) c.lines-lines.ensures.lines
    (refused_line case c.lines-lines.result.now c.loop-i.i c.loop-i.refuter.stage c.index-lines-i.result c.in-Err-feed.fault _ ids c.loop-i-test.true i.along c.index-lines-i.is
    (subst (λ k. Halts k c.loop-i.refuter.stage c.index-lines-i.result c.in-Err-feed.fault) n (subst (λ l. Halts c.loop-i.refuter.base.vars c.loop-i.refuter.stage l c.in-Err-feed.fault) c.as_ref.ensures (c.in-Err-feed.ensures.refused i.open_))) a.fault a.line a.memory)

pub returns-in-Err-finish-clause-refused : goal.returns-in-Err-finish-clause-refused
returns-in-Err-finish-clause-refused c =
    let i = c.loop-i.invariant in
    let case : Case = record { base = c.args.refuter.now.base; units = c.args.units.now } in
    let ids : HasIds case = let few = c.in-Ok.ensures.few in omega arith in
    let a = c.at-in-Err-finish.ensures in
    let e = c.in-Err-finish.ensures.open_end i.open_ in
    let along : GoAlong case.base.vars (over case.base case.units) c.lines-lines.result.now c.loop-i.refuter.stage =
    subst (λ ls. GoAlong case.base.vars (over case.base case.units) ls c.loop-i.refuter.stage) (take_all _ _ c.loop-i-test.false) i.along in
    subst (λ ls. IsRefusedCase case ls c.at-in-Err-finish.result) c.lines-lines.ensures.lines
    (refused_open case c.lines-lines.result.now c.loop-i.refuter.stage c.in-Err-finish.fault _ ids along e.1 e.0 a.fault a.line)

pub returns-clause-accepted : goal.returns-clause-accepted
returns-clause-accepted c =
    let i = c.loop-i.invariant in
    let case : Case = record { base = c.args.refuter.now.base; units = c.args.units.now } in
    let along : GoAlong case.base.vars (over case.base case.units) c.lines-lines.result.now c.loop-i.refuter.stage =
    subst (λ ls. GoAlong case.base.vars (over case.base case.units) ls c.loop-i.refuter.stage) (take_all _ _ c.loop-i-test.false) i.along in
    (c.lines-lines.ensures.are_lines, subst (λ ls. IsAcceptedOver case.base case.units ls) c.lines-lines.ensures.lines (c.loop-i.refuter.stage, along, c.in-Ok-finish.ensures.ok.1))
