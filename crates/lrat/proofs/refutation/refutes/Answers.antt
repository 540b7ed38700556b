use Rattle.std.proofs.Common.{◌≡◌, ◌∙◌, ap, subst}
use Rattle.std.proofs.lemmas.List.{take_all}
use Rattle.lrat.specs.Stages.{GoAlong, Goes}
use Rattle.lrat.specs.Halts.{Halts}
use Rattle.lrat.specs.Proofs.{first_stage, IsAcceptedProof, IsRefusedProof}
use Rattle.lrat.proofs.Refuted.{refuted_false, along_next}
use Rattle.lrat.proofs.Refusing.{refused_at, refused_open, refused_proof_not}
use Rattle.lrat.proofs.refutation.refutes.Goals as goal

pub loop-i-preserved : goal.loop-i-preserved
loop-i-preserved c =
    let i = c.loop-i.invariant in
    let n : c.loop-i.refuter.base.vars ≡ c.args.formula.now.vars = ap (λ b. b.vars) i.base in
    record {
      base = c.in-Ok-feed.ensures.base ∙ i.base;
      open_ = c.in-Ok-feed.ensures.ok.1;
      along = along_next _ _ _ _ _ _ _ _ c.loop-i-test.true i.along c.index-lines-i.is
          (subst (λ k. Goes k c.loop-i.refuter.stage c.index-lines-i.result c.feed.new.self.stage) n (subst (λ l. Goes c.loop-i.refuter.base.vars c.loop-i.refuter.stage l c.feed.new.self.stage) c.as_ref.ensures c.in-Ok-feed.ensures.ok.2));
    }

pub returns-in-Err-feed-clause-refused : goal.returns-in-Err-feed-clause-refused
returns-in-Err-feed-clause-refused c =
    let i = c.loop-i.invariant in
    let n : c.loop-i.refuter.base.vars ≡ c.args.formula.now.vars = ap (λ b. b.vars) i.base in
    let a = c.at-in-Err-feed.ensures in
    subst (λ ls. IsRefusedProof c.args.formula.now ls c.at-in-Err-feed.result) c.lines-lines.ensures.lines
    (refused_at c.args.formula.now c.lines-lines.result.now c.loop-i.i c.loop-i.refuter.stage c.index-lines-i.result c.in-Err-feed.fault _ c.loop-i-test.true i.along c.index-lines-i.is
    (subst (λ k. Halts k c.loop-i.refuter.stage c.index-lines-i.result c.in-Err-feed.fault) n (subst (λ l. Halts c.loop-i.refuter.base.vars c.loop-i.refuter.stage l c.in-Err-feed.fault) c.as_ref.ensures (c.in-Err-feed.ensures.refused i.open_))) a.fault a.line a.memory)

pub returns-in-Err-feed-clause-complete : goal.returns-in-Err-feed-clause-complete
returns-in-Err-feed-clause-complete c ne accepted = refused_proof_not _ _ _ (returns-in-Err-feed-clause-refused c) ne accepted

pub returns-in-Err-finish-clause-refused : goal.returns-in-Err-finish-clause-refused
returns-in-Err-finish-clause-refused c =
    let i = c.loop-i.invariant in
    let a = c.at-in-Err-finish.ensures in
    let e = c.in-Err-finish.ensures.open_end i.open_ in
    let along = subst (λ ls. GoAlong c.args.formula.now.vars (first_stage c.args.formula.now) ls c.loop-i.refuter.stage) (take_all _ _ c.loop-i-test.false) i.along in
    subst (λ ls. IsRefusedProof c.args.formula.now ls c.at-in-Err-finish.result) c.lines-lines.ensures.lines
    (refused_open c.args.formula.now c.lines-lines.result.now c.loop-i.refuter.stage c.in-Err-finish.fault _ along e.1 e.0 a.fault a.line)

pub returns-in-Err-finish-clause-complete : goal.returns-in-Err-finish-clause-complete
returns-in-Err-finish-clause-complete c ne accepted = refused_proof_not _ _ _ (returns-in-Err-finish-clause-refused c) ne accepted

pub returns-clause-accepted : goal.returns-clause-accepted
returns-clause-accepted c =
    let i = c.loop-i.invariant in
    let along = subst (λ ls. GoAlong c.args.formula.now.vars (first_stage c.args.formula.now) ls c.loop-i.refuter.stage) (take_all _ _ c.loop-i-test.false) i.along in
    subst (λ ls. IsAcceptedProof c.args.formula.now ls) c.lines-lines.ensures.lines (c.loop-i.refuter.stage, along, c.in-Ok-finish.ensures.ok.1)

pub returns-clause-sound : goal.returns-clause-sound
returns-clause-sound c = refuted_false _ _ c.lines-lines.ensures.are_lines (returns-clause-accepted c)
