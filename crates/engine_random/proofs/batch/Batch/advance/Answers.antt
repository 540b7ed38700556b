use Rattle.std.proofs.Common.{◌≡◌, refl, ap, subst, ◌∙◌, List, length, arith}
use Rattle.graph.specs.declared.circuit.Lit.{Lit}
use Rattle.graph.specs.declared.parts.Parts.{Parts}
use Rattle.simulate.specs.Wides.{AllStep}
use Rattle.stimulus.proofs.Ranges.{constraints_in_range}
use Rattle.engine_random.specs.Batches.{Marks}
use Rattle.engine_random.specs.Words.{draws}
use Rattle.engine_random.proofs.SettingLaws.{stepped_values, if_some_at}
use Rattle.engine_random.proofs.batch.Batch.advance.Goals as goal

pub setting-requires-clause-in_range : goal.setting-requires-clause-in_range
setting-requires-clause-in_range c =
    let same : c.step.new.self.circuit ≡ c.self.inside.circuit.now = (c.step.ensures 0 (omega arith)).circuit ∙ c.self.invariant in
    rw (same, c.as_slice-constraints.ensures, c.parts.ensures.parts) (λ k d k_in. let h = constraints_in_range c.self.inside.circuit.now c.parts.ensures.well_formed k d k_in in omega (arith, h))

pub returns : goal.returns
returns c =
    let stepped = stepped_values c.self.inside.wide c.step.new.self c.as_slice.result.now c.step.ensures in
    let literals : c.as_slice-constraints.result.now ≡ c.self.inside.circuit.now.constraints = c.as_slice-constraints.ensures ∙ ap (λ (p : Parts). p.constraints) c.parts.ensures.parts in
    rw (← c.self.view_is) (record {
      circuit = refl;
      first = refl;
      row = c.in_ok-inputs.inputs;
      added = c.in_ok-push.ensures.ok;
      drawn = c.in_ok-inputs.ensures.drawn ∙ ap (λ (xs : List Lit). draws (length xs) c.args.generator.now) c.inputs.ensures;
      steps = subst (AllStep c.self.inside.wide c.step.new.self) c.as_slice.ensures c.step.ensures;
      values = stepped.0;
      has_values = stepped.1;
      stay_in = subst (λ (xs : List Lit). Marks xs stepped.0 c.self.inside.running c.setting.result) literals
          (if_some_at (λ v. Marks c.as_slice-constraints.result.now v c.self.inside.running c.setting.result) c.step.new.self.now stepped.0 stepped.1 c.setting.ensures);
    })
