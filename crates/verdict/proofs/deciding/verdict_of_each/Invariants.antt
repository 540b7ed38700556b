use Rattle.std.proofs.Common.{◌≡◌, ◌<◌, All, drop, take}
use Rattle.base.specs.Budget.{Spends}
use Rattle.engine.specs.declared.finding.Reason.TheVariants.{NoEvidence}
use Rattle.verdict.specs.Asked.{HaveTold}
use Rattle.verdict.specs.Verdicts.{IsWhy}
use Rattle.verdict.proofs.deciding.verdict_of_each.Given as goal

abbrev pub invariant-loop-engine : goal.invariant-loop-engine
invariant-loop-engine g l =
    record {
      spends : Spends l.initial.budget l.budget;
      none : l.engine-index ≡ 0 → (l.budget ≡ l.initial.budget) × (l.told ≡ NoEvidence);
      stays : All (λ b. (goal.Engine-dyn g (b.vtable, b.value)).honest b.value) l.initial.engines → All (λ b. (goal.Engine-dyn g (b.vtable, b.value)).honest b.value) l.engines;
      meant : All (λ b. (goal.Engine-dyn g (b.vtable, b.value)).honest b.value) l.initial.engines → 0 < l.engine-index → IsWhy l.circuit l.property l.budget l.told;
      answered : HaveTold (λ b. (goal.Engine-dyn g (b.vtable, b.value)).answers b.value l.asked) l.circuit l.property (take l.engine-index l.initial.engines) NoEvidence l.initial.budget l.told l.budget;
      behind : drop l.engine-index l.engines ≡ drop l.engine-index l.initial.engines;
    }
