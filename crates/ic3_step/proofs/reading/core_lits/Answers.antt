use Rattle.std.proofs.Common.{rules, ◌≡◌, ◌∙◌, ◌++◌, ◌∷◌, [], Some, ℤ, pos, get_or, ap, sym}
use Rattle.ic3_step.specs.Readings.{lit_for}
use Rattle.ic3_step.proofs.Cores.{core_more, core_skips}
use Rattle.ic3_step.proofs.reading.core_lits.Goals as goal
use Rattle.ic3_step.proofs.reading.core_lits.Goals.{in-Some+in_ok-push, in_default}

pub loop-literal-preserved : goal.loop-literal-preserved
loop-literal-preserved c =
    let n = c.args.circuit.now.max_var in
    let core = c.args.core.now in
    let i = c.loop-literal.literal-index in
    let x : ℤ = get_or core i (pos 0) in
    let gives : c.lit_for.result ≡ lit_for n x = search rules in
    elim c.match-lit_for.branch [
      | in-Some+in_ok-push w ↦
          w.lits-is ∙ w.in_ok-push.ensures.ok ∙ ap (λ ls. ls ++ w.in-Some.lit ∷ []) c.loop-literal.invariant
          ∙ sym (core_more n core i (pos 0) (Some w.in-Some.lit) c.loop-literal-test.true (sym gives ∙ w.in-Some.is))
      | in_default w ↦ w.lits-is ∙ c.loop-literal.invariant ∙ sym (core_skips n core i (pos 0) c.loop-literal-test.true (sym gives ∙ w.in_default.is))
    ]
