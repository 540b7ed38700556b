use Rattle.std.proofs.Common.{◌≡◌, List, Option, ap, subst, sym, ◌∙◌}
use Rattle.graph.specs.WellFormed.{IsWellFormed}
use Rattle.graph.specs.declared.circuit.Lit.{Lit}
use Rattle.reset_functions.specs.Made.{with_gates}
use Rattle.aigmc_certificates.proofs.OwnResets.{same_by}
use Rattle.aigmc_certificates.proofs.witness_file.with_gates.Goals.{then-ne+in_ok-expect_order, else-ne}
use Rattle.aigmc_certificates.proofs.witness_file.with_gates.Goals as goal

pub returns-clause-in_order : goal.returns-clause-in_order
returns-clause-in_order c =
    elim c.if-ne.branch [
      | then-ne+in_ok-expect_order w ↦ subst (λ (q : List (Option Lit)). IsWellFormed (with_gates c.args.witness.now q)) w.deref-then-ne.ensures.value w.in_ok-expect_order.ensures.in_order
      | else-ne w ↦
          let same = same_by c.as_slice.result.now c.as_slice-2.result.now c.ne.result c.ne.ensures w.if-ne.false in
          let own : c.in_ok-own.own.items ≡ c.args.shared.now.resets.items = sym c.as_slice.ensures.value ∙ same ∙ c.as_slice-2.ensures.value in
          let made : c.in_ok-made.made ≡ with_gates c.args.witness.now c.in_ok-own.own.items = c.in_ok-made.ensures.made ∙ ap (with_gates c.args.witness.now) c.deref-3.ensures.value in
          subst IsWellFormed (made ∙ ap (with_gates c.args.witness.now) own) c.well_formed-2.ensures
    ]
