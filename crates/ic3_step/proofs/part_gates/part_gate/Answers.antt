use Rattle.std.proofs.Common.{rules, ◌∙◌, SFits, w32, subst, sym}
use Rattle.lrat.proofs.Fit.{read32}
use Rattle.solver.specs.Parts.{IsAnd}
use Rattle.ic3_step.proofs.Parted.{gate_made}
use Rattle.ic3_step.proofs.part_gates.part_gate.Goals as goal

pub returns : goal.returns
returns c =
    let f1 : SFits w32 c.literal.result = search rules in
    let f2 : SFits w32 c.literal-2.result = search rules in
    let f3 : SFits w32 c.literal-3.result = search rules in
    let e1 = read32 c.literal.result f1 ∙ c.literal.ensures in
    let e2 = read32 c.literal-2.result f2 ∙ c.literal-2.ensures in
    let e3 = read32 c.literal-3.result f3 ∙ c.literal-3.ensures in
    let made = gate_made c.args.gate c.args.time.max_var c.args.time.offset _ _ _ c.requires.first e1 e2 e3 in
    record {
      gate = λ v and. subst (IsAnd v) made (c.cheaper_first.ensures.gate v and);
      same = λ v and. c.cheaper_first.ensures.same v (subst (IsAnd v) (sym made) and);
    }
