use Rattle.std.proofs.Common.{rules, ◌≡◌, ◌∙◌, map, length, drop, Contains, sym, subst}
use Rattle.graph.specs.declared.circuit.Lit.{Lit}
use Rattle.graph.proofs.Tabled.{take_whole}
use Rattle.ic3_step.proofs.Looked.{numbered}
use Rattle.ic3_step.proofs.lookup.in_order.Goals as goal

pub returns-clause-same : goal.returns-clause-same
returns-clause-same c = λ a.
    let sorted = c.sort.new.numbers in
    let long : length sorted ≡ c.in_ok-numbers.numbers.len = search rules in
    let whole = take_whole c.in_ok-numbers.numbers.len sorted (drop (length sorted) c.in_ok-numbers.numbers.items) long in
    let before : c.as_mut_slice.result.now ≡ map (λ (b : Lit). b.0) c.args.lits.now = c.as_mut_slice.ensures.value ∙ c.in_ok-numbers.ensures in (
      λ found. (numbered c.args.lits.now a).0 (subst (λ xs. Contains xs a.0) before ((c.sort.ensures.same a.0).0 (subst (λ xs. Contains xs a.0) whole found))),
      λ found. subst (λ xs. Contains xs a.0) (sym whole) ((c.sort.ensures.same a.0).1 (subst (λ xs. Contains xs a.0) (sym before) ((numbered c.args.lits.now a).1 found))),
    )
