use Rattle.std.proofs.Common.{◌+◌, ◌-◌, ℕ, List, sym, ◌∙◌, ap, subst}
use Rattle.graph.specs.declared.parts.Parts.{Parts}
use Rattle.graph.specs.WellFormed.{IsWellFormed}
use Rattle.cone_of_influence.specs.Reduced.{reduced_parts}
use Rattle.cone_of_influence.proofs.Formed.{all_marked_below, formed_by}
use Rattle.cone_of_influence.proofs.reducing.reduced_to.Goals as goal

pub returns-then-len-count-clause-none : goal.returns-then-len-count-clause-none
returns-then-len-count-clause-none c = λ none v below.
    let kept : List ℕ = c.in_ok-numbering.numbering.kept in
    all_marked_below c.args.circuit.now c.args.marks.now kept c.in_ok-numbering.numbering.numbers (c.max_var.result + 1) v c.in_ok-numbering.ensures.numbered
    (ap (λ n. n + 1) c.max_var.ensures) (sym c.len.ensures ∙ c.if-len-count.true) below

pub part_of-requires-clause-well_formed : goal.part_of-requires-clause-well_formed
part_of-requires-clause-well_formed c =
    let m : Parts = c.args.circuit.now in
    let kept : List ℕ = c.in_ok-numbering.numbering.kept in
    let last : ℕ = c.len-2.result - 1 in
    subst (λ numbers. IsWellFormed (reduced_parts m c.args.marks.now numbers last)) (sym c.as_slice.ensures)
    (formed_by m c.args.marks.now kept c.in_ok-numbering.numbering.numbers (c.max_var.result + 1) last c.well_formed-2.ensures c.requires.for_bad c.requires.cone c.in_ok-numbering.ensures.numbered
    (ap (λ n. n + 1) c.max_var.ensures) (ap (λ n. n - 1) c.len-2.ensures))
