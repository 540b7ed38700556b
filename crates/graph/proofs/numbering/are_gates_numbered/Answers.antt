use Rattle.std.proofs.Common.{arith, map, ap, sym, ◌∙◌, ◌<◌, length}
use Rattle.std.proofs.lemmas.List.{get_or-map, length-map}
use Rattle.graph.specs.declared.circuit.Lit.{Lit}
use Rattle.graph.proofs.Blank.{blank_lit, blank_gate}
use Rattle.graph.proofs.Numbered.{IsNumberedTo-more}
use Rattle.graph.proofs.numbering.are_gates_numbered.Goals as goal

pub loop-i-preserved : goal.loop-i-preserved
loop-i-preserved c =
    let read = ap (λ (a : Lit). a.0) (get_or-map (λ x. x.lhs) c.args.gates.now c.loop-i.i blank_gate blank_lit c.loop-i-test.true) in
    IsNumberedTo-more c.args.first (map (λ x. x.lhs) c.args.gates.now) c.loop-i.i blank_lit (omega (arith, length-map c.args.gates.now (λ x. x.lhs)))
    c.loop-i.invariant (read ∙ sym c.from.ensures ∙ c.if-from-first.false)

pub returns-then-from-first : goal.returns-then-from-first
returns-then-from-first c =
    let read = ap (λ (a : Lit). a.0) (get_or-map (λ x. x.lhs) c.args.gates.now c.loop-i.i blank_gate blank_lit c.loop-i-test.true) in
    let inside : c.loop-i.i < length (map (λ x. x.lhs) c.args.gates.now) = omega (arith, length-map c.args.gates.now (λ x. x.lhs)) in
    (λ t. absurd (let bad : ⊥ = cc t in bad), λ numbered. absurd (c.if-from-first.true (c.from.ensures ∙ sym read ∙ numbered c.loop-i.i blank_lit inside)))
