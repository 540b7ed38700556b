use Rattle.std.proofs.Common.{◌≡◌, ◌<◌, ◌+◌, ◌-◌, ℕ, length, None, Some, sym, ◌∙◌, ap, arith, rules}
use Rattle.graph.specs.declared.circuit.Lit.{Lit}
use Rattle.graph.specs.Circuits.{variable}
use Rattle.signal_classes.specs.Known.{equal_in, led}
use Rattle.signal_classes.proofs.Leading.{led_on, led_still}
use Rattle.signal_classes.proofs.reduced.Reduced.root.Goals as goal

pub returns-in-None : goal.returns-in-None
returns-in-None c =
    let e = c.args.self.now.equal in
    let none : equal_in e (variable c.loop.root) ≡ None = ap (λ (v : ℕ). equal_in e v) (sym c.variable.ensures) ∙ sym c.equal.ensures ∙ c.in-None.is in
    sym (led_still e (length e - c.loop.counter) c.loop.root none) ∙ c.loop.invariant

pub loop-preserved : goal.loop-preserved
loop-preserved c =
    let e = c.args.self.now.equal in
    let some : equal_in e (variable c.loop.root) ≡ Some c.in-Some.earlier = ap (λ (v : ℕ). equal_in e v) (sym c.variable.ensures) ∙ sym c.equal.ensures ∙ c.in-Some.is in
    let inside : c.loop.counter < length e = search rules in
    let less : length e - c.loop.counter ≡ length e - (c.loop.counter + 1) + 1 = omega (arith, inside) in
    ap (λ (a : Lit). led e (length e - (c.loop.counter + 1)) a) c.negated_as-root.ensures
    ∙ sym (led_on e (length e - c.loop.counter) (length e - (c.loop.counter + 1)) c.loop.root c.in-Some.earlier less some)
    ∙ c.loop.invariant
