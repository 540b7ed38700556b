use Rattle.std.proofs.Common.{◌≡◌, ◌<◌, true, length, get_or, arith}
use Rattle.graph.specs.declared.circuit.Latch.{Latch}
use Rattle.graph.specs.Circuits.{Valuation, value_of, variable}
use Rattle.witness.proofs.NextLaws.{nexts_given, nexts_none}
use Rattle.witness.proofs.resting.nexts.Goals.{in-Some+in_ok-push, in_default}
use Rattle.witness.proofs.resting.nexts.Goals as goal

pub loop-position-preserved : goal.loop-position-preserved
loop-position-preserved c =
    let m = c.args.circuit.now in
    let i = c.loop-position.position in
    let d : Latch = record { lit = record { 0 = 0 }; next = record { 0 = 0 }; reset = record { 0 = 0 } } in
    let inside : i < length m.latches = omega (arith, c.loop-position-test.true, c.requires) in
    elim c.match-given.branch [
      | in-Some+in_ok-push w ↦
          let same : variable w.with_value.result ≡ variable (get_or m.latches i d).next = rw (c.as_slice-latches.ensures, c.parts.ensures.parts) at w.with_value.ensures.variable in
          let says : (v : Valuation) → value_of v w.with_value.result ≡ true → value_of v (get_or m.latches i d).next ≡ w.in-Some.value = λ v e. rw (c.as_slice-latches.ensures, c.parts.ensures.parts) at (w.with_value.ensures.value v e) in
          rw (w.nexts-is, w.in_ok-push.ensures.items) (nexts_given m c.args.later.now i d c.loop-position.nexts.items w.with_value.result w.in-Some.value c.parts.ensures.well_formed inside c.requires w.in-Some.is same says c.loop-position.invariant)
      | in_default w ↦ rw w.nexts-is (nexts_none m c.args.later.now i d c.loop-position.nexts.items inside c.requires w.in_default.is c.loop-position.invariant)
    ]
