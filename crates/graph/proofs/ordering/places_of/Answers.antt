use Rattle.std.proofs.Common.{ℕ, ◌+◌, ◌≡◌, ◌≤◌, length, get_or, arith, length-set, ◌∙◌}
use Rattle.graph.specs.Circuits.{variable}
use Rattle.graph.proofs.Cycles.{blank, left_at}
use Rattle.graph.proofs.Ended.{places_more}
use Rattle.graph.proofs.ordering.places_of.Goals as goal

pub loop-place-preserved : goal.loop-place-preserved
loop-place-preserved c =
    let v : ℕ = variable (get_or c.args.gates.now c.loop-place.place blank).lhs in
    let inside : v ≤ c.args.max_var = c.requires.in_range c.loop-place.place blank c.loop-place-test.true in
    let long : length c.loop-place.places.items ≡ c.args.max_var + 1 = c.loop-place.invariant.long in
    rw c.variable.ensures (record {
      long = length-set c.loop-place.places.items v c.loop-place.place ∙ long;
      each = places_more c.args.gates.now c.loop-place.places.items c.loop-place.place v c.requires.once c.loop-place-test.true (left_at c.args.gates.now c.loop-place.place blank c.loop-place-test.true)
          (omega (arith, inside, long)) c.loop-place.invariant.each;
    })
