use Rattle.std.proofs.Common.{rules, ◌≡◌, ◌+◌, ◌-◌, ◌*◌, ◌≤◌, ℕ, length, sym, ◌∙◌, ap, subst, arith}
use Rattle.bmc.specs.Depths.{IsOfSteps}
use Rattle.bmc.proofs.Depths.{ends_shortest, ends_so, room_less, room_one, unset_more, unset_none}
use Rattle.bmc.proofs.search.search_up_to.Goals as goal

pub reach-requires-clause-room : goal.reach-requires-clause-room
reach-requires-clause-room g c =
    let a : ℕ = c.deepening.unrolling.encoder.variables in
    let each : ℕ = length c.in_ok-cone.cone.inputs.items + length c.in_ok-cone.cone.cells.items in
    let vars : ℕ = g.S.Sat.vars c.deepening.solvers.times in
    let k : ℕ = c.args.depth - c.deepening.steps in
    let e : c.args.depth + 1 - c.deepening.steps ≡ k + 1 = omega arith in
    room_one a k each vars (subst (λ q. a + q * each ≤ vars) e c.deepening.invariant.room)

pub deepening-preserved : goal.deepening-preserved
deepening-preserved g c =
    let m = c.args.circuit.now in
    let a : ℕ = c.deepening.unrolling.encoder.variables in
    let b : ℕ = c.reach.new.unrolling.encoder.variables in
    let each : ℕ = length c.in_ok-cone.cone.inputs.items + length c.in_ok-cone.cone.cells.items in
    let vars : ℕ = g.S.Sat.vars c.deepening.solvers.times in
    let k : ℕ = c.args.depth - c.deepening.steps in
    let e : c.args.depth + 1 - c.deepening.steps ≡ k + 1 = omega arith in
    let less : b + k * each ≤ vars = room_less a b k each vars (subst (λ q. a + q * each ≤ vars) e c.deepening.invariant.room) (c.in_ok-finding.ensures.few c.in-None.is) in
    let k_is : k ≡ c.args.depth + 1 - (c.deepening.steps + 1) = omega arith in
    let now : b + (c.args.depth + 1 - (c.deepening.steps + 1)) * each ≤ vars = subst (λ q. b + q * each ≤ vars) k_is less in
    record {
      small = subst (λ q. q ≤ 2147483647) (sym c.reach.ensures.vars) c.deepening.invariant.small;
      room = subst (λ q. b + (c.args.depth + 1 - (c.deepening.steps + 1)) * each ≤ q) (sym c.reach.ensures.vars) now;
      at = c.in_ok-finding.ensures.at c.in-None.is;
      places = c.in_ok-finding.ensures.places c.in-None.is ∙ c.deepening.invariant.places ∙ ap (λ q. q + 1) (sym c.reach.ensures.vars);
      ready = c.in_ok-finding.ensures.ready c.in-None.is;
      times = c.in_ok-finding.ensures.times c.in-None.is;
      spends = search rules;
      unset = unset_more m c.deepening.steps c.deepening.invariant.unset (subst (IsOfSteps m c.deepening.steps c.reach.new.budget) c.in-None.is c.in_ok-finding.ensures.lawful);
    }

pub deepening-init : goal.deepening-init
deepening-init g c = record {
  small = c.in_ok-unrolling.ensures.small;
  room =
      let each : ℕ = length c.in_ok-cone.cone.inputs.items + length c.in_ok-cone.cone.cells.items in
      let all : c.args.depth + 1 ≡ c.args.depth + 1 - 0 = omega arith in
      subst (λ q. c.in_ok-unrolling.unrolling.encoder.variables + q * each ≤ g.S.Sat.vars c.begin.new.solver) all c.in_ok-unrolling.ensures.room;
  at = c.in_ok-unrolling.ensures.at;
  places = c.in_ok-unrolling.ensures.places;
  ready = c.in_ok-begin.ensures c.in_ok-unrolling.unrolling.encoder;
  times = ap length c.in_ok-unrolling.ensures.none;
  spends = search rules;
  unset = unset_none c.args.circuit.now;
}

pub returns-in-Some-clause-so : goal.returns-in-Some-clause-so
returns-in-Some-clause-so g c =
    ends_so c.args.circuit.now c.deepening.steps c.reach.new.budget c.in-Some.finding
    (subst (IsOfSteps c.args.circuit.now c.deepening.steps c.reach.new.budget) c.in-Some.is c.in_ok-finding.ensures.lawful)

pub returns-in-Some-clause-shortest : goal.returns-in-Some-clause-shortest
returns-in-Some-clause-shortest g c =
    ends_shortest c.args.circuit.now c.deepening.steps c.reach.new.budget c.in-Some.finding
    (subst (IsOfSteps c.args.circuit.now c.deepening.steps c.reach.new.budget) c.in-Some.is c.in_ok-finding.ensures.lawful) c.deepening.invariant.unset
