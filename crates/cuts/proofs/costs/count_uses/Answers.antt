use Rattle.std.proofs.Common.{◌+◌, ◌*◌, ◌≤◌, All, arith}
use Rattle.graph.specs.declared.circuit.Lit.{Lit}
use Rattle.graph.specs.declared.circuit.Gate.{Gate}
use Rattle.graph.specs.declared.circuit.Latch.{Latch}
use Rattle.graph.proofs.Tabled.{holds_of_used}
use Rattle.cuts.proofs.costs.count_uses.Goals as goal

pub count_rights-requires-clause-first : goal.count_rights-requires-clause-first
count_rights-requires-clause-first c = λ k d k_in.
    let m = c.args.circuit.now in
    let all : All (λ (g : Gate). g.rhs0.0 ≤ 2 * m.max_var + 1) c.gates.result.now = rw c.gates.ensures (holds_of_used (λ a. a.0 ≤ 2 * m.max_var + 1) m c.well_formed-2.ensures.used_in_range).left in
    let p = all k d k_in in
    omega (arith, p, c.requires)

pub count_rights-requires-clause-second : goal.count_rights-requires-clause-second
count_rights-requires-clause-second c = λ k d k_in.
    let m = c.args.circuit.now in
    let all : All (λ (g : Gate). g.rhs1.0 ≤ 2 * m.max_var + 1) c.gates.result.now = rw c.gates.ensures (holds_of_used (λ a. a.0 ≤ 2 * m.max_var + 1) m c.well_formed-2.ensures.used_in_range).right in
    let p = all k d k_in in
    omega (arith, p, c.requires)

pub count_nexts-requires : goal.count_nexts-requires
count_nexts-requires c = λ k d k_in.
    let m = c.args.circuit.now in
    let all : All (λ (l : Latch). l.next.0 ≤ 2 * m.max_var + 1) c.latches.result.now = rw c.latches.ensures (holds_of_used (λ a. a.0 ≤ 2 * m.max_var + 1) m c.well_formed-2.ensures.used_in_range).next in
    let p = all k d k_in in
    omega (arith, p, c.requires, c.count_rights.ensures)

pub count_all-requires : goal.count_all-requires
count_all-requires c = λ k d k_in.
    let m = c.args.circuit.now in
    let all : All (λ (a : Lit). a.0 ≤ 2 * m.max_var + 1) c.bad.result.now = rw c.bad.ensures (holds_of_used (λ a. a.0 ≤ 2 * m.max_var + 1) m c.well_formed-2.ensures.used_in_range).bad in
    let p = all k d k_in in
    omega (arith, p, c.requires, c.count_rights.ensures, c.count_nexts.ensures)

pub count_all-requires-2 : goal.count_all-requires-2
count_all-requires-2 c = λ k d k_in.
    let m = c.args.circuit.now in
    let all : All (λ (a : Lit). a.0 ≤ 2 * m.max_var + 1) c.constraints.result.now = rw c.constraints.ensures (holds_of_used (λ a. a.0 ≤ 2 * m.max_var + 1) m c.well_formed-2.ensures.used_in_range).constraints in
    let p = all k d k_in in
    omega (arith, p, c.requires, c.count_rights.ensures, c.count_nexts.ensures, c.count_all.ensures)
