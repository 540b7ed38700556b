use Rattle.std.proofs.Common.{◌≡◌, rules, length, subst, IfOk}
use Rattle.std.specs.Vec.{vec_len}
use Rattle.graph.specs.declared.parts.Parts.{Parts}
use Rattle.witness_adoption.specs.Adoptions.{IsAdopted}
use Rattle.aigmc_certificates.proofs.OwnResets.{plain_made, unmade, unpaired}
use Rattle.aigmc_certificates.proofs.witness_file.adopted_of.Goals as goal

pub returns-in_err-made-clause-refused : goal.returns-in_err-made-clause-refused
returns-in_err-made-clause-refused c =
    let long : vec_len c.args.shared.now.resets ≡ length c.args.shared.now.resets.items = search rules in
    let s = c.args.shared.now in
    unmade c.from_residual.result c.in_err-made.field-0.0 c.args.witness.now s.latches.items s.resets.items (vec_len s.resets) long c.if-is_empty.ensures c.from_residual.ensures.1 c.in_err-made.ensures.refused

pub returns-clause-clauses : goal.returns-clause-clauses
returns-clause-clauses c =
    let long : vec_len c.args.shared.now.resets ≡ length c.args.shared.now.resets.items = search rules in
    let s = c.args.shared.now in
    subst (λ (w : Parts). IfOk c.adopted_plainly-2.result (λ x. IsAdopted c.args.circuit.now w x.latches x.gates x.of_property x.invariant))
    (plain_made c.args.witness.now s.latches.items s.resets.items c.in_ok-made.made (vec_len s.resets) long c.if-is_empty.ensures c.in_ok-made.ensures.made)
    c.adopted_plainly-2.ensures.clauses

pub returns-clause-refused : goal.returns-clause-refused
returns-clause-refused c =
    let long : vec_len c.args.shared.now.resets ≡ length c.args.shared.now.resets.items = search rules in
    let s = c.args.shared.now in
    unpaired c.adopted_plainly-2.result c.args.witness.now s.latches.items s.resets.items c.in_ok-made.made (vec_len s.resets) long c.if-is_empty.ensures c.in_ok-made.ensures.made c.adopted_plainly-2.ensures.refused
