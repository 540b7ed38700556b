use Rattle.checker2.proofs.Good.{invariant_from}
use Rattle.certify.proofs.Made.{made, made_refused, made_unspent}
use Rattle.certify.proofs.certifying.certify_for.Goals as goal

pub prove_cases-proved-requires-clause-invariant : goal.prove_cases-proved-requires-clause-invariant
prove_cases-proved-requires-clause-invariant c =
    invariant_from c.args.circuit.now c.args.invariant.now c.well_formed-2.ensures c.in_ok-examine.ensures.few c.in_ok-examine.ensures.good

pub returns-clause-certified : goal.returns-clause-certified
returns-clause-certified c =
    made c.args.circuit.now c.args.bad c.args.property c.args.invariant.now _ c.prove_cases-proved.new.budget c.prove_cases-proved.result _ c.certified_of.ensures c.in_ok-copy.ensures c.in_ok-examine.ensures.few c.in_ok-examine.ensures.good
    c.prove_cases-proved.ensures.proved c.prove_cases-proved.ensures.halted

pub returns-clause-refused : goal.returns-clause-refused
returns-clause-refused c =
    made_refused c.args.circuit.now c.args.property c.args.invariant.now _ c.prove_cases-proved.result _ c.certified_of.ensures c.in_ok-examine.ensures.good

pub returns-clause-unspent : goal.returns-clause-unspent
returns-clause-unspent c = made_unspent c.args.property _ c.args.budget.now c.prove_cases-proved.new.budget c.prove_cases-proved.result _ c.certified_of.ensures
