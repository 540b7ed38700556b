use Rattle.std.proofs.Common.{◌∙◌, [], refl, subst}
use Rattle.std.proofs.lemmas.List.{get_or_default}
use Rattle.checker2.specs.Causes.{IsClauseFault}
use Rattle.checker2.specs.declared.invariant.ClauseFault.TheVariants.{NotLatch, Repeated}
use Rattle.checker2.proofs.Good.{first_fault_at}
use Rattle.checker2.proofs.invariant.check_clause.Goals as goal

pub returns-in-Some-NotLatch-clause-refused : goal.returns-in-Some-NotLatch-clause-refused
returns-in-Some-NotLatch-clause-refused c inv lt at good =
    first_fault_at c.args.circuit.now inv c.args.k c.args.clause.now c.args.clause.now NotLatch lt good
    (at ∙ get_or_default inv c.args.k [] c.args.clause.now lt) refl (subst (IsClauseFault c.args.circuit.now c.args.clause.now) c.in-Some-NotLatch.field-0-is c.in-Some-NotLatch.ensures.fault)

pub returns-in-Some-Repeated-clause-refused : goal.returns-in-Some-Repeated-clause-refused
returns-in-Some-Repeated-clause-refused c inv lt at good =
    first_fault_at c.args.circuit.now inv c.args.k c.args.clause.now c.args.clause.now Repeated lt good
    (at ∙ get_or_default inv c.args.k [] c.args.clause.now lt) refl (subst (IsClauseFault c.args.circuit.now c.args.clause.now) c.in-Some-Repeated.field-0-is c.in-Some-Repeated.ensures.fault)
