use Rattle.std.proofs.Common.{rules, refl}
use Rattle.std.proofs.lemmas.List.{length-map}
use Rattle.cdcl_log.specs.Logged.{as_added}
use Rattle.cdcl_log.proofs.Logged.{begun, added_all}
use Rattle.cdcl_log.proofs.logged_kernel.LoggedKernel.of_formula.Goals as goal

pub invariant_of-result : goal.invariant_of-result
invariant_of-result c = rw c.new.ensures.items (begun c.in_ok-load.field-0.vars _ c.args.formula.now.clauses c.in_ok-load.field-0.kept (search rules) refl c.requires.small c.in_ok-load.ensures.clauses)

pub returns-clause-loaded : goal.returns-clause-loaded
returns-clause-loaded c = rw (c.in_ok-load.ensures.clauses, added_all c.args.formula.now.clauses, length-map c.args.formula.now.clauses as_added, c.in_ok-load.ensures.vars) refl
