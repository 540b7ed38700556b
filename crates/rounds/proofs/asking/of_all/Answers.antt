use Rattle.std.proofs.Common.{List, sym, subst}
use Rattle.graph.specs.declared.circuit.Lit.{Lit}
use Rattle.cnf.specs.Invariants.{IsInvariant}
use Rattle.extension.specs.Rounds.{rounds_of}
use Rattle.rounds.proofs.asking.of_all.Goals as goal

pub returns-clause-meant : goal.returns-clause-meant
returns-clause-meant c h =
    c.shown_by.ensures.meant (subst (λ (inv : List (List Lit)). IsInvariant (rounds_of c.args.circuit.now c.args.position c.args.rounds) inv) (sym c.in_ok-invariant.ensures) h)
