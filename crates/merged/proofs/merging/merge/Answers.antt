use Rattle.std.proofs.Common.{◌≡◌, All, Option, None, refl, subst}
use Rattle.graph.specs.declared.circuit.Lit.{Lit}
use Rattle.merged.proofs.Noted.{says_nothing}
use Rattle.merged.proofs.merging.merge.Goals as goal

pub returns-then-is_plain-clause-none : goal.returns-then-is_plain-clause-none
returns-then-is_plain-clause-none c = λ is k v b said.
    let plain : All (λ (o : Option Lit). o ≡ None) c.as_slice.result.now = c.if-is_plain.ensures.0 refl in
    says_nothing c.args.clauses.now c.in_ok-table.table.items c.in_ok-table.ensures (subst (All (λ (o : Option Lit). o ≡ None)) c.as_slice.ensures.value plain) k v b said
