use Rattle.std.proofs.Common.{◌≡◌, ◌∙◌, [], ◌∷◌, List, get_or, true, ap, sym, subst, All}
use Rattle.std.proofs.lemmas.List.Elements.{All-cons, All-nil}
use Rattle.graph.specs.declared.circuit.Lit.{Lit}
use Rattle.graph.specs.Circuits.{variable, value_of}
use Rattle.graph.proofs.Tabled.{holds_of_used}
use Rattle.cnf.specs.Formulas.{bad_literal}
use Rattle.cones.specs.Marks.{IsKnown}
use Rattle.ic3_step.specs.States.{IsAt, AllSet}
use Rattle.ic3_blocking.proofs.obligation.obligation_at.Goals as goal

pub lift-requires-clause-at : goal.lift-requires-clause-at
lift-requires-clause-at c =
    let m = c.args.circuit.now in
    let for_bad = c.requires.for_bad in
    let at = c.requires.at in
    let same : bad_literal m 0 ≡ for_bad.bad = ap (λ (xs : List Lit). get_or xs 0 (record { 0 = 0 })) for_bad.one in
    let are : c.bad.result.now ≡ bad_literal m 0 ∷ [] = c.bad.ensures ∙ for_bad.one ∙ ap (λ (a : Lit). a ∷ []) (sym same) in
    let set : AllSet at.0 (bad_literal m 0 ∷ []) = All-cons (λ (a : Lit). value_of at.0 a ≡ true) (bad_literal m 0) [] at.2 (All-nil (λ (a : Lit). value_of at.0 a ≡ true)) in
    (at.0, subst (λ (lits : List Lit). IsAt m lits at.0 c.args.time) (sym are) at.1, subst (AllSet at.0) (sym are) set)

pub lift-requires-clause-known : goal.lift-requires-clause-known
lift-requires-clause-known c =
    let m = c.args.circuit.now in
    subst (All (λ (a : Lit). IsKnown m (variable a))) (sym c.bad.ensures) (holds_of_used (λ (a : Lit). IsKnown m (variable a)) m c.well_formed-2.ensures.used_defined).bad
