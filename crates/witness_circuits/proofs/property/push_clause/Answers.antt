use Rattle.std.proofs.Common.{◌≡◌, ◌+◌, ◌<◌, ◌∙◌, List, ap, refl, subst, sym}
use Rattle.graph.specs.declared.circuit.Lit.{Lit}
use Rattle.live_safe.specs.Shadow.{chain_end}
use Rattle.extension.specs.Rounds.{always}
use Rattle.witness_circuits.specs.Witnesses.{denied}
use Rattle.witness_circuits.proofs.Rows.{clause_pushed, denied_small}
use Rattle.witness_circuits.proofs.property.push_clause.Goals as goal

pub negation-requires : goal.negation-requires
negation-requires c =
    let e : c.in_ok-denied.denied ≡ denied c.args.clause.now c.args.variable =
    c.in_ok-denied.ensures.end ∙ ap (λ (q : List Lit). chain_end q always c.args.variable) (c.deref.ensures.value ∙ c.in_ok-denials.ensures) in
    subst (λ (a : Lit). a.0 + 1 < 4294967296) (sym e) (denied_small c.args.clause.now c.args.variable c.requires.fits)

pub returns : goal.returns
returns c = clause_pushed _ _ _ _ _ _ _ _ _ _ _ (c.deref.ensures.value ∙ c.in_ok-denials.ensures) c.in_ok-denied.ensures.gates c.in_ok-denied.ensures.end c.negation.ensures refl c.joins.ensures c.in_ok-push.ensures.items
