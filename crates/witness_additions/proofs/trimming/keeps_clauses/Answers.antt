use Rattle.std.proofs.Common.{◌≡◌, ℕ, [], List, true, get_or, ap, sym, ◌∙◌}
use Rattle.std.specs.List.{list_all}
use Rattle.graph.specs.declared.circuit.Lit.{Lit}
use Rattle.witness_additions.specs.Trimmings.{is_kept}
use Rattle.witness_additions.proofs.Agreed.{below_more}
use Rattle.witness_additions.proofs.trimming.keeps_clauses.Goals as goal

pub loop-k-preserved : goal.loop-k-preserved
loop-k-preserved c = λ k k_in.
    let a = c.args in
    let keeps = λ (q : List Lit). list_all (is_kept a.first a.needed.now) q in
    below_more (λ (i : ℕ). keeps (get_or a.clauses.now i []) ≡ true) c.loop-k.k c.loop-k.invariant
    (ap keeps (sym c.list.ensures) ∙ sym c.keeps_literals.ensures ∙ c.if-not-keeps_literals.false) k k_in
