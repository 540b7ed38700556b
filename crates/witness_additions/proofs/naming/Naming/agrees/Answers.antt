use Rattle.std.proofs.Common.{◌≡◌, true, false, List, Option, subst, sym, ◌∙◌}
use Rattle.std.specs.List.{list_all, list_any}
use Rattle.graph.specs.declared.circuit.Lit.{Lit}
use Rattle.witness_additions.specs.Agreements.{is_some}
use Rattle.witness_additions.proofs.Agreed.{latches_of, parts_of}
use Rattle.witness_additions.proofs.naming.Naming.agrees.Goals as goal

pub returns : goal.returns
returns c = λ on.
    let n = c.args.self.now in
    let m = c.args.model.now in
    let w = c.args.witness.now in
    let both = parts_of c.in_ok-are_same.are_same c.deref-2.result.now n.names.items c.constraints.result.now w.constraints c.deref-3.result.now n.same.items c.constraints-2.result.now m.constraints c.deref-2.ensures.value c.constraints.ensures c.deref-3.ensures.value c.constraints-2.ensures c.in_ok-are_same.ensures on in
    record {
      inputs = subst (λ (q : List (Option Lit)). list_all is_some q ≡ true) c.deref.ensures.value (sym c.are_given.ensures ∙ c.if-not-are_given.false);
      resets = subst (λ (q : List (Option Lit)). list_any is_some q ≡ false) c.deref-else-not-are_given.ensures.value (sym c.has_function.ensures ∙ c.if-has_function.false);
      latches = latches_of n.names.items n.same.items c.latches-else-has_function.result.now m.latches c.latches.result.now w.latches c.deref-else-has_function.result.now c.args.shared.now.latches.items
          c.latches-else-has_function.ensures c.latches.ensures c.deref-else-has_function.ensures.value (c.are_latches_same.ensures c.if-not-are_latches_same.false);
      constraints = both.0;
      model_constraints = both.1;
    }
