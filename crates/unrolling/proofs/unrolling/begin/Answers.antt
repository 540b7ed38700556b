use Rattle.std.proofs.Common.{rules, ◌≡◌, ◌≤◌, ℕ, suc, ◌+◌, ◌++◌, ◌∷◌, [], length, map, get_or, replicate, pos, negsuc, sym, ◌∙◌, ap, subst, arith}
use Rattle.std.proofs.lemmas.List.{get_or-replicate, length-replicate}
use Rattle.lrat.specs.Literals.{IsLiteral}
use Rattle.unrolling.specs.Unrollings.{literal_at}
use Rattle.unrolling.specs.Encodings.{function_at, IsGate}
use Rattle.unrolling.proofs.Demanded.{given_begins}
use Rattle.unrolling.proofs.Encoded.{false_literal}
use Rattle.unrolling.proofs.Unrolled.{unrolled_begins}
use Rattle.unrolling.proofs.unrolling.begin.Goals as goal

pub returns-clause-at : goal.returns-clause-at
returns-clause-at g c =
    let m = c.args.circuit.now in
    let cone = c.args.cone.now in
    let initial = c.in_ok-initial.initial.items in
    let e = c.new-encoder.result in
    let cs = g.S.Sat.clauses c.add_one.new.solver in
    let count : e.variables ≡ length cone.latches.items + 1 = search rules in
    let cs_is : cs ≡ (pos 1 ∷ []) ∷ [] = c.in_ok-add_one.ensures.clauses ∙ ap (λ q. q ++ (pos 1 ∷ []) ∷ []) c.in_ok-reset.ensures.clauses in
    let state_is : c.in_ok-state.state.items ≡ map (literal_at initial) cone.latches.items = c.in_ok-state.ensures ∙ ap (λ q. map (literal_at q) cone.latches.items) c.deref.ensures.value in
    let functions_is : e.functions.items ≡ [] = c.new-encoder.ensures.functions in
    let free : (x : ℕ) → IsGate e.functions.items x → ⊥ = λ x gate. gate (ap (λ q. (function_at q x).leaves.0) functions_is) in
    let room : length e.functions.items ≤ suc e.variables = omega (arith, ap length functions_is) in
    let begins = unrolled_begins m cone initial e cs c.well_formed-2.ensures c.requires.cone c.in_ok-initial.ensures count c.new-encoder.ensures.none room free cs_is in
    let n = c.max_var.result + 1 in
    let table_is : c.in_ok-table.table.items ≡ replicate n (negsuc 0) = c.in_ok-table.ensures in
    let whole : length c.in_ok-table.table.items ≡ n = ap length table_is ∙ length-replicate n (negsuc 0) in
    record {
      unrolled = rw (c.new.ensures.items, state_is) begins;
      whole = whole ∙ ap (λ q. q + 1) c.max_var.ensures;
      literals = λ k d k_in. subst (IsLiteral e.variables) (sym (ap (λ q. get_or q k d) table_is ∙ get_or-replicate n k (negsuc 0) d (omega (arith, k_in, whole)))) (false_literal e begins.encoding);
      given = given_begins e _ c.in_ok-given.given.items cs c.in_ok-given.ensures.marks (search rules) begins.encoding.some (free 1) cs_is;
    }
