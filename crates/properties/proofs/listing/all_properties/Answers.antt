use Rattle.std.proofs.Common.{◌≡◌, All, AllPairs, Contains, ◌≤◌, length, arith, List, ap, ◌∙◌, sym}
use Rattle.std.proofs.Math.Path.{subst}
use Rattle.graph.specs.declared.circuit.Property.{Property as AProperty}
use Rattle.graph.specs.declared.parts.Parts.{Parts}
use Rattle.graph.specs.Circuits.{HasProperty}
use Rattle.properties.specs.Order.{ComesBefore}
use Rattle.properties.proofs.Listed.{AreTaken, listed, all_listed, only_listed, listed_in_order, listed_by_kind}
use Rattle.properties.proofs.listing.all_properties.Goals as goal

pub overflow_cast-len : goal.overflow_cast-len
overflow_cast-len c =
    let count : c.len.result ≡ length c.args.circuit.now.bad = c.len.ensures ∙ ap (λ (m : Parts). length m.bad) c.parts-parts.ensures.parts in
    let limit : length c.args.circuit.now.bad ≤ 4194303 = c.parts-parts.ensures.well_formed.limits.bad in
    omega (arith, count, limit)

pub overflow_cast-len-2 : goal.overflow_cast-len-2
overflow_cast-len-2 c =
    let count : c.len-2.result ≡ length c.args.circuit.now.justice =
    c.len-2.ensures ∙ ap (λ (m : Parts). length m.justice) c.parts-parts.ensures.parts in
    let limit : length c.args.circuit.now.justice ≤ 4194303 = c.parts-parts.ensures.well_formed.limits.justice in
    omega (arith, count, limit)

taken : (c : goal.In_ok-push_kind-3) → AreTaken c.args.circuit.now c.bad_outputs.result
taken c = record {
  taken = c.bad_outputs.ensures.all;
  only = λ n n_in. let bad = c.bad_outputs.ensures.some (omega (arith, n_in)) in (bad, omega (arith, n_in, c.bad_outputs.ensures.all bad));
}

items : (c : goal.In_ok-push_kind-3) → c.push_kind-3.new.to.items ≡ listed c.args.circuit.now c.bad_outputs.result
items c =
    listed_by_kind c.args.circuit.now c.len.result c.len-2.result c.bad_outputs.result
    c.new-properties.result.items c.push_kind.new.to.items c.push_kind-2.new.to.items c.push_kind-3.new.to.items
    c.new-properties.ensures.items c.in_ok-push_kind.ensures c.in_ok-push_kind-2.ensures c.in_ok-push_kind-3.ensures
    (c.len.ensures ∙ ap (λ (m : Parts). length m.bad) c.parts-parts.ensures.parts)
    (c.len-2.ensures ∙ ap (λ (m : Parts). length m.justice) c.parts-parts.ensures.parts)

pub returns-clause-each : goal.returns-clause-each
returns-clause-each c p has =
    subst (λ (ps : List AProperty). Contains ps p) (sym (items c)) (all_listed c.args.circuit.now c.bad_outputs.result (taken c) p has)

pub returns-clause-only : goal.returns-clause-only
returns-clause-only c =
    subst (All (HasProperty c.args.circuit.now)) (sym (items c)) (only_listed c.args.circuit.now c.bad_outputs.result (taken c))

pub returns-clause-ordered : goal.returns-clause-ordered
returns-clause-ordered c =
    subst (AllPairs ComesBefore) (sym (items c)) (listed_in_order c.args.circuit.now c.bad_outputs.result)
