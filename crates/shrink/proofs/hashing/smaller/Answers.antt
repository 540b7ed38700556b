use Rattle.std.proofs.Common.{rules, ◌≡◌, ◌∙◌, ◌+◌, ℕ, List, length, sym, ap, subst, arith}
use Rattle.std.specs.HashMap.{get}
use Rattle.graph.specs.declared.circuit.Gate.{Gate}
use Rattle.graph.specs.declared.parts.Parts.{Parts}
use Rattle.graph.specs.WellFormed.{IsModel, IsOrder, IsWellFormed}
use Rattle.graph.proofs.Tabled.{take_whole}
use Rattle.shrink.specs.Carriable.{AreCarriable}
use Rattle.shrink.specs.Hashed.{AreCarried, AreNumbered, bases, carried_parts}
use Rattle.shrink.specs.Making.{AreMade, same_sides}
use Rattle.shrink.specs.Shrunk.{IsShrunk}
use Rattle.shrink.proofs.Done.{IsDone, first_of, bases_once, room_for, begins, carriable, apart_from, is_shrunk, well_formed, order_few, defined_few}
use Rattle.shrink.proofs.hashing.smaller.Goals as goal

-- the parts that were read are the model's
is_model : (p m : Parts) (order : List ℕ) → p ≡ m → IsWellFormed m → IsOrder m.gates order → IsModel p order
is_model p m order same well ordered = subst (λ q. IsModel q order) (sym same) (record { well_formed = well; ordered = ordered })

pub numbered_image-requires-clause-once : goal.numbered_image-requires-clause-once
numbered_image-requires-clause-once c =
    rw (c.as_slice.ensures.value, c.in_ok-bases.ensures, c.parts-parts.ensures.parts) (bases_once c.args.circuit.now c.parts-parts.ensures.well_formed)

pub carry_gates-requires-clause-room : goal.carry_gates-requires-clause-room
carry_gates-requires-clause-room c =
    let p : Parts = c.parts-parts.result.now in
    let order : List ℕ = c.order.result.now in
    let model : IsModel p order = is_model p c.args.circuit.now order c.parts-parts.ensures.parts c.parts-parts.ensures.well_formed c.order.ensures in
    let first : c.len.result + 1 ≡ first_of p = ap (λ n. n + 1) (c.len.ensures ∙ sym c.as_slice.ensures.len ∙ ap length (c.as_slice.ensures.value ∙ c.in_ok-bases.ensures)) in
    let room = room_for p order model in
    omega (arith, room, first)

pub carry_gates-requires-clause-begins : goal.carry_gates-requires-clause-begins
carry_gates-requires-clause-begins c =
    let p : Parts = c.parts-parts.result.now in
    let order : List ℕ = c.order.result.now in
    let model : IsModel p order = is_model p c.args.circuit.now order c.parts-parts.ensures.parts c.parts-parts.ensures.well_formed c.order.ensures in
    let first : c.len.result + 1 ≡ first_of p = ap (λ n. n + 1) (c.len.ensures ∙ sym c.as_slice.ensures.len ∙ ap length (c.as_slice.ensures.value ∙ c.in_ok-bases.ensures)) in
    let numbered : AreNumbered (bases p) c.as_mut_slice.result.now =
    subst (AreNumbered (bases p)) (sym c.as_mut_slice.ensures.value) (subst (λ bs. AreNumbered bs c.in_ok-image.image.items) (c.as_slice.ensures.value ∙ c.in_ok-bases.ensures) c.in_ok-image.ensures.numbered) in
    let whole : length c.as_mut_slice.result.now ≡ p.max_var + 1 = ap length c.as_mut_slice.ensures.value ∙ c.in_ok-image.ensures.whole in
    subst (λ n. AreCarried p order n c.as_mut_slice.result.now c.new-making.result.gates c.as_mut_slice.result.now 0) (sym first)
    (subst (λ gs. AreCarried p order (first_of p) c.as_mut_slice.result.now gs c.as_mut_slice.result.now 0) (sym c.new-making.ensures.none) (begins p order c.as_mut_slice.result.now whole numbered))

pub rename_parts-requires-clause-carriable : goal.rename_parts-requires-clause-carriable
rename_parts-requires-clause-carriable c =
    let p : Parts = c.parts-parts.result.now in
    let order : List ℕ = c.order.result.now in
    let model : IsModel p order = is_model p c.args.circuit.now order c.parts-parts.ensures.parts c.parts-parts.ensures.well_formed c.order.ensures in
    let first : c.len.result + 1 ≡ first_of p = ap (λ n. n + 1) (c.len.ensures ∙ sym c.as_slice.ensures.len ∙ ap length (c.as_slice.ensures.value ∙ c.in_ok-bases.ensures)) in
    let gs : List Gate = c.carry_gates.new.making.gates in
    let carried : AreCarried p order (first_of p) c.as_mut_slice.result.now gs c.carry_gates.new.image (length order) =
    subst (λ n. AreCarried p order n c.as_mut_slice.result.now gs c.carry_gates.new.image (length order)) first c.in_ok-carry_gates.ensures.carried in
    let whole : length c.carry_gates.new.image ≡ c.in_ok-image.image.len = search rules in
    let image_is : c.as_slice-2.result.now ≡ c.carry_gates.new.image = c.as_slice-2.ensures.value ∙ take_whole c.in_ok-image.image.len c.carry_gates.new.image _ whole in
    subst (AreCarriable p) (sym image_is) (carriable p order c.as_mut_slice.result.now c.carry_gates.new.image gs model carried)

pub rename_parts-requires-clause-room : goal.rename_parts-requires-clause-room
rename_parts-requires-clause-room c =
    let p : Parts = c.parts-parts.result.now in
    let order : List ℕ = c.order.result.now in
    let model : IsModel p order = is_model p c.args.circuit.now order c.parts-parts.ensures.parts c.parts-parts.ensures.well_formed c.order.ensures in
    let first : c.len.result + 1 ≡ first_of p = ap (λ n. n + 1) (c.len.ensures ∙ sym c.as_slice.ensures.len ∙ ap length (c.as_slice.ensures.value ∙ c.in_ok-bases.ensures)) in
    let gs : List Gate = c.carry_gates.new.making.gates in
    let carried : AreCarried p order (first_of p) c.as_mut_slice.result.now gs c.carry_gates.new.image (length order) =
    subst (λ n. AreCarried p order n c.as_mut_slice.result.now gs c.carry_gates.new.image (length order)) first c.in_ok-carry_gates.ensures.carried in
    let whole : length c.carry_gates.new.image ≡ c.in_ok-image.image.len = search rules in
    let image_is : c.as_slice-2.result.now ≡ c.carry_gates.new.image = c.as_slice-2.ensures.value ∙ take_whole c.in_ok-image.image.len c.carry_gates.new.image _ whole in
    let few = carried.few in
    let gates = order_few p.gates order model.ordered in
    let all = defined_few p model.well_formed in
    let max = model.well_formed.limits.max_var in
    omega (arith, few, gates, all, max)

pub returns-clause-shrunk : goal.returns-clause-shrunk
returns-clause-shrunk c =
    let p : Parts = c.parts-parts.result.now in
    let order : List ℕ = c.order.result.now in
    let model : IsModel p order = is_model p c.args.circuit.now order c.parts-parts.ensures.parts c.parts-parts.ensures.well_formed c.order.ensures in
    let first : c.len.result + 1 ≡ first_of p = ap (λ n. n + 1) (c.len.ensures ∙ sym c.as_slice.ensures.len ∙ ap length (c.as_slice.ensures.value ∙ c.in_ok-bases.ensures)) in
    let gs : List Gate = c.carry_gates.new.making.gates in
    let carried : AreCarried p order (first_of p) c.as_mut_slice.result.now gs c.carry_gates.new.image (length order) =
    subst (λ n. AreCarried p order n c.as_mut_slice.result.now gs c.carry_gates.new.image (length order)) first c.in_ok-carry_gates.ensures.carried in
    let whole : length c.carry_gates.new.image ≡ c.in_ok-image.image.len = search rules in
    let image_is : c.as_slice-2.result.now ≡ c.carry_gates.new.image = c.as_slice-2.ensures.value ∙ take_whole c.in_ok-image.image.len c.carry_gates.new.image _ whole in
    let numbered : AreNumbered (bases p) c.as_mut_slice.result.now =
    subst (AreNumbered (bases p)) (sym c.as_mut_slice.ensures.value) (subst (λ bs. AreNumbered bs c.in_ok-image.image.items) (c.as_slice.ensures.value ∙ c.in_ok-bases.ensures) c.in_ok-image.ensures.numbered) in
    let done : IsDone p order c.as_mut_slice.result.now c.carry_gates.new.image gs = record {
      model = model;
      numbered = numbered;
      carried = carried;
      made = subst (λ n. AreMade n gs) first c.in_ok-carry_gates.ensures.made;
      apart = apart_from (c.len.result + 1) gs (get same_sides c.carry_gates.new.making.table) c.in_ok-carry_gates.ensures.table;
    } in
    let is : c.in_ok-smaller.smaller ≡ carried_parts p c.carry_gates.new.image gs = c.in_ok-smaller.ensures ∙ ap (λ image. carried_parts p image gs) image_is in
    rw is (subst (λ m. IsShrunk m (carried_parts p c.carry_gates.new.image gs)) c.parts-parts.ensures.parts (is_shrunk p order c.as_mut_slice.result.now c.carry_gates.new.image gs done))

pub returns-clause-well_formed : goal.returns-clause-well_formed
returns-clause-well_formed c =
    let p : Parts = c.parts-parts.result.now in
    let order : List ℕ = c.order.result.now in
    let model : IsModel p order = is_model p c.args.circuit.now order c.parts-parts.ensures.parts c.parts-parts.ensures.well_formed c.order.ensures in
    let first : c.len.result + 1 ≡ first_of p = ap (λ n. n + 1) (c.len.ensures ∙ sym c.as_slice.ensures.len ∙ ap length (c.as_slice.ensures.value ∙ c.in_ok-bases.ensures)) in
    let gs : List Gate = c.carry_gates.new.making.gates in
    let carried : AreCarried p order (first_of p) c.as_mut_slice.result.now gs c.carry_gates.new.image (length order) =
    subst (λ n. AreCarried p order n c.as_mut_slice.result.now gs c.carry_gates.new.image (length order)) first c.in_ok-carry_gates.ensures.carried in
    let whole : length c.carry_gates.new.image ≡ c.in_ok-image.image.len = search rules in
    let image_is : c.as_slice-2.result.now ≡ c.carry_gates.new.image = c.as_slice-2.ensures.value ∙ take_whole c.in_ok-image.image.len c.carry_gates.new.image _ whole in
    let numbered : AreNumbered (bases p) c.as_mut_slice.result.now =
    subst (AreNumbered (bases p)) (sym c.as_mut_slice.ensures.value) (subst (λ bs. AreNumbered bs c.in_ok-image.image.items) (c.as_slice.ensures.value ∙ c.in_ok-bases.ensures) c.in_ok-image.ensures.numbered) in
    let done : IsDone p order c.as_mut_slice.result.now c.carry_gates.new.image gs = record {
      model = model;
      numbered = numbered;
      carried = carried;
      made = subst (λ n. AreMade n gs) first c.in_ok-carry_gates.ensures.made;
      apart = apart_from (c.len.result + 1) gs (get same_sides c.carry_gates.new.making.table) c.in_ok-carry_gates.ensures.table;
    } in
    let is : c.in_ok-smaller.smaller ≡ carried_parts p c.carry_gates.new.image gs = c.in_ok-smaller.ensures ∙ ap (λ image. carried_parts p image gs) image_is in
    rw is (well_formed p order c.as_mut_slice.result.now c.carry_gates.new.image gs done)
