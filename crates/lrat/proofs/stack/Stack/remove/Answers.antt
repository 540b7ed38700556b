use Rattle.std.proofs.Common.{◌≡◌, ◌∙◌, ap, sym, refl, List, [], false, take, map, get_or, set, arith, None}
use Rattle.std.specs.FinMap as fin
use Rattle.lrat.specs.Layers.{layers_of, AreLayered}
use Rattle.lrat.specs.Shelves.{AreLoose}
use Rattle.lrat.specs.Slots.{Slot, blank, revived, live_of}
use Rattle.lrat.proofs.Maps.{remove_absent}
use Rattle.lrat.proofs.Rising.{live_gone, revived_set}
use Rattle.lrat.proofs.Layering.{hidden_layered, dropped_layered, dropped_shared, changed_layers, tidied_layered, tidied_layers}
use Rattle.lrat.proofs.Shelved.{loosened, loosened_more}
use Rattle.lrat.proofs.stack.Stack.remove.Goals as goal

pub returns-in_default-clause-ok : goal.returns-in_default-clause-ok
returns-in_default-clause-ok c =
    let none : fin.get c.args.self.now.present c.args.id ≡ None = ap (λ u. fin.get u.present c.args.id) (sym c.self.view_is) ∙ c.in_default.ensures in
    λ i. record { base = c.args.self.now.base; present = sym (remove_absent c.args.self.now.present c.args.id none) i; top = c.args.self.now.top }

pub invariant_of-self-then-index-mark : goal.invariant_of-self-then-index-mark
invariant_of-self-then-index-mark c =
    let u = c.self.inside in
    let ss : List Slot = u.shelf.row.slots in
    let s : Slot = record { id = (get_or ss c.in-Some.index blank).id; live = false; clause = (get_or ss c.in-Some.index blank).clause } in
    let marked : c.mark.new.self.row.slots ≡ set ss c.in-Some.index s = rw c.in_ok-loosen.ensures.row at c.mark.ensures.slots in
    let loose : AreLoose c.loosen.new.self.given u.mark u.hidden.items = loosened _ _ _ _ c.in_ok-loosen.ensures.given c.self.invariant.1 in (
      rw (marked, c.in_ok-push.ensures.items) (hidden_layered ss u.mark u.shared_top u.hidden.items u.top c.in-Some.index s c.self.invariant.0 c.if-index-mark.true refl),
      rw (c.mark.ensures.given, c.in_ok-push.ensures.items) (loosened_more c.loosen.new.self.given u.mark u.hidden.items c.in-Some.index c.in_ok-loosen.ensures.ok loose),
    )

pub returns-then-index-mark-clause-ok : goal.returns-then-index-mark-clause-ok
returns-then-index-mark-clause-ok c =
    let u = c.self.inside in
    let ss : List Slot = u.shelf.row.slots in
    let s : Slot = record { id = (get_or ss c.in-Some.index blank).id; live = false; clause = (get_or ss c.in-Some.index blank).clause } in
    let marked : c.mark.new.self.row.slots ≡ set ss c.in-Some.index s = rw c.in_ok-loosen.ensures.row at c.mark.ensures.slots in
    let vars : c.mark.new.self.row.vars ≡ u.shelf.row.vars = rw c.in_ok-loosen.ensures.row at c.mark.ensures.vars in
    let at = c.in-Some.ensures in
    rw (← c.self.view_is) (changed_layers u.shelf.row c.mark.new.self.row u.mark u.shared_top u.top u.top _ vars
    (ap (λ (ts : List Slot). map revived (take u.mark ts)) marked ∙ revived_set ss u.mark c.in-Some.index false)
    (ap live_of marked ∙ live_gone ss c.in-Some.index c.args.id s c.self.invariant.0.rising at.within at.here refl refl))

pub invariant_of-self-2 : goal.invariant_of-self-2
invariant_of-self-2 c =
    let u = c.self.inside in
    let ss : List Slot = u.shelf.row.slots in
    let s : Slot = record { id = (get_or ss c.in-Some.index blank).id; live = false; clause = [] } in
    let slots : c.drop_at.new.self.row.slots ≡ set ss c.in-Some.index s = rw c.in_ok-loosen.ensures.row at c.drop_at.ensures.slots in
    let dropped : AreLayered c.drop_at.new.self.row.slots u.mark u.shared_top u.hidden.items u.top =
    rw slots (dropped_layered ss u.mark u.shared_top u.hidden.items u.top c.in-Some.index s c.self.invariant.0 (omega (arith, c.if-index-mark.false)) refl) in
    let loose : AreLoose c.loosen.new.self.given u.mark u.hidden.items = loosened _ _ _ _ c.in_ok-loosen.ensures.given c.self.invariant.1 in (
      tidied_layered c.drop_at.new.self.row c.tidy.new.self.row u.mark u.shared_top u.hidden.items u.top c.tidy.ensures.row dropped,
      rw (c.tidy.ensures.given, c.drop_at.ensures.given) loose,
    )

pub returns-clause-ok : goal.returns-clause-ok
returns-clause-ok c =
    let u = c.self.inside in
    let ss : List Slot = u.shelf.row.slots in
    let s : Slot = record { id = (get_or ss c.in-Some.index blank).id; live = false; clause = [] } in
    let at = c.in-Some.ensures in
    let slots : c.drop_at.new.self.row.slots ≡ set ss c.in-Some.index s = rw c.in_ok-loosen.ensures.row at c.drop_at.ensures.slots in
    let vars : c.drop_at.new.self.row.vars ≡ u.shelf.row.vars = rw c.in_ok-loosen.ensures.row at c.drop_at.ensures.vars in
    let dropped : AreLayered c.drop_at.new.self.row.slots u.mark u.shared_top u.hidden.items u.top =
    rw slots (dropped_layered ss u.mark u.shared_top u.hidden.items u.top c.in-Some.index s c.self.invariant.0 (omega (arith, c.if-index-mark.false)) refl) in
    let tidied : layers_of c.tidy.new.self.row u.mark u.shared_top u.top ≡ layers_of c.drop_at.new.self.row u.mark u.shared_top u.top =
    tidied_layers c.drop_at.new.self.row c.tidy.new.self.row u.mark u.shared_top u.hidden.items u.top c.tidy.ensures.row dropped in
    rw (← c.self.view_is) (tidied ∙ changed_layers u.shelf.row c.drop_at.new.self.row u.mark u.shared_top u.top u.top _ vars
    (ap (λ (ts : List Slot). map revived (take u.mark ts)) slots ∙ dropped_shared ss u.mark c.in-Some.index s (omega (arith, c.if-index-mark.false)))
    (ap live_of slots ∙ live_gone ss c.in-Some.index c.args.id s c.self.invariant.0.rising at.within at.here refl refl))
