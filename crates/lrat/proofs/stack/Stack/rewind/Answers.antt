use Rattle.std.proofs.Common.{◌≡◌, ◌≤◌, ◌∙◌, ap, arith}
use Rattle.std.proofs.lemmas.List.Elements.{All-nil}
use Rattle.lrat.specs.Slots.{Row}
use Rattle.lrat.specs.Layers.{bare}
use Rattle.lrat.proofs.Layering.{rewound_layered, rewound_layers}
use Rattle.lrat.proofs.stack.Stack.rewind.Goals as goal

pub invariant_of-self : goal.invariant_of-self
invariant_of-self c =
    let s = c.self.inside in
    let same = rw c.truncate.ensures.row at c.revive.ensures.same in
    let live = rw (c.truncate.ensures.row, c.as_slice.ensures.value) at c.revive.ensures.live in
    let given : c.revive.new.shelf.given ≡ s.shelf.given = c.revive.ensures.given ∙ c.truncate.ensures.given in (
      rewound_layered s.shelf.row.slots c.revive.new.shelf.row.slots s.mark s.shared_top s.hidden.items c.clear.new.self.items s.top c.self.invariant.0 same live c.clear.ensures.items,
      record { shared = omega (arith, given, c.self.invariant.1.shared); loose = rw c.clear.ensures.items (All-nil (λ i. c.revive.new.shelf.given ≤ i)) },
    )

pub returns : goal.returns
returns c =
    let s = c.self.inside in
    let same = rw c.truncate.ensures.row at c.revive.ensures.same in
    let live = rw (c.truncate.ensures.row, c.as_slice.ensures.value) at c.revive.ensures.live in
    rewound_layers s.shelf.row c.revive.new.shelf.row s.mark s.shared_top s.hidden.items s.top c.self.invariant.0 (c.revive.ensures.vars ∙ ap (λ (r : Row). r.vars) c.truncate.ensures.row) same live
    ∙ ap (λ u. bare u.base) c.self.view_is
