use Rattle.std.proofs.Common.{◌≡◌, ◌≤◌, ◌∙◌, ap, arith, length}
use Rattle.std.proofs.lemmas.List.Elements.{All-nil}
use Rattle.lrat.specs.Layers.{Layers}
use Rattle.lrat.specs.Slots.{Row, live_slots}
use Rattle.lrat.proofs.Layering.{few_live, shared_layered, shared_layers}
use Rattle.lrat.proofs.stack.Stack.share.Goals as goal

pub overflow_cast-self : goal.overflow_cast-self
overflow_cast-self c =
    let s = c.self.inside in
    let few : length (live_slots s.shelf.row.slots) ≤ s.top = few_live s.shelf.row.slots s.mark s.shared_top s.hidden.items s.top c.self.invariant.0 in
    let n : c.len.result ≡ length (live_slots s.shelf.row.slots) = c.len.ensures ∙ ap (λ (r : Row). length r.slots) c.compact.ensures.row in
    let same : s.top ≡ c.args.self.now.top = ap (λ (l : Layers). l.top) c.self.view_is in
    omega (arith, few, n, same, c.top-top.ensures)

pub invariant_of-self : goal.invariant_of-self
invariant_of-self c =
    let s = c.self.inside in (
      rw (c.len.ensures, c.compact.ensures.row) (shared_layered s.shelf.row.slots s.mark s.shared_top s.hidden.items c.clear.new.self.items s.top c.self.invariant.0 c.clear.ensures.items),
      record { shared = omega (arith, c.len.ensures, c.compact.ensures.within); loose = rw c.clear.ensures.items (All-nil (λ i. c.compact.new.self.given ≤ i)) },
    )

pub returns : goal.returns
returns c =
    let s = c.self.inside in
    rw (c.len.ensures, c.compact.ensures.row, ← c.self.view_is) (shared_layers s.shelf.row s.mark s.shared_top s.hidden.items s.top c.self.invariant.0)
