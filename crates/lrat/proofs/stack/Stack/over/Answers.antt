use Rattle.std.proofs.Common.{◌≡◌, ◌∙◌, ◌≤◌, length, List, ℤ, arith}
use Rattle.std.proofs.lemmas.List.Elements.{All-nil}
use Rattle.lrat.specs.Layers.{AreLayered}
use Rattle.lrat.specs.Shelves.{slots_from}
use Rattle.lrat.proofs.Layering.{fresh_layers, fresh_layered}
use Rattle.lrat.proofs.Shelved.{fresh_slots}
use Rattle.lrat.proofs.stack.Stack.over.Goals as goal

pub invariant_of-result : goal.invariant_of-result
invariant_of-result c =
    let cs : List (List ℤ) = c.args.clauses in
    let many : c.given-mark.result ≡ length cs = c.given-mark.ensures.value ∙ c.over-shelf.ensures.given in
    let layered : AreLayered (slots_from 1 cs) (length cs) (length cs) c.new.result.items (length cs) = fresh_layered (slots_from 1 cs) cs c.new.result.items (fresh_slots cs) c.new.ensures.items in (
      rw (many, c.over-shelf.ensures.row) layered,
      record { shared = omega (arith, many, c.over-shelf.ensures.given); loose = rw c.new.ensures.items (All-nil (λ i. c.over-shelf.result.given ≤ i)) },
    )

pub returns : goal.returns
returns c =
    let cs : List (List ℤ) = c.args.clauses in
    let many : c.given-mark.result ≡ length cs = c.given-mark.ensures.value ∙ c.over-shelf.ensures.given in
    rw (many, c.over-shelf.ensures.row) (fresh_layers (record { vars = c.args.vars; slots = slots_from 1 cs }) cs (fresh_slots cs))
