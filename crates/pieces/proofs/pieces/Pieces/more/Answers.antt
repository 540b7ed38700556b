use Rattle.std.proofs.Common.{◌<◌, ◌∙◌, List, ℕ, ap, subst, drop}
use Rattle.std.proofs.lemmas.List.{take_rest}
use Rattle.pieces.specs.Pieces.{IsReady, Lies}
use Rattle.pieces.proofs.PieceLaws.{lies_here, ready_whole}
use Rattle.pieces.proofs.pieces.Pieces.more.Goals as goal

pub returns-in-Some-clause-reads : goal.returns-in-Some-clause-reads
returns-in-Some-clause-reads g c text later left =
    let rest : List ℕ = drop c.self.inside.start c.self.inside.held.items in
    let is = take_rest c.deref.result.now c.self.inside.start ∙ ap (λ w. drop c.self.inside.start w) c.deref.ensures.value in
    let ready = subst (λ w. (0 < c.in-Some.end) × IsReady w c.in-Some.end) is c.in-Some.ensures.ready in
    (later, left, subst (λ old. Lies old later rest later c.in-Some.end) c.self.view_is (lies_here rest later c.in-Some.end (ready_whole rest c.in-Some.end ready.0 ready.1)))
