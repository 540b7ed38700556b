use Rattle.std.proofs.Common.{rules, ◌≡◌, ◌<◌, ◌≤◌, ◌+◌, ◌++◌, ◌∙◌, ℕ, List, length, take, subst, sym, ap, arith, append_assoc}
use Rattle.std.proofs.lemmas.List.{length-append, length-take-le}
use Rattle.pieces.specs.Pieces.{GoesOn, HoldsPiece, IsReady}
use Rattle.pieces.proofs.PieceLaws.{goes_append, lies_at, lies_end, ready_behind_others, ready_whole}
use Rattle.pieces.proofs.pieces.gather.Goals as goal

pub returns-then-n-eq0-clause-reads : goal.returns-then-n-eq0-clause-reads
returns-then-n-eq0-clause-reads g c text later left =
    let (taken, moved, is) = c.gathering.invariant.bytes in
    let none : c.in-Ok.n ≡ 0 = c.if-n-eq0.true in
    let step : g.S.Source.leaves c.gathering.from text later = subst (λ n. g.S.Source.leaves c.gathering.from text (take n c.take.new.into ++ later)) none (c.in-Ok.ensures.bytes.0 text later left) in
    (taken ++ later, moved text later step, lies_end c.args.held.now.items c.gathering.held.items taken later is (c.in-Ok.ensures.bytes.1 none (search rules) text later left) c.gathering.invariant.goes)

pub returns-in-Some-clause-ready : goal.returns-in-Some-clause-ready
returns-in-Some-clause-ready g c =
    let more : List ℕ = take c.in-Ok.n c.take.new.into in
    let held : c.extend.new.to.items ≡ c.gathering.held.items ++ more = search rules in
    let before : c.len-before.result ≡ length c.gathering.held.items = search rules in
    let ready : (0 < c.in-Some.end) × IsReady more c.in-Some.end = search rules in
    subst (λ w. IsReady w (c.len-before.result + c.in-Some.end)) (sym held)
    (subst (λ n. IsReady (c.gathering.held.items ++ more) (n + c.in-Some.end)) (sym before) (ready_behind_others c.gathering.held.items more c.in-Some.end ready.0 ready.1))

pub returns-in-Some-clause-reads : goal.returns-in-Some-clause-reads
returns-in-Some-clause-reads g c text later left =
    let (taken, moved, is) = c.gathering.invariant.bytes in
    let more : List ℕ = take c.in-Ok.n c.take.new.into in
    let held : c.extend.new.to.items ≡ c.gathering.held.items ++ more = search rules in
    let before : c.len-before.result ≡ length c.gathering.held.items = search rules in
    let ready : (0 < c.in-Some.end) × IsReady more c.in-Some.end = search rules in
    let holds : HoldsPiece (take (length c.gathering.held.items + c.in-Some.end) (c.gathering.held.items ++ more)) =
    ready_whole (c.gathering.held.items ++ more) (length c.gathering.held.items + c.in-Some.end) (omega (arith, ready.0)) (ready_behind_others c.gathering.held.items more c.in-Some.end ready.0 ready.1) in
    let moves : g.S.Source.leaves c.args.from.now text ((taken ++ more) ++ later) = subst (λ w. g.S.Source.leaves c.args.from.now text w) (sym (append_assoc taken more later)) (moved text (more ++ later) (c.in-Ok.ensures.bytes.0 text later left)) in (
      (taken ++ more) ++ later,
      moves,
      lies_at c.args.held.now.items c.extend.new.to.items (taken ++ more) later (c.len-before.result + c.in-Some.end)
          (held ∙ ap (λ w. w ++ more) is ∙ append_assoc c.args.held.now.items taken more)
          (subst (λ w. HoldsPiece (take (c.len-before.result + c.in-Some.end) w)) (sym held) (subst (λ n. HoldsPiece (take (n + c.in-Some.end) (c.gathering.held.items ++ more))) (sym before) holds)),
    )

pub gathering-preserved : goal.gathering-preserved
gathering-preserved g c =
    let (taken, moved, is) = c.gathering.invariant.bytes in
    let more : List ℕ = take c.in-Ok.n c.take.new.into in
    let held : c.extend.new.to.items ≡ c.gathering.held.items ++ more = search rules in
    let goes : GoesOn more = search rules in
    let fits : c.in-Ok.n ≤ length c.take.new.into = search rules in
    let len : length more ≡ c.in-Ok.n = length-take-le c.in-Ok.n c.take.new.into fits in
    let lowers : g.S.Source.most c.take.new.self + c.in-Ok.n ≡ g.S.Source.most c.gathering.from = search rules in
    record {
      steady = search rules;
      goes = subst GoesOn (sym held) (goes_append c.gathering.held.items more c.gathering.invariant.goes goes);
      moves = omega (arith, ap length held, length-append c.gathering.held.items more, len, lowers, c.gathering.invariant.moves);
      bytes = (taken ++ more, (λ text later left. subst (λ w. g.S.Source.leaves c.args.from.now text w) (sym (append_assoc taken more later)) (moved text (more ++ later) (c.in-Ok.ensures.bytes.0 text later left))), held ∙ ap (λ w. w ++ more) is ∙ append_assoc c.args.held.now.items taken more);
    }
