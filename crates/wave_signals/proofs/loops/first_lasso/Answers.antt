use Rattle.std.proofs.Common.{◌≡◌, ℕ, ◌<◌, Bool, false, true, List, ◌++◌, length, take, drop, replicate, sym, ap, ◌∙◌, subst}
use Rattle.std.proofs.Math.Seq.{take-append_seam}
use Rattle.std.proofs.lemmas.List.{length-replicate}
use Rattle.graph.specs.Circuits.{place}
use Rattle.stimulus.specs.Courses.{Marks}
use Rattle.wave_signals.proofs.LoopLaws.{lasso_first, lasso_none, rest_marks}
use Rattle.wave_signals.proofs.loops.first_lasso.Goals as goal

pub returns-then-are_all_set-clause-found : goal.returns-then-are_all_set-clause-found
returns-then-are_all_set-clause-found c = λ x course.
    let m = c.args.circuit.now in
    let first = c.args.initial.now in
    let lines = c.args.lines.now in
    let wanted = c.args.wanted.now in
    let closing = c.args.closing.now in
    let start = c.in-Some.start in
    let marks = c.gather.new.marks in
    let begun = c.in_ok-replay.ensures.begun.0 in
    let met = rw begun at c.in-Some.ensures.met in
    let blank : c.deref_mut.result.now ≡ replicate (length wanted) false = c.deref_mut.ensures.value ∙ c.in_ok-marks.ensures in
    let circuit : c.meet.new.replay.circuit ≡ c.args.circuit.now = c.in-Some.ensures.circuit ∙ ap (λ r. r.circuit) begun in
    let p : Marks wanted (drop start x) (length (drop start x)) (replicate (length wanted) false) c.gather.new.marks =
    rest_marks m c.meet.new.replay.circuit first c.meet.new.replay.state lines wanted closing x start c.deref_mut.result.now c.gather.new.marks circuit met blank c.gather.ensures course in
    let long : length c.gather.new.marks ≡ length wanted = p.long ∙ length-replicate (length wanted) false in
    let is_len : c.in_ok-marks.marks.len ≡ length c.gather.new.marks = sym c.deref_mut.ensures.len ∙ ap (λ (b : List Bool). length b) blank ∙ sym p.long in
    let same : c.deref.result.now ≡ c.gather.new.marks =
    c.deref.ensures.value ∙ ap (λ (n : ℕ). take n (c.gather.new.marks ++ drop (length c.gather.new.marks) c.in_ok-marks.marks.items)) is_len
    ∙ take-append_seam c.gather.new.marks (drop (length c.gather.new.marks) c.in_ok-marks.marks.items) in
    lasso_first m first lines wanted closing c.meet.new.replay.state x start marks met course long p (subst (λ (b : List Bool). (k : ℕ) → k < length b → place b k ≡ true) same (c.are_all_set.ensures.0 c.if-are_all_set.true))

pub returns-clause-found : goal.returns-clause-found
returns-clause-found c = λ x course.
    let m = c.args.circuit.now in
    let first = c.args.initial.now in
    let lines = c.args.lines.now in
    let wanted = c.args.wanted.now in
    let closing = c.args.closing.now in
    let start = c.in-Some.start in
    let marks = c.gather.new.marks in
    let begun = c.in_ok-replay.ensures.begun.0 in
    let met = rw begun at c.in-Some.ensures.met in
    let blank : c.deref_mut.result.now ≡ replicate (length wanted) false = c.deref_mut.ensures.value ∙ c.in_ok-marks.ensures in
    let circuit : c.meet.new.replay.circuit ≡ c.args.circuit.now = c.in-Some.ensures.circuit ∙ ap (λ r. r.circuit) begun in
    let p : Marks wanted (drop start x) (length (drop start x)) (replicate (length wanted) false) c.gather.new.marks =
    rest_marks m c.meet.new.replay.circuit first c.meet.new.replay.state lines wanted closing x start c.deref_mut.result.now c.gather.new.marks circuit met blank c.gather.ensures course in
    let long : length c.gather.new.marks ≡ length wanted = p.long ∙ length-replicate (length wanted) false in
    let is_len : c.in_ok-marks.marks.len ≡ length c.gather.new.marks = sym c.deref_mut.ensures.len ∙ ap (λ (b : List Bool). length b) blank ∙ sym p.long in
    let same : c.deref.result.now ≡ c.gather.new.marks =
    c.deref.ensures.value ∙ ap (λ (n : ℕ). take n (c.gather.new.marks ++ drop (length c.gather.new.marks) c.in_ok-marks.marks.items)) is_len
    ∙ take-append_seam c.gather.new.marks (drop (length c.gather.new.marks) c.in_ok-marks.marks.items) in
    lasso_none m first lines wanted closing c.meet.new.replay.state x start marks met course long p
    (λ all. let on = c.are_all_set.ensures.1 (subst (λ (b : List Bool). (k : ℕ) → k < length b → place b k ≡ true) (sym same) all) in let off = c.if-are_all_set.false in absurd cc)
