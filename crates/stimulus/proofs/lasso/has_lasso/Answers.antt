use Rattle.std.proofs.Common.{◌≡◌, ℕ, ◌-◌, ◌<◌, Bool, false, true, List, ◌++◌, length, length-drop, take, drop, replicate, sym, ap, ◌∙◌, subst, arith}
use Rattle.std.proofs.Math.Seq.{take-append_seam}
use Rattle.std.proofs.lemmas.List.{length-replicate, take_all}
use Rattle.graph.specs.declared.parts.Parts.{Parts}
use Rattle.graph.specs.Circuits.{place}
use Rattle.stimulus.specs.Courses.{Course, Marks}
use Rattle.stimulus.proofs.LassoLaws.{lasso_found, lasso_marks, met_state}
use Rattle.stimulus.proofs.lasso.has_lasso.Goals as goal

pub returns-clause-found : goal.returns-clause-found
returns-clause-found c = λ x course.
    let m = c.args.circuit.now in
    let first = c.args.initial.now in
    let lines = c.args.lines.now in
    let wanted = c.args.wanted.now in
    let closing = c.args.closing.now in
    let s = c.in-Some.start in
    let now = c.meet.new.replay.state in
    let e = c.in_ok-replay.ensures.begun.0 in
    let met = rw e at c.in-Some.ensures.met in
    let is_m : c.meet.new.replay.circuit ≡ c.args.circuit.now = c.in-Some.ensures.circuit ∙ ap (λ r. r.circuit) e in
    let rest : Course c.meet.new.replay.circuit now (drop s lines) (drop s x) = subst (λ (p : Parts). Course p now (drop s lines) (drop s x)) (sym is_m) (met.goes_on x course) in
    let tail : take (length lines - s) (drop s lines) ≡ drop s lines = take_all (length lines - s) (drop s lines) (omega (arith, length-drop s lines)) in
    let cut : Course c.meet.new.replay.circuit now (take (length lines - s) (drop s lines)) (drop s x) = subst (λ (ls : List (List Bool)). Course c.meet.new.replay.circuit now ls (drop s x)) (sym tail) rest in
    let blank : c.deref_mut.result.now ≡ replicate (length wanted) false = c.deref_mut.ensures.value ∙ c.in_ok-marks.ensures in
    let q : Marks wanted (drop s x) (length (drop s x)) c.deref_mut.result.now c.gather.new.marks = c.gather.ensures (drop s x) cut in
    let p : Marks wanted (drop s x) (length (drop s x)) (replicate (length wanted) false) c.gather.new.marks = subst (λ (b : List Bool). Marks wanted (drop s x) (length (drop s x)) b c.gather.new.marks) blank q in
    let long : length c.gather.new.marks ≡ length wanted = p.long ∙ length-replicate (length wanted) false in
    let is_len : c.in_ok-marks.marks.len ≡ length c.gather.new.marks = sym c.deref_mut.ensures.len ∙ sym q.long in
    let same : c.deref.result.now ≡ c.gather.new.marks =
    c.deref.ensures.value ∙ ap (λ (n : ℕ). take n (c.gather.new.marks ++ drop (length c.gather.new.marks) c.in_ok-marks.marks.items)) is_len
    ∙ take-append_seam c.gather.new.marks (drop (length c.gather.new.marks) c.in_ok-marks.marks.items) in (
      λ on. (
        s,
        lasso_found m first lines wanted closing now x s c.gather.new.marks met course (met_state m first lines closing now x s met course) long p
            (subst (λ (b : List Bool). (k : ℕ) → k < length b → place b k ≡ true) same (c.are_all_set.ensures.0 on)),
      ),
      λ found.
          c.are_all_set.ensures.1
          (subst (λ (b : List Bool). (k : ℕ) → k < length b → place b k ≡ true) (sym same) (lasso_marks m first lines wanted closing now x s found.0 c.gather.new.marks met course long p found.1)),
    )
