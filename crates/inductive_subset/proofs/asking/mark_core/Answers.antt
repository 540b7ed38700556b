use Rattle.std.proofs.Common.{rules, SFits, w32, ◌≡◌, ◌∙◌, ◌+◌, ◌-◌, ℕ, ℤ, pos, unsigned_abs, List, get_or, ap, sym, subst, arith}
use Rattle.lrat.proofs.Fit.{read32}
use Rattle.inductive_subset.specs.declared.needed.Needed.{Needed}
use Rattle.inductive_subset.specs.Guards.{guard_of, IsMarked}
use Rattle.inductive_subset.proofs.Longer.{longer_then}
use Rattle.inductive_subset.proofs.Excluding.{marked_more, marked_whole, guard_place, no_guard, Marking, marking_first}
use Rattle.inductive_subset.proofs.asking.mark_core.Goals as goal
use Rattle.inductive_subset.proofs.asking.mark_core.Goals.{then-first-variable+in_ok-mark, else-first-variable}

pub marking-preserved : goal.marking-preserved
marking-preserved c =
    let m = c.args.circuit.now in
    let core : List ℤ = c.args.core.now in
    let k : ℕ = c.marking.literal-index in
    let l : ℤ = get_or core k (pos 0) in
    let before = c.marking.invariant in
    let old : Needed = c.marking.needed in
    let fits : SFits w32 l = search rules in
    let u : ℕ = c.unsigned_abs-variable.result in
    let first : ℕ = c.max_var-first.result + 2 in
    let starts : first ≡ m.max_var + 2 = ap (λ n. n + 2) c.max_var-first.ensures in
    let is : u ≡ unsigned_abs l = c.unsigned_abs-variable.ensures.value ∙ ap unsigned_abs (read32 _ fits) in
    elim c.if-first-variable.branch [
      | then-first-variable+in_ok-mark w ↦
          let new : Needed = w.mark.new.self in
          let told = w.in_ok-mark.ensures in
          let here : (i : ℕ) → l ≡ guard_of m i → IsMarked new.marks.items i =
          λ i e. subst (IsMarked new.marks.items) (guard_place m l i u first (u - first) is starts (omega arith) e) told.marked in
          subst (Marking m core (k + 1) c.args.needed.now) (sym w.needed-is) (record {
            places = told.places ∙ before.places;
            well = λ n p. told.well n (before.well n p);
            kept = λ i p. told.kept i (before.kept i p);
            longer = longer_then c.args.needed.now.order.items old.order.items new.order.items before.longer told.longer;
            marked = marked_more m core k old.marks.items new.marks.items c.marking-test.true (λ i p. told.kept i p) before.marked here;
          })
      | else-first-variable w ↦
          subst (Marking m core (k + 1) c.args.needed.now) (sym w.needed-is) (record {
            places = before.places;
            well = before.well;
            kept = before.kept;
            longer = before.longer;
            marked = marked_more m core k old.marks.items old.marks.items c.marking-test.true (λ i p. p) before.marked
                (λ i e. absurd (no_guard m l i u first is starts (let f = w.if-first-variable.false in omega (arith, f)) e));
          })
    ]

pub returns-clause-marked : goal.returns-clause-marked
returns-clause-marked c = marked_whole c.args.circuit.now c.args.core.now c.marking.literal-index c.marking.needed.marks.items c.marking-test.false c.marking.invariant.marked

pub marking-init : goal.marking-init
marking-init c = marking_first c.args.circuit.now c.args.core.now c.args.needed.now
