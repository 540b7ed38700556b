use Rattle.std.proofs.Common.{rules, ◌≡◌, neg_ℤ, true, false, sym, ◌∙◌, ap, SFits, w32}
use Rattle.lrat.specs.Literals.{is_true}
use Rattle.lrat.proofs.Fit.{read32}
use Rattle.unrolling.proofs.Added.{read_as}
use Rattle.unrolling.proofs.Negated.{negation_true}
use Rattle.unrolling.proofs.Arranged.{last_set, last_clear, other_set, other_clear, constant_alone, same_alone, other_alone}
use Rattle.unrolling.proofs.function.Function.of_first.Goals as goal

pub returns-in-true-true-clause-value : goal.returns-in-true-true-clause-value
returns-in-true-true-clause-value c = λ v on.
    let t = c.args.self.table in
    on ∙ sym (constant_alone t c.args.self.leaves v true c.requires.alone on (last_set t c.in-true-true.is-0) (other_set t c.in-true-true.is-1))

pub returns-in-true-false-clause-value : goal.returns-in-true-false-clause-value
returns-in-true-false-clause-value c = λ v on.
    let t = c.args.self.table in
    let f : SFits w32 c.args.self.leaves.0 = search rules in
    ap (is_true v) (read32 _ f) ∙ sym (same_alone t c.args.self.leaves v c.requires.alone on (last_set t c.in-true-false.is-0) (other_clear t c.in-true-false.is-1))

pub returns-in-false-true-clause-value : goal.returns-in-false-true-clause-value
returns-in-false-true-clause-value c = λ v on.
    let t = c.args.self.table in
    let l = c.args.self.leaves.0 in
    let f : SFits w32 c.args.self.leaves.0 = search rules in
    let g : SFits w32 c.negated.result = search rules in
    let is : c.negated.result ≡ neg_ℤ c.args.self.leaves.0 = c.negated.ensures ∙ ap neg_ℤ (read32 _ f) in
    ap (is_true v) (read_as _ _ g is) ∙ negation_true v l c.requires.few.0.0 ∙
    sym (other_alone t c.args.self.leaves v c.requires.alone on (last_clear t c.in-false-true.is-0) (other_set t c.in-false-true.is-1))

pub returns-in-false-false-clause-value : goal.returns-in-false-false-clause-value
returns-in-false-false-clause-value c = λ v on.
    let t = c.args.self.table in
    rw on (sym (constant_alone t c.args.self.leaves v false c.requires.alone on (last_clear t c.in-false-false.is-0) (other_clear t c.in-false-false.is-1)))
