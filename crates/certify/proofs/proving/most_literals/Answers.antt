use Rattle.std.proofs.Common.{rules, ◌≡◌, ◌≤◌, ◌∙◌, [], All, ap, get_or, length, subst, arith}
use Rattle.std.proofs.lemmas.List.{get_or_default, take_all}
use Rattle.std.proofs.lemmas.List.Elements.{All-more}
use Rattle.certify.proofs.proving.most_literals.Goals as goal

pub loop-clause-preserved : goal.loop-clause-preserved
loop-clause-preserved c =
    let inv = c.args.invariant.now in
    let i = c.loop-clause.clause-index in
    let more : c.loop-clause.most ≤ c.max-most.result = search rules in
    let item : c.clause-item.result ≡ get_or inv i [] = c.clause-item.is ∙ get_or_default inv i c.clause-item.result [] c.loop-clause-test.true in
    let long : c.len.result ≡ length (get_or inv i []) = c.len.ensures ∙ ap length item in
    let other : c.len.result ≤ c.max-most.result = search rules in
    let this : length (get_or inv i []) ≤ c.max-most.result = omega (arith, long, other) in
    let few : length (get_or inv i []) ≤ 4194303 = c.requires i [] c.loop-clause-test.true in
    let len : c.len.result ≤ 4194303 = omega (arith, long, few) in
    let most : c.loop-clause.most ≤ 4194303 = c.loop-clause.invariant.few in
    record {
      few = search rules;
      one = let one = c.loop-clause.invariant.one in omega (arith, one, more);
      all = All-more (λ x. length x ≤ c.max-most.result) inv i [] c.loop-clause-test.true (λ k d k_in. let at = c.loop-clause.invariant.all k d k_in in omega (arith, at, more)) this;
    }

pub returns-clause-all : goal.returns-clause-all
returns-clause-all c =
    let inv = c.args.invariant.now in
    subst (All (λ x. length x ≤ c.loop-clause.most)) (take_all c.loop-clause.clause-index inv (omega (arith, c.loop-clause-test.false))) c.loop-clause.invariant.all
