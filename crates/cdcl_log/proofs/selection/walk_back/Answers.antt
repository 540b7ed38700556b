use Rattle.std.proofs.Common.{◌≡◌, ◌∙◌, ◌++◌, ◌∷◌, [], ◌+◌, ◌-◌, ℕ, true, false, sym, ap, arith}
use Rattle.std.specs.List.{list_any}
use Rattle.std.specs.BTreeSet.{contains}
use Rattle.std.specs.Ordering.{nat_cmp, eq_by_cmp}
use Rattle.std.specs.Cmp.{nat_cmp_total, eq_by_cmp_equiv, unsigned_tied}
use Rattle.cdcl_log.proofs.Selecting.{greatest_is, is_other, no_keys, walk_begun, walk_keeps, walk_done}
use Rattle.cdcl_log.proofs.selection.walk_back.Goals as goal

pub loop-id-init : goal.loop-id-init
loop-id-init c =
    walk_begun c.args.first c.args.lines.now c.args.last (contains nat_cmp c.new-wanted.result) (contains nat_cmp c.want.new.wanted) c.push.new.to.items c.requires.closing
    (λ q. ap (list_any (eq_by_cmp nat_cmp q)) c.new-wanted.ensures.empty) c.in_ok-want.ensures.added c.in_ok-want.ensures.others
    (c.in_ok-push.ensures.items ∙ ap (λ ks. ks ++ c.args.last ∷ []) c.new-kept.ensures.items)

pub loop-id-preserved : goal.loop-id-preserved
loop-id-preserved c =
    let m : ℕ = c.in-Some.id in
    let walk = c.loop-id.invariant in
    let low = (walk.within m c.in-Some.ensures.member).0 in
    let at_j : m ≡ c.args.first + (m - c.args.first) = omega (arith, low) in
    walk_keeps c.args.first c.args.lines.now (c.args.lines.now ++ c.args.last ∷ []) (contains nat_cmp c.loop-id.wanted) (contains nat_cmp c.pop_last.new.self) (contains nat_cmp c.want-in-Some.new.wanted)
    (eq_by_cmp nat_cmp m) c.loop-id.kept.items c.push-in-Some.new.to.items m (m - c.args.first) c.index-lines-id.result c.requires.numbered c.requires.in_limits c.in-Some.ensures.member
    (λ q has. greatest_is m q (c.in-Some.ensures.greatest q has)) c.in-Some.ensures.updates.0 (λ q ne. unsigned_tied m q ∙ is_other m q (λ same. ne (sym same))) ((eq_by_cmp_equiv nat_cmp_total).refl m) at_j
    c.index-lines-id.is c.in_ok-want-2.ensures.added c.in_ok-want-2.ensures.others
    (c.in_ok-push-2.ensures.items ∙ ap (λ l. c.loop-id.kept.items ++ l ∷ []) c.in_ok-copy_of.ensures) walk

pub returns-clause-kept : goal.returns-clause-kept
returns-clause-kept c =
    walk_done c.args.first c.args.lines.now (c.args.lines.now ++ c.args.last ∷ []) (contains nat_cmp c.loop-id.wanted) c.loop-id.kept.items c.args.last c.requires.numbered
    (no_keys c.loop-id.wanted.keys (λ lt. let f : false ≡ true = c.in_default.ensures.variant.1 lt in cc)) c.loop-id.invariant
