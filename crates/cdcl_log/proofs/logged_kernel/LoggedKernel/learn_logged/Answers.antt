use Rattle.std.proofs.Common.{◌≡◌, ◌∙◌, true, ap, subst}
use Rattle.cdcl_log.specs.Logged.{IsLog, is_wanted}
use Rattle.cdcl_log.specs.declared.logging.Logging.TheVariants.{Open}
use Rattle.cdcl_log.proofs.Ended.{room_of}
use Rattle.cdcl_log.proofs.Logged.{learned_of, learned_open, learned_closed, empty_is, nonempty_is, if_true, if_false}
use Rattle.cdcl_log.proofs.logged_kernel.LoggedKernel.learn_logged.Goals as goal

pub next_id-requires : goal.next_id-requires
next_id-requires c =
    let wanted : is_wanted c.self.inside.log ≡ true = ap (λ s. is_wanted s.log) c.self.view_is ∙ ap is_wanted c.requires in
    room_of c.self.inside.log c.self.inside.numbering c.self.inside.kernel.vars c.self.inside.kernel.kept c.self.inside.lines.items c.self.inside.end wanted c.self.invariant

pub invariant_of-self-then-closes : goal.invariant_of-self-then-closes
invariant_of-self-then-closes c =
    let open_ : c.self.inside.log ≡ Open = ap (λ s. s.log) c.self.view_is ∙ c.requires in
    let log = subst (λ g. IsLog g c.self.inside.numbering c.self.inside.kernel.vars c.self.inside.kernel.kept c.self.inside.lines.items c.self.inside.end) open_ c.self.invariant in
    rw (c.in_ok-put.ensures.lines ∙ if_true _ _ _ _ c.if-closes.true, c.in_ok-put.ensures.end ∙ if_true _ _ _ _ c.if-closes.true, c.in_ok-reserve_one.ensures.items, c.in_ok-line.ensures)
    (learned_closed c.self.inside.kernel c.learn.new.self c.self.inside.numbering c.self.inside.lines.items c.self.inside.end c.args.clause.now c.args.hints.now c.in_ok-id.id c.next_id.ensures.small
    c.in_ok-id.ensures.few c.in_ok-id.ensures.value log (learned_of _ _ _ _ _ c.if-not-branch.false c.in_ok-learn.ensures.learns) (empty_is c.args.clause.now _ c.if-closes.true c.is_empty-closes.ensures))

pub invariant_of-self-else-closes : goal.invariant_of-self-else-closes
invariant_of-self-else-closes c =
    let open_ : c.self.inside.log ≡ Open = ap (λ s. s.log) c.self.view_is ∙ c.requires in
    let log = subst (λ g. IsLog g c.self.inside.numbering c.self.inside.kernel.vars c.self.inside.kernel.kept c.self.inside.lines.items c.self.inside.end) open_ c.self.invariant in
    rw (c.in_ok-put.ensures.lines ∙ if_false _ _ _ _ c.if-closes.false, c.in_ok-put.ensures.end ∙ if_false _ _ _ _ c.if-closes.false, c.in_ok-reserve_one.ensures.items, c.in_ok-line.ensures, open_)
    (learned_open c.self.inside.kernel c.learn.new.self c.self.inside.numbering c.self.inside.lines.items c.self.inside.end c.args.clause.now c.args.hints.now c.in_ok-id.id c.next_id.ensures.small
    c.in_ok-id.ensures.few c.in_ok-id.ensures.value log (learned_of _ _ _ _ _ c.if-not-branch.false c.in_ok-learn.ensures.learns) (nonempty_is c.args.clause.now _ c.if-closes.false c.is_empty-closes.ensures))
