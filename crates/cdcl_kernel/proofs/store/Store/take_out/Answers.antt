use Rattle.std.proofs.Common.{◌≡◌, ◌∙◌, refl, sym, get_or}
use Rattle.cdcl_kernel.specs.Kept.{origin_in}
use Rattle.cdcl_kernel.proofs.Follow.{added_removed}
use Rattle.cdcl_kernel.proofs.Forgetting.{nothing_forgotten, forgets_one_at, forgets_none_at}
use Rattle.cdcl_kernel.specs.declared.origin.Origin.TheVariants.{Learned}
use Rattle.cdcl_kernel.proofs.store.Store.take_out.Goals as goal
use Rattle.cdcl_kernel.proofs.store.Store.take_out.Goals.{in-Learned, in_default}

pub loop-id-init : goal.loop-id-init
loop-id-init c = record { vars = refl; same_added = refl; forgets = nothing_forgotten _ c.args.ids.now }

pub loop-id-preserved : goal.loop-id-preserved
loop-id-preserved c =
    let i = c.loop-id.invariant in
    elim c.match-origin.branch [
      | in-Learned w ↦
          let learned : origin_in c.loop-id.self.kept (get_or c.args.ids.now c.loop-id.id-index 0) ≡ Learned = sym c.origin.ensures ∙ w.in-Learned.is in
          record {
            vars = rw (w.self-is, w.remove.ensures.vars) i.vars;
            same_added = rw (w.self-is, w.remove.ensures.kept) (added_removed c.loop-id.self.kept (get_or c.args.ids.now c.loop-id.id-index 0) learned ∙ i.same_added);
            forgets = rw (w.self-is, w.remove.ensures.kept) (forgets_one_at _ _ _ _ c.loop-id-test.true i.forgets learned);
          }
      | in_default w ↦ record {
        vars = rw w.self-is i.vars;
        same_added = rw w.self-is i.same_added;
        forgets = rw w.self-is (forgets_none_at _ _ _ _ c.loop-id-test.true i.forgets (λ learned. w.in_default.not-Learned (c.origin.ensures ∙ learned)));
      }
    ]
