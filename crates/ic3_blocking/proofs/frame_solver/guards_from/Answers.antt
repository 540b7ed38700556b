use Rattle.std.proofs.Common.{ℕ, ◌-◌, ◌≤◌, ◌<◌, All, arith, sym, subst}
use Rattle.std.proofs.lemmas.List.Elements.{All-push}
use Rattle.ic3_blocking.proofs.frame_solver.guards_from.Goals as goal

pub listing-preserved : goal.listing-preserved
listing-preserved c =
    let P = λ (g : ℕ). (c.args.first ≤ g) × (g < c.args.end) in
    let above : c.args.first < c.listing.level = c.listing-test.true in
    let below : c.listing.level ≤ c.args.end = c.listing.auto.level in
    subst (All P) (sym c.in_ok-push.ensures.ok) (All-push P c.listing.guards (c.listing.level - 1) c.listing.invariant (omega (arith, above), omega (arith, above, below)))
