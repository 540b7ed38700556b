use Rattle.std.proofs.Common.{rules, SFits, w32, ◌≡◌, ◌+◌, ◌∙◌}
use Rattle.lrat.proofs.Fit.{read32}
use Rattle.cnf.specs.Clauses.{literal, denial}
use Rattle.cnf.proofs.Made.{join_made}
use Rattle.cnf.proofs.unrolling.push_join.Goals as goal

pub returns : goal.returns
returns g c =
    let f1 : SFits w32 c.denial.result = search rules in
    let f2 : SFits w32 c.literal.result = search rules in
    let f3 : SFits w32 c.literal-2.result = search rules in
    let f4 : SFits w32 c.denial-2.result = search rules in
    let e1 : c.denial.result ≡ denial c.args.time.max_var (c.args.time.offset + c.args.time.max_var + 1) c.args.latch.lit = search rules in
    let e3 : c.literal-2.result ≡ literal c.args.time.max_var (c.args.time.offset + c.args.time.max_var + 1) c.args.latch.lit = search rules in
    join_made c.args.time.max_var c.args.time.offset c.args.latch _ _ _ _ _ _ _ c.in_ok-push.ensures c.in_ok-push-2.ensures
    (read32 _ f1 ∙ e1) (read32 _ f2 ∙ c.literal.ensures) (read32 _ f3 ∙ e3) (read32 _ f4 ∙ c.denial-2.ensures)
