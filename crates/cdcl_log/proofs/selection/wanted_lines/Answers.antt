use Rattle.std.proofs.Common.{rules, ◌≡◌, ◌∙◌, ◌++◌, ◌∷◌, [], List, length, ap, refl}
use Rattle.std.specs.Vec.{vec_len}
use Rattle.lrat.specs.Trimming.{trimmed}
use Rattle.lrat.specs.declared.line.Line.{Line}
use Rattle.lrat.specs.declared.line.Line.TheVariants.{Add}
use Rattle.cdcl_log.specs.Selected.{wanting}
use Rattle.cdcl_log.proofs.Closings.{wanted_are}
use Rattle.cdcl_log.proofs.Ended.{ok_gives}
use Rattle.cdcl_log.proofs.selection.wanted_lines.Goals as goal

pub returns : goal.returns
returns c =
    let last : Add 1 c.in_ok-from_slice.field-0 c.from_vec.result ≡ wanting c.args.hints.items = rw (c.in_ok-from_slice.ensures, c.from_vec.ensures) refl in
    let whole : c.reverse.new.self.items ≡ trimmed (c.args.lines.now ++ wanting c.args.hints.items ∷ []) =
    c.reverse.ensures.items ∙ c.in_ok-kept.ensures.kept ∙ ap (λ (l : Line). trimmed (c.args.lines.now ++ l ∷ [])) last in
    let long : vec_len c.reverse.new.self ≡ length c.reverse.new.self.items = search rules in
    ok_gives c.proof_of.result (λ (p : List Line). p ≡ c.pop.new.self.items) (λ (p : List Line). p ++ wanting c.args.hints.items ∷ [] ≡ trimmed (c.args.lines.now ++ wanting c.args.hints.items ∷ [])) c.proof_of.ensures (λ p same.
    ap (λ us. us ++ wanting c.args.hints.items ∷ []) same
    ∙ wanted_are c.args.lines.now c.reverse.new.self.items c.pop.new.self.items c.args.hints.items (vec_len c.reverse.new.self) whole long c.pop.ensures.rest)
