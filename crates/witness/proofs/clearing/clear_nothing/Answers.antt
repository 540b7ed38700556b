use Rattle.std.proofs.Common.{List, Bool, Option, refl, sym, subst}
use Rattle.witness.specs.Completions.{Completes}
use Rattle.witness.specs.Cleared.{CompleteAll}
use Rattle.witness.proofs.EnoughLaws.{whole_completes, whole_all, whole_only, whole_all_only}
use Rattle.witness.proofs.clearing.clear_nothing.Goals as goal

pub returns-clause-enough : goal.returns-clause-enough
returns-clause-enough c = λ st lines starts has_state has_lines.
    let state_is = whole_only c.args.initial.now st (subst (λ (row : List (Option Bool)). Completes row st) c.in_ok-whole_row.ensures has_state) in
    let lines_are = whole_all_only c.args.lines.now lines (subst (λ (rows : List (List (Option Bool))). CompleteAll rows lines) c.in_ok-whole_rows.ensures has_lines) in
    rw (state_is, lines_are) c.requires

pub returns-clause-is : goal.returns-clause-is
returns-clause-is c = (
  refl,
  subst (λ (row : List (Option Bool)). Completes row c.args.initial.now) (sym c.in_ok-whole_row.ensures) (whole_completes c.args.initial.now),
  subst (λ (rows : List (List (Option Bool))). CompleteAll rows c.args.lines.now) (sym c.in_ok-whole_rows.ensures) (whole_all c.args.lines.now),
)
