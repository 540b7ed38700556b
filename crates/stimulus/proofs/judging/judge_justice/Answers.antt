use Rattle.std.proofs.Common.{◌≡◌, refl, sym, ap, ◌∙◌, inr, subst, List, Bool}
use Rattle.graph.specs.declared.circuit.Lit.{Lit}
use Rattle.graph.specs.declared.parts.Parts.{Parts}
use Rattle.graph.specs.Circuits.{wanted_of}
use Rattle.stimulus.specs.Shown.{ClosesLasso, closing_state}
use Rattle.stimulus.proofs.CourseLaws.{course_of}
use Rattle.stimulus.proofs.Ranges.{wanted_in_range}
use Rattle.stimulus.proofs.judging.judge_justice.Goals as goal

pub has_lasso-requires-clause-in_range : goal.has_lasso-requires-clause-in_range
has_lasso-requires-clause-in_range c =
    rw (c.deref.ensures.value, c.in_ok-wanted.ensures, c.parts.ensures.parts) (wanted_in_range c.args.circuit.now c.args.j c.parts.ensures.well_formed c.requires.fit.property)

pub returns-then-branch-clause-shown : goal.returns-then-branch-clause-shown
returns-then-branch-clause-shown c =
    let m = c.args.circuit.now in
    let run = c.requires.runs in
    let lists : c.deref.result.now ≡ wanted_of m c.args.j = c.deref.ensures.value ∙ c.in_ok-wanted.ensures ∙ ap (λ (p : Parts). wanted_of p c.args.j) c.parts.ensures.parts in
    let closes : c.state.result.now ≡ closing_state m run.valuations = c.state.ensures ∙ run.has_state in
    let found = (c.in_ok-has_lasso.ensures.found run.valuations (course_of m c.args.initial.now c.args.inputs.now run.valuations run.is_run.replays)).0 c.if-branch.true in
    let one : ClosesLasso m (wanted_of m c.args.j) c.state.result.now run.valuations found.0 = subst (λ (xs : List Lit). ClosesLasso m xs c.state.result.now run.valuations found.0) lists found.1 in
    inr (record {
      position = c.args.j;
      start = found.0;
      replay = run.valuations;
      names = refl;
      exists = c.requires.fit.property;
      replays = run.is_run.replays;
      runs = run.is_run.runs;
      keeps = run.is_run.keeps;
      lasso = subst (λ (s : List Bool). ClosesLasso m (wanted_of m c.args.j) s run.valuations found.0) closes one;
    })

pub returns-clause-refused : goal.returns-clause-refused
returns-clause-refused c =
    let m = c.args.circuit.now in
    let run = c.requires.runs in
    let lists : c.deref.result.now ≡ wanted_of m c.args.j = c.deref.ensures.value ∙ c.in_ok-wanted.ensures ∙ ap (λ (p : Parts). wanted_of p c.args.j) c.parts.ensures.parts in
    let closes : c.state.result.now ≡ closing_state m run.valuations = c.state.ensures ∙ run.has_state in
    record {
      position = c.args.j;
      replay = run.valuations;
      names = refl;
      exists = c.requires.fit.property;
      runs = run.is_run;
      no_lasso = λ start lasso.
          let one : ClosesLasso m (wanted_of m c.args.j) c.state.result.now run.valuations start = subst (λ (s : List Bool). ClosesLasso m (wanted_of m c.args.j) s run.valuations start) (sym closes) lasso in
          let two : ClosesLasso m c.deref.result.now c.state.result.now run.valuations start = subst (λ (xs : List Lit). ClosesLasso m xs c.state.result.now run.valuations start) (sym lists) one in
          let on = (c.in_ok-has_lasso.ensures.found run.valuations (course_of m c.args.initial.now c.args.inputs.now run.valuations run.is_run.replays)).1 (start, two) in
          absurd cc;
    }
