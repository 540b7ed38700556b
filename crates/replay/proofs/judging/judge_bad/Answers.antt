use Rattle.std.proofs.Common.{rules, ◌≡◌, ◌≢◌, ◌≤◌, ◌++◌, ◌∙◌, List, [], All, Some, ap, length, refl, subst, sym}
use Rattle.graph.specs.Circuits.{variable}
use Rattle.graph.specs.declared.circuit.Lit.{Lit}
use Rattle.graph.specs.declared.parts.Parts.{Parts}
use Rattle.graph.proofs.Alone.{watched_there}
use Rattle.scan.specs.Lists.{items_at}
use Rattle.simulate.specs.Replays.{Replayed}
use Rattle.simulate.specs.Starts.{IsFirstAgainst}
use Rattle.stimulus.specs.Reading.{line_at}
use Rattle.stimulus.proofs.Ranges.{constraints_in_range}
use Rattle.replay.specs.Found.{AreFound, AreRefused}
use Rattle.replay.proofs.StreamLaws.{finds_more}
use Rattle.replay.proofs.Trials.{initial_found, refused_found, reset_cause}
use Rattle.replay.proofs.judging.judge_bad.Goals as goal

pub returns-then-initial-len-clause-says : goal.returns-then-initial-len-clause-says
returns-then-initial-len-clause-says g c text later left =
    let (ys, before, skipped) = c.skip_lines.ensures.says text later left in
    let m = c.args.circuit.now in
    let initial = c.args.initial.now in
    let same : c.len.result ≡ length m.latches = c.len.ensures ∙ ap (λ (q : Parts). length q.latches) c.parts-parts.ensures.parts in
    let wrong : length initial ≢ length m.latches = λ e. c.if-initial-len.true (e ∙ sym same) in (
      ys,
      before,
      λ p watched.
          finds_more (λ lines found. found ≡ Some 66) (AreFound m p initial) (items_at line_at (c.args.reader.now ++ ys)) c.skip_lines.result c.skip_lines.new.reader later
          (λ lines x is. subst (AreFound m p initial lines) (sym is) (initial_found m p initial lines (watched_there m p c.args.bad watched) wrong))
          skipped,
    )

pub play_lines-requires-clause-in_range : goal.play_lines-requires-clause-in_range
play_lines-requires-clause-in_range g c =
    let m = c.args.circuit.now in
    let wide : All (λ a. variable a ≤ m.max_var) m.constraints = constraints_in_range m c.parts-parts.ensures.well_formed in
    let same : c.as_slice-constraints.result.now ≡ m.constraints = c.as_slice-constraints.ensures ∙ ap (λ (q : Parts). q.constraints) c.parts-parts.ensures.parts in
    subst (λ (cs : List Lit). All (λ a. variable a ≤ c.in-Ok.replay.circuit.max_var) cs) (sym same)
    (subst (λ (n : Replayed). All (λ a. variable a ≤ n.circuit.max_var) m.constraints) (sym c.in-Ok.ensures.begun.0) wide)

pub returns-in-Err-InitialReset-clause-says : goal.returns-in-Err-InitialReset-clause-says
returns-in-Err-InitialReset-clause-says g c text later left =
    let (ys, before, refuses) = c.refuse_lines.ensures.says text later left in
    let m = c.args.circuit.now in
    let initial = c.args.initial.now in
    let latches : length initial ≡ length m.latches = c.if-initial-len.false ∙ c.len.ensures ∙ ap (λ (q : Parts). length q.latches) c.parts-parts.ensures.parts in
    let long : c.len-long.result ≡ length m.inputs = c.len-long.ensures ∙ ap (λ (q : Parts). length q.inputs) c.parts-parts.ensures.parts in
    let against : IsFirstAgainst m.latches initial c.in-Err-InitialReset.field-0-0 = search rules in (
      ys,
      before,
      λ p watched.
          let there = watched_there m p c.args.bad watched in
          finds_more (λ more found. AreRefused 60 c.len-long.result ([] ++ more) found) (AreFound m p initial) (items_at line_at (c.args.reader.now ++ ys)) c.refuse_lines.result c.refuse_lines.new.reader later
          (λ lines x refused. refused_found m p initial 60 lines x there latches (reset_cause m p initial lines c.in-Err-InitialReset.field-0-0 there latches against) (subst (λ n. AreRefused 60 n lines x) long refused))
          (refuses [] refl),
    )
