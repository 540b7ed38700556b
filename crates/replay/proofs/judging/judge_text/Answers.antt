use Rattle.std.proofs.Common.{◌++◌, Ok}
use Rattle.stimulus.specs.Reading.{stimulus_at}
use Rattle.replay.specs.declared.judging.Outcome.{Outcome}
use Rattle.replay.specs.Found.{IsOutcome}
use Rattle.replay.specs.Reading.{body_at}
use Rattle.replay.proofs.StreamLaws.{err_finds}
use Rattle.replay.proofs.TextFound.{behind_property, behind_status, outcome_found, property_stops, status_stops, then_property}
use Rattle.replay.proofs.judging.judge_text.Goals as goal

pub returns-in_err-status-clause-says : goal.returns-in_err-status-clause-says
returns-in_err-status-clause-says g c text later left =
    let (ys, before, refused) = c.in_err-status.ensures.says text later left in
    let bytes = c.args.reader.now ++ ys in
    let e = c.in_err-status.field-0.0 in
    (ys, before, err_finds (IsOutcome c.args.circuit.now) (stimulus_at bytes) c.from_residual.result e c.status.new.self later c.from_residual.ensures.1 (status_stops bytes e refused))

pub returns-in_err-property-clause-says : goal.returns-in_err-property-clause-says
returns-in_err-property-clause-says g c text later left =
    let (zs, between, refused) = c.in_err-property.ensures.says text later left in
    let (ys, before, first) = c.in_ok-status.ensures.says text zs between in
    let P = IsOutcome c.args.circuit.now in
    let s = c.in_ok-status.status in
    let e = c.in_err-property.field-0.0 in
    let r = c.from_residual-in_err-property.result in
    let last = c.property.new.self in (
      ys,
      before,
      behind_status P s (c.args.reader.now ++ ys) c.status.new.self last zs later r first
          (err_finds P (then_property s (c.status.new.self ++ zs)) r e last later c.from_residual-in_err-property.ensures.1 (property_stops s (c.status.new.self ++ zs) e refused)),
    )

pub returns-in_err-refusal-clause-says : goal.returns-in_err-refusal-clause-says
returns-in_err-refusal-clause-says g c text later left =
    let (us, behind, refused) = c.in_err-refusal.ensures.says text later left in
    let (zs, between, second) = c.in_ok-property.ensures.says text us behind in
    let (ys, before, first) = c.in_ok-status.ensures.says text zs between in
    let P = IsOutcome c.args.circuit.now in
    let s = c.in_ok-status.status in
    let p = c.in_ok-property.property in
    let r = c.from_residual-in_err-refusal.result in
    let last = c.judge_body.new.reader in (
      ys,
      before,
      behind_status P s (c.args.reader.now ++ ys) c.status.new.self last zs later r first
          (behind_property P s p (c.status.new.self ++ zs) c.property.new.self last us later r second
          (err_finds P (body_at s p (c.property.new.self ++ us)) r c.in_err-refusal.field-0.0 last later c.from_residual-in_err-refusal.ensures.1 refused)),
    )

pub returns-clause-says : goal.returns-clause-says
returns-clause-says g c text later left =
    let (us, behind, judged) = c.in_ok-refusal.ensures.says text later left in
    let (zs, between, second) = c.in_ok-property.ensures.says text us behind in
    let (ys, before, first) = c.in_ok-status.ensures.says text zs between in
    let m = c.args.circuit.now in
    let P = IsOutcome m in
    let s = c.in_ok-status.status in
    let p = c.in_ok-property.property in
    let found = c.in_ok-refusal.refusal in
    let told : Outcome = record { property = p; refusal = found } in
    let last = c.judge_body.new.reader in (
      ys,
      before,
      behind_status P s (c.args.reader.now ++ ys) c.status.new.self last zs later (Ok told) first
          (behind_property P s p (c.status.new.self ++ zs) c.property.new.self last us later (Ok told) second
          (outcome_found m s p (c.property.new.self ++ us) last later found judged)),
    )
