use Rattle.std.proofs.Common.{◌≡◌, ◌≤◌, ◌++◌, List, ℕ, Ok, length, sym, subst}
use Rattle.scan.specs.Lists.{many_at}
use Rattle.scan.specs.Words.{any, field_at}
use Rattle.certificate.specs.declared.certificate.Certificate.{Certificate}
use Rattle.certificate.specs.Reading.{clause_at, greatest, property_at}
use Rattle.certificate.specs.Streams.{parts_at}
use Rattle.certificate.proofs.StreamLaws.{err_finds, then_finds, then_none}
use Rattle.checker2.specs.declared.certificate_text.Outcome.{Outcome}
use Rattle.checker2.specs.Streamed.{IsFound, behind_version_at}
use Rattle.checker2.proofs.TextFound.{behind_lines, outcome_told, then_clauses, then_count}
use Rattle.checker2.proofs.certificate_text.check_earlier.Goals as goal

pub returns-in_err-property-clause-says : goal.returns-in_err-property-clause-says
returns-in_err-property-clause-says g c text later left =
    let P = λ (d : Certificate) (found : Outcome). (found.property ≡ d.property) × IsFound c.args.circuit.now d found.refusal in
    let v = c.args.version in
    let e = c.in_err-property.field-0.0 in
    let (ys, before, refused) = c.in_err-property.ensures.says text later left in
    let bytes : List ℕ = c.args.reader.now.held ++ ys in (
      ys,
      before,
      err_finds P (behind_version_at v bytes) _ e c.property.new.self.held later c.from_residual.ensures.1 (then_none (property_at bytes) (then_count v) e refused),
    )

pub returns-in_err-count-clause-says : goal.returns-in_err-count-clause-says
returns-in_err-count-clause-says g c text later left =
    let P = λ (d : Certificate) (found : Outcome). (found.property ≡ d.property) × IsFound c.args.circuit.now d found.refusal in
    let v = c.args.version in
    let p = c.in_ok-property.property in
    let e = c.in_err-count.field-0.0 in
    let r = c.from_residual-in_err-count.result in
    let first = c.property.new.self.held in
    let last = c.count.new.self.held in
    let (zs, between, refused) = c.in_err-count.ensures.says text later left in
    let (ys, before, property) = c.in_ok-property.ensures.says text zs between in
    let bytes : List ℕ = first ++ zs in (
      ys,
      before,
      then_finds P (property_at (c.args.reader.now.held ++ ys)) (then_count v) p first last zs later r property
          (err_finds P (then_count v p bytes) r e last later c.from_residual-in_err-count.ensures.1 (then_none (field_at greatest any 10 bytes) (then_clauses v p) e refused)),
    )

pub returns-in_err-invariant-clause-says : goal.returns-in_err-invariant-clause-says
returns-in_err-invariant-clause-says g c text later left =
    let P = λ (d : Certificate) (found : Outcome). (found.property ≡ d.property) × IsFound c.args.circuit.now d found.refusal in
    let v = c.args.version in
    let p = c.in_ok-property.property in
    let n = c.in_ok-count.count in
    let e = c.in_err-invariant.field-0.0 in
    let r = c.from_residual-in_err-invariant.result in
    let first = c.property.new.self.held in
    let second = c.count.new.self.held in
    let last = c.read_clauses.new.reader.held in
    let (us, there, refused) = c.in_err-invariant.ensures.says text later left in
    let (zs, between, count) = c.in_ok-count.ensures.says text us there in
    let (ys, before, property) = c.in_ok-property.ensures.says text zs between in
    let bytes : List ℕ = second ++ us in (
      ys,
      before,
      then_finds P (property_at (c.args.reader.now.held ++ ys)) (then_count v) p first last zs later r property
          (then_finds P (field_at greatest any 10 (first ++ zs)) (then_clauses v p) n second last us later r count
          (err_finds P (then_clauses v p n bytes) r e last later c.from_residual-in_err-invariant.ensures.1 (then_none (many_at clause_at n bytes) (parts_at v p n) e refused))),
    )

pub check_property-requires-clause-few : goal.check_property-requires-clause-few
check_property-requires-clause-few g c =
    subst (λ k. k ≤ 4194303) (sym c.in_ok-invariant.ensures.many) c.in_ok-count.ensures.few

pub returns-in_err-refusal-clause-says : goal.returns-in_err-refusal-clause-says
returns-in_err-refusal-clause-says g c text later left =
    let P = λ (d : Certificate) (found : Outcome). (found.property ≡ d.property) × IsFound c.args.circuit.now d found.refusal in
    let v = c.args.version in
    let p = c.in_ok-property.property in
    let inv = c.in_ok-invariant.invariant in
    let third = c.read_clauses.new.reader.held in
    let last = c.check_property.new.reader.held in
    let r = c.from_residual-in_err-refusal.result in
    let (ws, here, refused) = c.in_err-refusal.ensures.says text later left in
    let (us, there, clauses) = c.in_ok-invariant.ensures.says text ws here in
    let (zs, between, count) = c.in_ok-count.ensures.says text us there in
    let (ys, before, property) = c.in_ok-property.ensures.says text zs between in (
      ys,
      before,
      behind_lines P v p c.in_ok-count.count inv (c.args.reader.now.held ++ ys) c.property.new.self.held c.count.new.self.held third last zs us ws later r c.in_ok-invariant.ensures.many property count clauses
          (err_finds P (parts_at v p (length inv) inv (third ++ ws)) r c.in_err-refusal.field-0.0 last later c.from_residual-in_err-refusal.ensures.1 refused),
    )

pub returns-clause-says : goal.returns-clause-says
returns-clause-says g c text later left =
    let m = c.args.circuit.now in
    let P = λ (d : Certificate) (found : Outcome). (found.property ≡ d.property) × IsFound m d found.refusal in
    let v = c.args.version in
    let p = c.in_ok-property.property in
    let inv = c.in_ok-invariant.invariant in
    let found = c.in_ok-refusal.refusal in
    let told : Outcome = record { property = p; refusal = found } in
    let third = c.read_clauses.new.reader.held in
    let last = c.check_property.new.reader.held in
    let (ws, here, parts) = c.in_ok-refusal.ensures.says text later left in
    let (us, there, clauses) = c.in_ok-invariant.ensures.says text ws here in
    let (zs, between, count) = c.in_ok-count.ensures.says text us there in
    let (ys, before, property) = c.in_ok-property.ensures.says text zs between in (
      ys,
      before,
      behind_lines P v p c.in_ok-count.count inv (c.args.reader.now.held ++ ys) c.property.new.self.held c.count.new.self.held third last zs us ws later (Ok told) c.in_ok-invariant.ensures.many property count clauses
          (outcome_told m v p (length inv) inv (third ++ ws) last later found parts),
    )
