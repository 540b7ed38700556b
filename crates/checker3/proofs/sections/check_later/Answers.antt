use Rattle.std.proofs.Common.{rules, ◌≡◌, None, Some, Ok, length, subst, inl}
use Rattle.scan.specs.Reading.{◌>>=◌}
use Rattle.cnf.specs.Formulas.{bad_formula}
use Rattle.certificate.specs.Reading.{section_at}
use Rattle.certificate3.specs.Reading.{later_at, shown_at}
use Rattle.certificate3.proofs.ChainLaws.{pairs, pairs_none, pairs_told, same_reads, stops}
use Rattle.certificate3.proofs.PartLaws.{a_later, later_is}
use Rattle.certificate3.proofs.SkipLaws.{Skips}
use Rattle.checker3.specs.Judged.{HasLater, HoldsNext, IsRefuted}
use Rattle.checker3.proofs.Feeding.{has_later}
use Rattle.checker3.proofs.sections.check_later.Goals as goal

pub returns-in_err-found-clause-says : goal.returns-in_err-found-clause-says
returns-in_err-found-clause-says g c =
    let m = c.args.claims.circuit.now in
    let inv = c.args.claims.invariant.now in
    let n = length inv in
    let P = HasLater m c.args.claims.bad inv in
    same_reads P (λ bytes. shown_at 115 n bytes >>= λ a. (section_at 98 a.1 >>= λ l. Some (a_later a.0 l.0, l.1))) (later_at n) _ _ _ _ _ (later_is n)
    (stops P (shown_at 115 n) (λ a rest. section_at 98 rest >>= λ l. Some (a_later a l.0, l.1)) c.in_err-found.field-0.0 _ _ _ _ _ c.from_residual.ensures.1 c.in_err-found.ensures.says)

pub returns-in_err-skip_section-clause-says : goal.returns-in_err-skip_section-clause-says
returns-in_err-skip_section-clause-says g c =
    let m = c.args.claims.circuit.now in
    let inv = c.args.claims.invariant.now in
    let n = length inv in
    let P = HasLater m c.args.claims.bad inv in
    same_reads P (λ bytes. shown_at 115 n bytes >>= λ a. (section_at 98 a.1 >>= λ l. Some (a_later a.0 l.0, l.1))) (later_at n) _ _ _ _ _ (later_is n)
    (pairs_none (HoldsNext m inv) P (shown_at 115 n) (section_at 98) a_later c.in_ok-found.found c.in_err-skip_section.field-0.0 _ _ _ _ _ _ _
    c.in_ok-found.ensures.says c.from_residual-in_err-skip_section.ensures.1 c.in_err-skip_section.ensures.says)

pub returns-in-Some-clause-says : goal.returns-in-Some-clause-says
returns-in-Some-clause-says g c =
    let m = c.args.claims.circuit.now in
    let inv = c.args.claims.invariant.now in
    let n = length inv in
    let P = HasLater m c.args.claims.bad inv in
    same_reads P (λ bytes. shown_at 115 n bytes >>= λ a. (section_at 98 a.1 >>= λ l. Some (a_later a.0 l.0, l.1))) (later_at n) (Ok (Some c.in-Some.fault)) _ _ c.args.reader.now.held c.skip_section.new.reader.held (later_is n)
    (pairs_told (HoldsNext m inv) Skips P (shown_at 115 n) (section_at 98) a_later c.in_ok-found.found (tt {0}) (Some c.in-Some.fault) _ _ _ c.args.reader.now.held c.check_step.new.reader.held c.skip_section.new.reader.held
    c.in_ok-found.ensures.says c.in_ok-skip_section.ensures.says
    (λ s l derived u. inl (subst (λ o. HoldsNext m inv s o) c.in-Some.is derived)))

pub returns-clause-says : goal.returns-clause-says
returns-clause-says g c =
    let m = c.args.claims.circuit.now in
    let inv = c.args.claims.invariant.now in
    let a = c.args.claims.bad in
    let n = length inv in
    let P = HasLater m a inv in
    let none : c.in_ok-found.found ≡ None = search rules in
    same_reads P (λ bytes. shown_at 115 n bytes >>= λ a. (section_at 98 a.1 >>= λ l. Some (a_later a.0 l.0, l.1))) (later_at n) _ _ _ _ _ (later_is n)
    (pairs (HoldsNext m inv) (IsRefuted (bad_formula m inv a)) P (shown_at 115 n) (section_at 98) a_later c.in_ok-found.found _ _ _ _ _ _ _
    c.in_ok-found.ensures.says (c.check_refuted.ensures.says (bad_formula m inv a) c.in_ok-refuter.ensures)
    (λ s l x derived refuted. has_later m a inv s l x (subst (λ o. HoldsNext m inv s o) none derived) refuted))
