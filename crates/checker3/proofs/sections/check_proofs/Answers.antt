use Rattle.std.proofs.Common.{rules, ◌≡◌, None, Some, Ok, length, subst, inl}
use Rattle.scan.specs.Reading.{◌>>=◌}
use Rattle.certificate3.specs.Reading.{later_at, proofs_at, shown_at}
use Rattle.certificate3.proofs.ChainLaws.{pairs, pairs_none, pairs_told, same_reads, stops}
use Rattle.certificate3.proofs.PartLaws.{a_proofs, proofs_is}
use Rattle.certificate3.proofs.SkipLaws.{Skips}
use Rattle.checker3.specs.Judged.{HasLater, HasProofs, HoldsFirst}
use Rattle.checker3.proofs.Feeding.{has_proofs}
use Rattle.checker3.proofs.sections.check_proofs.Goals as goal

pub returns-in_err-found-clause-says : goal.returns-in_err-found-clause-says
returns-in_err-found-clause-says g c =
    let m = c.args.claims.circuit.now in
    let inv = c.args.claims.invariant.now in
    let n = length inv in
    let P = HasProofs m c.args.claims.bad inv in
    same_reads P (λ bytes. shown_at 105 n bytes >>= λ a. (later_at n a.1 >>= λ l. Some (a_proofs a.0 l.0, l.1))) (proofs_at n) _ _ _ _ _ (proofs_is n)
    (stops P (shown_at 105 n) (λ a rest. later_at n rest >>= λ l. Some (a_proofs a l.0, l.1)) c.in_err-found.field-0.0 _ _ _ _ _ c.from_residual-in_err-found.ensures.1 c.in_err-found.ensures.says)

pub returns-in_err-skip_later-clause-says : goal.returns-in_err-skip_later-clause-says
returns-in_err-skip_later-clause-says g c =
    let m = c.args.claims.circuit.now in
    let inv = c.args.claims.invariant.now in
    let n = length inv in
    let P = HasProofs m c.args.claims.bad inv in
    same_reads P (λ bytes. shown_at 105 n bytes >>= λ a. (later_at n a.1 >>= λ l. Some (a_proofs a.0 l.0, l.1))) (proofs_at n) _ _ _ _ _ (proofs_is n)
    (pairs_none (HoldsFirst m inv) P (shown_at 105 n) (later_at n) a_proofs c.in_ok-found.found c.in_err-skip_later.field-0.0 _ _ _ _ _ _ _
    c.in_ok-found.ensures.says c.from_residual-in_err-skip_later.ensures.1 (rw c.len.ensures at c.in_err-skip_later.ensures.says))

pub returns-in-Some-clause-says : goal.returns-in-Some-clause-says
returns-in-Some-clause-says g c =
    let m = c.args.claims.circuit.now in
    let inv = c.args.claims.invariant.now in
    let n = length inv in
    let P = HasProofs m c.args.claims.bad inv in
    same_reads P (λ bytes. shown_at 105 n bytes >>= λ a. (later_at n a.1 >>= λ l. Some (a_proofs a.0 l.0, l.1))) (proofs_at n) (Ok (Some c.in-Some.fault)) _ _ c.args.reader.now.held c.skip_later.new.reader.held (proofs_is n)
    (pairs_told (HoldsFirst m inv) Skips P (shown_at 105 n) (later_at n) a_proofs c.in_ok-found.found (tt {0}) (Some c.in-Some.fault) _ _ _ c.args.reader.now.held c.check_first.new.reader.held c.skip_later.new.reader.held
    c.in_ok-found.ensures.says (rw c.len.ensures at c.in_ok-skip_later.ensures.says)
    (λ s l derived u. inl (subst (λ o. HoldsFirst m inv s o) c.in-Some.is derived)))

pub returns-clause-says : goal.returns-clause-says
returns-clause-says g c =
    let m = c.args.claims.circuit.now in
    let inv = c.args.claims.invariant.now in
    let a = c.args.claims.bad in
    let n = length inv in
    let P = HasProofs m a inv in
    let none : c.in_ok-found.found ≡ None = search rules in
    same_reads P (λ bytes. shown_at 105 n bytes >>= λ a. (later_at n a.1 >>= λ l. Some (a_proofs a.0 l.0, l.1))) (proofs_at n) _ _ _ _ _ (proofs_is n)
    (pairs (HoldsFirst m inv) (HasLater m a inv) P (shown_at 105 n) (later_at n) a_proofs c.in_ok-found.found _ _ _ _ _ _ _
    c.in_ok-found.ensures.says c.check_later.ensures.says
    (λ s l x derived has. has_proofs m a inv s l x (subst (λ o. HoldsFirst m inv s o) none derived) has))
