use Rattle.std.proofs.Common.{rules, ◌≡◌, ℤ, List, None, Some, Ok, map, length, subst}
use Rattle.std.specs.FinMap as fin
use Rattle.scan.specs.Reading.{◌>>=◌}
use Rattle.scan.specs.Lists.{many_at}
use Rattle.cnf.specs.Clauses.{literal}
use Rattle.certificate.specs.Reading.{section_at}
use Rattle.certificate.specs.Streams.{letter_of}
use Rattle.certificate3.specs.Reading.{hints_at, shown_at}
use Rattle.certificate3.proofs.ChainLaws.{pairs, pairs_none, pairs_told, same_reads, stops}
use Rattle.certificate3.proofs.PartLaws.{a_shown, shown_is}
use Rattle.certificate3.proofs.SkipLaws.{Skips}
use Rattle.checker3.specs.Judged.{AreFed, AreHinted, IsDerived}
use Rattle.checker3.proofs.Feeding.{derived_from, derived_halts}
use Rattle.checker3.proofs.sections.check_shown.Goals as goal

pub returns-in_err-found-clause-says : goal.returns-in_err-found-clause-says
returns-in_err-found-clause-says g c f is =
    let n = length c.args.timed.clauses.now in
    let k = letter_of c.args.kind in
    let cs : List (List ℤ) = map (map (literal c.args.timed.time.max_var c.args.timed.time.offset)) c.args.timed.clauses.now in
    same_reads (IsDerived f cs) (λ bytes. section_at k bytes >>= λ a. (many_at hints_at n a.1 >>= λ h. Some (a_shown a.0 h.0, h.1))) (shown_at k n) _ _ _ _ _ (shown_is k n)
    (stops (IsDerived f cs) (section_at k) (λ a rest. many_at hints_at n rest >>= λ h. Some (a_shown a h.0, h.1)) c.in_err-found.field-0.0 _ _ _ _ _ c.from_residual.ensures.1 c.in_err-found.ensures.says)

pub returns-in_err-skip_hints-clause-says : goal.returns-in_err-skip_hints-clause-says
returns-in_err-skip_hints-clause-says g c f is =
    let n = length c.args.timed.clauses.now in
    let k = letter_of c.args.kind in
    let r = c.args.refuter.now in
    let cs : List (List ℤ) = map (map (literal c.args.timed.time.max_var c.args.timed.time.offset)) c.args.timed.clauses.now in
    same_reads (IsDerived f cs) (λ bytes. section_at k bytes >>= λ a. (many_at hints_at n a.1 >>= λ h. Some (a_shown a.0 h.0, h.1))) (shown_at k n) _ _ _ _ _ (shown_is k n)
    (pairs_none (AreFed r.base.vars r.stage c.feed_section.new.refuter.stage) (IsDerived f cs) (section_at k) (many_at hints_at n) a_shown c.in_ok-found.found c.in_err-skip_hints.field-0.0 _ _ _ _ _ _ _
    c.in_ok-found.ensures.says c.from_residual-in_err-skip_hints.ensures.1 (rw c.len.ensures at c.in_err-skip_hints.ensures.says))

pub returns-in-Some-clause-says : goal.returns-in-Some-clause-says
returns-in-Some-clause-says g c f is =
    let n = length c.args.timed.clauses.now in
    let k = letter_of c.args.kind in
    let r = c.args.refuter.now in
    let t = c.feed_section.new.refuter.stage in
    let fault = c.in-Some.fault in
    let cs : List (List ℤ) = map (map (literal c.args.timed.time.max_var c.args.timed.time.offset)) c.args.timed.clauses.now in
    same_reads (IsDerived f cs) (λ bytes. section_at k bytes >>= λ a. (many_at hints_at n a.1 >>= λ h. Some (a_shown a.0 h.0, h.1))) (shown_at k n) (Ok (Some fault)) _ _ c.args.reader.now.held c.skip_hints.new.reader.held (shown_is k n)
    (pairs_told (AreFed r.base.vars r.stage t) Skips (IsDerived f cs) (section_at k) (many_at hints_at n) a_shown c.in_ok-found.found (tt {0}) (Some fault) _ _ _ c.args.reader.now.held c.feed_section.new.reader.held c.skip_hints.new.reader.held
    c.in_ok-found.ensures.says (rw c.len.ensures at c.in_ok-skip_hints.ensures.says)
    (λ lines hints fed u. derived_halts f cs r t fault is lines hints (subst (λ o. AreFed r.base.vars r.stage t lines o) c.in-Some.is fed)))

pub returns-clause-says : goal.returns-clause-says
returns-clause-says g c f is =
    let n = length c.args.timed.clauses.now in
    let k = letter_of c.args.kind in
    let r = c.args.refuter.now in
    let t = c.feed_section.new.refuter.stage in
    let none : c.in_ok-found.found ≡ None = search rules in
    let cs : List (List ℤ) = map (map (literal c.args.timed.time.max_var c.args.timed.time.offset)) c.args.timed.clauses.now in
    same_reads (IsDerived f cs) (λ bytes. section_at k bytes >>= λ a. (many_at hints_at n a.1 >>= λ h. Some (a_shown a.0 h.0, h.1))) (shown_at k n) _ _ _ _ _ (shown_is k n)
    (pairs (AreFed r.base.vars r.stage t) (AreHinted c.feed_section.new.refuter.base.vars (fin.get t.present) cs) (IsDerived f cs) (section_at k) (many_at hints_at n) a_shown c.in_ok-found.found _ _ _ _ _ _ _
    c.in_ok-found.ensures.says c.check_hints.ensures.says
    (λ lines hints x fed hinted.
    derived_from f cs r t is lines hints x (subst (λ o. AreFed r.base.vars r.stage t lines o) none fed)
    (subst (λ b. AreHinted b.vars (fin.get t.present) cs hints x) c.in_ok-found.ensures.base hinted)))
