use Rattle.std.proofs.Common.{rules, ◌≡◌, ◌<◌, ◌∙◌, ℕ, List, [], Option, IfSome, length, get_or, inr, ap, sym, subst}
use Rattle.std.proofs.lemmas.List.{get_or_default}
use Rattle.states.specs.declared.state_lit.StateLit.{StateLit}
use Rattle.states.specs.States.{IsPartOf}
use Rattle.ic3_frames.specs.declared.frames.Entry.{Entry}
use Rattle.ic3_blocking.proofs.blocking.longest_before.Goals as goal

pub bounds-entries-place : goal.bounds-entries-place
bounds-entries-place c =
    let es = c.args.frames.now.entries in
    let d : Entry = record { clause = []; level = 0 } in
    let found = subst (λ (o : Option ℕ). IfSome o (λ p. (p < length es) × ((get_or es p d).level ≡ c.args.level) × IsPartOf (get_or es p d).clause c.args.whole.now)) c.in-Some.is (c.in_ok-place.ensures.part d) in
    subst (λ (xs : List Entry). c.in-Some.place < length xs) (sym c.entries.ensures) found.0

pub offset_bounds-entries-place : goal.offset_bounds-entries-place
offset_bounds-entries-place c =
    let inside = bounds-entries-place c in
    search rules

pub returns-in-Some : goal.returns-in-Some
returns-in-Some c =
    let es = c.args.frames.now.entries in
    let level = c.args.level in
    let whole = c.args.whole.now in
    let place = c.in-Some.place in
    let e : Entry = c.index-entries-place.result in
    let clause : List StateLit = c.as_slice.result.now in
    let found = subst (λ (o : Option ℕ). IfSome o (λ p. (p < length es) × ((get_or es p e).level ≡ level) × IsPartOf (get_or es p e).clause whole)) c.in-Some.is (c.in_ok-place.ensures.part e) in
    let clause_is : (get_or es place e).clause ≡ clause = ap (λ (xs : List Entry). (get_or xs place e).clause) (sym c.entries.ensures) ∙ sym c.as_slice.ensures in
    let entry_is : get_or es place e ≡ record { clause = clause; level = level } =
    ap (λ (xs : List StateLit). let x : Entry = record { clause = xs; level = (get_or es place e).level } in x) clause_is
    ∙ ap (λ (n : ℕ). let x : Entry = record { clause = clause; level = n } in x) found.1 in
    let at : (get_or es place (record { clause = clause; level = level }) ≡ record { clause = clause; level = level }) = get_or_default es place (record { clause = clause; level = level }) e found.0 ∙ entry_is in
    inr ((place, found.0, at), subst (λ (xs : List StateLit). IsPartOf xs whole) clause_is found.2)
