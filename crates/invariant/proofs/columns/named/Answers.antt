use Rattle.std.proofs.Common.{◌≡◌, ℕ, ◌<◌, length, List, Option, None, Some, get_or, sym, ap, ◌∙◌, Bor, arith}
use Rattle.std.specs.Prelude.{option_map}
use Rattle.std.proofs.lemmas.List.{get_or_default}
use Rattle.invariant.specs.Plas.{latch_at, named_from, own_name_at, symbol_name}
use Rattle.invariant.specs.PlaReading.{name_by}
use Rattle.invariant.proofs.ColumnLoop.{column_more, column_not}
use Rattle.invariant.proofs.RowLoop.{no_latch}
use Rattle.invariant.proofs.columns.named.Goals as goal
use Rattle.invariant.proofs.columns.named.Goals.{in-Some+in_ok-push, in_default}

pub loop-k-preserved : goal.loop-k-preserved
loop-k-preserved c =
    let names = symbol_name None c.args.symbols.now in
    let latches = c.args.latches.now in
    let k = c.loop-k.k in
    let rest = c.loop-k.rest.now in
    let places = c.in_ok-places.places.items in
    let lt : k < length places = omega (arith, c.loop-k-test.true, c.in_ok-places.ensures.length) in
    let place : c.index.result.now ≡ get_or places k None = c.index.ensures ∙ get_or_default places k c.index.result.now None lt in
    let name : option_map {T = Bor (List ℕ)} {U = List ℕ} (λ n. n.now) c.name-name.result ≡ names k =
    c.name-name.ensures ∙ ap (name_by c.args.symbols.now) place ∙ c.in_ok-places.ensures.named k c.loop-k-test.true in
    let told : option_map {T = Bor (List ℕ)} {U = List ℕ} (λ r. r.now) c.behind_latch.result ≡ latch_at (names k) k (own_name_at rest) rest =
    c.behind_latch.ensures
    ∙ ap (λ (n : Option (List ℕ)). latch_at n k (option_map {T = ℕ × Bor (List ℕ)} {U = ℕ × List ℕ} (λ own. (own.0, own.1.now)) c.loop-k.own) rest) name
    ∙ ap (λ (o : Option (ℕ × List ℕ)). latch_at (names k) k o rest) c.loop-k.invariant.0 in
    let total = named_from names 0 latches c.args.text.now in
    elim c.match-behind_latch.branch [
      | in-Some+in_ok-push w ↦
          let found : latch_at (names k) k (own_name_at rest) rest ≡ Some w.in-Some.after.now =
          sym told ∙ ap (option_map {T = Bor (List ℕ)} {U = List ℕ} (λ r. r.now)) w.in-Some.is in
          rw (w.columns-is, w.rest-is, w.own-is, w.in_ok-push.ensures.items) (
            w.own_name-own-in-Some.ensures,
            column_more names k latches c.loop-k.columns.items no_latch rest w.in-Some.after.now total c.loop-k-test.true found c.loop-k.invariant.1,
          )
      | in_default w ↦
          let none : latch_at (names k) k (own_name_at rest) rest ≡ None =
          sym told ∙ ap (option_map {T = Bor (List ℕ)} {U = List ℕ} (λ r. r.now)) w.in_default.is in
          rw (w.columns-is, w.rest-is, w.own-is) (c.loop-k.invariant.0, column_not names k latches c.loop-k.columns.items no_latch rest total c.loop-k-test.true none c.loop-k.invariant.1)
    ]
