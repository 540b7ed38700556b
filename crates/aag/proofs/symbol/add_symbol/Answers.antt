use Rattle.std.proofs.Common.{[], refl}
use Rattle.std.proofs.lemmas.Result.{err_from_is_err_and}
use Rattle.graph.specs.Symbols.{IsFree}
use Rattle.aag.specs.Symbols.{symbol_at}
use Rattle.aag.proofs.SymbolSteps.{refuses_none, fails_kind, fails_number, fails_label, symbol_made, refuses_taken, never}
use Rattle.aag.proofs.symbol.add_symbol.Goals as goal

pub returns-in_err-kind-clause-refused : goal.returns-in_err-kind-clause-refused
returns-in_err-kind-clause-refused g c =
    let p = err_from_is_err_and c.from_residual.result c.from_residual.ensures.1 in
    let e = c.in_err-kind.field-0.0 in
    let text = c.args.text.now in
    rw (p.1, p.2) (refuses_none (λ s. IsFree c.args.symbols.now.counts c.args.symbols.now.symbols s.0) e (symbol_at text) (fails_kind e text c.in_err-kind.ensures))

pub returns-in_err-position-clause-refused : goal.returns-in_err-position-clause-refused
returns-in_err-position-clause-refused g c =
    let p = err_from_is_err_and c.from_residual-in_err-position.result c.from_residual-in_err-position.ensures.1 in
    let e = c.in_err-position.field-0.0 in
    let text = c.args.text.now in
    rw (p.1, p.2) (refuses_none (λ s. IsFree c.args.symbols.now.counts c.args.symbols.now.symbols s.0) e (symbol_at text)
    (fails_number e text c.in_ok-kind.digits.now c.in_ok-kind.kind c.in_ok-kind.ensures c.in_err-position.ensures.value))

pub returns-then-not-is_free-clause-refused : goal.returns-then-not-is_free-clause-refused
returns-then-not-is_free-clause-refused g c =
    refuses_taken c.args.symbols.now.counts c.args.symbols.now.symbols c.args.text.now c.in_ok-kind.digits.now c.in_ok-position.behind.now c.in_ok-kind.kind c.in_ok-position.position [] c.in_ok-kind.ensures c.in_ok-position.ensures.value
    (λ free. never ((c.if-not-is_free.ensures []).1 free))

pub returns-in_err-name-clause-refused : goal.returns-in_err-name-clause-refused
returns-in_err-name-clause-refused g c =
    let p = err_from_is_err_and c.from_residual-in_err-name.result c.from_residual-in_err-name.ensures.1 in
    let e = c.in_err-name.field-0.0 in
    let text = c.args.text.now in
    rw (p.1, p.2) (refuses_none (λ s. IsFree c.args.symbols.now.counts c.args.symbols.now.symbols s.0) e (symbol_at text)
    (fails_label e text c.in_ok-kind.digits.now c.in_ok-position.behind.now c.in_ok-kind.kind c.in_ok-position.position c.in_ok-kind.ensures c.in_ok-position.ensures.value c.in_err-name.ensures.value))

pub unreachable-requires : goal.unreachable-requires
unreachable-requires g c =
    let add = rw c.if-not-branch.true at c.in_ok-add.ensures in
    never (add.free.1 ((c.if-not-is_free.ensures c.in_ok-name.name).0 refl))

pub returns-clause-added : goal.returns-clause-added
returns-clause-added g c =
    let add = rw c.if-not-branch.false at c.in_ok-add.ensures in
    record {
      symbol = record { kind = c.in_ok-kind.kind; position = c.in_ok-position.position; name = c.in_ok-name.name };
      was_read = symbol_made c.args.text.now c.in_ok-kind.digits.now c.in_ok-position.behind.now c.in_ok-name.name c.in_ok-name.rest.now c.in_ok-kind.kind c.in_ok-position.position c.in_ok-kind.ensures c.in_ok-position.ensures.value c.in_ok-name.ensures.value;
      is_free = add.free.0 refl;
      added = add.added;
    }
