use Rattle.std.proofs.Common.{◌≡◌, None, ◌++◌, drop}
use Rattle.std.specs.Prelude.{option_map}
use Rattle.invariant.specs.Plas.{named_from, own_name_at, symbol_name}
use Rattle.invariant.proofs.columns.named.Given as goal

abbrev pub invariant-loop-k : goal.invariant-loop-k
invariant-loop-k l =
    let found = named_from (symbol_name None l.symbols) l.k (drop l.k l.latches) l.rest in
    (option_map (λ own. (own.0, own.1.now)) l.own ≡ own_name_at l.rest)
    × ((l.columns.items ++ found.0, found.1) ≡ named_from (symbol_name None l.symbols) 0 l.latches l.text)
