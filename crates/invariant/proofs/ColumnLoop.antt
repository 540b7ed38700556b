-- The names of latches, and the columns that they give, as loops find them.
use Rattle.std.proofs.Common.{◌≡◌, ℕ, ◌+◌, ◌<◌, Bool, true, false, cond, List, [], ◌∷◌, ◌++◌, length, drop, get_or, Option, Some, None, refl, sym, ap, ◌∙◌, append_assoc}
use Rattle.std.proofs.lemmas.List.{at_drop_more}
use Rattle.std.proofs.lemmas.Option.{slice_get-get_or}
use Rattle.graph.specs.declared.circuit.Latch.{Latch}
use Rattle.graph.specs.declared.symbol.Symbol.{Symbol}
use Rattle.invariant.specs.Plas.{latch_at, named_from, own_name_at, symbol_name, with_column}
use Rattle.invariant.specs.PlaReading.{is_symbol_of, name_by}

-- ---- names

name_of_choice : (symbols : List Symbol) (i : ℕ) (s : Symbol) (old : Option ℕ) (b : Bool) → name_by symbols (Some i) ≡ Some s.name
    → name_by symbols (cond b (Some i) old) ≡ cond b (Some s.name) (name_by symbols old)
name_of_choice symbols i s old true e = e
name_of_choice symbols i s old false e = refl

name_here : (symbols : List Symbol) (i : ℕ) (s : Symbol) → i < length symbols → s ≡ get_or symbols i s → name_by symbols (Some i) ≡ Some s.name
name_here symbols i s lt is =
    rw (slice_get-get_or symbols i s lt) (ap (λ (t : Symbol). Some t.name) (sym is))

-- one more symbol
pub place_more : (symbols : List Symbol) (i k : ℕ) (s : Symbol) (old new : Option ℕ) (total : Option (List ℕ)) → i < length symbols → s ≡ get_or symbols i s
    → new ≡ cond (is_symbol_of s.kind s.position k) (Some i) old
    → symbol_name (name_by symbols old) (drop i symbols) k ≡ total → symbol_name (name_by symbols new) (drop (i + 1) symbols) k ≡ total
place_more symbols i k s old new total lt is e so_far =
    let rest = drop (i + 1) symbols in
    let front : symbol_name (name_by symbols old) (drop i symbols) k ≡ symbol_name (name_by symbols old) (s ∷ rest) k =
    at_drop_more (λ ss. symbol_name (name_by symbols old) ss k) symbols i s lt ∙ ap (λ (t : Symbol). symbol_name (name_by symbols old) (t ∷ rest) k) (sym is) in
    let name : name_by symbols new ≡ cond (is_symbol_of s.kind s.position k) (Some s.name) (name_by symbols old) =
    ap (name_by symbols) e ∙ name_of_choice symbols i s old (is_symbol_of s.kind s.position k) (name_here symbols i s lt is) in
    ap (λ (n : Option (List ℕ)). symbol_name n rest k) name ∙ sym front ∙ so_far

-- ---- columns

-- what was found before, and what is found from here on
abbrev pub Found : (ℕ → Option (List ℕ)) → ℕ → List Latch → List Latch → List ℕ → List Latch × List ℕ
Found names k columns latches bytes = (columns ++ (named_from names k latches bytes).0, (named_from names k latches bytes).1)

column_step : (names : ℕ → Option (List ℕ)) (k : ℕ) (latches columns : List Latch) (d : Latch) (bytes : List ℕ) (o : Option (List ℕ)) → k < length latches
    → latch_at (names k) k (own_name_at bytes) bytes ≡ o
    → Found names k columns (drop k latches) bytes ≡ (columns ++ (with_column (get_or latches k d) o bytes (named_from names (k + 1) (drop (k + 1) latches))).0, (with_column (get_or latches k d) o bytes (named_from names (k + 1) (drop (k + 1) latches))).1)
column_step names k latches columns d bytes o lt e =
    let later = named_from names (k + 1) (drop (k + 1) latches) in
    at_drop_more (λ ls. Found names k columns ls bytes) latches k d lt
    ∙ ap (λ (p : Option (List ℕ)). (columns ++ (with_column (get_or latches k d) p bytes later).0, (with_column (get_or latches k d) p bytes later).1)) e

-- a latch whose name does not come next
pub column_not : (names : ℕ → Option (List ℕ)) (k : ℕ) (latches columns : List Latch) (d : Latch) (bytes : List ℕ) (total : List Latch × List ℕ) → k < length latches
    → latch_at (names k) k (own_name_at bytes) bytes ≡ None
    → Found names k columns (drop k latches) bytes ≡ total → Found names (k + 1) columns (drop (k + 1) latches) bytes ≡ total
column_not names k latches columns d bytes total lt e so_far = sym (column_step names k latches columns d bytes None lt e) ∙ so_far

-- a latch whose name comes next
pub column_more : (names : ℕ → Option (List ℕ)) (k : ℕ) (latches columns : List Latch) (d : Latch) (bytes after : List ℕ) (total : List Latch × List ℕ) → k < length latches
    → latch_at (names k) k (own_name_at bytes) bytes ≡ Some after
    → Found names k columns (drop k latches) bytes ≡ total → Found names (k + 1) (columns ++ get_or latches k d ∷ []) (drop (k + 1) latches) after ≡ total
column_more names k latches columns d bytes after total lt e so_far =
    let later = named_from names (k + 1) (drop (k + 1) latches) after in
    ap (λ (ls : List Latch). (ls, later.1)) (append_assoc columns (get_or latches k d ∷ []) later.0)
    ∙ sym (column_step names k latches columns d bytes (Some after) lt e) ∙ so_far
