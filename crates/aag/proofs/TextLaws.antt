-- A whole text is read as it is spelled.
use Rattle.std.proofs.Common.{◌≡◌, ℕ, suc, ◌≤◌, ◌<◌, List, [], ◌∷◌, ◌++◌, length, get_or, Some, All, refl, sym, ap, ◌∙◌, arith, append_assoc}
use Rattle.std.proofs.lemmas.List.{length-append}
use Rattle.std.proofs.lemmas.List.Elements.{All-head, All-tail}
use Rattle.std.proofs.lemmas.Option.{same_Some}
use Rattle.scan.specs.Reading.{◌>>=◌}
use Rattle.scan.specs.Lists.{Each}
use Rattle.scan.proofs.Toolbox.{bind_some}
use Rattle.graph.specs.declared.parts.Parts.{Parts}
use Rattle.graph.specs.WellFormed.{IsInLimits, IsWellFormed}
use Rattle.graph.specs.declared.symbol.Symbol.{Symbol}
use Rattle.graph.specs.declared.symbol.SymbolKind.{SymbolKind}
use Rattle.graph.specs.declared.symbol.SymbolKind.TheVariants.{Input, Latch, Output, Bad, Constraint, Justice, Fairness}
use Rattle.graph.specs.File.{File}
use Rattle.graph.specs.Symbols.{index_of, symbol_counts, IsSymbol, AreSymbols}
use Rattle.aag.specs.Sections.{circuit_at}
use Rattle.aag.specs.Symbols.{symbols_at, comment_of}
use Rattle.aag.specs.Spelling.{SpellsCircuit}
use Rattle.aag.specs.Tail.{IsSymbolLine, IsComment}
use Rattle.aag.specs.Whole.{text_at}
use Rattle.aag.specs.Ascii.{SpellsAscii}
use Rattle.aag.proofs.CircuitLaws.{circuit_reads}
use Rattle.aag.proofs.SymbolLaws.{IsSymbolText, symbols_sound, symbols_complete, comment_sound, comment_complete}

-- ---- lines of symbols that name something

pub each_line : (t : List ℕ) (xs : List Symbol) → Each IsSymbolText t xs → Each IsSymbolLine t xs
each_line t [] e = e
each_line t (x ∷ xs) (a, b, one, others, p) = (a, b, one.spells, each_line b xs others, p)

few_of : (m : Parts) → IsInLimits m → (k : SymbolKind) → get_or (symbol_counts m) (index_of k) 0 ≤ 4194303
few_of m l Input = l.inputs
few_of m l Latch = l.latches
few_of m l Output = l.outputs
few_of m l Bad = l.bad
few_of m l Constraint = l.constraints
few_of m l Justice = l.justice
few_of m l Fairness = l.fairness

symbol_text : (m : Parts) (t : List ℕ) (s : Symbol) → IsInLimits m → IsSymbol (symbol_counts m) s → IsSymbolLine t s → IsSymbolText t s
symbol_text m t s l named line = record { spells = line; named = named.named; small = omega (arith, named.inside, few_of m l s.kind) }

pub each_text : (m : Parts) (t : List ℕ) (xs : List Symbol) → IsInLimits m → All (IsSymbol (symbol_counts m)) xs → Each IsSymbolLine t xs → Each IsSymbolText t xs
each_text m t [] l named e = e
each_text m t (x ∷ xs) l named (a, b, one, others, p) =
    (a, b, symbol_text m a x l (All-head (IsSymbol (symbol_counts m)) x xs named) one, each_text m b xs l (All-tail (IsSymbol (symbol_counts m)) x xs named) others, p)

-- a symbol's line has a byte
pub each_long : (t : List ℕ) (xs : List Symbol) → Each IsSymbolLine t xs → length xs ≤ length t
each_long t [] e = omega arith
each_long t (x ∷ xs) (a, b, one, others, p) =
    omega (arith, ap length one, each_long b xs others, ap length p, length-append a b)

-- ---- the whole

put_together : (bytes circuit symbols after comment : List ℕ) (m : Parts) (xs : List Symbol) (f : File) → ◌≡◌ {A = File} (record { model = m; symbols = xs; comment = comment_of comment }) f
    → bytes ≡ circuit ++ after → after ≡ symbols ++ comment → SpellsCircuit circuit m → Each IsSymbolText symbols xs → IsComment comment (comment_of comment)
    → length bytes ≤ 67108864 → IsWellFormed f.model → AreSymbols (symbol_counts f.model) f.symbols → SpellsAscii bytes f
put_together bytes circuit symbols after comment m xs f same whole parts spells each ends short well_formed are_symbols =
    let model : f.model ≡ m = sym (ap (λ (g : File). g.model) same) in
    let list : f.symbols ≡ xs = sym (ap (λ (g : File). g.symbols) same) in
    let last : f.comment ≡ comment_of comment = sym (ap (λ (g : File). g.comment) same) in
    record {
      circuit = circuit;
      symbols = symbols;
      comment = comment;
      whole = whole ∙ ap (λ (w : List ℕ). circuit ++ w) parts ∙ sym (append_assoc circuit symbols comment);
      short = short;
      spells_circuit = rw model spells;
      well_formed = well_formed;
      each_symbol = rw list (each_line symbols xs each);
      are_symbols = are_symbols;
      spells_comment = rw last ends;
    }

pub text_takes : (bytes : List ℕ) (f : File) → text_at bytes ≡ Some f → length bytes ≤ 67108864 → IsWellFormed f.model → AreSymbols (symbol_counts f.model) f.symbols → SpellsAscii bytes f
unfolding text_at
text_takes bytes f e short well_formed are_symbols =
    let c = bind_some (circuit_at bytes) (λ circuit. symbols_at circuit.1 >>= λ symbols. Some (record { model = circuit.0; symbols = symbols.0; comment = comment_of symbols.1 })) f e in
    let s = bind_some (symbols_at c.0.1) (λ symbols. Some (record { model = c.0.0; symbols = symbols.0; comment = comment_of symbols.1 })) f c.2 in
    let circuit = circuit_reads.sound bytes c.0.0 c.0.1 c.1 in
    let symbols = symbols_sound (suc (length c.0.1)) c.0.1 s.0.0 s.0.1 s.1 in
    put_together bytes circuit.0 symbols.0 c.0.1 s.0.1 c.0.0 s.0.0 f (same_Some (record { model = c.0.0; symbols = s.0.0; comment = comment_of s.0.1 }) f s.2)
    circuit.2 symbols.3 circuit.1 symbols.1 (comment_sound s.0.1 symbols.2) short well_formed are_symbols

pub text_again : (bytes : List ℕ) (f : File) → SpellsAscii bytes f → text_at bytes ≡ Some f
unfolding text_at
text_again bytes f r =
    let whole : bytes ≡ r.circuit ++ (r.symbols ++ r.comment) = r.whole ∙ append_assoc r.circuit r.symbols r.comment in
    let circuit : circuit_at bytes ≡ Some (f.model, r.symbols ++ r.comment) = ap circuit_at whole ∙ circuit_reads.complete r.circuit f.model (r.symbols ++ r.comment) r.spells_circuit in
    let ends = comment_complete r.comment f.comment r.spells_comment in
    let few : length f.symbols < suc (length (r.symbols ++ r.comment)) = omega (arith, each_long r.symbols f.symbols r.each_symbol, length-append r.symbols r.comment) in
    let symbols : symbols_at (r.symbols ++ r.comment) ≡ Some (f.symbols, r.comment) =
    symbols_complete (suc (length (r.symbols ++ r.comment))) r.symbols f.symbols r.comment few (each_text f.model r.symbols f.symbols r.well_formed.limits r.are_symbols.each r.each_symbol) ends.0 in
    rw (circuit, symbols, ends.1) refl
