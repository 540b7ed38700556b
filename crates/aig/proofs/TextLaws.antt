-- A whole text is read as it is spelled.
use Rattle.std.proofs.Common.{◌≡◌, ℕ, suc, ◌≤◌, ◌<◌, List, ◌++◌, length, Some, refl, sym, ap, ◌∙◌, arith, append_assoc}
use Rattle.std.proofs.lemmas.List.{length-append}
use Rattle.std.proofs.lemmas.Option.{same_Some}
use Rattle.scan.specs.Reading.{◌>>=◌}
use Rattle.scan.specs.Lists.{Each}
use Rattle.scan.proofs.Toolbox.{bind_some}
use Rattle.graph.specs.declared.parts.Parts.{Parts}
use Rattle.graph.specs.declared.symbol.Symbol.{Symbol}
use Rattle.graph.specs.File.{File}
use Rattle.graph.specs.Symbols.{symbol_counts, AreSymbols}
use Rattle.aag.specs.Symbols.{symbols_at, comment_of}
use Rattle.aag.specs.Tail.{IsComment}
use Rattle.aag.proofs.SymbolLaws.{IsSymbolText, symbols_sound, symbols_complete, comment_sound, comment_complete}
use Rattle.aag.proofs.TextLaws.{each_line, each_text, each_long}
use Rattle.aig.specs.Sections.{circuit_at}
use Rattle.aig.specs.Whole.{text_at}
use Rattle.aig.specs.Binary.{SpellsOrdered, SpellsBinary}
use Rattle.aig.proofs.CircuitLaws.{circuit_reads}
use Rattle.aig.proofs.WellFormedLaws.{well_formed_of}

put_together : (bytes circuit symbols after comment : List ℕ) (m : Parts) (xs : List Symbol) (f : File) → ◌≡◌ {A = File} (record { model = m; symbols = xs; comment = comment_of comment }) f
    → bytes ≡ circuit ++ after → after ≡ symbols ++ comment → SpellsOrdered circuit m → Each IsSymbolText symbols xs → IsComment comment (comment_of comment)
    → length bytes ≤ 67108864 → AreSymbols (symbol_counts f.model) f.symbols → SpellsBinary bytes f
put_together bytes circuit symbols after comment m xs f same whole parts spells each ends short are_symbols =
    let model : f.model ≡ m = sym (ap (λ (g : File). g.model) same) in
    let list : f.symbols ≡ xs = sym (ap (λ (g : File). g.symbols) same) in
    let last : f.comment ≡ comment_of comment = sym (ap (λ (g : File). g.comment) same) in
    record {
      circuit = circuit;
      symbols = symbols;
      comment = comment;
      whole = whole ∙ ap (λ (w : List ℕ). circuit ++ w) parts ∙ sym (append_assoc circuit symbols comment);
      short = short;
      spells_circuit = rw model spells;
      each_symbol = rw list (each_line symbols xs each);
      are_symbols = are_symbols;
      spells_comment = rw last ends;
    }

pub text_takes : (bytes : List ℕ) (f : File) → text_at bytes ≡ Some f → length bytes ≤ 67108864 → AreSymbols (symbol_counts f.model) f.symbols → SpellsBinary bytes f
unfolding text_at
text_takes bytes f e short are_symbols =
    let c = bind_some (circuit_at bytes) (λ circuit. symbols_at circuit.1 >>= λ symbols. Some (record { model = circuit.0; symbols = symbols.0; comment = comment_of symbols.1 })) f e in
    let s = bind_some (symbols_at c.0.1) (λ symbols. Some (record { model = c.0.0; symbols = symbols.0; comment = comment_of symbols.1 })) f c.2 in
    let circuit = circuit_reads.sound bytes c.0.0 c.0.1 c.1 in
    let symbols = symbols_sound (suc (length c.0.1)) c.0.1 s.0.0 s.0.1 s.1 in
    put_together bytes circuit.0 symbols.0 c.0.1 s.0.1 c.0.0 s.0.0 f (same_Some (record { model = c.0.0; symbols = s.0.0; comment = comment_of s.0.1 }) f s.2)
    circuit.2 symbols.3 circuit.1 symbols.1 (comment_sound s.0.1 symbols.2) short are_symbols

pub text_again : (bytes : List ℕ) (f : File) → SpellsBinary bytes f → text_at bytes ≡ Some f
unfolding text_at
text_again bytes f r =
    let whole : bytes ≡ r.circuit ++ (r.symbols ++ r.comment) = r.whole ∙ append_assoc r.circuit r.symbols r.comment in
    let circuit : circuit_at bytes ≡ Some (f.model, r.symbols ++ r.comment) = ap circuit_at whole ∙ circuit_reads.complete r.circuit f.model (r.symbols ++ r.comment) r.spells_circuit in
    let ends = comment_complete r.comment f.comment r.spells_comment in
    let few : length f.symbols < suc (length (r.symbols ++ r.comment)) = omega (arith, each_long r.symbols f.symbols r.each_symbol, length-append r.symbols r.comment) in
    let limits = (well_formed_of r.circuit f.model r.spells_circuit).limits in
    let symbols : symbols_at (r.symbols ++ r.comment) ≡ Some (f.symbols, r.comment) =
    symbols_complete (suc (length (r.symbols ++ r.comment))) r.symbols f.symbols r.comment few (each_text f.model r.symbols f.symbols limits r.are_symbols.each r.each_symbol) ends.0 in
    rw (circuit, symbols, ends.1) refl
