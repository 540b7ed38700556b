-- What reading a whole text answers.
use Rattle.base.specs.Witness.{witness}
use Rattle.std.proofs.Common.{◌≡◌, ◌≢◌, ℕ, ◌-◌, ◌≤◌, List, length, Option, Some, refl, sym, ap, ◌∙◌, arith}
use Rattle.std.specs.Prelude.{Contains}
use Rattle.std.proofs.lemmas.Option.{same_Some}
use Rattle.scan.specs.declared.fault.Fault.{Fault}
use Rattle.scan.specs.declared.fault.Fault.TheVariants.{Memory, Text}
use Rattle.graph.specs.declared.parts.Parts.{Parts}
use Rattle.graph.specs.declared.symbol.Symbol.{Symbol}
use Rattle.graph.specs.declared.error.ReadError.{ReadError}
use Rattle.graph.specs.declared.error.ReadError.TheVariants.{TooLong, Header, Number, Limit, Byte, Truncated, LiteralRange, Defining, DefinedTwice, Undefined, Cyclic, Reset, Delta, Symbol as SymbolFault, Counts, NoProperty, OutOfMemory}
use Rattle.graph.specs.Faults.{HasCause}
use Rattle.graph.specs.File.{File}
use Rattle.graph.specs.Refusals.{number_of}
use Rattle.graph.specs.Symbols.{symbol_counts, AreSymbols}
use Rattle.graph.specs.WellFormed.{IsWellFormed}
use Rattle.aag.specs.declared.read_fault.ReadFault.{ReadFault}
use Rattle.aag.specs.declared.read_fault.ReadFault.TheVariants as refusal
use Rattle.aag.specs.declared.lines.NotDefining.{NotDefining}
use Rattle.aag.specs.Ascii.{SpellsAscii, file_of}
use Rattle.aag.specs.Refusals.{at_byte, error_of, refusal_numbers}
use Rattle.aag.specs.Whole.{Refuses, text_at}
use Rattle.aag.proofs.TextLaws.{text_takes, text_again}

-- ---- Ok

pub is_spelled : (text : List ℕ) (f : File) (m parts : Parts) (xs : List Symbol) (o : Option (List ℕ)) → f ≡ file_of m xs o → m ≡ parts → text_at text ≡ Some (file_of parts xs o)
    → AreSymbols (symbol_counts parts) xs → IsWellFormed parts → length text ≤ 67108864 → SpellsAscii text f
is_spelled text f m parts xs o whole same read are well_formed short =
    rw (whole, same) (text_takes text (file_of parts xs o) read short well_formed are)

pub is_only : (text : List ℕ) (f g : File) (m parts : Parts) (xs : List Symbol) (o : Option (List ℕ)) → f ≡ file_of m xs o → m ≡ parts → text_at text ≡ Some (file_of parts xs o)
    → SpellsAscii text g → f ≡ g
is_only text f g m parts xs o whole same read spells =
    whole ∙ ap (λ (p : Parts). file_of p xs o) same ∙ same_Some (file_of parts xs o) g (sym read ∙ text_again text g spells)

-- ---- a fault of the text

pub only_memory : {L : Type 0} → (own : L → ℕ → ReadError) (length : ℕ) (text : List ℕ) (fault : Fault (ReadFault L)) → Refuses (λ f. AreSymbols (symbol_counts f.model) f.symbols) fault (text_at text)
    → (f : File) → SpellsAscii text f → error_of own length fault ≡ OutOfMemory witness
only_memory own length text (Memory refused) refuses f spells = refl
only_memory own length text (Text kind left) refuses f spells = absurd (refuses f (text_again text f spells) spells.are_symbols)

byte_number : (kind : ReadFault NotDefining) (p : ℕ) → Contains refusal_numbers (number_of (at_byte (λ _ place. Defining place) kind p))
byte_number refusal.Header p = (1, omega arith, refl)
byte_number refusal.Number p = (2, omega arith, refl)
byte_number refusal.Limit p = (3, omega arith, refl)
byte_number refusal.Byte p = (4, omega arith, refl)
byte_number refusal.Truncated p = (5, omega arith, refl)
byte_number refusal.LiteralRange p = (6, omega arith, refl)
byte_number refusal.Reset p = (11, omega arith, refl)
byte_number refusal.Counts p = (13, omega arith, refl)
byte_number refusal.Symbol p = (12, omega arith, refl)
byte_number (refusal.Layout own) p = (7, omega arith, refl)

pub fault_number : (length : ℕ) (fault : Fault (ReadFault NotDefining)) → Contains refusal_numbers (number_of (error_of (λ _ place. Defining place) length fault))
fault_number length (Memory refused) = (14, omega arith, refl)
fault_number length (Text kind left) = byte_number kind (length - left)

-- ---- a fault of the circuit

pub cause_number : (m : Parts) (e : ReadError) → HasCause m e → Contains refusal_numbers (number_of e)
cause_number m (Limit k) cause = (3, omega arith, refl)
cause_number m (LiteralRange k) cause = (6, omega arith, refl)
cause_number m (Defining k) cause = (7, omega arith, refl)
cause_number m (DefinedTwice v) cause = (8, omega arith, refl)
cause_number m (Undefined v) cause = (9, omega arith, refl)
cause_number m (Cyclic v) cause = (10, omega arith, refl)
cause_number m (Reset k) cause = (11, omega arith, refl)
cause_number m (OutOfMemory refused) cause = (14, omega arith, refl)
cause_number m TooLong cause = absurd cause
cause_number m (Header p) cause = absurd cause
cause_number m (Number p) cause = absurd cause
cause_number m (Byte p) cause = absurd cause
cause_number m (Truncated p) cause = absurd cause
cause_number m (Delta p) cause = absurd cause
cause_number m (SymbolFault p) cause = absurd cause
cause_number m (Counts p) cause = absurd cause
cause_number m (NoProperty n) cause = absurd cause

-- a circuit that is well formed is refused only when out of memory
pub memory_or_cause : (m : Parts) (e : ReadError) → HasCause m e → (e ≢ OutOfMemory witness → ⊥) → e ≡ OutOfMemory witness
memory_or_cause m (OutOfMemory refused) cause h = refl
memory_or_cause m (Limit k) cause h = absurd (h (λ q. absurd cc))
memory_or_cause m (LiteralRange k) cause h = absurd (h (λ q. absurd cc))
memory_or_cause m (Defining k) cause h = absurd (h (λ q. absurd cc))
memory_or_cause m (DefinedTwice v) cause h = absurd (h (λ q. absurd cc))
memory_or_cause m (Undefined v) cause h = absurd (h (λ q. absurd cc))
memory_or_cause m (Cyclic v) cause h = absurd (h (λ q. absurd cc))
memory_or_cause m (Reset k) cause h = absurd (h (λ q. absurd cc))
memory_or_cause m TooLong cause h = absurd cause
memory_or_cause m (Header p) cause h = absurd cause
memory_or_cause m (Number p) cause h = absurd cause
memory_or_cause m (Byte p) cause h = absurd cause
memory_or_cause m (Truncated p) cause h = absurd cause
memory_or_cause m (Delta p) cause h = absurd cause
memory_or_cause m (SymbolFault p) cause h = absurd cause
memory_or_cause m (Counts p) cause h = absurd cause
memory_or_cause m (NoProperty n) cause h = absurd cause

pub refused_circuit : (text : List ℕ) (parts : Parts) (xs : List Symbol) (o : Option (List ℕ)) (e : ReadError) → text_at text ≡ Some (file_of parts xs o) → HasCause parts e → (e ≢ OutOfMemory witness → IsWellFormed parts → ⊥)
    → (f : File) → SpellsAscii text f → e ≡ OutOfMemory witness
refused_circuit text parts xs o e read cause exact f spells =
    let same : f ≡ file_of parts xs o = same_Some f (file_of parts xs o) (sym (text_again text f spells) ∙ read) in
    let well_formed : IsWellFormed parts = rw (ap (λ (g : File). g.model) same) at spells.well_formed in
    memory_or_cause parts e cause (λ other. exact other well_formed)
