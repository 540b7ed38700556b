-- What reading a whole text answers.
use Rattle.base.specs.Witness.{witness}
use Rattle.std.proofs.Common.{◌≡◌, ◌≢◌, ℕ, ◌-◌, ◌≤◌, List, length, Option, Some, refl, sym, ap, ◌∙◌, arith}
use Rattle.std.specs.Prelude.{Contains}
use Rattle.std.proofs.lemmas.Option.{same_Some}
use Rattle.scan.specs.declared.fault.Fault.{Fault}
use Rattle.scan.specs.declared.fault.Fault.TheVariants.{Memory, Text}
use Rattle.graph.specs.declared.parts.Parts.{Parts}
use Rattle.graph.specs.declared.symbol.Symbol.{Symbol}
use Rattle.graph.specs.declared.error.ReadError.{ReadError}
use Rattle.graph.specs.declared.error.ReadError.TheVariants.{OutOfMemory, Delta}
use Rattle.graph.specs.Faults.{HasCause}
use Rattle.graph.specs.File.{File}
use Rattle.graph.specs.Refusals.{number_of}
use Rattle.graph.specs.Symbols.{symbol_counts, AreSymbols}
use Rattle.graph.specs.WellFormed.{IsWellFormed}
use Rattle.aag.specs.Ascii.{file_of}
use Rattle.aag.specs.Whole.{Refuses}
use Rattle.aag.proofs.ReadLaws.{memory_or_cause}
use Rattle.aag.specs.declared.read_fault.ReadFault.{ReadFault}
use Rattle.aag.specs.declared.read_fault.ReadFault.TheVariants.{Header, Number, Limit, Byte, Truncated, LiteralRange, Reset, Counts, Symbol as SymbolFault, Layout}
use Rattle.aag.specs.Refusals.{at_byte, error_of}
use Rattle.aig.specs.declared.delta.NoDelta.{NoDelta}
use Rattle.aig.specs.Whole.{text_at}
use Rattle.aig.specs.Binary.{SpellsBinary}
use Rattle.aig.specs.Refusals.{refusal_numbers}
use Rattle.aig.proofs.TextLaws.{text_takes, text_again}
use Rattle.aig.proofs.WellFormedLaws.{well_formed_of}

-- ---- Ok

pub is_spelled : (text : List ℕ) (f : File) (m parts : Parts) (xs : List Symbol) (o : Option (List ℕ)) → f ≡ file_of m xs o → m ≡ parts → text_at text ≡ Some (file_of parts xs o)
    → AreSymbols (symbol_counts parts) xs → length text ≤ 67108864 → SpellsBinary text f
is_spelled text f m parts xs o whole same read are short =
    rw (whole, same) (text_takes text (file_of parts xs o) read short are)

pub is_only : (text : List ℕ) (f g : File) (m parts : Parts) (xs : List Symbol) (o : Option (List ℕ)) → f ≡ file_of m xs o → m ≡ parts → text_at text ≡ Some (file_of parts xs o)
    → SpellsBinary text g → f ≡ g
is_only text f g m parts xs o whole same read spells =
    whole ∙ ap (λ (p : Parts). file_of p xs o) same ∙ same_Some (file_of parts xs o) g (sym read ∙ text_again text g spells)

-- ---- a fault of the text

pub only_memory : {L : Type 0} → (own : L → ℕ → ReadError) (length : ℕ) (text : List ℕ) (fault : Fault (ReadFault L)) → Refuses (λ f. AreSymbols (symbol_counts f.model) f.symbols) fault (text_at text)
    → (f : File) → SpellsBinary text f → error_of own length fault ≡ OutOfMemory witness
only_memory own length text (Memory refused) refuses f spells = refl
only_memory own length text (Text kind left) refuses f spells = absurd (refuses f (text_again text f spells) spells.are_symbols)

byte_number : (kind : ReadFault NoDelta) (p : ℕ) → Contains refusal_numbers (number_of (at_byte (λ _ place. Delta place) kind p))
byte_number Header p = (1, omega arith, refl)
byte_number Number p = (2, omega arith, refl)
byte_number Limit p = (3, omega arith, refl)
byte_number Byte p = (4, omega arith, refl)
byte_number Truncated p = (5, omega arith, refl)
byte_number LiteralRange p = (6, omega arith, refl)
byte_number Reset p = (7, omega arith, refl)
byte_number (Layout own) p = (8, omega arith, refl)
byte_number SymbolFault p = (9, omega arith, refl)
byte_number Counts p = (10, omega arith, refl)

pub fault_number : (length : ℕ) (fault : Fault (ReadFault NoDelta)) → Contains refusal_numbers (number_of (error_of (λ _ place. Delta place) length fault))
fault_number length (Memory refused) = (11, omega arith, refl)
fault_number length (Text kind left) = byte_number kind (length - left)

-- ---- a fault of the circuit

-- a circuit that was read is well formed, and so refused only when out of memory
pub refused_memory : (text : List ℕ) (parts : Parts) (xs : List Symbol) (o : Option (List ℕ)) (e : ReadError) → text_at text ≡ Some (file_of parts xs o) → AreSymbols (symbol_counts parts) xs → length text ≤ 67108864
    → HasCause parts e → (e ≢ OutOfMemory witness → IsWellFormed parts → ⊥) → e ≡ OutOfMemory witness
refused_memory text parts xs o e read are short cause exact =
    let spells = text_takes text (file_of parts xs o) read short are in
    memory_or_cause parts e cause (λ other. exact other (well_formed_of spells.circuit parts spells.spells_circuit))

pub memory_number : (e : ReadError) → e ≡ OutOfMemory witness → Contains refusal_numbers (number_of e)
memory_number e same = rw same (11, omega arith, refl)
