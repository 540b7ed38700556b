-- Files in either layout.
use Rattle.std.proofs.Common.{◌≡◌, ◌≢◌, ℕ, ◌≤◌, List, ◌++◌, length, append_assoc, Some, Result, Ok, Err, inl, inr, refl, sym, ◌∙◌, ap, subst, arith}
use Rattle.std.specs.Prelude.{MatchResult, IsErrAnd}
use Rattle.std.proofs.lemmas.Option.{same_Some}
use Rattle.scan.specs.Reading.{Read}
use Rattle.scan.proofs.Toolbox.{Reads}
use Rattle.base.specs.Witness.{witness}
use Rattle.graph.specs.declared.error.ReadError.{ReadError}
use Rattle.graph.specs.declared.error.ReadError.TheVariants.{TooLong, Header, Number, Limit, Byte, Truncated, LiteralRange, Defining, DefinedTwice, Undefined, Cyclic, Reset, Delta, Symbol, Counts, NoProperty, OutOfMemory}
use Rattle.graph.specs.declared.parts.Parts.{Parts}
use Rattle.graph.specs.File.{File}
use Rattle.graph.specs.Refusals.{number_of}
use Rattle.graph.specs.WellFormed.{IsWellFormed}
use Rattle.aag.specs.Ascii.{SpellsAscii, IsRead}
use Rattle.aag.specs.Spelling.{SpellsCircuit}
use Rattle.aag.specs.Sections.{circuit_at as ascii_circuit}
use Rattle.aag.proofs.CircuitLaws.{circuit_reads as ascii_reads}
use Rattle.aag.proofs.TextLaws.{text_again as ascii_again}
use Rattle.aig.specs.Binary.{SpellsBinary, SpellsOrdered}
use Rattle.aig.specs.Sections.{circuit_at as binary_circuit}
use Rattle.aig.proofs.CircuitLaws.{circuit_reads as binary_reads}
use Rattle.aig.proofs.TextLaws.{text_again as binary_again}
use Rattle.aig.proofs.WellFormedLaws.{well_formed_of}
use Rattle.aiger.specs.Layouts.{BeginsWith, IsBinary, SpellsFile, SpellsModel, IsRefusalNumber}
use Rattle.aiger.specs.Loading.{IsRefusal}
use Rattle.aiger.specs.declared.load_error.LoadError.TheVariants.{Refused}

-- a text spells at most one file
pub one_file : (xs : List ℕ) (f g : File) → SpellsFile xs f → SpellsFile xs g → f ≡ g
one_file xs f g (inl a) (inl b) = same_Some f g (sym (binary_again xs f a.1) ∙ binary_again xs g b.1)
one_file xs f g (inl a) (inr b) = absurd (b.0 a.0)
one_file xs f g (inr a) (inl b) = absurd (a.0 b.0)
one_file xs f g (inr a) (inr b) = same_Some f g (sym (ascii_again xs f a.1) ∙ ascii_again xs g b.1)

-- what a text begins with is read
begins_read : {A : Type 0} (at : List ℕ → Read A) (R : List ℕ → A → Type 0) → Reads at R → (xs : List ℕ) (x : A) → BeginsWith R xs x →
    (rest : List ℕ) × (at xs ≡ Some (x, rest))
begins_read at R reads xs x (front, rest, is, spells) = (rest, ap at is ∙ reads.complete front x rest spells)

begins_one : {A : Type 0} (at : List ℕ → Read A) (R : List ℕ → A → Type 0) → Reads at R → (xs : List ℕ) (x y : A) → BeginsWith R xs x → BeginsWith R xs y → x ≡ y
begins_one at R reads xs x y a b =
    let (one, is) = begins_read at R reads xs x a in
    let (other, again) = begins_read at R reads xs y b in
    ap (λ read. read.0) (same_Some (x, one) (y, other) (sym is ∙ again))

-- a text begins with at most one circuit
pub one_model : (xs : List ℕ) (m n : Parts) → SpellsModel xs m → SpellsModel xs n → m ≡ n
one_model xs m n (inl a) (inl b) = begins_one binary_circuit SpellsOrdered binary_reads xs m n a.1 b.1
one_model xs m n (inl a) (inr b) = absurd (b.0 a.0)
one_model xs m n (inr a) (inl b) = absurd (a.0 b.0)
one_model xs m n (inr a) (inr b) = begins_one ascii_circuit SpellsCircuit ascii_reads xs m n a.1 b.1

-- a text that spells a file begins with its circuit
pub begins_with : (xs : List ℕ) (f : File) → SpellsFile xs f → SpellsModel xs f.model
begins_with xs f (inl a) = inl (a.0, (a.1.circuit, a.1.symbols ++ a.1.comment, a.1.whole ∙ simp append_assoc, a.1.spells_circuit))
begins_with xs f (inr a) = inr (a.0, (a.1.circuit, a.1.symbols ++ a.1.comment, a.1.whole ∙ simp append_assoc, a.1.spells_circuit))

-- the circuit of a file that is spelled is well formed
pub well_formed : (xs : List ℕ) (f : File) → SpellsFile xs f → IsWellFormed f.model
well_formed xs f (inl a) = well_formed_of a.1.circuit f.model a.1.spells_circuit
well_formed xs f (inr a) = a.1.well_formed

-- a text that spells a file is not longer than it may be
pub is_short : (xs : List ℕ) (f : File) → SpellsFile xs f → length xs ≤ 67108864
is_short xs f (inl a) = a.1.short
is_short xs f (inr a) = a.1.short

-- what a reader says of its layout it says of the text
pub binary_only : (xs : List ℕ) (f : File) (r : Result File ReadError) → IsBinary xs → (SpellsBinary xs f → IsRead r f) → SpellsFile xs f → IsRead r f
binary_only xs f r binary reads (inl a) = reads a.1
binary_only xs f r binary reads (inr a) = absurd (a.0 binary)

pub ascii_only : (xs : List ℕ) (f : File) (r : Result File ReadError) → (IsBinary xs → ⊥) → (SpellsAscii xs f → IsRead r f) → SpellsFile xs f → IsRead r f
ascii_only xs f r ascii reads (inl a) = absurd (ascii a.0)
ascii_only xs f r ascii reads (inr a) = reads a.1

-- no other refusal has the number of a text that is too long
only_too_long : (e : ReadError) → number_of e ≡ 1 → e ≡ TooLong
only_too_long TooLong n = refl
only_too_long (Header p) n = absurd (omega (arith, n))
only_too_long (Number p) n = absurd (omega (arith, n))
only_too_long (Limit p) n = absurd (omega (arith, n))
only_too_long (Byte p) n = absurd (omega (arith, n))
only_too_long (Truncated p) n = absurd (omega (arith, n))
only_too_long (LiteralRange p) n = absurd (omega (arith, n))
only_too_long (Defining p) n = absurd (omega (arith, n))
only_too_long (DefinedTwice v) n = absurd (omega (arith, n))
only_too_long (Undefined v) n = absurd (omega (arith, n))
only_too_long (Cyclic v) n = absurd (omega (arith, n))
only_too_long (Reset p) n = absurd (omega (arith, n))
only_too_long (Delta p) n = absurd (omega (arith, n))
only_too_long (Symbol p) n = absurd (omega (arith, n))
only_too_long (Counts p) n = absurd (omega (arith, n))
only_too_long (NoProperty k) n = absurd (omega (arith, n))
only_too_long (OutOfMemory r) n = absurd (omega (arith, n))

-- what keeps every file from being read is no file's; a text that is within the limit is not told to be too long
pub refused : (xs : List ℕ) (e : ReadError) → ((f : File) → SpellsFile xs f → e ≡ OutOfMemory witness) → IsRefusalNumber xs (number_of e) → length xs ≤ 67108864 → e ≢ TooLong → IsRefusal xs (Refused e)
refused xs e only is short ne other = record {
  none = λ f s. other (ap number_of (only f s));
  number = is;
  other = other;
  too_long = (λ n. absurd (ne (only_too_long e n)), λ lt. absurd (omega (arith, lt, short)));
}

-- a result that is this error
pub match_gives : {X E : Type 0} (P : X → Type 0) (Q : E → Type 0) (r : Result X E) (e : E) → IsErrAnd r (λ f. f ≡ e) → Q e → MatchResult r P Q
match_gives P Q (Ok x) e p q = absurd p
match_gives P Q (Err f) e p q = subst Q (sym p) q
