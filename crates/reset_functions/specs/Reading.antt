-- What is read of a text whose latches may have functions as resets.
use Rattle.std.specs.Prelude.{◌≡◌, ◌⊎◌, List, ℕ, [], Option, Some, Result, Ok, Err}
use Rattle.base.specs.Witness.{witness}
use Rattle.graph.specs.File.{File}
use Rattle.graph.specs.declared.circuit.Lit.{Lit}
use Rattle.graph.specs.declared.error.ReadError.{ReadError}
use Rattle.graph.specs.declared.error.ReadError.TheVariants.{OutOfMemory}
use Rattle.aiger.specs.Layouts.{SpellsFile}
use Rattle.reset_functions.specs.Plain.{Replaces, plain_at}
use Rattle.reset_functions.specs.declared.reading.Begun.{Begun}

-- the circuit is spelled by the text with the latch's own literal in place of each function, and these are the functions
pub record IsPlainOf (text : List ℕ) (b : Begun) : Type 0 where
  pub plain : List ℕ
  pub is : plain_at text ≡ Some (plain, b.resets.items)
  pub replaces : Replaces text plain b.resets.items
  pub spells : SpellsFile plain b.file

-- the circuit is spelled by the text, and no reset is a function, or else by the text without functions
abbrev pub IsBegunText : List ℕ → Begun → Type 0
IsBegunText text b = (SpellsFile text b.file × (b.resets.items ≡ [])) ⊎ IsPlainOf text b

-- the text spells no circuit
abbrev pub SpellsNone : List ℕ → Type 0
SpellsNone text = (f : File) → SpellsFile text f → ⊥

-- nor does it without functions
abbrev pub IsNoPlain : List ℕ → Type 0
IsNoPlain text = (plain : List ℕ) (resets : List (Option Lit)) → plain_at text ≡ Some (plain, resets) → SpellsNone plain

-- the error is this one and the fact holds, or memory ran out
abbrev pub IsFaultOr : Type 0 → ReadError → ReadError → Type 0
IsFaultOr F fault e = ((e ≡ fault) × F) ⊎ (e ≡ OutOfMemory witness)

-- the text spells no circuit, and none without functions, or memory ran out
abbrev pub IsRefused : List ℕ → ReadError → Type 0
IsRefused text e = (SpellsNone text × IsNoPlain text) ⊎ (e ≡ OutOfMemory witness)

-- this circuit is read, without such a reset, unless memory ran out
abbrev pub IsPlainRead : Result Begun ReadError → File → Type 0
IsPlainRead (Ok b) f = (b.file ≡ f) × (b.resets.items ≡ [])
IsPlainRead (Err e) f = e ≡ OutOfMemory witness
