-- Signatures of clauses: words of 64 bits, of which each literal of a clause sets one.
use Rattle.std.specs.Prelude.{◌≡◌, ◌≢◌, ℕ, ◌<◌, ◌%◌, List, length, slice_index_or, All}
use Rattle.std.specs.Int.{bit_at}
use Rattle.states.specs.declared.state_lit.StateLit.{StateLit}
use Rattle.ic3_frames.specs.declared.frames.Entry.{Entry}
use Rattle.ic3_frames.specs.Marks.{mark_of}

-- the literal's bit in a signature
abbrev pub signature_bit : StateLit → ℕ
signature_bit a = mark_of a % 64

-- a bit of the word is set exactly where a literal of the clause has it
pub record IsSignature (clause : List StateLit) (word : ℕ) : Type 0 where
  pub each : All (λ a. bit_at word (signature_bit a) ≡ 1) clause
  pub none : (i : ℕ) → All (λ a. signature_bit a ≢ i) clause → bit_at word i ≡ 0

-- the words are the signatures of the entries' clauses, by their places
pub record AreSignatures (entries : List Entry) (words : List ℕ) : Type 0 where
  pub long : length words ≡ length entries
  pub each : (k : ℕ) (d : Entry) → k < length entries → IsSignature (slice_index_or entries k d).clause (slice_index_or words k 0)
