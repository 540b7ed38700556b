-- How the texts of clauses are read, step by step.
use Rattle.std.specs.Prelude.{ℕ, zero, suc, Bool, false, List, [], ◌∷◌, length, Some, None, ◌==◌, if◌then◌else◌}
use Rattle.scan.specs.Reading.{◌>>=◌, Read}
use Rattle.scan.specs.Bytes.{choice_at, either}
use Rattle.scan.specs.Words.{any, word_at}
use Rattle.graph.specs.declared.circuit.Lit.{Lit}

-- the literals up to the line end, in at most this number of steps
unfoldable pub literals_at : ℕ → List ℕ → Read (List Lit)
literals_at zero bytes = None
literals_at (suc n) bytes = do
  w ← word_at 4294967295 any (either 32 10) bytes
  if w.0.1 == 10 then Some (record { 0 = w.0.0 } ∷ [], w.1) else (literals_at n w.1 >>= λ r. Some (record { 0 = w.0.0 } ∷ r.0, r.1))

-- the line of a clause
unfoldable pub clause_at : List ℕ → Read (List Lit)
clause_at bytes = choice_at 10 (λ rest. Some ([], rest)) (λ text. literals_at (suc (length text)) text) bytes

-- the first byte is that of a certificate
abbrev pub begins_certificate : List ℕ → Bool
begins_certificate [] = false
begins_certificate (c ∷ cs) = c == 97
