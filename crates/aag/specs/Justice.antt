-- How justice properties are read: all sizes, and then all literals.
use Rattle.std.specs.Prelude.{ℕ, ◌-◌, zero, suc, List, [], ◌∷◌, Some}
use Rattle.scan.specs.Reading.{◌>>=◌, Read}
use Rattle.scan.specs.Words.{any, field_at}
use Rattle.scan.specs.Lists.{many_at}
use Rattle.graph.specs.declared.circuit.Lit.{Lit}
use Rattle.aag.specs.Lines.{greatest, literal_at}

-- as many sizes as the count says, of no more than room in all
unfoldable pub sizes_at : ℕ → ℕ → List ℕ → Read (List ℕ)
sizes_at room zero bytes = Some ([], bytes)
sizes_at room (suc n) bytes = do
  size ← field_at room any 10 bytes
  others ← sizes_at (room - size.0) n size.1
  Some (size.0 ∷ others.0, others.1)

-- the literals of properties of these sizes
unfoldable pub properties_at : ℕ → List ℕ → List ℕ → Read (List (List Lit))
properties_at max [] bytes = Some ([], bytes)
properties_at max (size ∷ sizes) bytes = do
  first ← many_at (literal_at max any 10) size bytes
  others ← properties_at max sizes first.1
  Some (first.0 ∷ others.0, others.1)

-- as many justice properties as the count says
unfoldable pub justice_at : ℕ → ℕ → List ℕ → Read (List (List Lit))
justice_at max count bytes = do
  sizes ← sizes_at greatest count bytes
  properties_at max sizes.0 sizes.1
