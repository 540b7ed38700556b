-- What structural hashing keeps of a circuit, and what it makes of it.
use Rattle.std.specs.Prelude.{◌≡◌, ◌≢◌, ◌≤◌, Bool, true, false, ◌==◌, if◌then◌else◌, map, length, All, AllPairs, Option, None, Some}
use Rattle.graph.specs.declared.circuit.Latch.{Latch}
use Rattle.graph.specs.declared.circuit.Gate.{Gate}
use Rattle.graph.specs.declared.parts.Parts.{Parts}
use Rattle.graph.specs.Circuits.{Valuation, variable, value_of, state_of, inputs_of, Agrees, IsOrdered}
use Rattle.graph.specs.Symbols.{symbol_counts}

-- the value that a latch begins with, if it is reset to one
abbrev pub start_of : Latch → Option Bool
start_of l = if l.reset.0 == 0 then Some false else (if l.reset.0 == 1 then Some true else None)

-- what the circuits show has the same values, by position
pub record ShowsSame (m s : Parts) (w x : Valuation) : Type 0 where
  pub nexts : map (λ l. value_of x l.next) s.latches ≡ map (λ l. value_of w l.next) m.latches
  pub outputs : map (value_of x) s.outputs ≡ map (value_of w) m.outputs
  pub bad : map (value_of x) s.bad ≡ map (value_of w) m.bad
  pub constraints : map (value_of x) s.constraints ≡ map (value_of w) m.constraints
  pub justice : map (map (value_of x)) s.justice ≡ map (map (value_of w)) m.justice
  pub fairness : map (value_of x) s.fairness ≡ map (value_of w) m.fairness

-- neither right side is a constant, and their variables are two
pub record IsProper (g : Gate) : Type 0 where
  pub left : variable g.rhs0 ≢ 0
  pub right : variable g.rhs1 ≢ 0
  pub two : variable g.rhs0 ≢ variable g.rhs1

-- the right sides are not the same
abbrev pub AreApart : Gate → Gate → Type 0
AreApart g h = g.rhs0 ≡ h.rhs0 → g.rhs1 ≡ h.rhs1 → ⊥

-- a circuit with as many inputs, latches, outputs and properties of each kind, which are the same by position, in the
-- numbering of the binary layout and without needless gates
pub record IsShrunk (m s : Parts) : Type 0 where
  pub counts : symbol_counts s ≡ symbol_counts m
  pub starts : map start_of s.latches ≡ map start_of m.latches
  pub shows : (w x : Valuation) → Agrees m w → Agrees s x → inputs_of s x ≡ inputs_of m w → state_of s x ≡ state_of m w → ShowsSame m s w x
  pub ordered : IsOrdered s
  pub proper : All IsProper s.gates
  pub apart : AllPairs AreApart s.gates
  pub few : length s.gates ≤ length m.gates
