-- Latches and gates of an addition that are kept, by new variables.
use Rattle.std.specs.Prelude.{◌≡◌, ℕ, ◌<◌, ◌++◌, Bool, true, false, not, ◌&&◌, ◌||◌, List, [], filter, get_or, length, map, nat_lt}
use Rattle.std.specs.List.{list_all}
use Rattle.graph.specs.declared.circuit.Lit.{Lit}
use Rattle.graph.specs.declared.circuit.Latch.{Latch}
use Rattle.graph.specs.declared.circuit.Gate.{Gate}
use Rattle.graph.specs.Circuits.{variable}
use Rattle.witness_pairs.specs.Renamed.{renamed, renamed_gate, renamed_latch}
use Rattle.witness_additions.specs.declared.naming.Addition.{Addition}
use Rattle.witness_additions.specs.declared.trimming.Trimmed.{Trimmed}

-- whether the literal's variable is needed
abbrev pub is_needed : List Bool → Lit → Bool
is_needed needed a = get_or needed (variable a) false

-- the latches that are needed, by the literals for their variables
abbrev pub kept_latches : List Lit → List Bool → List Latch → List Latch
kept_latches literals needed latches = map (renamed_latch literals) (filter (λ l. is_needed needed l.lit) latches)

-- the gates that are needed, and those that are not
abbrev pub needed_gates : List Lit → List Bool → List Gate → List Gate
needed_gates literals needed gates = map (renamed_gate literals) (filter (λ g. is_needed needed g.lhs) gates)

abbrev pub other_gates : List Lit → List Bool → List Gate → List Gate
other_gates literals needed gates = map (renamed_gate literals) (filter (λ g. not (is_needed needed g.lhs)) gates)

-- the needed latches, the needed gates and then the other ones, and the names, all by the literals for their variables
pub record IsTrimmed (literals : List Lit) (needed : List Bool) (a : Addition) (t : Trimmed) : Type 0 where
  pub names : t.addition.names.items ≡ map (renamed literals) a.names.items
  pub latches : t.addition.latches ≡ kept_latches literals needed a.latches
  pub gates : t.addition.gates ≡ needed_gates literals needed a.gates ++ other_gates literals needed a.gates
  pub count : t.needed ≡ length (needed_gates literals needed a.gates)

-- whether the literal's variable is one of the model's, which are those below the first one, or is needed
abbrev pub is_kept : ℕ → List Bool → Lit → Bool
is_kept first needed a = nat_lt (variable a) first || is_needed needed a

-- whether what a latch goes to and begins with is kept, where the latch is needed
abbrev pub keeps_latch : ℕ → List Bool → Latch → Bool
keeps_latch first needed l = not (is_needed needed l.lit) || (is_kept first needed l.next && is_kept first needed l.reset)

-- whether what a gate reads is kept, where the gate is needed
abbrev pub keeps_gate : ℕ → List Bool → Gate → Bool
keeps_gate first needed g = not (is_needed needed g.lhs) || (is_kept first needed g.rhs0 && is_kept first needed g.rhs1)

-- each clause's variables are kept, and what needed latches and gates rest on
pub record AreKept (first : ℕ) (needed : List Bool) (a : Addition) (clauses : List (List Lit)) : Type 0 where
  pub literals : (k : ℕ) → k < length clauses → list_all (is_kept first needed) (get_or clauses k []) ≡ true
  pub latches : list_all (keeps_latch first needed) a.latches ≡ true
  pub gates : list_all (keeps_gate first needed) a.gates ≡ true
