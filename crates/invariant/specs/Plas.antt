-- ABC's PLA: cubes of states that are not reached, whose columns are latches.
use Rattle.std.specs.Prelude.{◌≡◌, ◌↔◌, ℕ, ◌+◌, ◌*◌, ◌<◌, ◌^◌, Bool, true, false, not, ◌&&◌, ◌||◌, List, [], ◌∷◌, ◌++◌, length, map, flat_map, All, codes, decimal, Option, Some, None, ◌==◌, if◌then◌else◌}
use Rattle.scan.specs.Reading.{◌>>=◌, Read}
use Rattle.scan.specs.Bytes.{tag_at}
use Rattle.scan.specs.Numbers.{begins_digit, digits_after}
use Rattle.graph.specs.File.{File}
use Rattle.graph.specs.Symbols.{index_of}
use Rattle.graph.specs.Circuits.{Valuation, place, value_of, variable}
use Rattle.graph.specs.declared.circuit.Latch.{Latch}
use Rattle.graph.specs.declared.circuit.Lit.{Lit}
use Rattle.graph.specs.declared.symbol.Symbol.{Symbol}

-- ---- cubes and their clauses

-- a row's byte for what it says of a column: 0, 1, or nothing
abbrev pub value_byte : Option Bool → ℕ
value_byte None = 45
value_byte (Some false) = 48
value_byte (Some true) = 49

-- a cube's row
abbrev pub cube_row : List (Option Bool) → List ℕ
cube_row cube = map value_byte cube ++ codes " 1\n"

-- ABC turns a latch round that is reset to 1
abbrev pub latch_value : Latch → Bool → Bool
latch_value l b = if l.reset.0 == 1 then not b else b

-- the literal that is false where the latch has the column's value
abbrev pub literal_against : Latch → Bool → Lit
literal_against l b = record { 0 = 2 * variable l.lit + (if latch_value l b then 1 else 0) }

abbrev pub literals_against : Latch → Option Bool → List Lit
literals_against l None = []
literals_against l (Some b) = literal_against l b ∷ []

-- the clause of a cube is its negation
abbrev pub clause_of : List Latch → List (Option Bool) → List Lit
clause_of [] cube = []
clause_of (l ∷ ls) [] = []
clause_of (l ∷ ls) (b ∷ cube) = literals_against l b ++ clause_of ls cube

-- the latches have the values that the cube says
abbrev pub IsIn : Valuation → List Latch → List (Option Bool) → Type 0
IsIn w [] cube = Unit {0}
IsIn w (l ∷ ls) [] = Unit {0}
IsIn w (l ∷ ls) (None ∷ cube) = IsIn w ls cube
IsIn w (l ∷ ls) (Some b ∷ cube) = (place w (variable l.lit) ≡ latch_value l b) × IsIn w ls cube

-- a clause is false exactly where the latches have the values of its cube
abbrev pub NegationLaw : Type 0
NegationLaw = (w : Valuation) (columns : List Latch) (cube : List (Option Bool)) → IsIn w columns cube ↔ All (λ a. value_of w a ≡ false) (clause_of columns cube)

-- ---- the text

-- what follows the lines that begin with a number sign; inside one of them, what follows that too
abbrev pub behind_comments : Bool → List ℕ → List ℕ
behind_comments inside [] = []
behind_comments true (c ∷ cs) = behind_comments (not (c == 10)) cs
behind_comments false (c ∷ cs) = if c == 35 then behind_comments true cs else c ∷ cs

-- how many columns and cubes there are
abbrev pub head : ℕ → ℕ → List ℕ
head columns cubes = codes ".i " ++ (decimal columns ++ (codes "\n.o 1\n.p " ++ (decimal cubes ++ codes "\n")))

-- ---- the columns

-- a space or a line end comes next
abbrev pub ends_name : List ℕ → Bool
ends_name [] = false
ends_name (c ∷ cs) = (c == 32) || (c == 10)

-- what follows a space and the name
abbrev pub name_at : List ℕ → List ℕ → Option (List ℕ)
name_at name bytes = do
  behind ← tag_at (codes " ") bytes
  rest ← tag_at name behind
  if ends_name rest then Some rest else None

abbrev pub name_ended : Read ℕ → Read ℕ
name_ended read = read >>= λ r. if ends_name r.1 then Some r else None

-- the number in ABC's own name of a latch, with zeros before it or not, and what follows
abbrev pub own_name_at : List ℕ → Read ℕ
own_name_at bytes = do
  digits ← tag_at (codes " lo") bytes
  if begins_digit digits then name_ended (Some (digits_after 4294967295 0 digits)) else None

-- the name that the last such symbol gives the latch at a position
abbrev pub symbol_name : Option (List ℕ) → List Symbol → ℕ → Option (List ℕ)
symbol_name before [] k = before
symbol_name before (s ∷ ss) k = symbol_name (if (index_of s.kind == 1) && (s.position == k) then Some s.name else before) ss k

abbrev pub behind_own : ℕ → Read ℕ → Option (List ℕ)
behind_own k None = None
behind_own k (Some own) = if own.0 == k then Some own.1 else None

abbrev pub first_of : Option (List ℕ) → Option (List ℕ) → Option (List ℕ)
first_of None other = other
first_of (Some rest) other = Some rest

-- what follows the name of the latch at position k: its symbol's, or ABC's own
abbrev pub latch_at : Option (List ℕ) → ℕ → Read ℕ → List ℕ → Option (List ℕ)
latch_at None k own bytes = behind_own k own
latch_at (Some name) k own bytes = first_of (name_at name bytes) (behind_own k own)

abbrev pub with_column : Latch → Option (List ℕ) → List ℕ → (List ℕ → List Latch × List ℕ) → List Latch × List ℕ
with_column l None bytes later = later bytes
with_column l (Some rest) bytes later = (l ∷ (later rest).0, (later rest).1)

-- the latches from position k on whose names come next, in their order, and what follows those
abbrev pub named_from : (ℕ → Option (List ℕ)) → ℕ → List Latch → List ℕ → List Latch × List ℕ
named_from names k [] bytes = ([], bytes)
named_from names k (l ∷ ls) bytes = with_column l (latch_at (names k) k (own_name_at bytes) bytes) bytes (named_from names (k + 1) ls)

abbrev pub names_ended : List Latch × List ℕ → Read (List Latch)
names_ended r = tag_at (codes "\n.ob inv\n") r.1 >>= λ rest. Some (r.0, rest)

abbrev pub columns_behind : File → Option (List ℕ) → List ℕ → Read (List Latch)
columns_behind file None bytes = Some (file.model.latches, bytes)
columns_behind file (Some names) bytes = names_ended (named_from (symbol_name None file.symbols) 0 file.model.latches names)

-- the columns that the names give, or all latches where there are none, and what follows
abbrev pub columns_at : File → List ℕ → Read (List Latch)
columns_at file bytes = columns_behind file (tag_at (codes ".ilb") bytes) bytes

-- the text is a PLA over latches of the circuit, and these are the clauses of its cubes
pub record SpellsPla (file : File) (text : List ℕ) (clauses : List (List Lit)) : Type 0 where
  pub columns : List Latch
  pub cubes : List (List (Option Bool))
  pub names : List ℕ
  pub rest : List ℕ
  pub blank : List ℕ
  pub few : (length columns < 2 ^ 32) × (length cubes < 2 ^ 32)
  pub begins : behind_comments false text ≡ head (length columns) (length cubes) ++ names
  pub named : columns_at file names ≡ Some (columns, rest)
  pub rows : rest ≡ flat_map cube_row cubes ++ (codes ".e\n" ++ blank)
  pub lines : All (λ c. c ≡ 10) blank
  pub wide : All (λ cube. length cube ≡ length columns) cubes
  pub negated : clauses ≡ map (clause_of columns) cubes
