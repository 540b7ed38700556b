-- A proof as it is written down while the search goes on (LRAT 2017).
use Rattle.std.specs.Prelude.{◌≡◌, ℕ, ℤ, ◌+◌, ◌<◌, ◌≤◌, ◌⊎◌, nat_lt, if◌then◌else◌, Bool, true, false, List, [], ◌∷◌, ◌++◌, map, neg_ℤ, unsigned_abs, length, All, Contains, Option, Some, IfSome}
use Rattle.std.specs.FinMap as fin
use Rattle.lrat.specs.Limits.{IsLine}
use Rattle.lrat.specs.Shared.{unit_clauses}
use Rattle.lrat.specs.Stages.{Stage, GoAlong, is_nil}
use Rattle.lrat.specs.Proofs.{numbered_from}
use Rattle.lrat.specs.declared.formula.Formula.{Formula}
use Rattle.lrat.specs.declared.line.Line.{Line}
use Rattle.lrat.specs.declared.line.Line.TheVariants.{Add, Delete}
use Rattle.cdcl_kernel.specs.Kept.{Kept, find_in, added}
use Rattle.cdcl_kernel.specs.Verdicts.{IsOpposed}
use Rattle.cdcl_kernel.specs.declared.origin.Origin.TheVariants.{Added}
use Rattle.cdcl_log.specs.declared.logging.Logging.{Logging}
use Rattle.cdcl_log.specs.declared.logging.Logging.TheVariants.{Unwanted, Open, Closed}
use Rattle.cdcl_log.specs.declared.numbering.Numbering.{Numbering}

-- the id that a clause of the kernel has in the log: behind the clauses that were added there is room for units
abbrev pub shifted : Numbering → ℕ → ℕ
shifted n id = if nat_lt n.base id then id + n.room else id

-- the id of the first line
abbrev pub first_id : Numbering → ℕ
first_id n = n.base + n.room + 1

-- what a log begins with: the clauses that were added, and no further id below that of the first line
abbrev pub start : Formula → ℕ → Stage
start f room = record { present = numbered_from 1 f.clauses fin.empty; top = length f.clauses + room; closed = false }

-- the lines add clauses, none of them empty, under the ids from n on, by hints of lower ids
abbrev pub AreNumbered : ℕ → List Line → Type 0
AreNumbered n [] = Unit {0}
AreNumbered n (Add id c hints ∷ ls) = (id ≡ n) × (is_nil c ≡ false) × All (λ h. unsigned_abs h < n) hints × AreNumbered (n + 1) ls
AreNumbered n (Delete id ids ∷ ls) = ⊥

-- the lines of a log, in the limits
pub record AreLines (f : Formula) (n : Numbering) (ls : List Line) : Type 0 where
  pub base : n.base ≡ length f.clauses
  pub shared : n.shared ≤ length ls
  pub in_limits : All IsLine ls
  pub small : n.room ≤ 2147483647
  pub numbered : AreNumbered (first_id n) ls

-- the lines lead from the clauses that were added to a stage that has the kernel's clauses
pub record LeadTo (f : Formula) (n : Numbering) (ks : List Kept) (ls : List Line) : Type 0 where
  pub reached : Stage
  pub along : GoAlong f.vars (start f n.room) ls reached
  pub present : (id : ℕ) (c : List ℤ) → find_in ks id ≡ Some c → fin.get reached.present (shifted n id) ≡ Some c
  pub top : reached.top ≡ length ks + n.room
  pub count : length ks ≡ n.base + length ls
  pub is_open : reached.closed ≡ false

-- the lines lead somewhere, by ids that are taken
pub record Reaches (f : Formula) (n : Numbering) (ks : List Kept) (ls : List Line) : Type 0 where
  pub reached : Stage
  pub along : GoAlong f.vars (start f n.room) ls reached
  pub top : reached.top ≤ length ks + n.room

-- the line adds a clause behind the others
pub record IsNext (f : Formula) (n : Numbering) (ls : List Line) (c : List ℤ) (l : Line) : Type 0 where
  pub id : ℕ
  pub hints : List ℤ
  pub is : l ≡ Add id c hints
  pub in_limits : IsLine (Add id c hints)
  pub below : All (λ h. unsigned_abs h < first_id n + length ls) hints
  pub reached : Stage
  pub along : GoAlong f.vars (start f n.room) (ls ++ Add id c hints ∷ []) reached

-- the clause that a line adds
abbrev pub clause_of : Line → List ℤ
clause_of (Add id c hints) = c
clause_of (Delete id ids) = []

-- the formula of the clauses that were added
abbrev pub formula_of : ℕ → List Kept → Formula
formula_of n ks = record { vars = n; clauses = added ks }

-- the lines that are logged, and one that may follow: up to the clauses as they are, or up to the empty clause
abbrev pub IsLog : Logging → Numbering → ℕ → List Kept → List Line → Option Line → Type 0
IsLog Unwanted n v ks ls end = Unit {0}
IsLog Open n v ks ls end = AreLines (formula_of v ks) n ls × LeadTo (formula_of v ks) n ks ls × IfSome end (λ l. IsNext (formula_of v ks) n ls (clause_of l) l)
IsLog Closed n v ks ls end = AreLines (formula_of v ks) n ls × ((l : Line) × (end ≡ Some l) × IsNext (formula_of v ks) n ls [] l) × Reaches (formula_of v ks) n ks ls

-- what a search may not change: the variables, the clauses that were added, how far a log has come, its room for
-- units and its lines on which closings rest; and the clause of the line that may follow, and how many ids are taken, by
-- clauses and by the room for units
pub record Logged : Type 0 where
  pub vars : ℕ
  pub clauses : List (List ℤ)
  pub log : Logging
  pub room : ℕ
  pub shared : List Line
  pub end : Option (List ℤ)
  pub ids : ℕ

abbrev pub is_wanted : Logging → Bool
is_wanted Unwanted = false
is_wanted Open = true
is_wanted Closed = true

-- all ids are taken
abbrev pub IsFull : Logged → Type 0
IsFull k = 4294967295 ≤ k.ids

-- the clause that may follow denies some of these literals, and no others
abbrev pub EndDenies : Logged → List ℤ → Type 0
EndDenies k assume = (c : List ℤ) × (k.end ≡ Some c) × All (Contains assume) (map neg_ℤ c)

-- with a core, a log that is wanted has come to a clause that denies assumptions alone, or two of these are opposed
abbrev pub Ends : Logged → Logged → List ℤ → Type 0
Ends old new assume = is_wanted old.log ≡ true → ((l : ℤ) × IsOpposed assume l) ⊎ EndDenies new assume

-- the formula with these literals as further clauses
abbrev pub with_units : Formula → List ℤ → Formula
with_units f us = record { vars = f.vars; clauses = f.clauses ++ unit_clauses us }

-- the clauses that were added
abbrev pub added_to : Logged → Formula
added_to k = record { vars = k.vars; clauses = k.clauses }

-- a clause that was added
abbrev pub as_added : List ℤ → Kept
as_added c = record { origin = Added; clause = c }
