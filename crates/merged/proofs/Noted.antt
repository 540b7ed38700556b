-- A table of what the clauses say, one place after the other.
use Rattle.std.proofs.Common.{◌≡◌, ◌∙◌, ℕ, zero, suc, ◌+◌, ◌<◌, inl, inr, List, [], ◌∷◌, length, get_or, set, All, Option, None, Some, refl, sym, ap, subst, arith, replicate}
use Rattle.std.proofs.lemmas.Bool.{cases_eq, cases_lt}
use Rattle.std.proofs.lemmas.List.{get_or-set_same, get_or-set_other}
use Rattle.std.proofs.lemmas.List.Elements.{All-nil, All-head, All-tail}
use Rattle.std.proofs.lemmas.Option.{same_Some, none-some}
use Rattle.graph.specs.declared.circuit.Lit.{Lit}
use Rattle.graph.specs.declared.parts.Parts.{Parts}
use Rattle.graph.specs.Circuits.{variable}
use Rattle.graph.specs.WellFormed.{IsWellFormed}
use Rattle.cnf.specs.Formulas.{clause_at, IsOverLatches}
use Rattle.cnf.proofs.CaseLaws.{clause_range}
use Rattle.merged.specs.Reading.{entry, Says, SaysAt, IsTableTo, IsTable, IsRoomy}
use Rattle.merged.specs.Merged.{merged_parts, IsMerged}
use Rattle.merged.proofs.Formed.{sources, merged_well_formed}

abbrev blank : Lit
blank = record { 0 = 0 }

-- it is the variable of the clause's first literal
says_first : (c d : List Lit) (v : ℕ) (b : Lit) → Says c d v b → v ≡ variable (get_or c 0 blank)
says_first c d v b (inl said) = said.variable_is ∙ ap (λ (xs : List Lit). variable (get_or xs 0 blank)) (sym said.here)
says_first c d v b (inr said) = said.variable_is ∙ ap (λ (xs : List Lit). variable (get_or xs 0 blank)) (sym said.here)

says_some : (c d : List Lit) (v : ℕ) (b : Lit) → Says c d v b → 0 < length c
says_some c d v b (inl said) = omega (arith, ap length said.here)
says_some c d v b (inr said) = omega (arith, ap length said.here)

all_at : (P : Lit → Type 0) (cs : List (List Lit)) (k : ℕ) → All (All P) cs → All P (clause_at cs k)
all_at P [] k all = All-nil P
all_at P (c ∷ cs) zero all = All-head (All P) c cs all
all_at P (c ∷ cs) (suc k) all = all_at P cs k (All-tail (All P) c cs all)

-- a variable of which clauses speak is in range
pub said_inside : (cs : List (List Lit)) (k n v : ℕ) (b : Lit) (c d : List Lit) → All (All (λ a. (a.0 < 4294967294) × (variable a < n))) cs → c ≡ clause_at cs k → Says c d v b → v < n
said_inside cs k n v b c d all is said =
    let P : Lit → Type 0 = λ a. (a.0 < 4294967294) × (variable a < n) in
    let here : All P c = subst (All P) (sym is) (all_at P cs k all) in
    let first : v ≡ variable (get_or c 0 blank) = says_first c d v b said in
    let range = here 0 blank (says_some c d v b said) in
    omega (arith, first, range.1)

pub small_at : (cs : List (List Lit)) (k n : ℕ) (c : List Lit) → All (All (λ a. (a.0 < 4294967294) × (variable a < n))) cs → c ≡ clause_at cs k → All (λ a. a.0 < 4294967294) c
small_at cs k n c all is =
    let P : Lit → Type 0 = λ a. (a.0 < 4294967294) × (variable a < n) in
    let here : All P c = subst (All P) (sym is) (all_at P cs k all) in
    λ i d i_in. (here i d i_in).0

abbrev no_lit : Option Lit
no_lit = None

none_there : (n v : ℕ) → entry (replicate n no_lit) v ≡ no_lit
none_there zero v = refl
none_there (suc n) zero = refl
none_there (suc n) (suc v) = none_there n v

-- nothing is noted yet
pub table_none : (cs : List (List Lit)) (n : ℕ) → IsTableTo cs 0 (replicate n None)
table_none cs n = record {
  said = λ v b is. absurd (none-some b (sym (none_there n v) ∙ is));
  whole = λ k v b lt said. absurd (omega arith);
}

-- nothing is said at the place
pub table_kept : (cs : List (List Lit)) (n : ℕ) (t : List (Option Lit)) → IsTableTo cs n t → ((v : ℕ) (b : Lit) → SaysAt cs n v b → ⊥) → IsTableTo cs (n + 1) t
table_kept cs n t h none = record {
  said = h.said;
  whole = λ k v b lt said. elim (cases_lt k n) [
    | inl before ↦ h.whole k v b before said
    | inr past ↦ let same : k ≡ n = omega (arith, lt, past) in absurd (none v b (subst (λ i. SaysAt cs i v b) same said))
  ];
}

abbrev Is : List (Option Lit) → ℕ → Type 0
Is t v = (c : Lit) × (entry t v ≡ Some c)

set_keeps : (t : List (Option Lit)) (v w : ℕ) (b : Lit) → v < length t → Is t w → Is (set t v (Some b)) w
set_keeps t v w b inside is = elim (cases_eq w v) [
  | inl same ↦ (b, ap (λ i. get_or (set t v (Some b)) i None) same ∙ get_or-set_same t v (Some b) None inside)
  | inr other ↦ (is.0, get_or-set_other t v w (Some b) None other ∙ is.1)
]

-- what is said there is noted
pub table_more : (cs : List (List Lit)) (n : ℕ) (t : List (Option Lit)) (v : ℕ) (b : Lit) → v < length t → IsTableTo cs n t → SaysAt cs n v b → IsTableTo cs (n + 1) (set t v (Some b))
table_more cs n t v b inside h here = record {
  said = λ w d is. elim (cases_eq w v) [
    | inl same ↦
        let at : Some b ≡ Some d = sym (get_or-set_same t v (Some b) None inside) ∙ ap (λ i. get_or (set t v (Some b)) i None) (sym same) ∙ is in
        (n, subst (λ i. SaysAt cs n i d) (sym same) (subst (SaysAt cs n v) (same_Some b d at) here))
    | inr other ↦ h.said w d (sym (get_or-set_other t v w (Some b) None other) ∙ is)
  ];
  whole = λ k w d lt said. elim (cases_lt k n) [
    | inl before ↦ set_keeps t v w b inside (h.whole k w d before said)
    | inr past ↦
        let at : k ≡ n = omega (arith, lt, past) in
        let there : SaysAt cs n w d = subst (λ i. SaysAt cs i w d) at said in
        let same : w ≡ v = says_first (clause_at cs n) (clause_at cs (n + 1)) w d there ∙ sym (says_first (clause_at cs n) (clause_at cs (n + 1)) v b here) in
        (b, ap (λ i. get_or (set t v (Some b)) i None) same ∙ get_or-set_same t v (Some b) None inside)
  ];
}

-- clauses over the latches
pub range_of : (m : Parts) (cs : List (List Lit)) (n : ℕ) → IsWellFormed m → All (IsOverLatches m) cs → n ≡ m.max_var + 1 → All (All (λ a. (a.0 < 4294967294) × (variable a < n))) cs
range_of m cs n well overs is k d k_in i e i_in =
    let range = clause_range m (get_or cs k d) well (overs k d k_in) i e i_in in
    let small = well.limits.max_var in
    (omega (arith, range, small), omega (arith, range, is))

pub roomy : (m : Parts) (cs : List (List Lit)) (t : List (Option Lit)) → IsWellFormed m → All (IsOverLatches m) cs → IsTable cs t → IsRoomy t
roomy m cs t well overs is_table v b is =
    let range = (sources m cs t well overs is_table v b is).range in
    let small = well.limits.max_var in
    omega (arith, range, small)

pub formed : (m s : Parts) (cs : List (List Lit)) (t : List (Option Lit)) → IsWellFormed m → All (IsOverLatches m) cs → IsTable cs t → s ≡ merged_parts m t → IsWellFormed s
formed m s cs t well overs is_table is = subst IsWellFormed (sym is) (merged_well_formed m t well (sources m cs t well overs is_table))

pub is_merged : (m s : Parts) (cs : List (List Lit)) (t : List (Option Lit)) → IsTable cs t → s ≡ merged_parts m t → IsMerged m s cs
is_merged m s cs t is_table is = record { table = t; is_table = is_table; only = is }

-- a table that has nothing
blank_entry : (t : List (Option Lit)) → All (λ o. o ≡ None) t → (v : ℕ) → entry t v ≡ None
blank_entry [] all v = refl
blank_entry (o ∷ t) all zero = All-head (λ (x : Option Lit). x ≡ None) o t all
blank_entry (o ∷ t) all (suc v) = blank_entry t (All-tail (λ (x : Option Lit). x ≡ None) o t all) v

-- clauses that say something stand at a place that there is
clause_there : (cs : List (List Lit)) (k : ℕ) → 0 < length (clause_at cs k) → k < length cs
clause_there [] k some = absurd (omega (arith, some))
clause_there (c ∷ cs) zero some = omega arith
clause_there (c ∷ cs) (suc k) some = let rest = clause_there cs k some in omega (arith, rest)

pub says_nothing : (cs : List (List Lit)) (t : List (Option Lit)) → IsTable cs t → All (λ o. o ≡ None) t → (k v : ℕ) (b : Lit) → SaysAt cs k v b → ⊥
says_nothing cs t is_table all k v b said =
    let inside : k < length cs = clause_there cs k (says_some (clause_at cs k) (clause_at cs (k + 1)) v b said) in
    let is = is_table.whole k v b inside said in
    none-some is.0 (sym (blank_entry t all v) ∙ is.1)
