-- The columns of a row, as a loop reads them.
use Rattle.std.proofs.Common.{◌≡◌, ℕ, ◌+◌, ◌≤◌, ◌<◌, Bool, true, List, [], ◌∷◌, ◌++◌, length, drop, get_or, Option, Some, None, refl, sym, ap, ◌∙◌, append_assoc}
use Rattle.std.specs.Prelude.{codes}
use Rattle.std.proofs.lemmas.Bool.{eqb-true}
use Rattle.std.proofs.lemmas.List.{append-nil, at_drop_more, at_drop_all}
use Rattle.scan.specs.declared.fault.Fault.{Fault}
use Rattle.scan.specs.declared.fault.Fault.TheVariants.{Memory, Text}
use Rattle.scan.specs.Bytes.{tag_at}
use Rattle.scan.specs.Reading.{◌>>=◌, Read, Fails}
use Rattle.scan.proofs.Loops.{with_front}
use Rattle.graph.specs.declared.circuit.Latch.{Latch}
use Rattle.graph.specs.declared.circuit.Lit.{Lit}
use Rattle.invariant.specs.Plas.{literals_against}
use Rattle.invariant.specs.PlaReading.{begins_dot, row_at, value_at}

-- what stands for an item where there is none
abbrev pub no_latch : Latch
no_latch = record { lit = record { 0 = 0 }; next = record { 0 = 0 }; reset = record { 0 = 0 } }

regroup_all : {A : Type 0} (front xs : List A) (read : Read (List A)) → with_front front (read >>= λ x. Some (xs ++ x.0, x.1)) ≡ with_front (front ++ xs) read
regroup_all {A} front xs (Some x) = ap (λ (ns : List A). Some (ns, x.1)) (sym (append_assoc front xs x.0))
regroup_all front xs None = refl

row_step : (front : List Lit) (l : Latch) (ls : List Latch) (bytes after : List ℕ) (v : Option Bool) → value_at bytes ≡ Some (v, after)
    → with_front front (row_at (l ∷ ls) bytes) ≡ with_front (front ++ literals_against l v) (row_at ls after)
unfolding row_at
row_step front l ls bytes after v e = rw e (regroup_all front (literals_against l v) (row_at ls after))

row_none : (l : Latch) (ls : List Latch) (bytes : List ℕ) → value_at bytes ≡ None → row_at (l ∷ ls) bytes ≡ None
unfolding row_at
row_none l ls bytes e = rw e refl

pub row_more : (front : List Lit) (columns : List Latch) (i : ℕ) (d : Latch) (bytes after : List ℕ) (v : Option Bool) (total : Read (List Lit)) → i < length columns → value_at bytes ≡ Some (v, after)
    → with_front front (row_at (drop i columns) bytes) ≡ total → with_front (front ++ literals_against (get_or columns i d) v) (row_at (drop (i + 1) columns) after) ≡ total
row_more front columns i d bytes after v total lt e so_far =
    sym (at_drop_more (λ ls. with_front front (row_at ls bytes)) columns i d lt ∙ row_step front (get_or columns i d) (drop (i + 1) columns) bytes after v e) ∙ so_far

pub row_fails : {K : Type 0} (f : Fault K) (front : List Lit) (columns : List Latch) (i : ℕ) (d : Latch) (bytes : List ℕ) (total : Read (List Lit)) → i < length columns → Fails f (value_at bytes)
    → with_front front (row_at (drop i columns) bytes) ≡ total → Fails f total
row_fails (Memory refused) front columns i d bytes total lt e so_far = tt
row_fails (Text kind left) front columns i d bytes total lt e so_far =
    sym so_far ∙ at_drop_more (λ ls. with_front front (row_at ls bytes)) columns i d lt
    ∙ ap (with_front front) (row_none (get_or columns i d) (drop (i + 1) columns) bytes e)

row_end : (bytes : List ℕ) → row_at [] bytes ≡ (tag_at (codes " 1\n") bytes >>= λ rest. Some ([], rest))
unfolding row_at
row_end bytes = refl

pub row_over : (front : List Lit) (columns : List Latch) (i : ℕ) (bytes : List ℕ) (total : Read (List Lit)) → length columns ≤ i
    → with_front front (row_at (drop i columns) bytes) ≡ total → total ≡ with_front front (tag_at (codes " 1\n") bytes >>= λ rest. Some ([], rest))
row_over front columns i bytes total le so_far =
    sym so_far ∙ at_drop_all (λ ls. with_front front (row_at ls bytes)) columns i le ∙ ap (with_front front) (row_end bytes)

pub row_done : (front : List Lit) (columns : List Latch) (i : ℕ) (bytes rest : List ℕ) (total : Read (List Lit)) → length columns ≤ i → tag_at (codes " 1\n") bytes ≡ Some rest
    → with_front front (row_at (drop i columns) bytes) ≡ total → total ≡ Some (front, rest)
row_done front columns i bytes rest total le e so_far =
    row_over front columns i bytes total le so_far ∙ rw e (ap (λ (ns : List Lit). Some (ns, rest)) (append-nil front))

pub row_unended : {K : Type 0} (f : Fault K) (front : List Lit) (columns : List Latch) (i : ℕ) (bytes : List ℕ) (total : Read (List Lit)) → length columns ≤ i → Fails f (tag_at (codes " 1\n") bytes)
    → with_front front (row_at (drop i columns) bytes) ≡ total → Fails f total
row_unended (Memory refused) front columns i bytes total le e so_far = tt
row_unended (Text kind left) front columns i bytes total le e so_far = row_over front columns i bytes total le so_far ∙ rw e refl

dot_none : (columns : List Latch) (rest : List ℕ) → row_at columns (46 ∷ rest) ≡ None
unfolding row_at tag_at
dot_none [] rest = refl
dot_none (l ∷ ls) rest = refl

-- no row begins with a dot
pub row_dot : (columns : List Latch) (bytes : List ℕ) → begins_dot bytes ≡ true → row_at columns bytes ≡ None
row_dot columns [] e = absurd cc
row_dot columns (c ∷ cs) e = ap (λ (d : ℕ). row_at columns (d ∷ cs)) (eqb-true c 46 e) ∙ dot_none columns cs
