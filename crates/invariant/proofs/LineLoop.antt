-- Lines one after another are read as they are spelled.
use Rattle.base.specs.Witness.{witness}
use Rattle.std.proofs.Common.{◌≡◌, ℕ, ◌<◌, List, [], ◌∷◌, ◌++◌, length, Some, None, refl, sym, ap, subst, ◌∙◌, append_assoc, arith}
use Rattle.std.proofs.lemmas.List.{append-nil, length-append}
use Rattle.std.proofs.lemmas.Option.{none-some}
use Rattle.scan.specs.Reading.{Fails}
use Rattle.scan.specs.declared.fault.Fault.{Fault}
use Rattle.scan.specs.declared.fault.Fault.TheVariants.{Memory, Text}
use Rattle.scan.proofs.Toolbox.{spells_once}
use Rattle.graph.specs.declared.circuit.Lit.{Lit}
use Rattle.invariant.specs.Reading.{clause_at}
use Rattle.invariant.specs.Texts.{SpellsClause, SpellsClauses}
use Rattle.invariant.specs.declared.invariant_fault.InvariantFault.{InvariantFault}
use Rattle.invariant.proofs.ClauseLaws.{clause_reads, clause_takes}

none_spelled : (cs : List (List Lit)) → SpellsClauses [] cs → cs ≡ []
none_spelled [] e = refl
none_spelled (c ∷ cs) (a, b, one, others, whole) = absurd (omega (arith, clause_takes a c one, ap length whole, length-append a b))

each_push : (t a : List ℕ) (cs : List (List Lit)) (c : List Lit) → SpellsClauses t cs → SpellsClause a c → SpellsClauses (t ++ a) (cs ++ c ∷ [])
each_push t a [] c e r = (a, [], r, refl, ap (λ (w : List ℕ). w ++ a) e ∙ sym (append-nil a))
each_push t a (d ∷ ds) c (b, e, one, others, whole) r =
    (b, e ++ a, one, each_push e a ds c others r, ap (λ (w : List ℕ). w ++ a) whole ∙ append_assoc b e a)

-- where the front of a text spells clauses, what the whole text spells begins with them
each_rest : (done rest : List ℕ) (xs ys : List (List Lit)) → SpellsClauses done xs → SpellsClauses (done ++ rest) ys
    → (zs : List (List Lit)) × (ys ≡ xs ++ zs) × SpellsClauses rest zs
each_rest done rest [] ys e all = (ys, refl, rw e at all)
each_rest done rest (x ∷ xs) [] (a, b, one, others, whole) all =
    absurd (omega (arith, clause_takes a x one, ap length whole, length-append a b, length-append done rest, ap length all))
each_rest done rest (x ∷ xs) (y ∷ ys) (a, b, one, others, whole) (c, d, two, more, parts) =
    let same = spells_once clause_reads a c x y (b ++ rest) d one two (sym (append_assoc a b rest) ∙ ap (λ (w : List ℕ). w ++ rest) (sym whole) ∙ parts) in
    let r = each_rest b rest xs ys others (subst (λ (w : List ℕ). SpellsClauses w ys) (sym same.1) more) in
    (r.0, ap (λ (z : List Lit). z ∷ ys) (sym same.0) ∙ ap (λ (zs : List (List Lit)). x ∷ zs) r.1, r.2)

-- ---- the loop over the lines

-- the front of a text that was read spells these clauses, and the rest is still to be read
pub record HasRead (text rest : List ℕ) (cs : List (List Lit)) : Type 0 where
  pub front : List ℕ
  pub spelled : SpellsClauses front cs
  pub whole : text ≡ front ++ rest

pub read_more : (text rest after : List ℕ) (cs : List (List Lit)) (c : List Lit) → HasRead text rest cs → clause_at rest ≡ Some (c, after) → HasRead text after (cs ++ c ∷ [])
read_more text rest after cs c h e =
    let s = clause_reads.sound rest c after e in
    record {
      front = h.front ++ s.0;
      spelled = each_push h.front s.0 cs c h.spelled s.1;
      whole = h.whole ∙ ap (λ (w : List ℕ). h.front ++ w) s.2 ∙ sym (append_assoc h.front s.0 after);
    }

pub read_shorter : (rest after : List ℕ) (c : List Lit) → clause_at rest ≡ Some (c, after) → length after < length rest
read_shorter rest after c e =
    let s = clause_reads.sound rest c after e in
    omega (arith, clause_takes s.0 c s.1, ap length s.2, length-append s.0 after)

pub read_done : (text : List ℕ) (cs : List (List Lit)) → HasRead text [] cs → SpellsClauses text cs
read_done text cs h = rw (h.whole ∙ append-nil h.front) h.spelled

pub read_only : (text : List ℕ) (cs others : List (List Lit)) → HasRead text [] cs → SpellsClauses text others → cs ≡ others
read_only text cs others h s =
    let r = each_rest h.front [] cs others h.spelled (subst (λ (w : List ℕ). SpellsClauses w others) h.whole s) in
    sym (r.1 ∙ ap (λ (zs : List (List Lit)). cs ++ zs) (none_spelled r.0 r.2) ∙ append-nil cs)

stuck : (rest : List ℕ) (cs : List (List Lit)) → 0 < length rest → clause_at rest ≡ None → SpellsClauses rest cs → ⊥
stuck rest [] lt e s = omega (arith, lt, ap length s)
stuck rest (c ∷ cs) lt e (a, b, one, others, whole) =
    none-some (c, b) (sym e ∙ ap clause_at whole ∙ clause_reads.complete a c b one)

read_stuck : (text rest : List ℕ) (cs others : List (List Lit)) → HasRead text rest cs → 0 < length rest → clause_at rest ≡ None → SpellsClauses text others → ⊥
read_stuck text rest cs others h lt e s =
    let r = each_rest h.front rest cs others h.spelled (subst (λ (w : List ℕ). SpellsClauses w others) h.whole s) in
    stuck rest r.0 lt e r.2

-- only when out of memory
pub read_fails : (text rest : List ℕ) (cs others : List (List Lit)) (e : Fault InvariantFault) → HasRead text rest cs → 0 < length rest → Fails e (clause_at rest) → SpellsClauses text others → e ≡ Memory witness
read_fails text rest cs others (Memory refused) h lt f s = refl
read_fails text rest cs others (Text kind left) h lt f s = absurd (read_stuck text rest cs others h lt f s)
