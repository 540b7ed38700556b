-- Justice properties are read as they are spelled.
use Rattle.std.proofs.Common.{◌≡◌, ℕ, zero, suc, ◌-◌, ◌^◌, ◌≤◌, ◌<◌, List, [], ◌∷◌, ◌++◌, length, get_or, drop, map, refl, sym, ap, ◌∙◌, arith, append_assoc}
use Rattle.std.specs.Prelude.{sum, sum_by}
use Rattle.std.proofs.lemmas.List.{append-nil, length-map}
use Rattle.std.proofs.lemmas.List.Concat.{flat_map-cons}
use Rattle.std.proofs.lemmas.List.Sums.{sum_by-cons, sum-map}
use Rattle.scan.specs.Words.{any, IsField}
use Rattle.scan.specs.Lists.{Each}
use Rattle.scan.specs.Spelling.{Nothing, Then}
use Rattle.scan.proofs.Toolbox.{Reads, reads_as, reads_nothing, reads_then}
use Rattle.scan.proofs.WordLaws.{field_reads}
use Rattle.scan.proofs.ListLaws.{Many, many_reads}
use Rattle.graph.specs.declared.circuit.Lit.{Lit}
use Rattle.graph.specs.Circuits.{justice_literals}
use Rattle.aag.specs.Lines.{greatest}
use Rattle.aag.specs.Justice.{sizes_at, properties_at, justice_at}
use Rattle.aag.specs.Spelling.{IsSizeLine, IsLiteralLine}
use Rattle.aag.proofs.LineLaws.{literal_reads}

-- ---- texts one after another

pub each_join : {A : Type 0} (R : List ℕ → A → Type 0) (a b : List ℕ) (xs ys : List A) → Each R a xs → Each R b ys → Each R (a ++ b) (xs ++ ys)
each_join R a b [] ys e f = rw e f
each_join R a b (x ∷ xs) ys (c, d, one, others, p) f =
    (c, d ++ b, one, each_join R d b xs ys others f, ap (λ (w : List ℕ). w ++ b) p ∙ append_assoc c d b)

pub each_cut : {A : Type 0} (R : List ℕ → A → Type 0) (t : List ℕ) (xs ys : List A) → Each R t (xs ++ ys) → (a : List ℕ) × (b : List ℕ) × Each R a xs × Each R b ys × (t ≡ a ++ b)
each_cut R t [] ys e = ([], t, refl, e, refl)
each_cut R t (x ∷ xs) ys (c, d, one, others, p) =
    let q = each_cut R d xs ys others in
    (c ++ q.0, q.1, (c, q.0, one, q.2, refl), q.3, p ∙ ap (λ (w : List ℕ). c ++ w) q.4 ∙ sym (append_assoc c q.0 q.1))

-- ---- sizes

-- as many sizes as the count says, of no more than room in all
abbrev Sizes : ℕ → ℕ → List ℕ → List ℕ → Type 0
Sizes room n t ns = (length ns ≡ n) × (sum ns ≤ room) × Each IsSizeLine t ns

abbrev SizesSplit : ℕ → ℕ → List ℕ → List ℕ → Type 0
SizesSplit room n = Then (IsField room any 10) (λ size. Then (Sizes (room - size) n) (λ others. Nothing (size ∷ others)))

no_sizes : (t ns : List ℕ) → length ns ≡ 0 → Each IsSizeLine t ns → (t ≡ []) × (ns ≡ [])
no_sizes t [] len e = (e, refl)
no_sizes t (n ∷ ns) len e = absurd (omega (arith, len))

sizes_to : (room n : ℕ) (t ns : List ℕ) → SizesSplit room n t ns → Sizes room (suc n) t ns
sizes_to room n t ns (size, a, b, field, (others, c, d, (len, few, each), end, p2), p1) =
    rw end.1 (
      ap suc len,
      omega (arith, sum_by-cons (λ x. x) size others, field.within, few),
      (a, c, field.spells, each, p1 ∙ ap (λ (w : List ℕ). a ++ w) (p2 ∙ ap (λ (w : List ℕ). c ++ w) end.0 ∙ append-nil c)),
    )

sizes_from : (room n : ℕ) (t ns : List ℕ) → Sizes room (suc n) t ns → SizesSplit room n t ns
sizes_from room n t [] (len, few, each) = absurd (omega (arith, len))
sizes_from room n t (size ∷ others) (len, few, (a, b, line, each, p)) = (
  size,
  a,
  b,
  record { spells = line; within = omega (arith, sum_by-cons (λ x. x) size others, few); is_good = refl },
  (others, b, [], (omega (arith, len), omega (arith, sum_by-cons (λ x. x) size others, few), each), (refl, refl), sym (append-nil b)),
  p,
)

sizes_reads : (n room : ℕ) → room < 2 ^ 32 → Reads (sizes_at room n) (Sizes room n)
unfolding sizes_at
sizes_reads zero room small = reads_as (Sizes room zero) (reads_nothing [])
    (λ t ns r. rw (r.1, r.0) (refl, omega arith, refl))
    (λ t ns (len, few, each). no_sizes t ns len each)
sizes_reads (suc n) room small = reads_as (Sizes room (suc n))
    (reads_then (field_reads room any 10 small refl) (λ size. reads_then (sizes_reads n (room - size) (omega arith)) (λ others. reads_nothing (size ∷ others))))
    (sizes_to room n) (sizes_from room n)

-- ---- literals

-- properties of these sizes
abbrev Properties : ℕ → List ℕ → List ℕ → List (List Lit) → Type 0
Properties max ns t js = (map length js ≡ ns) × Each (IsLiteralLine max) t (justice_literals js)

abbrev PropertiesSplit : ℕ → ℕ → List ℕ → List ℕ → List (List Lit) → Type 0
PropertiesSplit max n ns = Then (Many (IsLiteralLine max) n) (λ first. Then (Properties max ns) (λ others. Nothing (first ∷ others)))

no_properties : (max : ℕ) (t : List ℕ) (js : List (List Lit)) → Properties max [] t js → (t ≡ []) × (js ≡ [])
no_properties max t [] (sizes, each) = (each, refl)
no_properties max t (j ∷ js) (sizes, each) = absurd (omega (arith, ap length sizes))

properties_to : (max n : ℕ) (ns t : List ℕ) (js : List (List Lit)) → PropertiesSplit max n ns t js → Properties max (n ∷ ns) t js
properties_to max n ns t js (first, a, b, (len, one), (others, c, d, (sizes, each), end, p2), p1) =
    let all : Each (IsLiteralLine max) (a ++ c) (justice_literals (first ∷ others)) = rw (flat_map-cons (λ (lits : List Lit). lits) first others) (each_join (IsLiteralLine max) a c first (justice_literals others) one each) in
    let whole : t ≡ a ++ c = p1 ∙ ap (λ (w : List ℕ). a ++ w) (p2 ∙ ap (λ (w : List ℕ). c ++ w) end.0 ∙ append-nil c) in
    rw (end.1, whole) (rw (len, sizes) refl, all)

properties_from : (max n : ℕ) (ns t : List ℕ) (js : List (List Lit)) → Properties max (n ∷ ns) t js → PropertiesSplit max n ns t js
properties_from max n ns t [] (sizes, each) = absurd (omega (arith, ap length sizes))
properties_from max n ns t (j ∷ js) (sizes, each) =
    let q = each_cut (IsLiteralLine max) t j (justice_literals js) (rw (flat_map-cons (λ (lits : List Lit). lits) j js) at each) in
    (j, q.0, q.1, (ap (λ (w : List ℕ). get_or w 0 0) sizes, q.2), (js, q.1, [], (ap (λ (w : List ℕ). drop 1 w) sizes, q.3), (refl, refl), sym (append-nil q.1)), q.4)

properties_reads : (max : ℕ) → max ≤ greatest → (ns : List ℕ) → Reads (properties_at max ns) (Properties max ns)
unfolding properties_at
properties_reads max le [] = reads_as (Properties max []) (reads_nothing [])
    (λ t js r. rw (r.1, r.0) (refl, refl))
    (λ t js r. no_properties max t js r)
properties_reads max le (n ∷ ns) = reads_as (Properties max (n ∷ ns))
    (reads_then (many_reads (literal_reads max le) n) (λ first. reads_then (properties_reads max le ns) (λ others. reads_nothing (first ∷ others))))
    (properties_to max n ns) (properties_from max n ns)

-- ---- both

-- as many justice properties as the count says: all their sizes, and then all their literals
pub record IsJustice (max n : ℕ) (t : List ℕ) (js : List (List Lit)) : Type 0 where
  pub sizes : List ℕ
  pub literals : List ℕ
  pub whole : t ≡ sizes ++ literals
  pub count : length js ≡ n
  pub room : sum_by length js ≤ greatest
  pub each_size : Each IsSizeLine sizes (map length js)
  pub each_literal : Each (IsLiteralLine max) literals (justice_literals js)

justice_to : (max n : ℕ) (t : List ℕ) (js : List (List Lit)) → Then (Sizes greatest n) (Properties max) t js → IsJustice max n t js
justice_to max n t js (ns, a, b, (len, few, each), (sizes, literals), whole) = record {
  sizes = a;
  literals = b;
  whole = whole;
  count = omega (arith, ap length sizes, length-map {A = List Lit} {B = ℕ} js length, len);
  room = omega (arith, sum-map {X = List Lit} length js, ap sum sizes, few);
  each_size = rw sizes each;
  each_literal = literals;
}

justice_from : (max n : ℕ) (t : List ℕ) (js : List (List Lit)) → IsJustice max n t js → Then (Sizes greatest n) (Properties max) t js
justice_from max n t js r = (
  map length js,
  r.sizes,
  r.literals,
  (omega (arith, length-map {A = List Lit} {B = ℕ} js length, r.count), omega (arith, sum-map {X = List Lit} length js, r.room), r.each_size),
  (refl, r.each_literal),
  r.whole,
)

pub justice_reads : (max n : ℕ) → max ≤ greatest → Reads (justice_at max n) (IsJustice max n)
unfolding justice_at
justice_reads max n le = reads_as (IsJustice max n)
    (reads_then (sizes_reads n greatest (omega arith)) (λ ns. properties_reads max le ns))
    (justice_to max n) (justice_from max n)
