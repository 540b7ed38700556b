-- Properties of a kind, by their positions, and the kinds one after the other.
use Rattle.std.proofs.Common.{◌≡◌, ℕ, ◌+◌, ◌-◌, ◌<◌, List, [], ◌∷◌, ◌++◌, map, length, slice_index_or, All, AllPairs, Contains, inl, inr, refl, sym, ◌∙◌, ap, arith}
use Rattle.std.specs.List.{range_with_len}
use Rattle.std.proofs.lemmas.Bool.{cases_lt}
use Rattle.std.proofs.Math.Path.{subst}
use Rattle.std.proofs.lemmas.List.{length-append, append_assoc, get_or_append_left, get_or-append_right}
use Rattle.std.proofs.lemmas.List.Elements.{All-append, Contains-append_left, Contains-append_right}
use Rattle.std.proofs.lemmas.List.FromFn.{map-range_with_len_more, length-map-range_with_len, get_or-map-range_with_len}
use Rattle.graph.specs.declared.circuit.Property.{Property}
use Rattle.graph.specs.declared.circuit.Property.TheVariants.{Bad, Justice, Output}
use Rattle.graph.specs.declared.parts.Parts.{Parts}
use Rattle.graph.specs.Circuits.{HasProperty, AreOutputsBad}
use Rattle.properties.specs.Order.{ComesBefore, property_at}
use Rattle.properties.specs.declared.listing.Kind.{Kind}
use Rattle.properties.specs.declared.listing.Kind.TheVariants as kind

-- the first n properties of a kind
abbrev pub first : Kind → ℕ → List Property
first k n = map (property_at k) (range_with_len 0 n)

-- one position more
pub added_more : (before : List Property) (k : Kind) (n : ℕ) →
    (before ++ first k n) ++ property_at k n ∷ [] ≡ before ++ first k (n + 1)
added_more before k n =
    append_assoc before (first k n) (property_at k n ∷ [])
    ∙ ap (λ (t : List Property). before ++ t) (sym (map-range_with_len_more (property_at k) 0 n n (omega arith)))

-- each position below n is among them
pub first_has : (k : Kind) (n i : ℕ) → i < n → Contains (first k n) (property_at k i)
first_has k n i i_in = (
  i,
  omega (arith, i_in, length-map-range_with_len (property_at k) 0 n),
  get_or-map-range_with_len (property_at k) 0 n i i (property_at k i) i_in (omega arith),
)

-- what holds of each position below n holds of them
pub first_all : (P : Property → Type 0) (k : Kind) (n : ℕ) → ((i : ℕ) → i < n → P (property_at k i)) → All P (first k n)
first_all P k n each i d i_in =
    let below : i < n = omega (arith, i_in, length-map-range_with_len (property_at k) 0 n) in
    subst P (sym (get_or-map-range_with_len (property_at k) 0 n i i d below (omega arith))) (each i below)

-- a relation of each position with each later one
pub first_pairs : (R : Property → Property → Type 0) (k : Kind) (n : ℕ) →
    ((i j : ℕ) → i < j → R (property_at k i) (property_at k j)) → AllPairs R (first k n)
first_pairs R k n each i j d before j_in =
    let below : j < n = omega (arith, j_in, length-map-range_with_len (property_at k) 0 n) in
    let one = get_or-map-range_with_len (property_at k) 0 n i i d (omega (arith, before, below)) (omega arith) in
    let other = get_or-map-range_with_len (property_at k) 0 n j j d below (omega arith) in
    subst (λ p. R p (slice_index_or (first k n) j d)) (sym one) (subst (λ p. R (property_at k i) p) (sym other) (each i j before))

-- pairs of two lists: those of each, and one of the first with one of the second
pub pairs_append : (R : Property → Property → Type 0) (xs ys : List Property) → AllPairs R xs → AllPairs R ys →
    All (λ x. All (R x) ys) xs → AllPairs R (xs ++ ys)
pairs_append R xs ys of_xs of_ys across i j d before j_in =
    let long : length (xs ++ ys) ≡ length xs + length ys = length-append xs ys in
    elim (cases_lt j (length xs)) [
      | inl left ↦
          let one = get_or_append_left xs ys d i (omega (arith, before, left)) in
          let other = get_or_append_left xs ys d j left in
          subst (λ p. R p (slice_index_or (xs ++ ys) j d)) (sym one) (subst (λ p. R (slice_index_or xs i d) p) (sym other) (of_xs i j d before left))
      | inr right ↦
          let other = get_or-append_right xs ys (length xs) j d refl right in
          let j_is : j - length xs < length ys = omega (arith, long, right, j_in) in
          elim (cases_lt i (length xs)) [
            | inl apart ↦
                let one = get_or_append_left xs ys d i apart in
                subst (λ p. R p (slice_index_or (xs ++ ys) j d)) (sym one)
                (subst (λ p. R (slice_index_or xs i d) p) (sym other) (across i d apart (j - length xs) d j_is))
            | inr both ↦
                let one = get_or-append_right xs ys (length xs) i d refl both in
                subst (λ p. R p (slice_index_or (xs ++ ys) j d)) (sym one)
                (subst (λ p. R (slice_index_or ys (i - length xs) d) p) (sym other)
                (of_ys (i - length xs) (j - length xs) d (omega (arith, before, both)) j_is))
          ]
    ]

-- all bad literals, all justice properties, and so many outputs
abbrev pub listed : Parts → ℕ → List Property
listed m outputs = (first kind.Bad (length m.bad) ++ first kind.Justice (length m.justice)) ++ first kind.Output outputs

-- so many outputs are properties
pub record AreTaken (m : Parts) (outputs : ℕ) : Type 0 where
  pub taken : AreOutputsBad m → outputs ≡ length m.outputs
  pub only : (n : ℕ) → n < outputs → HasProperty m (Output n)

pub all_listed : (m : Parts) (outputs : ℕ) → AreTaken m outputs → (p : Property) → HasProperty m p → Contains (listed m outputs) p
all_listed m outputs taken (Bad n) has =
    Contains-append_left (first kind.Bad (length m.bad) ++ first kind.Justice (length m.justice)) (first kind.Output outputs) (Bad n)
    (Contains-append_left (first kind.Bad (length m.bad)) (first kind.Justice (length m.justice)) (Bad n) (first_has kind.Bad (length m.bad) n has))
all_listed m outputs taken (Justice n) has =
    Contains-append_left (first kind.Bad (length m.bad) ++ first kind.Justice (length m.justice)) (first kind.Output outputs) (Justice n)
    (Contains-append_right (first kind.Bad (length m.bad)) (first kind.Justice (length m.justice)) (Justice n) (first_has kind.Justice (length m.justice) n has))
all_listed m outputs taken (Output n) has =
    Contains-append_right (first kind.Bad (length m.bad) ++ first kind.Justice (length m.justice)) (first kind.Output outputs) (Output n)
    (first_has kind.Output outputs n (omega (arith, has.1, taken.taken has.0)))

pub only_listed : (m : Parts) (outputs : ℕ) → AreTaken m outputs → All (HasProperty m) (listed m outputs)
only_listed m outputs taken =
    All-append (HasProperty m) (first kind.Bad (length m.bad) ++ first kind.Justice (length m.justice)) (first kind.Output outputs)
    (All-append (HasProperty m) (first kind.Bad (length m.bad)) (first kind.Justice (length m.justice))
    (first_all (HasProperty m) kind.Bad (length m.bad) (λ i i_in. i_in))
    (first_all (HasProperty m) kind.Justice (length m.justice) (λ i i_in. i_in)))
    (first_all (HasProperty m) kind.Output outputs (λ i i_in. taken.only i i_in))

pub listed_in_order : (m : Parts) (outputs : ℕ) → AllPairs ComesBefore (listed m outputs)
listed_in_order m outputs =
    pairs_append ComesBefore (first kind.Bad (length m.bad) ++ first kind.Justice (length m.justice)) (first kind.Output outputs)
    (pairs_append ComesBefore (first kind.Bad (length m.bad)) (first kind.Justice (length m.justice))
    (first_pairs ComesBefore kind.Bad (length m.bad) (λ i j before. before))
    (first_pairs ComesBefore kind.Justice (length m.justice) (λ i j before. before))
    (first_all (λ x. All (ComesBefore x) (first kind.Justice (length m.justice))) kind.Bad (length m.bad)
    (λ i i_in. first_all (ComesBefore (Bad i)) kind.Justice (length m.justice) (λ j j_in. tt))))
    (first_pairs ComesBefore kind.Output outputs (λ i j before. before))
    (All-append (λ x. All (ComesBefore x) (first kind.Output outputs)) (first kind.Bad (length m.bad)) (first kind.Justice (length m.justice))
    (first_all (λ x. All (ComesBefore x) (first kind.Output outputs)) kind.Bad (length m.bad)
    (λ i i_in. first_all (ComesBefore (Bad i)) kind.Output outputs (λ j j_in. tt)))
    (first_all (λ x. All (ComesBefore x) (first kind.Output outputs)) kind.Justice (length m.justice)
    (λ i i_in. first_all (ComesBefore (Justice i)) kind.Output outputs (λ j j_in. tt))))

-- what is added kind by kind
pub listed_by_kind : (m : Parts) (b j o : ℕ) (none one two three : List Property) → none ≡ [] → one ≡ none ++ first kind.Bad b →
    two ≡ one ++ first kind.Justice j → three ≡ two ++ first kind.Output o → b ≡ length m.bad → j ≡ length m.justice → three ≡ listed m o
listed_by_kind m b j o none one two three empty bad justice outputs b_is j_is =
    let first_kind : one ≡ first kind.Bad (length m.bad) =
    bad ∙ ap (λ (t : List Property). t ++ first kind.Bad b) empty ∙ ap (first kind.Bad) b_is in
    let both : two ≡ first kind.Bad (length m.bad) ++ first kind.Justice (length m.justice) =
    justice ∙ ap (λ (t : List Property). t ++ first kind.Justice j) first_kind
    ∙ ap (λ (n : ℕ). first kind.Bad (length m.bad) ++ first kind.Justice n) j_is in
    outputs ∙ ap (λ (t : List Property). t ++ first kind.Output o) both
