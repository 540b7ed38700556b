-- Signatures of clauses, and lists of them that are moved together with the clauses.
use Rattle.std.proofs.Common.{◌≡◌, ◌∙◌, ℕ, ◌+◌, ◌<◌, ◌≤◌, List, [], ◌∷◌, ◌++◌, length, get_or, set, take, w64, inl, inr, arith, refl, sym, ap, subst}
use Rattle.std.specs.Int.{bit_at, bit_not}
use Rattle.std.specs.Int.Bits.{bit_and}
use Rattle.std.specs.List.{SwappedAt}
use Rattle.std.proofs.lemmas.Bool.{cases_eq, cases_lt}
use Rattle.std.proofs.lemmas.Nat.Bits.{bit_at_and, bit_at_not, bit_at_above, bit_at-lt, bit_at-zero, same_from_bits}
use Rattle.std.proofs.lemmas.List.{get_or-take, length-take, length-set, get_or-set_same, get_or-set_other, get_or_append_left, get_or_push, length_push}
use Rattle.std.proofs.lemmas.List.Elements.{All-contains, Contains-get_or}
use Rattle.states.specs.declared.state_lit.StateLit.{StateLit}
use Rattle.states.specs.States.{IsPartOf}
use Rattle.ic3_frames.specs.declared.frames.Entry.{Entry}
use Rattle.ic3_frames.specs.Signatures.{signature_bit, IsSignature, AreSignatures}

-- a part's bits are the whole's
pub part_bits : (c d : List StateLit) (whole part i : ℕ) → IsSignature c whole → IsSignature d part → IsPartOf d c → bit_at part i ≡ 1 → bit_at whole i ≡ 1
part_bits c d whole part i of_whole of_part within bit = elim (cases_eq (bit_at whole i) 1) [
  | inl set ↦ set
  | inr unset ↦
      let clear : bit_at part i ≡ 0 = of_part.none i (λ k a k_in same.
      unset (ap (bit_at whole) (sym same) ∙ All-contains (λ (b : StateLit). bit_at whole (signature_bit b) ≡ 1) c (get_or d k a) of_whole.each (within (get_or d k a) (Contains-get_or d k a k_in)))) in
      absurd (omega (arith, bit, clear))
]

no_bit : (whole part i : ℕ) → whole < 18446744073709551616 → part < 18446744073709551616 → (bit_at part i ≡ 1 → bit_at whole i ≡ 1) → bit_at (bit_and part (bit_not w64 whole)) i ≡ 0
no_bit whole part i fits part_fits has =
    let both = bit_at_and part (bit_not w64 whole) i in
    let few = bit_at-lt part i in
    elim (cases_lt (bit_at part i) 1) [
      | inl clear ↦ omega (arith, both, clear)
      | inr set ↦ elim (cases_lt i 64) [
        | inl below ↦
            let opposite = bit_at_not w64 whole i fits below in
            let also : bit_at whole i ≡ 1 = has (omega (arith, set, few)) in
            omega (arith, both, opposite, also)
        | inr above ↦ let clear = bit_at_above part 64 i part_fits above in omega (arith, both, clear)
      ]
    ]

-- no bit is left of a word without another's bits exactly where each of its bits is the other's
pub nothing_left : (whole part : ℕ) → whole < 18446744073709551616 → part < 18446744073709551616 → ((i : ℕ) → bit_at part i ≡ 1 → bit_at whole i ≡ 1) → bit_and part (bit_not w64 whole) ≡ 0
nothing_left whole part fits part_fits has = same_from_bits (bit_and part (bit_not w64 whole)) 0 (λ i. no_bit whole part i fits part_fits (has i) ∙ sym (bit_at-zero i))

pub nothing_missing : (whole part i : ℕ) → whole < 18446744073709551616 → part < 18446744073709551616 → bit_and part (bit_not w64 whole) ≡ 0 → bit_at part i ≡ 1 → bit_at whole i ≡ 1
nothing_missing whole part i fits part_fits nothing bit =
    let both = bit_at_and part (bit_not w64 whole) i in
    let none : bit_at (bit_and part (bit_not w64 whole)) i ≡ 0 = ap (λ n. bit_at n i) nothing ∙ bit_at-zero i in
    let few = bit_at-lt whole i in
    elim (cases_lt i 64) [
      | inl below ↦ let opposite = bit_at_not w64 whole i fits below in omega (arith, both, none, opposite, few, bit)
      | inr above ↦ let clear = bit_at_above part 64 i part_fits above in absurd (omega (arith, bit, clear))
    ]

-- an equal clause has an equal signature
moved : (e f : Entry) (w v : ℕ) → IsSignature e.clause w → f ≡ e → v ≡ w → IsSignature f.clause v
moved e f w v h same equal = subst (λ (x : Entry). IsSignature x.clause v) (sym same) (subst (IsSignature e.clause) (sym equal) h)

length_swapped : {X : Type 0} (xs ys : List X) (k i : ℕ) (d : X) → SwappedAt xs ys k i → length ys ≡ length xs
length_swapped xs ys k i d swapped = ap length (swapped.3 d) ∙ length-set (set xs k (get_or xs i d)) i (get_or xs k d) ∙ length-set xs k (get_or xs i d)

-- both lists' places are swapped
pub signed_swapped : (es fs : List Entry) (ws vs : List ℕ) (k i : ℕ) → k ≤ i → i < length es → AreSignatures es ws → SwappedAt es fs k i → SwappedAt ws vs k i → AreSignatures fs vs
signed_swapped es fs ws vs k i behind i_in h entries words =
    let long : length fs ≡ length es = length_swapped es fs k i (record { clause = []; level = 0 }) entries in
    let words_long : length vs ≡ length ws = length_swapped ws vs k i 0 words in
    record {
      long = words_long ∙ h.long ∙ sym long;
      each = λ j d j_in. elim (cases_eq j i) [
        | inl last ↦ moved (get_or es k d) (get_or fs j d) (get_or ws k 0) (get_or vs j 0) (h.each k d (omega arith)) (ap (λ n. get_or fs n d) last ∙ entries.1 d) (ap (λ n. get_or vs n 0) last ∙ words.1 0)
        | inr before ↦ elim (cases_eq j k) [
          | inl first ↦ moved (get_or es i d) (get_or fs j d) (get_or ws i 0) (get_or vs j 0) (h.each i d i_in) (ap (λ n. get_or fs n d) first ∙ entries.0 d) (ap (λ n. get_or vs n 0) first ∙ words.0 0)
          | inr other ↦ moved (get_or es j d) (get_or fs j d) (get_or ws j 0) (get_or vs j 0) (h.each j d (omega (arith, j_in, long))) (entries.2 j d other before) (words.2 j 0 other before)
        ]
      ];
    }

-- both lists are cut
pub signed_take : (es : List Entry) (ws : List ℕ) (n : ℕ) → AreSignatures es ws → AreSignatures (take n es) (take n ws)
signed_take es ws n h =
    let same = h.long in
    record {
      long = omega (arith, length-take n es, length-take n ws, same);
      each = λ k d k_in.
          let below : k < n = omega (arith, k_in, length-take n es) in
          moved (get_or es k d) (get_or (take n es) k d) (get_or ws k 0) (get_or (take n ws) k 0) (h.each k d (omega (arith, k_in, length-take n es))) (get_or-take n es k d below) (get_or-take n ws k 0 below);
    }

-- an entry and its signature more
pub signed_push : (es : List Entry) (ws : List ℕ) (e : Entry) (w : ℕ) → AreSignatures es ws → IsSignature e.clause w → AreSignatures (es ++ e ∷ []) (ws ++ w ∷ [])
signed_push es ws e w h new =
    let same = h.long in
    record {
      long = length_push ws w ∙ ap (λ n. n + 1) same ∙ sym (length_push es e);
      each = λ k d k_in. elim (cases_lt k (length es)) [
        | inl below ↦ moved (get_or es k d) (get_or (es ++ e ∷ []) k d) (get_or ws k 0) (get_or (ws ++ w ∷ []) k 0) (h.each k d below) (get_or_append_left es (e ∷ []) d k below) (get_or_append_left ws (w ∷ []) 0 k (omega (arith, below, same)))
        | inr past ↦
            let last : length es ≡ k = omega (arith, past, k_in, length_push es e) in
            moved e (get_or (es ++ e ∷ []) k d) w (get_or (ws ++ w ∷ []) k 0) new (get_or_push es e d k last) (get_or_push ws w 0 k (same ∙ last))
      ];
    }

-- an entry gets another level
pub signed_raised : (es : List Entry) (ws : List ℕ) (place level : ℕ) (e : Entry) → place < length es → e ≡ get_or es place e → AreSignatures es ws → AreSignatures (set es place (record { clause = e.clause; level = level })) ws
signed_raised es ws place level e place_in at h =
    let x : Entry = record { clause = e.clause; level = level } in
    let long : length (set es place x) ≡ length es = length-set es place x in
    let here : IsSignature x.clause (get_or ws place 0) = moved (get_or es place e) e (get_or ws place 0) (get_or ws place 0) (h.each place e place_in) at refl in
    record {
      long = h.long ∙ sym long;
      each = λ k d k_in. elim (cases_eq k place) [
        | inl same ↦ moved x (get_or (set es place x) k d) (get_or ws place 0) (get_or ws k 0) here (ap (λ n. get_or (set es place x) n d) same ∙ get_or-set_same es place x d place_in) (ap (λ n. get_or ws n 0) same)
        | inr other ↦ moved (get_or es k d) (get_or (set es place x) k d) (get_or ws k 0) (get_or ws k 0) (h.each k d (omega (arith, k_in, long))) (get_or-set_other es place k x d other) refl
      ];
    }
