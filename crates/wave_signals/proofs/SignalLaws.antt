-- Bits that are grouped to signals.
use Rattle.std.proofs.Common.{◌≡◌, ℕ, zero, suc, ◌+◌, ◌-◌, ◌<◌, ◌≤◌, List, [], ◌∷◌, ◌++◌, length, get_or, take, drop, refl, sym, ap, ◌∙◌, arith, All, subst}
use Rattle.std.specs.List.{flat_map}
use Rattle.std.proofs.Math.Dec.{eqb-suc-zero}
use Rattle.std.proofs.Math.Seq.{take-add}
use Rattle.std.proofs.lemmas.Grind.{flat_map-append}
use Rattle.std.proofs.lemmas.List.{append-nil, length-drop, take_all, get_or-take, length-take-le}
use Rattle.std.proofs.lemmas.List.Elements.{All-nil, All-push}
use Rattle.wave_signals.specs.declared.bits.Bit.{Bit}
use Rattle.wave_signals.specs.declared.signals.Signal.{Signal}
use Rattle.wave_signals.specs.Signals.{AreApart, AreSignals, IsVector, bits_of, range_text, vector_name}

-- the bits before first are grouped
pub record Grouped (bits : List Bit) (signals : List Signal) (first : ℕ) : Type 0 where
  pub within : first ≤ length bits
  pub inside : All (λ s. (s.first < s.end) × (s.end ≤ length bits)) signals
  pub whole : flat_map (bits_of bits) signals ≡ take first bits
  pub vectors : All (λ s. IsVector (bits_of bits s)) signals

pub grouped_none : (bits : List Bit) → Grouped bits [] 0
grouped_none bits = record { within = omega arith; inside = All-nil _; whole = refl; vectors = All-nil _ }

pub grouped_more : (bits : List Bit) (signals : List Signal) (first n : ℕ) (rest : List Bit) → rest ≡ drop first bits → 0 < n → n ≤ length rest → IsVector (take n rest) → Grouped bits signals first →
    Grouped bits (signals ++ record { first = first; end = first + n } ∷ []) (first + n)
grouped_more bits signals first n rest is_rest some within vector h =
    let s : Signal = record { first = first; end = first + n } in
    let fits : first + n ≤ length bits = omega (arith, ap (λ (xs : List Bit). length xs) is_rest, length-drop first bits, within, h.within) in
    let count : first + n - first ≡ n = omega arith in
    let placed : (first < first + n) × (first + n ≤ length bits) = (omega (arith, some), fits) in
    let mine : bits_of bits s ≡ take n (drop first bits) = ap (λ (k : ℕ). take k (drop first bits)) count in
    record {
      within = fits;
      inside = All-push (λ q. (q.first < q.end) × (q.end ≤ length bits)) signals s h.inside placed;
      whole = flat_map-append (bits_of bits) signals (s ∷ []) ∙ ap (λ (xs : List Bit). flat_map (bits_of bits) signals ++ xs) (append-nil (bits_of bits s) ∙ mine)
          ∙ ap (λ (xs : List Bit). xs ++ take n (drop first bits)) h.whole ∙ sym (take-add first n bits);
      vectors = All-push (λ q. IsVector (bits_of bits q)) signals s h.vectors (subst IsVector (ap (take n) is_rest ∙ sym mine) vector);
    }

pub grouped_all : (bits : List Bit) (signals : List Signal) (first : ℕ) → length bits ≤ first → Grouped bits signals first → AreSignals bits signals
grouped_all bits signals first all h = record { inside = h.inside; whole = h.whole ∙ take_all first bits all; vectors = h.vectors }

-- the first k bits are a vector
pub vector_of : (bits : List Bit) (k : ℕ) → k ≤ length bits → ((j : ℕ) (d : Bit) → 0 < j → j < k → AreApart (get_or bits 0 d) j (get_or bits j d)) → IsVector (take k bits)
vector_of bits k within h j d some j_in =
    let inside : j < k = omega (arith, j_in, length-take-le k bits within) in
    rw (get_or-take k bits 0 d (omega (arith, inside)), get_or-take k bits j d inside) (h j d some inside)

pub ranged_name : (base : List ℕ) (low n : ℕ) → (low ≡ 0 → ⊥) → vector_name base low n ≡ base ++ range_text (low + n - 1) low
ranged_name base zero n some = absurd (some refl)
ranged_name base (suc low) n some = rw (eqb-suc-zero low) refl
