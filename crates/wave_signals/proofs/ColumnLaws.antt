-- Values of bits at each time.
use Rattle.std.proofs.Common.{◌≡◌, ℕ, zero, suc, ◌+◌, ◌*◌, ◌<◌, Bool, List, [], ◌∷◌, ◌++◌, Option, Some, length, get_or, map, take, drop, ◌-◌, ◌≤◌, refl, sym, ap, ◌∙◌, arith, length-append, length-drop, subst}
use Rattle.std.specs.List.{flat_map}
use Rattle.std.proofs.lemmas.Grind.{flat_map-append}
use Rattle.std.proofs.Math.Seq.{take-append_seam, drop-append_seam}
use Rattle.std.proofs.lemmas.List.{append-nil, drop-drop, length-map, length-take-le}
use Rattle.graph.specs.declared.parts.Parts.{Parts}
use Rattle.graph.specs.Circuits.{Valuation, value_of}
use Rattle.simulate.specs.Replays.{Replayed, Steps}
use Rattle.stimulus.proofs.CourseLaws.{moves_of, played_none, played_more}
use Rattle.wave_signals.specs.declared.bits.Bit.{Bit}
use Rattle.witness.specs.Completions.{Completes}
use Rattle.witness.specs.Cleared.{CompleteAll}
use Rattle.wave_signals.specs.Columns.{HasValues, known_at, rows_of, values_at}

pub values_none : (m : Parts) (lines : List (List Bool)) (bits : List Bit) (now : Replayed) → now.circuit ≡ m → HasValues m now.state lines bits 0 now []
values_none m lines bits now is_m = record { valuations = []; played = played_none m lines now is_m; are = refl }

pub values_more : (m : Parts) (first line : List Bool) (lines : List (List Bool)) (bits : List Bit) (i : ℕ) (now after : Replayed) (values more : List (Option Bool)) → i < length lines → get_or lines i [] ≡ line →
    (s : Steps now after line) → more ≡ values ++ known_at bits s.now → HasValues m first lines bits i now values → HasValues m first lines bits (i + 1) after more
values_more m first line lines bits i now after values more i_in is_line s is_more h =
    let r = h.valuations in
    record {
      valuations = r ++ s.now ∷ [];
      played = played_more m first line lines i now after r s.now i_in is_line h.played (moves_of m now after line h.played.circuit s);
      are = is_more ∙ ap (λ (xs : List (Option Bool)). xs ++ known_at bits s.now) h.are
          ∙ sym (flat_map-append (known_at bits) r (s.now ∷ []) ∙ ap (λ (xs : List (Option Bool)). flat_map (known_at bits) r ++ xs) (append-nil (known_at bits s.now)));
    }

-- ---- rows that stand one after the other

pub rows_long : (width times : ℕ) (values : List (Option Bool)) → length (rows_of width times values) ≡ times
rows_long width zero values = refl
rows_long width (suc n) values = ap suc (rows_long width n (drop width values))

-- there is room for the row at time n
row_room : (n times width : ℕ) → n < times → n * width + width ≤ times * width
row_room n times width n_in =
    let rest = times - (n + 1) in
    let whole : times ≡ n + 1 + rest = omega (arith, n_in) in
    let split : (n + 1 + rest) * width ≡ n * width + width + rest * width = grind arith in
    let same : times * width ≡ (n + 1 + rest) * width = ap (λ (k : ℕ). k * width) whole in
    omega (arith, same, split)

-- what is left from time n on has a row
pub row_fits : (width times n : ℕ) (values rest : List (Option Bool)) → n < times → length values ≡ times * width → rest ≡ drop (n * width) values → width ≤ length rest
row_fits width times n values rest n_in whole is =
    let long : length rest ≡ length values - n * width = ap (λ (xs : List (Option Bool)). length xs) is ∙ length-drop (n * width) values in
    omega (arith, long, whole, row_room n times width n_in)

pub row_later : (width n : ℕ) (values rest : List (Option Bool)) → rest ≡ drop (n * width) values → drop width rest ≡ drop ((n + 1) * width) values
row_later width n values rest is =
    let next : n * width + width ≡ (n + 1) * width = grind arith in
    ap (λ (xs : List (Option Bool)). drop width xs) is ∙ drop-drop width (n * width) values ∙ ap (λ (k : ℕ). drop k values) next

row_at : (width times n : ℕ) (values : List (Option Bool)) → n < times → take width (drop (n * width) values) ≡ get_or (rows_of width times values) n []
row_at width zero n values n_in = absurd (omega (arith, n_in))
row_at width (suc times) zero values n_in = let none : 0 * width ≡ 0 = omega arith in ap (λ (k : ℕ). take width (drop k values)) none
row_at width (suc times) (suc n) values n_in =
    let h = row_at width times n (drop width values) (omega (arith, n_in)) in
    let next : width + n * width ≡ suc n * width = grind arith in
    sym (ap (λ (xs : List (Option Bool)). take width xs) (drop-drop (n * width) width values ∙ ap (λ (k : ℕ). drop k values) next)) ∙ h

-- its front is the row at time n
pub row_front : (width times n : ℕ) (values rest : List (Option Bool)) → n < times → rest ≡ drop (n * width) values → take width rest ≡ get_or (rows_of width times values) n []
row_front width times n values rest n_in is = ap (λ (xs : List (Option Bool)). take width xs) is ∙ row_at width times n values n_in

pub row_long : (width times n : ℕ) (values rest now : List (Option Bool)) → n < times → length values ≡ times * width → rest ≡ drop (n * width) values → now ≡ take width rest → length now ≡ width
row_long width times n values rest now n_in whole is is_now =
    ap (λ (xs : List (Option Bool)). length xs) is_now ∙ length-take-le width rest (row_fits width times n values rest n_in whole is)

-- ---- the rows of a replay

known_long : (bits : List Bit) (w : Valuation) → length (known_at bits w) ≡ length bits
known_long bits w = length-map (values_at bits w) Some ∙ length-map bits (λ b. value_of w b.lit)

pub values_long : (bits : List Bit) (r : List Valuation) → length (flat_map (known_at bits) r) ≡ length r * length bits
values_long bits [] = let none : 0 ≡ 0 * length bits = omega arith in none
values_long bits (w ∷ r) =
    let later = values_long bits r in
    let next : suc (length r) * length bits ≡ length bits + length r * length bits = grind arith in
    omega (arith, length-append (known_at bits w) (flat_map (known_at bits) r), known_long bits w, later, next)

pub rows_known : (bits : List Bit) (r : List Valuation) → rows_of (length bits) (length r) (flat_map (known_at bits) r) ≡ map (known_at bits) r
rows_known bits [] = refl
rows_known bits (w ∷ r) =
    let row = known_at bits w in
    let later = flat_map (known_at bits) r in
    let front : take (length bits) (row ++ later) ≡ row = ap (λ (k : ℕ). take k (row ++ later)) (sym (known_long bits w)) ∙ take-append_seam row later in
    let back : drop (length bits) (row ++ later) ≡ later = ap (λ (k : ℕ). drop k (row ++ later)) (sym (known_long bits w)) ∙ drop-append_seam row later in
    ap (λ (x : List (Option Bool)). x ∷ rows_of (length bits) (length r) (drop (length bits) (row ++ later))) front
    ∙ ap (λ (x : List (Option Bool)). row ∷ rows_of (length bits) (length r) x) back ∙ ap (λ (x : List (List (Option Bool))). row ∷ x) (rows_known bits r)

-- ---- rows that a replay completes

completes_front : (values : List (Option Bool)) (a b : List Bool) → Completes values (a ++ b) → Completes (take (length a) values) a
completes_front values [] b c = tt
completes_front [] (x ∷ a) b c = absurd c
completes_front (o ∷ values) (x ∷ a) b c = (c.0, completes_front values a b c.1)

completes_back : (values : List (Option Bool)) (a b : List Bool) → Completes values (a ++ b) → Completes (drop (length a) values) b
completes_back values [] b c = c
completes_back [] (x ∷ a) b c = absurd c
completes_back (o ∷ values) (x ∷ a) b c = completes_back values a b c.1

pub rows_complete : (bits : List Bit) (times : ℕ) (values : List (Option Bool)) (r : List Valuation) → length r ≡ times → Completes values (flat_map (values_at bits) r) → CompleteAll (rows_of (length bits) times values) (map (values_at bits) r)
rows_complete bits zero values [] long c = tt
rows_complete bits zero values (w ∷ r) long c = absurd (omega (arith, long))
rows_complete bits (suc n) values [] long c = absurd (omega (arith, long))
rows_complete bits (suc n) values (w ∷ r) long c =
    let wide : length (values_at bits w) ≡ length bits = length-map bits (λ b. value_of w b.lit) in
    let front = completes_front values (values_at bits w) (flat_map (values_at bits) r) c in
    let back = completes_back values (values_at bits w) (flat_map (values_at bits) r) c in (
      subst (λ (k : ℕ). Completes (take k values) (values_at bits w)) wide front,
      rows_complete bits n (drop (length bits) values) r (omega (arith, long)) (subst (λ (k : ℕ). Completes (drop k values) (flat_map (values_at bits) r)) wide back),
    )
