-- Values that changed, time after time.
use Rattle.std.proofs.Common.{◌≡◌, ℕ, ◌+◌, ◌-◌, ◌<◌, ◌≤◌, Bool, Option, List, [], ◌∷◌, ◌++◌, length, get_or, take, drop, sym, ap, ◌∙◌, arith, append_assoc}
use Rattle.std.proofs.lemmas.List.{drop_all, drop_more, take_all}
use Rattle.wave_signals.specs.declared.bits.Bit.{Bit}
use Rattle.wave_signals.specs.declared.signals.Signal.{Signal}
use Rattle.bit_numbers.specs.Numbers.{binary_digit, binary_text}
use Rattle.wave_texts.specs.Changes.{changes_text, part_of, stamp_text, times_text}
use Rattle.wave_texts.proofs.TextLaws.{after}

-- a signal has nothing of a row of none
pub part_none : (row : List (Option Bool)) (s : Signal) → length row ≡ 0 → row ≡ part_of row s
part_none [] s none =
    let empty : List (Option Bool) = [] in
    let before : drop s.first empty ≡ empty = drop_all s.first empty (omega arith) in
    let front : take (s.end - s.first) empty ≡ empty = take_all (s.end - s.first) empty (omega arith) in
    sym (ap (λ (xs : List (Option Bool)). take (s.end - s.first) xs) before ∙ front)
part_none (b ∷ row) s none = absurd (omega (arith, none))

-- one digit more
pub digits_more : (bits : List (Option Bool)) (k : ℕ) (d : Option Bool) (old now new : List ℕ) → 0 < k → k ≤ length bits → new ≡ now ++ binary_digit (get_or bits (k - 1) d) ∷ [] →
    now ≡ old ++ binary_text (drop k bits) → new ≡ old ++ binary_text (drop (k - 1) bits)
digits_more bits k d old now new some within more h =
    let digit = binary_digit (get_or bits (k - 1) d) ∷ [] in
    let here : drop (k - 1) bits ≡ get_or bits (k - 1) d ∷ drop (k - 1 + 1) bits = drop_more bits (k - 1) d (omega (arith, some, within)) in
    let next : k - 1 + 1 ≡ k = omega (arith, some) in
    after old now new (binary_text (drop k bits)) digit h more
    ∙ ap (λ (t : List ℕ). old ++ t) (sym (ap binary_text here ∙ ap (λ (n : ℕ). binary_text (drop n bits) ++ digit) next))

-- one time more
pub times_more : (bits : List Bit) (signals : List Signal) (rows : List (List (Option Bool))) (n : ℕ) (before row : List (Option Bool)) (old mid new whole : List ℕ) → n < length rows → row ≡ get_or rows n [] →
    mid ≡ old ++ stamp_text n → new ≡ mid ++ changes_text bits signals before row →
    old ++ times_text bits signals n before (drop n rows) ≡ whole → new ++ times_text bits signals (n + 1) row (drop (n + 1) rows) ≡ whole
times_more bits signals rows n before row old mid new whole n_in is_row is_mid is_new h =
    let now = get_or rows n [] in
    let later = drop (n + 1) rows in
    let piece : List (Option Bool) → List ℕ = λ x. stamp_text n ++ changes_text bits signals before x in
    let split : drop n rows ≡ now ∷ later = drop_more rows n [] n_in in
    let both : new ≡ old ++ piece row = after old mid new (stamp_text n) (changes_text bits signals before row) is_mid is_new in
    ap (λ (t : List ℕ). t ++ times_text bits signals (n + 1) row later) both ∙ append_assoc old (piece row) (times_text bits signals (n + 1) row later)
    ∙ ap (λ (x : List (Option Bool)). old ++ (piece x ++ times_text bits signals (n + 1) x later)) is_row
    ∙ sym (ap (λ (x : List (List (Option Bool))). old ++ times_text bits signals n before x) split) ∙ h

-- the time after the last
pub times_all : (bits : List Bit) (signals : List Signal) (rows : List (List (Option Bool))) (n : ℕ) (before : List (Option Bool)) (old new whole : List ℕ) → length rows ≤ n → new ≡ old ++ stamp_text n →
    old ++ times_text bits signals n before (drop n rows) ≡ whole → new ≡ whole
times_all bits signals rows n before old new whole all is_new h =
    is_new ∙ sym (ap (λ (x : List (List (Option Bool))). old ++ times_text bits signals n before x) (drop_all n rows all)) ∙ h
