-- Variables in their scopes, one after the other.
use Rattle.std.proofs.Common.{◌≡◌, ℕ, ◌+◌, ◌<◌, ◌≤◌, List, ◌∷◌, ◌++◌, length, get_or, drop, map, sym, ap, ◌∙◌, append_assoc}
use Rattle.std.proofs.lemmas.List.{drop_all, drop_more}
use Rattle.wave_signals.specs.declared.bits.Bit.{Bit}
use Rattle.wave_signals.specs.declared.signals.Signal.{Signal}
use Rattle.wave_signals.specs.Signals.{bits_of}
use Rattle.wave_texts.specs.Scopes.{closed, moved}
use Rattle.wave_texts.specs.Variables.{scopes_of, variable_text, variables_text}
use Rattle.wave_texts.proofs.TextLaws.{after}

-- one variable more
pub variables_more : (bits : List Bit) (signals : List Signal) (i : ℕ) (d : Signal) (path next old mid new whole : List ℕ) → i < length signals → next ≡ scopes_of (bits_of bits (get_or signals i d)) →
    mid ≡ old ++ moved path next → new ≡ mid ++ variable_text (bits_of bits (get_or signals i d)) →
    old ++ variables_text path (map (bits_of bits) (drop i signals)) ≡ whole → new ++ variables_text next (map (bits_of bits) (drop (i + 1) signals)) ≡ whole
variables_more bits signals i d path next old mid new whole i_in is_next is_mid is_new h =
    let row = bits_of bits (get_or signals i d) in
    let rest = map (bits_of bits) (drop (i + 1) signals) in
    let piece : List ℕ → List ℕ = λ p. moved path p ++ variable_text row in
    let split : map (bits_of bits) (drop i signals) ≡ row ∷ rest = ap (map (bits_of bits)) (drop_more signals i d i_in) in
    let both : new ≡ old ++ piece next = after old mid new (moved path next) (variable_text row) is_mid is_new in
    ap (λ (t : List ℕ). t ++ variables_text next rest) both ∙ append_assoc old (piece next) (variables_text next rest)
    ∙ ap (λ (p : List ℕ). old ++ (piece p ++ variables_text p rest)) is_next
    ∙ sym (ap (λ (x : List (List Bit)). old ++ variables_text path x) split) ∙ h

-- the scopes of the last variable end
pub variables_all : (bits : List Bit) (signals : List Signal) (i : ℕ) (path old new whole : List ℕ) → length signals ≤ i → new ≡ old ++ closed path →
    old ++ variables_text path (map (bits_of bits) (drop i signals)) ≡ whole → new ≡ whole
variables_all bits signals i path old new whole all is_new h =
    is_new ∙ sym (ap (λ (s : List Signal). old ++ variables_text path (map (bits_of bits) s)) (drop_all i signals all)) ∙ h
