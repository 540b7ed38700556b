-- Names of bits.
use Rattle.std.proofs.Common.{◌≡◌, ℕ, ◌+◌, ◌-◌, ◌<◌, List, [], ◌∷◌, ◌++◌, length, get_or, take, drop, set, refl, sym, ap, ◌∙◌, arith, subst, below_more, append_assoc, length-set, replicate, Bool, true, false, not, inl, inr, Bor}
use Rattle.std.specs.Prelude.{decimal}
use Rattle.std.proofs.lemmas.List.{get_or_default, drop_more, length-drop, take_all, take-append-drop, length-replicate, get_or-replicate, get_or-set_same, get_or-set_other}
use Rattle.graph.specs.declared.symbol.Symbol.{Symbol}
use Rattle.graph.specs.declared.symbol.SymbolKind.{SymbolKind}
use Rattle.graph.proofs.Filled.{same_or_not}
use Rattle.wave_signals.specs.Bits.{IsOf, IsNameOf}

-- as far as the first n symbols go, this is the name of what stands at a position of a kind
abbrev pub IsNameSoFar : List Symbol → ℕ → SymbolKind → ℕ → List ℕ → Type 0
IsNameSoFar symbols n kind k [] = (i : ℕ) (d : Symbol) → i < n → IsOf kind k (get_or symbols i d) → ⊥
IsNameSoFar symbols n kind k (byte ∷ name) = (i : ℕ) × (i < n) × ((d : Symbol) → IsOf kind k (get_or symbols i d) × ((get_or symbols i d).name ≡ byte ∷ name))

pub name_none : (symbols : List Symbol) (kind : SymbolKind) (k : ℕ) → IsNameSoFar symbols 0 kind k []
name_none symbols kind k = λ i d i_in is. absurd (omega (arith, i_in))

-- a symbol of something else
pub name_kept : (symbols : List Symbol) (n : ℕ) (e : Symbol) (kind : SymbolKind) (k : ℕ) (name : List ℕ) → n < length symbols → (IsOf kind k (get_or symbols n e) → ⊥) →
    IsNameSoFar symbols n kind k name → IsNameSoFar symbols (n + 1) kind k name
name_kept symbols n e kind k [] n_in other h = λ i d i_in is.
    below_more (λ q. (x : Symbol) → IsOf kind k (get_or symbols q x) → ⊥) n (λ q q_in x y. h q x q_in y)
    (λ x y. other (subst (IsOf kind k) (get_or_default symbols n x e n_in) y)) i i_in d is
name_kept symbols n e kind k (byte ∷ name) n_in other h = (h.0, omega (arith, h.1), h.2)

-- its own symbol
pub name_given : (symbols : List Symbol) (n : ℕ) (e : Symbol) (kind : SymbolKind) (k : ℕ) (name : List ℕ) → n < length symbols → IsOf kind k (get_or symbols n e) → (get_or symbols n e).name ≡ name → 0 < length name →
    IsNameSoFar symbols (n + 1) kind k name
name_given symbols n e kind k [] n_in is named some = absurd (omega (arith, some))
name_given symbols n e kind k (byte ∷ name) n_in is named some =
    (n, omega arith, λ d. let same : get_or symbols n e ≡ get_or symbols n d = get_or_default symbols n e d n_in in (subst (IsOf kind k) same is, ap (λ (s : Symbol). s.name) (sym same) ∙ named))

pub name_whole : (symbols : List Symbol) (kind : SymbolKind) (k n : ℕ) (name : List ℕ) → n ≡ length symbols → IsNameSoFar symbols n kind k name → IsNameOf symbols kind k name
name_whole symbols kind k n [] is_n h = λ i d i_in. h i d (omega (arith, is_n, i_in))
name_whole symbols kind k n (byte ∷ name) is_n h =
    let d : Symbol = record { kind = kind; position = k; name = name } in
    let inside : h.0 < length symbols = omega (arith, is_n, h.1) in
    (h.0, get_or symbols h.0 d, inside, get_or_default symbols h.0 (get_or symbols h.0 d) d inside, h.2 d)

-- a name about a bracket
pub name_parts : (name : List ℕ) (at n : ℕ) (rest : List ℕ) → at < length name → get_or name at 0 ≡ 91 → take (length name - (at + 1)) (drop (at + 1) name) ≡ decimal n ++ rest → rest ≡ 93 ∷ [] →
    name ≡ take at name ++ 91 ∷ [] ++ decimal n ++ 93 ∷ []
name_parts name at n rest inside is digits end =
    let front = take at name in
    sym (take-append-drop at name)
    ∙ ap (λ (s : List ℕ). front ++ s) (drop_more name at 0 inside ∙ ap (λ (c : ℕ). c ∷ drop (at + 1) name) is ∙ ap (λ (s : List ℕ). 91 ∷ s) (sym (take_all (length name - (at + 1)) (drop (at + 1) name) (omega (arith, length-drop (at + 1) name))) ∙ digits ∙ ap (λ (s : List ℕ). decimal n ++ s) end))
    ∙ sym (append_assoc front (91 ∷ []) (decimal n ++ 93 ∷ [])) ∙ sym (append_assoc (front ++ 91 ∷ []) (decimal n) (93 ∷ []))

pub unnot : (b : Bool) → false ≡ not b → true ≡ b
unnot true e = refl
unnot false e = absurd cc

-- the name of each thing of a kind, as far as the first n symbols go
pub record NamesSoFar (symbols : List Symbol) (n : ℕ) (kind : SymbolKind) (count : ℕ) (names : List (Bor (List ℕ))) : Type 0 where
  pub long : length names ≡ count
  pub each : (k : ℕ) (d : Bor (List ℕ)) → k < count → IsNameSoFar symbols n kind k (get_or names k d).now

pub names_none : (symbols : List Symbol) (kind : SymbolKind) (count : ℕ) (empty : Bor (List ℕ)) → empty.now ≡ [] → NamesSoFar symbols 0 kind count (replicate count empty)
names_none symbols kind count empty is_empty = record {
  long = length-replicate count empty;
  each = λ k d k_in. subst (IsNameSoFar symbols 0 kind k) (sym is_empty ∙ ap (λ (x : Bor (List ℕ)). x.now) (sym (get_or-replicate count k empty d k_in))) (name_none symbols kind k);
}

pub names_kept : (symbols : List Symbol) (n : ℕ) (e : Symbol) (kind : SymbolKind) (count : ℕ) (names : List (Bor (List ℕ))) → n < length symbols → ((get_or symbols n e).kind ≡ kind → ⊥) →
    NamesSoFar symbols n kind count names → NamesSoFar symbols (n + 1) kind count names
names_kept symbols n e kind count names n_in other h = record { long = h.long; each = λ k d k_in. name_kept symbols n e kind k (get_or names k d).now n_in (λ is. other is.0) (h.each k d k_in) }

pub names_given : (symbols : List Symbol) (n : ℕ) (e : Symbol) (kind : SymbolKind) (count : ℕ) (names : List (Bor (List ℕ))) (name : Bor (List ℕ)) (at : ℕ) → n < length symbols → (get_or symbols n e).kind ≡ kind →
    (get_or symbols n e).position ≡ at → at < count → (get_or symbols n e).name ≡ name.now → 0 < length name.now →
    NamesSoFar symbols n kind count names → NamesSoFar symbols (n + 1) kind count (set names at name)
names_given symbols n e kind count names name at n_in is_kind is_at at_in is_name some h = record {
  long = length-set names at name ∙ h.long;
  each = λ k d k_in. elim (same_or_not at k) [
    | inl same ↦ subst (λ (x : Bor (List ℕ)). IsNameSoFar symbols (n + 1) kind k x.now) (sym (ap (λ (q : ℕ). get_or (set names at name) q d) (sym same) ∙ get_or-set_same names at name d (omega (arith, at_in, h.long))))
        (name_given symbols n e kind k name.now n_in (is_kind, is_at ∙ same) is_name some)
    | inr apart ↦ subst (λ (x : Bor (List ℕ)). IsNameSoFar symbols (n + 1) kind k x.now) (sym (get_or-set_other names at k name d (λ q. apart (sym q))))
        (name_kept symbols n e kind k (get_or names k d).now n_in (λ is. apart (sym is_at ∙ is.1)) (h.each k d k_in))
  ];
}
