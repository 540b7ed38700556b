-- Valuations laid end to end.
use Rattle.std.proofs.Common.{◌≡◌, ℕ, ◌+◌, ◌-◌, Bool, true, false, List, [], ◌∷◌, ◌++◌, length, drop, refl, sym, ◌∙◌, ap, subst, arith, length-append, append_assoc, All}
use Rattle.std.specs.Prelude.{flat_map}
use Rattle.std.proofs.lemmas.List.Elements.{All-head, All-tail}
use Rattle.std.proofs.lemmas.List.{get_or_append_left, get_or-append-add, get_or-drop, length-drop, get_or_push}
use Rattle.graph.specs.Circuits.{place}
use Rattle.cnf.specs.Unrolled.{laid}
use Rattle.cnf.proofs.Values.{IsLaid}

-- the valuations lie one after the other
abbrev pub Lies : (ℕ → Bool) → ℕ → List (List Bool) → ℕ → Type 0
Lies v n [] o = Unit {0}
Lies v n (w ∷ r) o = IsLaid v o n w × Lies v n r (o + n + 1)

-- the valuations of a list lie in its laid out places, whatever comes before
lies_in : (done : List Bool) (n : ℕ) (r : List (List Bool)) → (o : ℕ) → length done ≡ o + 1 → All (λ w. (length w ≡ n + 1) × (place w 0 ≡ false)) r →
    Lies (place (done ++ flat_map (λ w. drop 1 w ++ true ∷ []) r)) n r o
lies_in done n [] o len all = tt
lies_in done n (w ∷ r) o len all =
    let here : (length w ≡ n + 1) × (place w 0 ≡ false) = All-head (λ (x : List Bool). (length x ≡ n + 1) × (place x 0 ≡ false)) w r all in
    let rest : List Bool = flat_map (λ x. drop 1 x ++ true ∷ []) r in
    let one : List Bool = drop 1 w ++ true ∷ [] in
    let long : length one ≡ n + 1 = omega (arith, length-append (drop 1 w) (true ∷ []), length-drop 1 w, here.0) in
    let regroup : (done ++ one) ++ rest ≡ done ++ (one ++ rest) = append_assoc done one rest in (
      record {
        inside = λ k nz k_in.
            let at : place (done ++ (one ++ rest)) (length done + (k - 1)) ≡ place (one ++ rest) (k - 1) = get_or-append-add done (one ++ rest) (k - 1) false in
            let same : length done + (k - 1) ≡ o + k = omega (arith, len) in
            ap (place (done ++ (one ++ rest))) (sym same) ∙ at ∙ get_or_append_left one rest false (k - 1) (omega (arith, long))
            ∙ get_or_append_left (drop 1 w) (true ∷ []) false (k - 1) (omega (arith, length-drop 1 w, here.0))
            ∙ get_or-drop 1 w (k - 1) false ∙ ap (place w) (let e : 1 + (k - 1) ≡ k = omega arith in e);
        top =
            let same : length done + n ≡ o + n + 1 = omega (arith, len) in
            ap (place (done ++ (one ++ rest))) (sym same) ∙ get_or-append-add done (one ++ rest) n false ∙ get_or_append_left one rest false n (omega (arith, long))
            ∙ get_or_push (drop 1 w) true false n (omega (arith, length-drop 1 w, here.0));
        constant = here.1;
      },
      subst (λ u. Lies (place u) n r (o + n + 1)) regroup
          (lies_in (done ++ one) n r (o + n + 1) (omega (arith, length-append done one, long, len)) (All-tail (λ (x : List Bool). (length x ≡ n + 1) × (place x 0 ≡ false)) w r all)),
    )

pub laid_lies : (n : ℕ) (r : List (List Bool)) → All (λ w. (length w ≡ n + 1) × (place w 0 ≡ false)) r → Lies (place (laid r)) n r 0
laid_lies n r all = lies_in (false ∷ []) n r 0 refl all
