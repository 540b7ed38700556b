-- What gates that are made one after another say.
use Rattle.std.proofs.Common.{◌≡◌, ℕ, ◌+◌, ◌<◌, Bool, true, false, not, ◌&&◌, List, [], ◌∷◌, ◌++◌, length, take, get_or, refl, All, ◌∙◌, ◌≤◌, ap, sym, subst, append_assoc}
use Rattle.std.proofs.lemmas.List.{append-nil, take_all, take_more}
use Rattle.std.proofs.lemmas.List.Elements.{All-head}
use Rattle.graph.specs.declared.circuit.Lit.{Lit}
use Rattle.graph.specs.declared.circuit.Gate.{Gate}
use Rattle.graph.specs.Circuits.{Valuation, value_of, Fires}
use Rattle.graph.proofs.Evaluation.{All-left, All-right}
use Rattle.live_safe.specs.Shadow.{negation}
use Rattle.live_safe.proofs.Values.{value-negation}
use Rattle.witness_pairs.specs.Drafts.{Follows, GoesOn, same, all_true}

-- ---- gates that go on

pub goes_on_same : (xs : List Gate) → GoesOn xs xs
goes_on_same xs = ([], sym (append-nil xs))

pub goes_on_more : (xs ys more zs : List Gate) → GoesOn xs ys → zs ≡ ys ++ more → GoesOn xs zs
goes_on_more xs ys more zs goes_on is =
    let front : List Gate = goes_on.0 in
    (front ++ more, is ∙ ap (λ (q : List Gate). q ++ more) goes_on.1 ∙ append_assoc xs front more)

pub goes_on_by : (xs ys more zs : List Gate) → ys ≡ xs → zs ≡ ys ++ more → GoesOn xs zs
goes_on_by xs ys more zs same is = (more, is ∙ ap (λ (q : List Gate). q ++ more) same)

pub goes_on_then : (xs ys zs : List Gate) → GoesOn xs ys → GoesOn ys zs → GoesOn xs zs
goes_on_then xs ys zs first then = goes_on_more xs ys then.0 zs first then.1

pub follows_front : (xs ys : List Gate) (x : Valuation) → GoesOn xs ys → Follows ys x → Follows xs x
follows_front xs ys x goes_on follows =
    record { constant = follows.constant; fires = All-left (Fires x) xs goes_on.0 (subst (All (Fires x)) goes_on.1 follows.fires) }

-- the last gate fires
pub last_fires : (xs ys : List Gate) (g : Gate) (x : Valuation) → ys ≡ xs ++ g ∷ [] → Follows ys x → Fires x g
last_fires xs ys g x is follows = All-head (Fires x) g [] (All-right (Fires x) xs (g ∷ []) (subst (All (Fires x)) is follows.fires))

-- ---- three gates that say that two literals are equal

equal_values : (o t : Bool) → (not (o && not t) && not (not o && t)) ≡ same o t
equal_values true true = refl
equal_values true false = refl
equal_values false true = refl
equal_values false false = refl

pub equal_says : (old first second third : List Gate) (one other not_one not_other a b not_a not_b c : Lit) →
    not_other ≡ negation other → not_one ≡ negation one → not_a ≡ negation a → not_b ≡ negation b →
    first ≡ old ++ record { lhs = a; rhs0 = one; rhs1 = not_other } ∷ [] →
    second ≡ first ++ record { lhs = b; rhs0 = not_one; rhs1 = other } ∷ [] →
    third ≡ second ++ record { lhs = c; rhs0 = not_a; rhs1 = not_b } ∷ [] →
    (x : Valuation) → Follows third x → value_of x c ≡ same (value_of x one) (value_of x other)
equal_says old first second third one other not_one not_other a b not_a not_b c denies_other denies_one denies_a denies_b is_first is_second is_third x follows =
    let at_second : Follows second x = follows_front second third x (record { lhs = c; rhs0 = not_a; rhs1 = not_b } ∷ [], is_third) follows in
    let at_first : Follows first x = follows_front first second x (record { lhs = b; rhs0 = not_one; rhs1 = other } ∷ [], is_second) at_second in
    let says_a : value_of x a ≡ (value_of x one && value_of x not_other) = last_fires old first (record { lhs = a; rhs0 = one; rhs1 = not_other }) x is_first at_first in
    let says_b : value_of x b ≡ (value_of x not_one && value_of x other) = last_fires first second (record { lhs = b; rhs0 = not_one; rhs1 = other }) x is_second at_second in
    let says_c : value_of x c ≡ (value_of x not_a && value_of x not_b) = last_fires second third (record { lhs = c; rhs0 = not_a; rhs1 = not_b }) x is_third follows in
    let other_off : value_of x not_other ≡ not (value_of x other) = ap (value_of x) denies_other ∙ value-negation x other in
    let one_off : value_of x not_one ≡ not (value_of x one) = ap (value_of x) denies_one ∙ value-negation x one in
    let a_off : value_of x not_a ≡ not (value_of x one && not (value_of x other)) =
    ap (value_of x) denies_a ∙ value-negation x a ∙ ap not (says_a ∙ ap (λ b. value_of x one && b) other_off) in
    let b_off : value_of x not_b ≡ not (not (value_of x one) && value_of x other) =
    ap (value_of x) denies_b ∙ value-negation x b ∙ ap not (says_b ∙ ap (λ b. b && value_of x other) one_off) in
    says_c ∙ ap (λ b. b && value_of x not_b) a_off ∙ ap (λ b. not (value_of x one && not (value_of x other)) && b) b_off ∙ equal_values (value_of x one) (value_of x other)

-- ---- a gate more for each literal

pub and-true : (b : Bool) → (b && true) ≡ b
and-true true = refl
and-true false = refl

pub and-assoc : (a b c : Bool) → ((a && b) && c) ≡ (a && (b && c))
and-assoc true b c = refl
and-assoc false b c = refl

pub all_true_more : (x : Valuation) (lits : List Lit) (a : Lit) → all_true x (lits ++ a ∷ []) ≡ (all_true x lits && value_of x a)
all_true_more x [] a = and-true (value_of x a)
all_true_more x (b ∷ lits) a = ap (λ c. value_of x b && c) (all_true_more x lits a) ∙ sym (and-assoc (value_of x b) (all_true x lits) (value_of x a))

-- one more is joined
pub all_step : (lits : List Lit) (k : ℕ) (d so_far c : Lit) (gs more : List Gate) → k < length lits →
    more ≡ gs ++ record { lhs = c; rhs0 = so_far; rhs1 = get_or lits k d } ∷ [] →
    ((x : Valuation) → Follows gs x → value_of x so_far ≡ all_true x (take k lits)) →
    (x : Valuation) → Follows more x → value_of x c ≡ all_true x (take (k + 1) lits)
all_step lits k d so_far c gs more k_in is_more says x follows =
    let a : Lit = get_or lits k d in
    let gate : Gate = record { lhs = c; rhs0 = so_far; rhs1 = a } in
    let before : value_of x so_far ≡ all_true x (take k lits) = says x (follows_front gs more x (gate ∷ [], is_more) follows) in
    let here : value_of x c ≡ (value_of x so_far && value_of x a) = last_fires gs more gate x is_more follows in
    here ∙ ap (λ b. b && value_of x a) before ∙ sym (all_true_more x (take k lits) a) ∙ ap (all_true x) (sym (take_more lits k d k_in))

-- all are joined
pub all_last : (lits : List Lit) (k : ℕ) (so_far : Lit) (gs : List Gate) → length lits ≤ k →
    ((x : Valuation) → Follows gs x → value_of x so_far ≡ all_true x (take k lits)) →
    (x : Valuation) → Follows gs x → value_of x so_far ≡ all_true x lits
all_last lits k so_far gs whole says x follows = says x follows ∙ ap (all_true x) (take_all k lits whole)

-- all given, and not all wanted
pub breaks_says : (old first second third : List Gate) (given wanted : List Lit) (a b not_b c : Lit) →
    GoesOn old first → ((x : Valuation) → Follows first x → value_of x a ≡ all_true x given) →
    GoesOn first second → ((x : Valuation) → Follows second x → value_of x b ≡ all_true x wanted) →
    not_b ≡ negation b → third ≡ second ++ record { lhs = c; rhs0 = a; rhs1 = not_b } ∷ [] →
    (x : Valuation) → Follows third x → value_of x c ≡ (all_true x given && not (all_true x wanted))
breaks_says old first second third given wanted a b not_b c to_first says_a to_second says_b denies is x follows =
    let gate : Gate = record { lhs = c; rhs0 = a; rhs1 = not_b } in
    let at_second : Follows second x = follows_front second third x (gate ∷ [], is) follows in
    let at_first : Follows first x = follows_front first second x to_second at_second in
    let off : value_of x not_b ≡ not (all_true x wanted) = ap (value_of x) denies ∙ value-negation x b ∙ ap not (says_b x at_second) in
    last_fires second third gate x is follows ∙ ap (λ b. b && value_of x not_b) (says_a x at_first) ∙ ap (λ b. all_true x given && b) off
