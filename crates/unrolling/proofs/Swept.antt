-- Literals that are equal where the functions have their values.
use Rattle.std.proofs.Common.{◌≡◌, ◌≢◌, ℕ, zero, suc, ◌+◌, ◌<◌, ◌≤◌, Bool, true, false, not, List, [], ◌∷◌, ◌++◌, length, set, replicate, get_or, All, ℤ, pos, negsuc, neg_ℤ, unsigned_abs, inl, inr, refl, sym, ◌∙◌, ap, subst, arith}
use Rattle.std.proofs.lemmas.Bool.{cases_Bool, cases_eq}
use Rattle.std.proofs.lemmas.List.Elements.{All-contains, All-cons, All-nil, All-append}
use Rattle.graph.proofs.Evaluation.{All-left}
use Rattle.lrat.specs.Literals.{is_true, IsSatisfied, IsLiteral}
use Rattle.cnf.specs.Meaning.{AreSatisfied}
use Rattle.cnf.proofs.Listed.{unit-satisfied}
use Rattle.solver.specs.Answers.{IsCore, IsRefuted}
use Rattle.graph.specs.declared.parts.Parts.{Parts}
use Rattle.cones.specs.Marks.{IsMarked}
use Rattle.unrolling.specs.declared.cone.Cone.{Cone}
use Rattle.unrolling.specs.declared.encoder.Encoder.{Encoder}
use Rattle.unrolling.specs.declared.function.Function.{Function}
use Rattle.unrolling.specs.Cones.{IsConeOf, IsFilled, cell_at, no_cell}
use Rattle.unrolling.specs.Demands.{IsMore}
use Rattle.unrolling.specs.Encodings.{Told, IsDefined, IsEncoding, IsExtended, function_at}
use Rattle.unrolling.specs.Unrollings.{Leaves, IsTable, literal_at}
use Rattle.unrolling.specs.Merged.{AreAsked, AreEqualBy, AreEqualIn, AreMerged, IsReady, IsTurned, equal_at}
use Rattle.unrolling.proofs.Demanded.{IsOver, given_begins, given_later, given_more, more_same, over_negated}
use Rattle.unrolling.proofs.Negated.{negation_literal, negation_true, literal_up, twice}
use Rattle.unrolling.proofs.Tabled.{table_set}

pub core_refuted : (cs : List (List ℤ)) (assume core : List ℤ) → IsCore cs assume core → IsRefuted cs assume
core_refuted cs assume core is v all are = is.refuted v all (λ i d i_in. All-contains (λ x. is_true v x ≡ true) assume (get_or core i d) are (is.among i d i_in))

-- what is false of one and true of the other
pub opposed : (cs : List (List ℤ)) (l k : ℤ) → k ≢ pos 0 → IsRefuted cs (neg_ℤ k ∷ l ∷ []) → (v : ℕ → Bool) → AreSatisfied v cs → is_true v l ≡ true → is_true v k ≡ true
opposed cs l k nz refuted v all on = elim (cases_Bool (is_true v k)) [
  | inl is_on ↦ is_on
  | inr is_off ↦
      let turned : is_true v (neg_ℤ k) ≡ true = negation_true v k nz ∙ ap not is_off in
      let P : ℤ → Type 0 = λ x. is_true v x ≡ true in
      absurd (refuted v all (All-cons P (neg_ℤ k) (l ∷ []) turned (All-cons P l [] on (All-nil P))))
]

pub as_literals : (cs : List (List ℤ)) (a b x y : ℤ) → a ≡ x → b ≡ y → IsRefuted cs (a ∷ b ∷ []) → IsRefuted cs (x ∷ y ∷ [])
as_literals cs a b x y is_x is_y h = subst (λ q. IsRefuted cs (q ∷ y ∷ [])) is_x (subst (λ q. IsRefuted cs (a ∷ q ∷ [])) is_y h)

pub both_ways : (b c : Bool) → (b ≡ true → c ≡ true) → (c ≡ true → b ≡ true) → b ≡ c
both_ways true c f g = sym (f refl)
both_ways false true f g = g refl
both_ways false false f g = refl

pub equal_by : (cs : List (List ℤ)) (l k : ℤ) → l ≢ pos 0 → k ≢ pos 0 → IsRefuted cs (neg_ℤ k ∷ l ∷ []) → IsRefuted cs (neg_ℤ l ∷ k ∷ []) → AreEqualBy cs l k
equal_by cs l k lz kz one other v all = both_ways (is_true v l) (is_true v k) (opposed cs l k kz one v all) (opposed cs k l lz other v all)

-- clauses that say no more than the functions
pub equal_in : (e : Encoder) (marks : List Bool) (vars : ℕ) (cs : List (List ℤ)) (l k : ℤ) → AreAsked e marks vars cs → AreEqualBy cs l k → AreEqualIn e.functions.items l k
equal_in e marks vars cs l k asked equal v defined =
    let one : AreSatisfied v ((pos 1 ∷ []) ∷ []) = All-cons (IsSatisfied v) (pos 1 ∷ []) [] (unit-satisfied v (pos 1) defined.truth) (All-nil (IsSatisfied v)) in
    equal v (asked.more.stronger v defined one)

-- what a variable is equal to, turned as a literal of it is
turned_true : (v : ℕ → Bool) (l k r : ℤ) → l ≢ pos 0 → k ≢ pos 0 → IsTurned l k r → is_true v k ≡ is_true v (pos (unsigned_abs l)) → is_true v r ≡ is_true v l
turned_true v l k r lz kz (inl (own, same)) e = ap (is_true v) same ∙ e ∙ ap (is_true v) (sym own)
turned_true v l k r lz kz (inr (own, same)) e = ap (is_true v) same ∙ negation_true v k kz ∙ ap not (e ∙ ap (is_true v) (sym own) ∙ negation_true v l lz) ∙ sym (twice (is_true v l))

pub turned_literal : (n : ℕ) (l k r : ℤ) → IsTurned l k r → IsLiteral n k → IsLiteral n r
turned_literal n l k r (inl (own, same)) is = subst (IsLiteral n) (sym same) is
turned_literal n l k r (inr (own, same)) is = subst (IsLiteral n) (sym same) (negation_literal n k is)

pub turned_equal : (fs : List Function) (n : ℕ) (equals : List ℤ) (l r : ℤ) → AreMerged fs n equals → IsLiteral n l → equal_at equals (unsigned_abs l) ≢ pos 0 → IsTurned l (equal_at equals (unsigned_abs l)) r → AreEqualIn fs r l
turned_equal fs n equals l r merged l_in nz is v defined = turned_true v l (equal_at equals (unsigned_abs l)) r l_in.0 nz is (merged.equal (unsigned_abs l) nz v defined)

-- a literal is equal to another one, and its variable to that one turned
turned_back : (v : ℕ → Bool) (l k r : ℤ) → l ≢ pos 0 → k ≢ pos 0 → IsTurned l k r → is_true v k ≡ is_true v l → is_true v r ≡ is_true v (pos (unsigned_abs l))
turned_back v l k r lz kz (inl (own, same)) e = ap (is_true v) same ∙ e ∙ ap (is_true v) own
turned_back v l k r lz kz (inr (own, same)) e = ap (is_true v) same ∙ negation_true v k kz ∙ ap not e ∙ sym (negation_true v l lz) ∙ ap (is_true v) own

-- one more that was shown
pub noted : (fs : List Function) (n : ℕ) (olds news : List ℤ) (l k r : ℤ) → AreMerged fs n olds → IsLiteral n l → IsLiteral n k → AreEqualIn fs k l → IsTurned l k r → equal_at news (unsigned_abs l) ≡ r →
    ((x : ℕ) → x ≢ unsigned_abs l → equal_at news x ≡ equal_at olds x) → AreMerged fs n news
noted fs n olds news l k r merged l_in k_in equal is here others = record {
  range = λ x nz. elim (cases_eq x (unsigned_abs l)) [
    | inl same ↦ subst (IsLiteral n) (sym (ap (equal_at news) same ∙ here)) (turned_literal n l k r is k_in)
    | inr apart ↦ subst (IsLiteral n) (sym (others x apart)) (merged.range x (λ z. nz (others x apart ∙ z)))
  ];
  equal = λ x nz v defined. elim (cases_eq x (unsigned_abs l)) [
    | inl same ↦ ap (is_true v) (ap (equal_at news) same ∙ here) ∙ turned_back v l k r l_in.0 k_in.0 is (equal v defined) ∙ ap (λ q. is_true v (pos q)) (sym same)
    | inr apart ↦ ap (is_true v) (others x apart) ∙ merged.equal x (λ z. nz (others x apart ∙ z)) v defined
  ];
}

-- more functions
pub merged_later : (fs gs : List Function) (n k : ℕ) (equals : List ℤ) → ((v : ℕ → Bool) → IsDefined gs v → IsDefined fs v) → n ≤ k → AreMerged fs n equals → AreMerged gs k equals
merged_later fs gs n k equals weaker le merged = record {
  range = λ x nz. literal_up n k (equal_at equals x) (merged.range x nz) le;
  equal = λ x nz v defined. merged.equal x nz v (weaker v defined);
}

pub more_later : (fs gs : List Function) (cs ds : List (List ℤ)) → ((v : ℕ → Bool) → IsDefined gs v → IsDefined fs v) → IsMore fs cs ds → IsMore gs cs ds
more_later fs gs cs ds weaker more = record {
  weaker = more.weaker;
  stronger = λ v defined all. more.stronger v (weaker v defined) all;
}

pub ready_later : (e f : Encoder) (marks : List Bool) (vars : ℕ) (cs : List (List ℤ)) (equals : List ℤ) → IsExtended e.variables e.functions.items f.variables f.functions.items → IsReady e marks vars cs equals → IsReady f marks vars cs equals
ready_later e f marks vars cs equals extended ready = record {
  asked = λ long.
      let asked = ready.asked (omega (arith, long, extended.more)) in
      record {
        places = asked.places;
        small = asked.small;
        given = given_later e f marks cs extended long asked.given;
        more = more_later e.functions.items f.functions.items ((pos 1 ∷ []) ∷ []) cs extended.weaker asked.more;
      };
  merged = merged_later e.functions.items f.functions.items e.variables f.variables equals extended.weaker extended.more ready.merged;
}

-- an equal literal in the place of a cell's
pub table_merged : (m : Parts) (c : Cone) (s : Leaves) (d : Told) (t n g : ℕ) (l : ℤ) (table : List ℤ) → IsConeOf m c → g < length c.cells.items →
    IsTable m c s d t n (length c.inputs.items) (length c.latches.items) (g + 1) table → IsLiteral n l → AreEqualIn d.functions l (literal_at table (cell_at c.cells.items g).variable) →
    IsTable m c s d t n (length c.inputs.items) (length c.latches.items) (g + 1) (set table (cell_at c.cells.items g).variable l)
table_merged m c s d t n g l table cone g_in is l_in equal =
    let x : ℕ = (cell_at c.cells.items g).variable in
    let range = cone.range g no_cell g_in in
    let filled : IsFilled m c (length c.inputs.items) (length c.latches.items) (g + 1) x = inr (inr (inr (g, omega arith, refl))) in
    table_set m c s d t n (length c.inputs.items) (length c.latches.items) (g + 1) (length c.inputs.items) (length c.latches.items) (g + 1) x l table is (omega (arith, range.0)) l_in
    (λ r v follows all t_in. equal v all.0 ∙ is.stands x filled r v follows all t_in) (λ y y_filled. inl y_filled)

-- before the first time
pub merged_none : (fs : List Function) (n : ℕ) (equals : List ℤ) → equals ≡ [] → AreMerged fs n equals
merged_none fs n equals none = record {
  range = λ x nz. absurd (nz (ap (λ q. equal_at q x) none));
  equal = λ x nz. absurd (nz (ap (λ q. equal_at q x) none));
}

pub ready_none : (e : Encoder) (marks : List Bool) (vars : ℕ) (cs : List (List ℤ)) (equals : List ℤ) → marks ≡ [] → equals ≡ [] → IsReady e marks vars cs equals
ready_none e marks vars cs equals none no_equals = record {
  asked = λ long. absurd (omega (arith, long, ap length none));
  merged = merged_none e.functions.items e.variables equals no_equals;
}

-- a literal is false or what it equals is true, and the other way round
either : (v : ℕ → Bool) (l k : ℤ) → l ≢ pos 0 → is_true v l ≡ is_true v k → IsSatisfied v (neg_ℤ l ∷ k ∷ [])
either v l k nz e = elim (cases_Bool (is_true v l)) [
  | inl on ↦ (k, (1, omega arith, refl), sym e ∙ on)
  | inr off ↦ (neg_ℤ l, (0, omega arith, refl), negation_true v l nz ∙ ap not off)
]

or_not : (v : ℕ → Bool) (l k : ℤ) → k ≢ pos 0 → is_true v l ≡ is_true v k → IsSatisfied v (l ∷ neg_ℤ k ∷ [])
or_not v l k nz e = elim (cases_Bool (is_true v k)) [
  | inl on ↦ (l, (0, omega arith, refl), e ∙ on)
  | inr off ↦ (neg_ℤ k, (1, omega arith, refl), negation_true v k nz ∙ ap not off)
]

-- one clause more that the functions imply
asked_more : (e : Encoder) (marks : List Bool) (vars : ℕ) (cs es : List (List ℤ)) (c : List ℤ) → AreAsked e marks vars cs → es ≡ cs ++ c ∷ [] → All (IsOver e.variables marks) c → ((v : ℕ → Bool) → IsDefined e.functions.items v → IsSatisfied v c) →
    AreAsked e marks vars es
asked_more e marks vars cs es c asked is over implied =
    let one : List (List ℤ) = (pos 1 ∷ []) ∷ [] in
    record {
      places = asked.places;
      small = asked.small;
      given = given_more e marks cs (c ∷ []) es is (All-cons (All (IsOver e.variables marks)) c [] over (All-nil (All (IsOver e.variables marks)))) asked.given;
      more = record {
        weaker = λ v all. asked.more.weaker v (All-left (IsSatisfied v) cs (c ∷ []) (subst (AreSatisfied v) is all));
        stronger = λ v defined all. subst (AreSatisfied v) (sym is) (All-append (IsSatisfied v) cs (c ∷ []) (asked.more.stronger v defined all) (All-cons (IsSatisfied v) c [] (implied v defined) (All-nil (IsSatisfied v))));
      };
    }

-- the solver has the literals equal
pub asked_equal : (e : Encoder) (marks : List Bool) (vars : ℕ) (cs ds es : List (List ℤ)) (l k : ℤ) → AreAsked e marks vars cs → ds ≡ cs ++ (neg_ℤ l ∷ k ∷ []) ∷ [] → es ≡ ds ++ (l ∷ neg_ℤ k ∷ []) ∷ [] →
    IsLiteral e.variables l → IsLiteral e.variables k → IsMarked marks (unsigned_abs l) → IsMarked marks (unsigned_abs k) → AreEqualIn e.functions.items l k → AreAsked e marks vars es
asked_equal e marks vars cs ds es l k asked ds_is es_is l_in k_in l_on k_on equal =
    let n : ℕ = e.variables in
    let Q : ℤ → Type 0 = IsOver n marks in
    let first = asked_more e marks vars cs ds (neg_ℤ l ∷ k ∷ []) asked ds_is (All-cons Q (neg_ℤ l) (k ∷ []) (over_negated n marks l (l_in, l_on)) (All-cons Q k [] (k_in, k_on) (All-nil Q))) (λ v defined. either v l k l_in.0 (equal v defined)) in
    asked_more e marks vars ds es (l ∷ neg_ℤ k ∷ []) first es_is (All-cons Q l (neg_ℤ k ∷ []) (l_in, l_on) (All-cons Q (neg_ℤ k) [] (over_negated n marks k (k_in, k_on)) (All-nil Q))) (λ v defined. or_not v l k k_in.0 (equal v defined))

no_first : (l : ℤ) → l ≢ pos 0 → unsigned_abs l < 1 → ⊥
no_first (pos zero) nz lt = nz refl
no_first (pos (suc n)) nz lt = omega (arith, lt)
no_first (negsuc n) nz lt = omega (arith, lt)

-- the solver begins
pub asked_begins : (e : Encoder) (n vars : ℕ) (marks : List Bool) (cs : List (List ℤ)) → IsEncoding e → marks ≡ set (replicate n false) 1 true → length marks ≡ vars + 1 → e.variables ≤ vars → vars ≤ 2147483647 → cs ≡ (pos 1 ∷ []) ∷ [] → AreAsked e marks vars cs
asked_begins e n vars marks cs encoding is places le small cs_is = record {
  places = places;
  small = small;
  given = given_begins e n marks cs is (omega (arith, places, le)) encoding.some (λ gate. let below = encoding.below 1 gate in no_first (function_at e.functions.items 1).leaves.0 below.0.0 below.0.1) cs_is;
  more = subst (IsMore e.functions.items ((pos 1 ∷ []) ∷ [])) (sym cs_is) (more_same e.functions.items ((pos 1 ∷ []) ∷ []));
}
