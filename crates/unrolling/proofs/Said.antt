-- Functions that clauses say: what the clauses of covers mean, and what is given of a function.
use Rattle.std.proofs.Common.{◌≡◌, ◌≢◌, ℕ, ◌<◌, ◌≤◌, ◌⊎◌, ◌&&◌, ◌||◌, if◌then◌else◌, Bool, true, false, not, List, [], ◌∷◌, ◌++◌, map, All, ℤ, pos, neg_ℤ, unsigned_abs, inl, inr, refl, sym, ◌∙◌, ap, subst, arith}
use Rattle.std.proofs.lemmas.List.Elements.{All-nil, All-cons, All-head, All-tail, All-append, All-map}
use Rattle.graph.proofs.Evaluation.{All-left, All-right}
use Rattle.lrat.specs.Literals.{is_true, IsSatisfied, IsLiteral}
use Rattle.cnf.specs.Meaning.{AreSatisfied}
use Rattle.cnf.proofs.Listed.{any_true, any-satisfied, satisfied-any}
use Rattle.cones.specs.Marks.{IsMarked}
use Rattle.cones.specs.Reach.{IsFrom}
use Rattle.truth_tables.specs.declared.cube.Side.{Side}
use Rattle.truth_tables.specs.declared.cube.Side.TheVariants.{Free, True, False}
use Rattle.truth_tables.specs.declared.cube.Cube.{Cube}
use Rattle.truth_tables.specs.Cubes.{holds, is_in, in_some}
use Rattle.unrolling.specs.declared.encoder.Encoder.{Encoder}
use Rattle.unrolling.specs.declared.function.Function.{Function}
use Rattle.unrolling.specs.Encodings.{function_value, function_at, OnFour, OnLeaves, IsGate, IsBelow, IsDefined, IsEncoding}
use Rattle.unrolling.specs.Demands.{AreOver, IsGivenOne, IsSaid, side_clause, cube_clause}
use Rattle.unrolling.proofs.Encoded.{IsSome, Has, same_true, same_value, four_weaker}
use Rattle.unrolling.proofs.Negated.{negation_true}
use Rattle.unrolling.proofs.Demanded.{IsOver, over_negated, over_later, own_nonzero, own_true, up_from}

-- values of clauses
or_false : (b : Bool) → (b || false) ≡ b
or_false true = refl
or_false false = refl

or_join : (a b c : Bool) → ((a || b) || c) ≡ (a || (b || c))
or_join true b c = refl
or_join false b c = refl

neither : (a b : Bool) → (not a || not b) ≡ not (a && b)
neither true b = refl
neither false b = refl

not_twice : (b : Bool) → (b || false) ≡ not (not b)
not_twice true = refl
not_twice false = refl

any_append : (v : ℕ → Bool) (c d : List ℤ) → any_true v (c ++ d) ≡ (any_true v c || any_true v d)
any_append v [] d = refl
any_append v (l ∷ c) d = ap (λ b. is_true v l || b) (any_append v c d) ∙ sym (or_join (is_true v l) (any_true v c) (any_true v d))

side_any : (v : ℕ → Bool) (s : Side) (l : ℤ) → l ≢ pos 0 → any_true v (side_clause s l) ≡ not (holds s (is_true v l))
unfolding holds
side_any v Free l nz = refl
side_any v True l nz = or_false (is_true v (neg_ℤ l)) ∙ negation_true v l nz
side_any v False l nz = not_twice (is_true v l)

-- whether the literals' values are in the cube
abbrev inside : (ℕ → Bool) → ℤ × ℤ × ℤ × ℤ → Cube → Bool
inside v q k = is_in k (is_true v q.0) (is_true v q.1) (is_true v q.2) (is_true v q.3)

abbrev covered : (ℕ → Bool) → ℤ × ℤ × ℤ × ℤ → List Cube → Bool
covered v q ks = in_some ks (is_true v q.0) (is_true v q.1) (is_true v q.2) (is_true v q.3)

abbrev IsNonzero : ℤ → Type 0
IsNonzero l = l ≢ pos 0

sides_any : (v : ℕ → Bool) (q : ℤ × ℤ × ℤ × ℤ) (k : Cube) → OnFour IsNonzero q →
    any_true v (side_clause k.first q.0 ++ (side_clause k.second q.1 ++ (side_clause k.third q.2 ++ side_clause k.fourth q.3))) ≡ not (inside v q k)
unfolding is_in
sides_any v q k nz =
    let a : Bool = holds k.first (is_true v q.0) in
    let b : Bool = holds k.second (is_true v q.1) in
    let c : Bool = holds k.third (is_true v q.2) in
    let d : Bool = holds k.fourth (is_true v q.3) in
    let last : any_true v (side_clause k.third q.2 ++ side_clause k.fourth q.3) ≡ not (c && d) =
    any_append v (side_clause k.third q.2) (side_clause k.fourth q.3) ∙ (λ i. side_any v k.third q.2 nz.2 i || side_any v k.fourth q.3 nz.3 i) ∙ neither c d in
    let three : any_true v (side_clause k.second q.1 ++ (side_clause k.third q.2 ++ side_clause k.fourth q.3)) ≡ not (b && (c && d)) =
    any_append v (side_clause k.second q.1) _ ∙ (λ i. side_any v k.second q.1 nz.1 i || last i) ∙ neither b (c && d) in
    any_append v (side_clause k.first q.0) _ ∙ (λ i. side_any v k.first q.0 nz.0 i || three i) ∙ neither a (b && (c && d))

cube_any : (v : ℕ → Bool) (x : ℤ) (q : ℤ × ℤ × ℤ × ℤ) (k : Cube) → OnFour IsNonzero q → any_true v (cube_clause x q k) ≡ (is_true v x || not (inside v q k))
cube_any v x q k nz = ap (λ b. is_true v x || b) (sides_any v q k nz)

-- the clauses of a cover
implies : (x i : Bool) → (i ≡ true → x ≡ true) → (x || not i) ≡ true
implies true i f = refl
implies false true f = f refl
implies false false f = refl

implied : (x i : Bool) → (x || not i) ≡ true → i ≡ true → x ≡ true
implied true i p e = refl
implied false true p e = p
implied false false p e = absurd (let z : false ≡ true = e in cc)

first_of : (i r : Bool) → i ≡ true → (if i then true else r) ≡ true
first_of true r e = refl
first_of false r e = absurd (let z : false ≡ true = e in cc)

second_of : (i r : Bool) → r ≡ true → (if i then true else r) ≡ true
second_of true r e = refl
second_of false r e = e

either_of : (i r : Bool) → (if i then true else r) ≡ true → (i ≡ true) ⊎ (r ≡ true)
either_of true r e = inl refl
either_of false r e = inr e

cover_satisfied : (v : ℕ → Bool) (x : ℤ) (q : ℤ × ℤ × ℤ × ℤ) (ks : List Cube) → OnFour IsNonzero q → (covered v q ks ≡ true → is_true v x ≡ true) → AreSatisfied v (map (cube_clause x q) ks)
unfolding in_some
cover_satisfied v x q [] nz f = All-nil (IsSatisfied v)
cover_satisfied v x q (k ∷ ks) nz f =
    All-cons (IsSatisfied v) (cube_clause x q k) (map (cube_clause x q) ks)
    (any-satisfied v (cube_clause x q k) (cube_any v x q k nz ∙ implies (is_true v x) (inside v q k) (λ e. f (first_of (inside v q k) (covered v q ks) e))))
    (cover_satisfied v x q ks nz (λ e. f (second_of (inside v q k) (covered v q ks) e)))

cover_meant : (v : ℕ → Bool) (x : ℤ) (q : ℤ × ℤ × ℤ × ℤ) (ks : List Cube) → OnFour IsNonzero q → AreSatisfied v (map (cube_clause x q) ks) → covered v q ks ≡ true → is_true v x ≡ true
unfolding in_some
cover_meant v x q [] nz all e = absurd (let z : false ≡ true = e in cc)
cover_meant v x q (k ∷ ks) nz all e =
    let P : List ℤ → Type 0 = IsSatisfied v in
    let c : List ℤ = cube_clause x q k in
    let rest : List (List ℤ) = map (cube_clause x q) ks in
    elim (either_of (inside v q k) (covered v q ks) e) [
      | inl here ↦ implied (is_true v x) (inside v q k) (sym (cube_any v x q k nz) ∙ satisfied-any v c (All-head P c rest all)) here
      | inr later ↦ cover_meant v x q ks nz (All-tail P c rest all) later
    ]

-- the clauses of a function
same_both : (x f : Bool) → (f ≡ true → x ≡ true) → (not f ≡ true → not x ≡ true) → x ≡ f
same_both true true p q = refl
same_both true false p q = absurd (let z : false ≡ true = q refl in cc)
same_both false true p q = p refl
same_both false false p q = refl

said_satisfied : (v : ℕ → Bool) (x : ℤ) (f : Function) (cs ds : List (List ℤ)) → x ≢ pos 0 → OnLeaves IsNonzero f → IsSaid x f cs ds → is_true v x ≡ function_value v f → AreSatisfied v cs → AreSatisfied v ds
said_satisfied v x f cs ds x_nz nz said e all =
    let q : ℤ × ℤ × ℤ × ℤ = f.leaves in
    let on : function_value v f ≡ covered v q said.on = said.cover (is_true v q.0) (is_true v q.1) (is_true v q.2) (is_true v q.3) in
    let off : not (function_value v f) ≡ covered v q said.off = said.complement (is_true v q.0) (is_true v q.1) (is_true v q.2) (is_true v q.3) in
    let P : List ℤ → Type 0 = IsSatisfied v in
    subst (AreSatisfied v) (sym said.clauses) (All-append P (cs ++ map (cube_clause x q) said.on) (map (cube_clause (neg_ℤ x) q) said.off)
    (All-append P cs (map (cube_clause x q) said.on) all (cover_satisfied v x q said.on nz (λ h. e ∙ on ∙ h)))
    (cover_satisfied v (neg_ℤ x) q said.off nz (λ h. negation_true v x x_nz ∙ ap not e ∙ off ∙ h)))

said_before : (v : ℕ → Bool) (x : ℤ) (f : Function) (cs ds : List (List ℤ)) → IsSaid x f cs ds → AreSatisfied v ds → AreSatisfied v cs
said_before v x f cs ds said all =
    let P : List ℤ → Type 0 = IsSatisfied v in
    All-left P cs (map (cube_clause x f.leaves) said.on) (All-left P (cs ++ map (cube_clause x f.leaves) said.on) (map (cube_clause (neg_ℤ x) f.leaves) said.off) (subst (AreSatisfied v) said.clauses all))

said_meant : (v : ℕ → Bool) (x : ℤ) (f : Function) (cs ds : List (List ℤ)) → x ≢ pos 0 → OnLeaves IsNonzero f → IsSaid x f cs ds → AreSatisfied v ds → is_true v x ≡ function_value v f
said_meant v x f cs ds x_nz nz said all =
    let q : ℤ × ℤ × ℤ × ℤ = f.leaves in
    let on : function_value v f ≡ covered v q said.on = said.cover (is_true v q.0) (is_true v q.1) (is_true v q.2) (is_true v q.3) in
    let off : not (function_value v f) ≡ covered v q said.off = said.complement (is_true v q.0) (is_true v q.1) (is_true v q.2) (is_true v q.3) in
    let P : List ℤ → Type 0 = IsSatisfied v in
    let firsts : List (List ℤ) = map (cube_clause x q) said.on in
    let seconds : List (List ℤ) = map (cube_clause (neg_ℤ x) q) said.off in
    let both : AreSatisfied v ((cs ++ firsts) ++ seconds) = subst (AreSatisfied v) said.clauses all in
    same_both (is_true v x) (function_value v f)
    (λ e. cover_meant v x q said.on nz (All-right P cs firsts (All-left P (cs ++ firsts) seconds both)) (sym on ∙ e))
    (λ e. sym (negation_true v x x_nz) ∙ cover_meant v (neg_ℤ x) q said.off nz (All-right P (cs ++ firsts) seconds both) (sym off ∙ e))

-- the clauses' literals
side_all : (P : ℤ → Type 0) (s : Side) (l : ℤ) → ((l : ℤ) → P l → P (neg_ℤ l)) → P l → All P (side_clause s l)
side_all P Free l turned is = All-nil P
side_all P True l turned is = All-cons P (neg_ℤ l) [] (turned l is) (All-nil P)
side_all P False l turned is = All-cons P l [] is (All-nil P)

pub cube_all : (P : ℤ → Type 0) (x : ℤ) (q : ℤ × ℤ × ℤ × ℤ) (k : Cube) → ((l : ℤ) → P l → P (neg_ℤ l)) → P x → OnFour P q → All P (cube_clause x q k)
cube_all P x q k turned x_is is =
    All-cons P x _ x_is (All-append P (side_clause k.first q.0) _ (side_all P k.first q.0 turned is.0)
    (All-append P (side_clause k.second q.1) _ (side_all P k.second q.1 turned is.1)
    (All-append P (side_clause k.third q.2) _ (side_all P k.third q.2 turned is.2) (side_all P k.fourth q.3 turned is.3))))

cover_all : (P : ℤ → Type 0) (x : ℤ) (q : ℤ × ℤ × ℤ × ℤ) (ks : List Cube) → ((l : ℤ) → P l → P (neg_ℤ l)) → P x → OnFour P q → All (All P) (map (cube_clause x q) ks)
cover_all P x q [] turned x_is is = All-nil (All P)
cover_all P x q (k ∷ ks) turned x_is is = All-cons (All P) (cube_clause x q k) (map (cube_clause x q) ks) (cube_all P x q k turned x_is is) (cover_all P x q ks turned x_is is)

said_over : (n : ℕ) (marks : List Bool) (x : ℤ) (f : Function) (cs ds : List (List ℤ)) → IsSaid x f cs ds → IsOver n marks x → OnLeaves (IsOver n marks) f → AreOver n marks cs → AreOver n marks ds
said_over n marks x f cs ds said x_is is over =
    let Q : ℤ → Type 0 = IsOver n marks in
    let turned : (l : ℤ) → Q l → Q (neg_ℤ l) = over_negated n marks in
    let firsts : List (List ℤ) = map (cube_clause x f.leaves) said.on in
    subst (AreOver n marks) (sym said.clauses) (All-append (All Q) (cs ++ firsts) (map (cube_clause (neg_ℤ x) f.leaves) said.off)
    (All-append (All Q) cs firsts over (cover_all Q x f.leaves said.on turned x_is is)) (cover_all Q (neg_ℤ x) f.leaves said.off turned (turned x x_is) is))

-- the four as a list
abbrev pub listed : ℤ × ℤ × ℤ × ℤ → List ℤ
listed q = q.0 ∷ q.1 ∷ q.2 ∷ q.3 ∷ []

four_all : (P : ℤ → Type 0) (q : ℤ × ℤ × ℤ × ℤ) → OnFour P q → All P (listed q)
four_all P q is =
    All-cons P q.0 (q.1 ∷ q.2 ∷ q.3 ∷ []) is.0 (All-cons P q.1 (q.2 ∷ q.3 ∷ []) is.1 (All-cons P q.2 (q.3 ∷ []) is.2 (All-cons P q.3 [] is.3 (All-nil P))))

pub all_four : (P : ℤ → Type 0) (q : ℤ × ℤ × ℤ × ℤ) → All P (listed q) → OnFour P q
all_four P q all = (all 0 q.0 (omega arith), all 1 q.1 (omega arith), all 2 q.2 (omega arith), all 3 q.3 (omega arith))

-- what is given of a function
pub given_function : (e : Encoder) (t u : List Bool) (cs ds : List (List ℤ)) (x : ℕ) (f : Function) → IsEncoding e → IsMarked t x → function_at e.functions.items x ≡ f → IsSome f → IsSaid (pos x) f cs ds →
    ((y : ℕ) → IsMarked t y → IsMarked u y) → OnLeaves (λ l. IsMarked u (unsigned_abs l)) f → IsFrom (map unsigned_abs (listed f.leaves)) t u → IsGivenOne e t u cs ds x
given_function e t u cs ds x f encoding on here some said kept marked from =
    let n : ℕ = e.variables in
    let fs : List Function = e.functions.items in
    let gate : IsGate fs x = subst IsSome (sym here) some in
    let x_in : x ≤ n = encoding.used x gate in
    let below : OnLeaves (IsBelow x) f = subst (OnLeaves (IsBelow x)) here (encoding.below x gate) in
    let lower = below.0.1 in
    let positive : 0 < x = omega (arith, lower) in
    let x_nz : pos x ≢ pos 0 = own_nonzero x positive in
    let nz : OnLeaves IsNonzero f = four_weaker (IsBelow x) IsNonzero f.leaves (λ l h. h.0) below in
    let in_range : OnLeaves (IsLiteral n) f = four_weaker (IsBelow x) (IsLiteral n) f.leaves (λ l h. let lt = h.1 in (h.0, omega (arith, lt, x_in))) below in
    let has : (v : ℕ → Bool) → IsDefined fs v → v x ≡ function_value v f = λ v defined. subst (Has v x) here (defined.gates x gate) in
    record {
      range = up_from n (map unsigned_abs (listed f.leaves)) t u from (All-map (λ v. v ≤ n) unsigned_abs (listed f.leaves) (four_all (λ l. unsigned_abs l ≤ n) f.leaves (four_weaker (IsLiteral n) (λ l. unsigned_abs l ≤ n) f.leaves (λ l h. h.1) in_range)));
      over = λ over. said_over n u (pos x) f cs ds said ((x_nz, x_in), kept x on) ((in_range.0, marked.0), (in_range.1, marked.1), (in_range.2, marked.2), (in_range.3, marked.3)) (over_later n n t u cs (omega arith) kept over);
      more = record {
        weaker = λ v all. said_before v (pos x) f cs ds said all;
        stronger = λ v defined all. said_satisfied v (pos x) f cs ds x_nz nz said (own_true v x positive ∙ has v defined) all;
      };
      decided = λ is w z satisfied defined agree.
          let read : (l : ℤ) → IsBelow x l → IsMarked u (unsigned_abs l) → is_true z l ≡ is_true w l = λ l h l_on. same_true z w l (agree (unsigned_abs l) h.1 l_on) in
          let same : function_value z f ≡ function_value w f =
          same_value z w f (read f.leaves.0 below.0 marked.0, read f.leaves.1 below.1 marked.1, read f.leaves.2 below.2 marked.2, read f.leaves.3 below.3 marked.3) in
          has z defined ∙ same ∙ sym (said_meant w (pos x) f cs ds x_nz nz said satisfied) ∙ own_true w x positive;
    }
