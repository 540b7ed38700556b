-- Variables that become functions of four literals, and the table of functions that have one.
use Rattle.std.proofs.Common.{◌≡◌, ◌≢◌, ℕ, zero, suc, ◌+◌, ◌<◌, ◌≤◌, ◌&&◌, ◌==◌, if◌then◌else◌, Bool, true, false, not, List, [], ◌∷◌, ◌++◌, length, get_or, All, ℤ, pos, negsuc, unsigned_abs, Some, inl, inr, refl, sym, ◌∙◌, ap, subst, arith}
use Rattle.std.specs.HashMap.{get}
use Rattle.std.specs.Ordering.{int_eq}
use Rattle.std.proofs.lemmas.Bool.{cases_Bool, cases_eq, eq-eqb, eqb-true, ne_eqb, and_parts}
use Rattle.std.proofs.lemmas.Bool.Decides.{Decides-int_eq}
use Rattle.std.proofs.lemmas.List.{get_or_at}
use Rattle.std.proofs.lemmas.List.Elements.{All-weaker, All-contains}
use Rattle.std.proofs.lemmas.Option.{same_Some}
use Rattle.lrat.specs.Literals.{is_true, IsSatisfied, IsLiteral}
use Rattle.cnf.specs.Meaning.{AreSatisfied}
use Rattle.truth_tables.specs.Tables.{value}
use Rattle.unrolling.specs.declared.encoder.Encoder.{Encoder}
use Rattle.unrolling.specs.declared.function.Function.{Function}
use Rattle.unrolling.specs.Encodings.{function_value, OnFour, OnLeaves, AreLeaves, AreBelow, function_at, no_function, IsGate, IsDefined, IsFunctionIn, IsBelow, IsEncoding, IsExtended, IsGrown, same_function}
use Rattle.unrolling.proofs.Negated.{literal_up}

-- a literal is as true where its variable has the same value
pub same_true : (u v : ℕ → Bool) (l : ℤ) → u (unsigned_abs l) ≡ v (unsigned_abs l) → is_true u l ≡ is_true v l
same_true u v (pos zero) e = refl
same_true u v (pos (suc n)) e = e
same_true u v (negsuc n) e = ap not e

-- what holds of four literals
pub four_weaker : (P Q : ℤ → Type 0) (q : ℤ × ℤ × ℤ × ℤ) → ((l : ℤ) → P l → Q l) → OnFour P q → OnFour Q q
four_weaker P Q q weaker all = (weaker q.0 all.0, weaker q.1 all.1, weaker q.2 all.2, weaker q.3 all.3)

-- the function has the same value where its literals have
pub same_value : (u v : ℕ → Bool) (f : Function) → OnLeaves (λ l. is_true u l ≡ is_true v l) f → function_value u f ≡ function_value v f
same_value u v f same = (λ i. value f.table (same.0 i) (same.1 i) (same.2 i) (same.3 i))

-- the first n variables have the same values
abbrev pub AgreeUpTo : ℕ → (ℕ → Bool) → (ℕ → Bool) → Type 0
AgreeUpTo n u v = (x : ℕ) → x ≤ n → u x ≡ v x

pub agree_true : (n : ℕ) (u v : ℕ → Bool) (l : ℤ) → AgreeUpTo n u v → IsLiteral n l → is_true u l ≡ is_true v l
agree_true n u v l agree is = same_true u v l (agree (unsigned_abs l) is.1)

pub agree_value : (n : ℕ) (u v : ℕ → Bool) (f : Function) → AgreeUpTo n u v → AreLeaves n f → function_value u f ≡ function_value v f
agree_value n u v f agree is = same_value u v f (four_weaker (IsLiteral n) (λ l. is_true u l ≡ is_true v l) f.leaves (λ l l_in. agree_true n u v l agree l_in) is)

pub agree_satisfied : (n : ℕ) (u v : ℕ → Bool) (cs : List (List ℤ)) → All (All (IsLiteral n)) cs → AgreeUpTo n u v → AreSatisfied v cs → AreSatisfied u cs
agree_satisfied n u v cs range agree all k d k_in =
    let one : IsSatisfied v (get_or cs k d) = all k d k_in in
    (one.0, one.1, agree_true n u v one.0 agree (All-contains (IsLiteral n) (get_or cs k d) one.0 (range k d k_in) one.1) ∙ one.2)

-- literals of variables before one
pub below_literals : (n x : ℕ) (f : Function) → x ≤ n → OnLeaves (IsBelow x) f → AreLeaves n f
below_literals n x f le below = four_weaker (IsBelow x) (IsLiteral n) f.leaves (λ l is. let lt = is.1 in (is.0, omega (arith, lt, le))) below

pub literals_below : (n x : ℕ) (f : Function) → n < x → AreLeaves n f → OnLeaves (IsBelow x) f
literals_below n x f lt is = four_weaker (IsLiteral n) (IsBelow x) f.leaves (λ l l_in. let le = l_in.1 in (l_in.0, omega (arith, le, lt))) is

-- one variable's value is another
abbrev pub changed : (ℕ → Bool) → ℕ → Bool → ℕ → Bool
changed v k b x = if x == k then b else v x

pub changed_agrees : (n : ℕ) (v : ℕ → Bool) (b : Bool) → AgreeUpTo n (changed v (suc n) b) v
changed_agrees n v b x x_in = rw (ne_eqb x (suc n) (λ e. omega (arith, e, x_in))) refl

pub changed_here : (v : ℕ → Bool) (k : ℕ) (b : Bool) → changed v k b k ≡ b
changed_here v k b = rw (eq-eqb k k refl) refl

-- later functions
pub extended_same : (n : ℕ) (fs : List Function) → IsExtended n fs n fs
extended_same n fs = record { more = omega arith; same = λ x x_in. refl; weaker = λ v all. all; extends = λ v all. (v, all, λ x x_in. refl) }

pub extended_more : (n k : ℕ) (fs : List Function) → n ≤ k → IsExtended n fs k fs
extended_more n k fs le = record { more = le; same = λ x x_in. refl; weaker = λ v all. all; extends = λ v all. (v, all, λ x x_in. refl) }

pub extended_then : (n k j : ℕ) (fs gs hs : List Function) → IsExtended n fs k gs → IsExtended k gs j hs → IsExtended n fs j hs
extended_then n k j fs gs hs p q = record {
  more = omega (arith, p.more, q.more);
  same = λ x x_in. q.same x (omega (arith, x_in, p.more)) ∙ p.same x x_in;
  weaker = λ v all. p.weaker v (q.weaker v all);
  extends = λ v all.
      let first = p.extends v all in
      let second = q.extends first.0 first.1 in
      (second.0, second.1, λ x x_in. second.2 x (omega (arith, x_in, p.more)) ∙ first.2 x x_in);
}

not_zero : (n : ℕ) → pos (suc n) ≢ pos 0
not_zero n e = cc

pub new_literal : (n : ℕ) → IsLiteral (suc n) (pos (suc n))
new_literal n = (not_zero n, omega arith)

-- the variable has the function's value
abbrev pub Has : (ℕ → Bool) → ℕ → Function → Type 0
Has v x f = v x ≡ function_value v f

-- there is a function at the place
abbrev pub IsSome : Function → Type 0
IsSome f = f.leaves.0 ≢ pos 0

-- the clauses are over more variables
pub literals_up : (n k : ℕ) (cs : List (List ℤ)) → n ≤ k → All (All (IsLiteral n)) cs → All (All (IsLiteral k)) cs
literals_up n k cs le range = All-weaker (All (IsLiteral n)) (All (IsLiteral k)) (λ c all. All-weaker (IsLiteral n) (IsLiteral k) (λ l is. literal_up n k l is le) c all) cs range

-- functions of the first n variables have their values too where these have the same
pub defined_agree : (n : ℕ) (u v : ℕ → Bool) (fs : List Function) → 1 ≤ n → ((x : ℕ) → IsGate fs x → x ≤ n) → AreBelow fs → AgreeUpTo n u v → IsDefined fs v → IsDefined fs u
defined_agree n u v fs some used below agree all = record {
  truth = agree 1 some ∙ all.truth;
  gates = λ x gate.
      let x_in : x ≤ n = used x gate in
      agree x x_in ∙ all.gates x gate ∙ sym (agree_value n u v (function_at fs x) agree (below_literals n x (function_at fs x) x_in (below x gate)));
}

-- one function more
pub pushed_here : (fs : List Function) (n : ℕ) (f : Function) → length fs ≡ n → function_at (fs ++ f ∷ []) n ≡ f
pushed_here fs n f is = get_or_at fs f [] no_function n is

pub pushed_apart : (fs : List Function) (x : ℕ) (f : Function) → x ≢ length fs → function_at (fs ++ f ∷ []) x ≡ function_at fs x
pushed_apart [] zero f apart = absurd (apart refl)
pushed_apart [] (suc x) f apart = refl
pushed_apart (g ∷ fs) zero f apart = refl
pushed_apart (g ∷ fs) (suc x) f apart = pushed_apart fs x f (λ e. apart (ap suc e))

-- a variable that is a function has its value
pub function_in : (gs : List Function) (n : ℕ) (f : Function) → function_at gs (suc n) ≡ f → IsSome f → IsFunctionIn gs f (pos (suc n))
function_in gs n f here some v all = subst (Has v (suc n)) here (all.gates (suc n) (subst IsSome (sym here) some))

-- a variable more
pub extended_function : (n : ℕ) (fs gs : List Function) (f : Function) → 1 ≤ n → ((x : ℕ) → IsGate fs x → x ≤ n) → AreBelow fs → AreLeaves n f →
    function_at gs (suc n) ≡ f → ((x : ℕ) → x ≢ suc n → function_at gs x ≡ function_at fs x) → IsExtended n fs (suc n) gs
extended_function n fs gs f some used below f_in here apart = record {
  more = omega arith;
  same = λ x x_in. apart x (λ e. omega (arith, e, x_in));
  weaker = λ v all. record {
    truth = all.truth;
    gates = λ x gate.
        let x_in : x ≤ n = used x gate in
        let same : function_at gs x ≡ function_at fs x = apart x (λ e. omega (arith, e, x_in)) in
        subst (Has v x) same (all.gates x (subst IsSome (sym same) gate));
  };
  extends = λ v all.
      let b : Bool = function_value v f in
      let u : ℕ → Bool = changed v (suc n) b in
      let agree : AgreeUpTo n u v = changed_agrees n v b in
      let old : IsDefined fs u = defined_agree n u v fs some used below agree all in
      let defined : IsDefined gs u = record {
        truth = old.truth;
        gates = λ x gate. elim (cases_eq x (suc n)) [
          | inl last ↦
              let e : Has u (suc n) f = changed_here v (suc n) b ∙ sym (agree_value n u v f agree f_in) in
              subst (Has u x) (sym (ap (function_at gs) last ∙ here)) (ap u last ∙ e)
          | inr other ↦
              let same : function_at gs x ≡ function_at fs x = apart x other in
              subst (Has u x) (sym same) (old.gates x (subst IsSome same gate))
        ];
      } in
      (u, defined, agree);
}

int_same : (x y : ℤ) → int_eq x y ≡ true → x ≡ y
int_same x y e = (Decides-int_eq x y).0 e

pub function_is : (f g : Function) → same_function f g ≡ true → f ≡ g
function_is f g same =
    let q = f.leaves in
    let p = g.leaves in
    let all = and_parts (f.table == g.table) (((int_eq q.0 p.0 && int_eq q.1 p.1) && int_eq q.2 p.2) && int_eq q.3 p.3) same in
    let three = and_parts ((int_eq q.0 p.0 && int_eq q.1 p.1) && int_eq q.2 p.2) (int_eq q.3 p.3) all.1 in
    let two = and_parts (int_eq q.0 p.0 && int_eq q.1 p.1) (int_eq q.2 p.2) three.0 in
    let one = and_parts (int_eq q.0 p.0) (int_eq q.1 p.1) two.0 in
    let e : f.table ≡ g.table = eqb-true f.table g.table all.0 in
    let e0 : q.0 ≡ p.0 = int_same q.0 p.0 one.0 in
    let e1 : q.1 ≡ p.1 = int_same q.1 p.1 one.1 in
    let e2 : q.2 ≡ p.2 = int_same q.2 p.2 two.1 in
    let e3 : q.3 ≡ p.3 = int_same q.3 p.3 three.1 in
    (λ i. record { table = e i; leaves = (e0 i, e1 i, e2 i, e3 i) })

-- the function is made, and is in the table
pub function_made : (e h : Encoder) (f : Function) → IsEncoding e → AreLeaves e.variables f → h.variables ≡ suc e.variables → length h.functions.items ≡ suc (suc e.variables) →
    function_at h.functions.items (suc e.variables) ≡ f → ((x : ℕ) → x ≢ suc e.variables → function_at h.functions.items x ≡ function_at e.functions.items x) → get same_function h.shared f ≡ Some (suc e.variables) →
    ((g : Function) → same_function f g ≡ false → get same_function h.shared g ≡ get same_function e.shared g) → IsGrown 1 e h
function_made e h f encoding f_in one long here apart found_here others =
    let n : ℕ = e.variables in
    let fs : List Function = e.functions.items in
    let gs : List Function = h.functions.items in
    let extended : IsExtended n fs (suc n) gs = extended_function n fs gs f encoding.some encoding.used encoding.below f_in here apart in
    record {
      encoding = record {
        some = omega (arith, one);
        places = omega (arith, one, long);
        below = λ x gate. elim (cases_eq x (suc n)) [
          | inl last ↦ subst (OnLeaves (IsBelow x)) (sym (ap (function_at gs) last ∙ here)) (literals_below n x f (omega (arith, last)) f_in)
          | inr other ↦ subst (OnLeaves (IsBelow x)) (sym (apart x other)) (encoding.below x (subst IsSome (apart x other) gate))
        ];
        used = λ x gate. elim (cases_eq x (suc n)) [
          | inl last ↦ omega (arith, last, one)
          | inr other ↦ let old = encoding.used x (subst IsSome (apart x other) gate) in omega (arith, old, one)
        ];
        shared = λ g k at. elim (cases_Bool (same_function f g)) [
          | inl same ↦
              let is : f ≡ g = function_is f g same in
              let found : Some (suc n) ≡ Some k = sym found_here ∙ ap (get same_function h.shared) is ∙ at in
              let k_is : suc n ≡ k = same_Some (suc n) k found in
              subst (λ z. IsLiteral h.variables (pos z) × IsFunctionIn gs g (pos z)) k_is (
                subst (λ z. IsLiteral z (pos (suc n))) (sym one) (new_literal n),
                subst (λ z. IsFunctionIn gs z (pos (suc n))) is (function_in gs n f here f_in.0.0),
              )
          | inr other ↦
              let old = encoding.shared g k (sym (others g other) ∙ at) in
              (literal_up n h.variables (pos k) old.0 (omega (arith, one)), λ v all. old.1 v (extended.weaker v all))
        ];
      };
      extended = subst (λ k. IsExtended n fs k gs) (sym one) extended;
      few = omega (arith, one);
    }

-- one after the other
pub grown_then : (i j k : ℕ) (e f h : Encoder) → i + j ≡ k → IsGrown i e f → IsGrown j f h → IsGrown k e h
grown_then i j k e f h is p q = record {
  encoding = q.encoding;
  extended = extended_then e.variables f.variables h.variables e.functions.items f.functions.items h.functions.items p.extended q.extended;
  few = omega (arith, is, p.few, q.few);
}

pub false_literal : (e : Encoder) → IsEncoding e → IsLiteral e.variables (negsuc 0)
false_literal e encoding = (λ z. cc, encoding.some)
