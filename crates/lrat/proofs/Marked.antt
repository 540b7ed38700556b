-- What one mark for each variable says, as literals come and go.
use Rattle.std.proofs.Common.{◌≡◌, Bool, not, ℕ, suc, zero, ◌+◌, ◌<◌, ◌≢◌, ◌⊎◌, ◌↔◌, ◌==◌, true, false, List, [], ◌∷◌, ◌++◌, length, get_or, take, drop, set, All, Contains, IsTrue, ℤ, pos, negsuc, neg_ℤ, unsigned_abs, refl, sym, ◌∙◌, ap, subst, inl, inr, arith, get_or-set_other, get_or-set_same}
use Rattle.std.proofs.lemmas.List.{get_or_default, length-set, length-take, length-drop, get_or-take, get_or-drop, take-append-drop}
use Rattle.std.proofs.lemmas.Bool.Decides.{nat_tests}
use Rattle.std.proofs.lemmas.List.Elements.{All-push, All-nil, Contains-push, Contains-push_cases, Contains-append_left, Contains-append_right, Contains-append_cases, Contains-get_or, All-weaker, All-more, All-contains, All-cons, All-take}
use Rattle.std.proofs.lemmas.List.Quantifiers.{all_pairs_push}
use Rattle.lrat.proofs.Looks.{take_more}
use Rattle.lrat.specs.Literals.{IsLiteral}
use Rattle.lrat.specs.Marks.{Says, AreMarked, AreApart, IsUnmarked, mark_of}
use Rattle.lrat.specs.declared.mark.Mark.{Mark}
use Rattle.lrat.specs.contracts.mark.Mark.{the_type}
use Rattle.lrat.specs.declared.mark.Mark.TheVariants.{Neither, Positive, Negative}
use denote.Enum.Bare.{sameb}

-- the mark of a literal's variable is the literal's own where the literal is held
pub held_mark : (t : List ℤ) (l : ℤ) (m : Mark) → l ≢ pos 0 → Says t (unsigned_abs l) m → (m ≡ mark_of l) ↔ Contains t l
held_mark t (pos zero) m ne says = absurd (ne refl)
held_mark t (pos (suc n)) Neither ne says = (λ e. cc, λ h. absurd (says.0 h))
held_mark t (pos (suc n)) Positive ne says = (λ e. says.0, λ h. refl)
held_mark t (pos (suc n)) Negative ne says = (λ e. cc, λ h. absurd (says.0 h))
held_mark t (negsuc n) Neither ne says = (λ e. cc, λ h. absurd (says.1 h))
held_mark t (negsuc n) Positive ne says = (λ e. cc, λ h. absurd (says.1 h))
held_mark t (negsuc n) Negative ne says = (λ e. says.1, λ h. refl)

-- and its negation's where the negation is held
pub denied_mark : (t : List ℤ) (l : ℤ) (m : Mark) → l ≢ pos 0 → Says t (unsigned_abs l) m → (m ≡ mark_of (neg_ℤ l)) ↔ Contains t (neg_ℤ l)
denied_mark t (pos zero) m ne says = absurd (ne refl)
denied_mark t (pos (suc n)) Neither ne says = (λ e. cc, λ h. absurd (says.1 h))
denied_mark t (pos (suc n)) Positive ne says = (λ e. cc, λ h. absurd (says.1 h))
denied_mark t (pos (suc n)) Negative ne says = (λ e. says.1, λ h. refl)
denied_mark t (negsuc n) Neither ne says = (λ e. cc, λ h. absurd (says.0 h))
denied_mark t (negsuc n) Positive ne says = (λ e. says.0, λ h. refl)
denied_mark t (negsuc n) Negative ne says = (λ e. cc, λ h. absurd (says.0 h))

-- a variable has a mark where one of its literals is held
pub valued_mark : (t : List ℤ) (l : ℤ) (m : Mark) → l ≢ pos 0 → Says t (unsigned_abs l) m → (m ≢ Neither) ↔ (Contains t l ⊎ Contains t (neg_ℤ l))
valued_mark t (pos zero) m ne says = absurd (ne refl)
valued_mark t (pos (suc n)) Neither ne says = (λ e. absurd (e refl), λ h e. elim h [ inl a ↦ says.0 a | inr b ↦ says.1 b ])
valued_mark t (pos (suc n)) Positive ne says = (λ e. inl says.0, λ h e. cc)
valued_mark t (pos (suc n)) Negative ne says = (λ e. inr says.1, λ h e. cc)
valued_mark t (negsuc n) Neither ne says = (λ e. absurd (e refl), λ h e. elim h [ inl a ↦ says.1 a | inr b ↦ says.0 b ])
valued_mark t (negsuc n) Positive ne says = (λ e. inr says.0, λ h e. cc)
valued_mark t (negsuc n) Negative ne says = (λ e. inl says.1, λ h e. cc)

same_marks : (a b : Mark) → IsTrue (sameb the_type a b) ↔ (a ≡ b)
same_marks Neither Neither = (λ h. refl, λ e. refl)
same_marks Neither Positive = (λ h. cc, λ e. cc)
same_marks Neither Negative = (λ h. cc, λ e. cc)
same_marks Positive Neither = (λ h. cc, λ e. cc)
same_marks Positive Positive = (λ h. refl, λ e. refl)
same_marks Positive Negative = (λ h. cc, λ e. cc)
same_marks Negative Neither = (λ h. cc, λ e. cc)
same_marks Negative Positive = (λ h. cc, λ e. cc)
same_marks Negative Negative = (λ h. refl, λ e. refl)

-- a test whether a mark is the one that is wanted
pub tested : {P : Type 0} (m wanted w : Mark) (r : Bool) → r ≡ sameb the_type m wanted → wanted ≡ w → (m ≡ w) ↔ P → IsTrue r ↔ P
tested m wanted w r is same says = rw (is, same) (λ h. says.0 ((same_marks m w).0 h), λ p. (same_marks m w).1 (says.1 p))

not_neither : (m : Mark) → IsTrue (not (sameb the_type m Neither)) ↔ (m ≢ Neither)
not_neither Neither = (λ h. cc, λ ne. absurd (ne refl))
not_neither Positive = (λ h e. cc, λ ne. refl)
not_neither Negative = (λ h e. cc, λ ne. refl)

-- a test whether there is a mark
pub tested_any : {P : Type 0} (m : Mark) (r : Bool) → r ≡ not (sameb the_type m Neither) → (m ≢ Neither) ↔ P → IsTrue r ↔ P
tested_any m r is says = rw is (λ h. says.0 ((not_neither m).0 h), λ p. (not_neither m).1 (says.1 p))

-- what the mark at the literal's variable was read as
pub read_mark : (n : ℕ) (marks : List Mark) (t : List ℤ) (l : ℤ) (i : ℕ) (x m : Mark) → AreMarked n marks t → IsLiteral n l → i ≡ unsigned_abs l → x ≡ get_or marks i x → x ≡ m → Says t (unsigned_abs l) m
read_mark n marks t l i x m are lit at read is =
    let lt : i < length marks = omega (arith, are.marked l lit, at) in
    let e : get_or marks i Neither ≡ m = get_or_default marks i Neither x lt ∙ sym read ∙ is in
    subst (Says t (unsigned_abs l)) (subst (λ j. get_or marks j Neither ≡ m) at e) (are.say (unsigned_abs l))

no_other : (t : List ℤ) (l k : ℤ) → l ≢ k → (Contains t k → ⊥) → Contains (t ++ l ∷ []) k → ⊥
no_other t l k ne none at = elim (Contains-push_cases t l k at) [ inl h ↦ none h | inr e ↦ ne e ]

says_other : (t : List ℤ) (v : ℕ) (l : ℤ) (m : Mark) → l ≢ pos v → l ≢ neg_ℤ (pos v) → Says t v m → Says (t ++ l ∷ []) v m
says_other t v l Neither p q says = (no_other t l _ p says.0, no_other t l _ q says.1)
says_other t v l Positive p q says = (Contains-append_left t (l ∷ []) _ says.0, no_other t l _ q says.1)
says_other t v l Negative p q says = (no_other t l _ p says.0, Contains-append_left t (l ∷ []) _ says.1)

says_same : (t : List ℤ) (l : ℤ) → l ≢ pos 0 → (Contains t (neg_ℤ l) → ⊥) → Says (t ++ l ∷ []) (unsigned_abs l) (mark_of l)
says_same t (pos zero) ne none = absurd (ne refl)
says_same t (pos (suc n)) ne none = (Contains-push t _, no_other t _ _ (λ e. cc) none)
says_same t (negsuc n) ne none = (no_other t _ _ (λ e. cc) none, Contains-push t _)

abs_pos : (l : ℤ) (v : ℕ) → v ≢ unsigned_abs l → l ≢ pos v
abs_pos l v ne e = ne (sym (ap unsigned_abs e))

abs_neg_pos : (v : ℕ) → unsigned_abs (neg_ℤ (pos v)) ≡ v
abs_neg_pos zero = refl
abs_neg_pos (suc n) = refl

abs_neg : (l : ℤ) (v : ℕ) → v ≢ unsigned_abs l → l ≢ neg_ℤ (pos v)
abs_neg l v ne e = ne (sym (abs_neg_pos v) ∙ sym (ap unsigned_abs e))

by_eq : {P : Type 0} (a b : ℕ) → (a ≡ b → P) → (a ≢ b → P) → P
by_eq {P = P} a b y n = elim (a == b) as (λ r. (a == b) ≡ r → P) [ true ↦ λ e. y (grind (arith, nat_tests)) | false ↦ λ e. n (λ same. grind (arith, nat_tests)) ] refl

pub marked_push : (n : ℕ) (marks : List Mark) (t : List ℤ) (l : ℤ) → AreMarked n marks t → IsLiteral n l → (Contains t l → ⊥) → (Contains t (neg_ℤ l) → ⊥) → AreMarked n (set marks (unsigned_abs l) (mark_of l)) (t ++ l ∷ [])
marked_push n marks t l are lit not_held none = record {
  small = are.small;
  marked = λ k is. rw length-set (are.marked k is);
  sized = rw length-set are.sized;
  are_literals = All-push (IsLiteral n) t l are.are_literals lit;
  apart = all_pairs_push (λ a b. (a ≢ b) × (a ≢ neg_ℤ b)) t l are.apart (λ k d lt. (
    λ e. not_held (subst (Contains t) e (Contains-get_or t k d lt)),
    λ e. none (subst (Contains t) e (Contains-get_or t k d lt)),
  ));
  say = λ v. by_eq v (unsigned_abs l)
      (λ e. let lt : unsigned_abs l < length marks = are.marked l lit in rw (e, get_or-set_same marks (unsigned_abs l) (mark_of l) Neither lt) (says_same t l lit.0 none))
      (λ ne. rw (get_or-set_other marks (unsigned_abs l) v (mark_of l) Neither ne) (says_other t v l _ (abs_pos l v ne) (abs_neg l v ne) (are.say v)));
}

pub unmarked_none : (marks : List Mark) (t : List ℤ) → IsUnmarked marks marks (take 0 t)
unmarked_none marks t = record { places = refl; gone = λ k d lt. absurd (omega arith); kept = λ v all. refl }

pub unmarked_more : (old new : List Mark) (t : List ℤ) (i : ℕ) → i < length t → unsigned_abs (get_or t i (pos 0)) < length new → IsUnmarked old new (take i t) → IsUnmarked old (set new (unsigned_abs (get_or t i (pos 0))) Neither) (take (i + 1) t)
unmarked_more old new t i lt inside un =
    let a : ℕ = unsigned_abs (get_or t i (pos 0)) in
    record {
      places = length-set new a Neither ∙ un.places;
      gone = All-more (λ l. get_or (set new a Neither) (unsigned_abs l) Neither ≡ Neither) t i (pos 0) lt
          (All-weaker (λ l. get_or new (unsigned_abs l) Neither ≡ Neither) (λ l. get_or (set new a Neither) (unsigned_abs l) Neither ≡ Neither)
          (λ l e. by_eq (unsigned_abs l) a (λ same. ap (λ w. get_or (set new a Neither) w Neither) same ∙ get_or-set_same new a Neither Neither inside) (λ ne. get_or-set_other new a (unsigned_abs l) Neither Neither ne ∙ e))
          (take i t) un.gone)
          (get_or-set_same new a Neither Neither inside);
      kept = λ v all.
          let parts : All (λ l. unsigned_abs l ≢ v) (take i t ++ get_or t i (pos 0) ∷ []) = subst (All (λ l. unsigned_abs l ≢ v)) (take_more t i lt) all in
          let last : a ≢ v = All-contains (λ l. unsigned_abs l ≢ v) _ _ parts (Contains-push (take i t) (get_or t i (pos 0))) in
          get_or-set_other new a v Neither Neither (λ e. last (sym e)) ∙ un.kept v (λ k d lt2. All-contains (λ l. unsigned_abs l ≢ v) _ _ parts (Contains-append_left (take i t) (get_or t i (pos 0) ∷ []) _ (Contains-get_or (take i t) k d lt2)));
    }

-- a variable is one of the literals', or of none
among : (t : List ℤ) (v : ℕ) → ((l : ℤ) × Contains t l × (unsigned_abs l ≡ v)) ⊎ All (λ l. unsigned_abs l ≢ v) t
among [] v = inr (All-nil (λ l. unsigned_abs l ≢ v))
among (l ∷ t) v =
    by_eq (unsigned_abs l) v
    (λ e. inl (l, (0, omega arith, refl), e))
    (λ ne. elim (among t v) [
      | inl (k, at, e) ↦ inl (k, Contains-append_right (l ∷ []) t k at, e)
      | inr none ↦ inr (All-cons (λ k. unsigned_abs k ≢ v) l t ne none)
    ])

-- literals of one variable are the same or opposed
same_variable : (a b : ℤ) → unsigned_abs a ≡ unsigned_abs b → (a ≡ b) ⊎ (a ≡ neg_ℤ b)
same_variable (pos n) (pos m) e = inl (ap pos e)
same_variable (pos zero) (negsuc m) e = absurd (omega arith)
same_variable (pos (suc n)) (negsuc m) e = inr (ap pos e)
same_variable (negsuc n) (pos zero) e = absurd (omega arith)
same_variable (negsuc n) (pos (suc m)) e = inr (ap negsuc (omega arith))
same_variable (negsuc n) (negsuc m) e = inl (ap negsuc (omega arith))

-- a variable of the later literals is none of the earlier ones'
later : (t : List ℤ) (k : ℕ) (a b : ℤ) → AreApart t → Contains (take k t) a → Contains (drop k t) b → unsigned_abs a ≡ unsigned_abs b → ⊥
later t k a b apart (i, lt, at) (j, lt2, at2) e =
    let il : i < k = omega (arith, length-take k t) in
    let in_ : i < length t = omega (arith, length-take k t) in
    let jl : k + j < length t = omega (arith, length-drop k t) in
    let first : get_or t i a ≡ a = sym (get_or-take k t i a il) ∙ at in
    let second : get_or t (k + j) a ≡ b = get_or_default t (k + j) a b jl ∙ (sym (get_or-drop k t j b) ∙ at2) in
    let p : (a ≢ b) × (a ≢ neg_ℤ b) = rw (← first, ← second) (apart i (k + j) a (omega arith) jl) in
    elim (same_variable a b e) [ inl same ↦ p.0 same | inr opposed ↦ p.1 opposed ]

says_part : (t u : List ℤ) (v : ℕ) (m : Mark) → ((l : ℤ) → unsigned_abs l ≡ v → Contains u l → Contains t l) → ((l : ℤ) → unsigned_abs l ≡ v → Contains t l → Contains u l) → Says t v m → Says u v m
says_part t u v Neither down up says = (λ h. says.0 (down (pos v) refl h), λ h. says.1 (down (neg_ℤ (pos v)) (abs_neg_pos v) h))
says_part t u v Positive down up says = (up (pos v) refl says.0, λ h. says.1 (down (neg_ℤ (pos v)) (abs_neg_pos v) h))
says_part t u v Negative down up says = (λ h. says.0 (down (pos v) refl h), up (neg_ℤ (pos v)) (abs_neg_pos v) says.1)

in_whole : (t : List ℤ) (k : ℕ) (l : ℤ) → Contains (take k t) l → Contains t l
in_whole t k l at = subst (λ u. Contains u l) (take-append-drop k t) (Contains-append_left (take k t) (drop k t) l at)

in_part : (t : List ℤ) (k : ℕ) (l : ℤ) → Contains t l → Contains (take k t) l ⊎ Contains (drop k t) l
in_part t k l at = Contains-append_cases (take k t) (drop k t) l (subst (λ u. Contains u l) (sym (take-append-drop k t)) at)

pub marked_take : (n : ℕ) (marks new : List Mark) (t : List ℤ) (k : ℕ) → AreMarked n marks t → IsUnmarked marks new (drop k t) → AreMarked n new (take k t)
marked_take n marks new t k are un = record {
  small = are.small;
  marked = λ l lit. rw un.places (are.marked l lit);
  sized = rw un.places are.sized;
  are_literals = All-take (IsLiteral n) k t are.are_literals;
  apart = λ i j d lt lt2.
      let jk : j < k = omega (arith, length-take k t) in
      let jl : j < length t = omega (arith, length-take k t) in
      rw (get_or-take k t i d (omega arith), get_or-take k t j d jk) (are.apart i j d lt jl);
  say = λ v. elim (among (drop k t) v) [
    | inl (l, at, e) ↦ rw (← e, All-contains (λ l. get_or new (unsigned_abs l) Neither ≡ Neither) _ _ un.gone at)
        (λ h. later t k _ l are.apart h at refl, λ h. later t k _ l are.apart h at (abs_neg_pos (unsigned_abs l)))
    | inr none ↦ rw (un.kept v none) (says_part t (take k t) v _ (λ l e h. in_whole t k l h) (λ l e h. elim (in_part t k l h) [ inl a ↦ a | inr b ↦ absurd (All-contains (λ l. unsigned_abs l ≢ v) _ _ none b e) ]) (are.say v))
  ];
}
