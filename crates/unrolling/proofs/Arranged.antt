-- Functions whose literals are sorted, read off or left out.
use Rattle.std.proofs.Common.{◌≡◌, ◌≢◌, ℕ, zero, suc, ◌≤◌, ◌/◌, ◌^◌, ◌⊎◌, ◌↔◌, Bool, true, false, not, IsTrue, ℤ, pos, negsuc, unsigned_abs, inl, inr, refl, sym, ◌∙◌, ap, subst, arith}
use Rattle.std.specs.Int.Bits.{bit_and}
use Rattle.lrat.specs.Literals.{is_true, IsLiteral}
use Rattle.truth_tables.specs.Tables.{value}
use Rattle.truth_tables.proofs.Tabled.{value_first, value_second, value_third, value_fourth, value_all, value_none, value_of_set, value_of_clear}
use Rattle.unrolling.specs.Encodings.{table_value, IsAmong, OnFour}

-- one of two
abbrev IsEither : ℤ → ℤ → ℤ → Type 0
IsEither a b l = (a ≡ l) ⊎ (b ≡ l)

-- the same two
abbrev AreSamePair : ℤ → ℤ → ℤ → ℤ → Type 0
AreSamePair a b x y = (l : ℤ) → IsEither a b l ↔ IsEither x y l

-- the network changes the order alone
among_before : (x y z w a b c d a2 c2 b2 d2 b3 c3 l : ℤ) → AreSamePair a b x y → AreSamePair c d z w → AreSamePair a2 c2 a c → AreSamePair b2 d2 b d → AreSamePair b3 c3 b2 c2 →
    IsAmong (a2, b3, c3, d2) l → IsAmong (x, y, z, w) l
among_before x y z w a b c d a2 c2 b2 d2 b3 c3 l first second third fourth fifth is =
    let low : IsEither x y l → IsAmong (x, y, z, w) l = λ h. elim h [ inl e ↦ inl e | inr e ↦ inr (inl e) ] in
    let high : IsEither z w l → IsAmong (x, y, z, w) l = λ h. elim h [ inl e ↦ inr (inr (inl e)) | inr e ↦ inr (inr (inr e)) ] in
    let upper : IsEither a c l → IsAmong (x, y, z, w) l = λ h. elim h [ inl e ↦ low ((first l).0 (inl e)) | inr e ↦ high ((second l).0 (inl e)) ] in
    let lower : IsEither b d l → IsAmong (x, y, z, w) l = λ h. elim h [ inl e ↦ low ((first l).0 (inr e)) | inr e ↦ high ((second l).0 (inr e)) ] in
    let middle : IsEither b2 c2 l → IsAmong (x, y, z, w) l = λ h. elim h [ inl e ↦ lower ((fourth l).0 (inl e)) | inr e ↦ upper ((third l).0 (inr e)) ] in
    elim is [
      | inl e ↦ upper ((third l).0 (inl e))
      | inr (inl e) ↦ middle ((fifth l).0 (inl e))
      | inr (inr (inl e)) ↦ middle ((fifth l).0 (inr e))
      | inr (inr (inr e)) ↦ lower ((fourth l).0 (inr e))
    ]

among_after : (x y z w a b c d a2 c2 b2 d2 b3 c3 l : ℤ) → AreSamePair a b x y → AreSamePair c d z w → AreSamePair a2 c2 a c → AreSamePair b2 d2 b d → AreSamePair b3 c3 b2 c2 →
    IsAmong (x, y, z, w) l → IsAmong (a2, b3, c3, d2) l
among_after x y z w a b c d a2 c2 b2 d2 b3 c3 l first second third fourth fifth is =
    let middle : IsEither b2 c2 l → IsAmong (a2, b3, c3, d2) l = λ h. elim ((fifth l).1 h) [ inl e ↦ inr (inl e) | inr e ↦ inr (inr (inl e)) ] in
    let upper : IsEither a c l → IsAmong (a2, b3, c3, d2) l = λ h. elim ((third l).1 h) [ inl e ↦ inl e | inr e ↦ middle (inr e) ] in
    let lower : IsEither b d l → IsAmong (a2, b3, c3, d2) l = λ h. elim ((fourth l).1 h) [ inl e ↦ middle (inl e) | inr e ↦ inr (inr (inr e)) ] in
    let low : IsEither x y l → IsAmong (a2, b3, c3, d2) l = λ h. elim ((first l).1 h) [ inl e ↦ upper (inl e) | inr e ↦ lower (inl e) ] in
    let high : IsEither z w l → IsAmong (a2, b3, c3, d2) l = λ h. elim ((second l).1 h) [ inl e ↦ upper (inr e) | inr e ↦ lower (inr e) ] in
    elim is [
      | inl e ↦ low (inl e)
      | inr (inl e) ↦ low (inr e)
      | inr (inr (inl e)) ↦ high (inl e)
      | inr (inr (inr e)) ↦ high (inr e)
    ]

pub among_sorted : (x y z w a b c d a2 c2 b2 d2 b3 c3 : ℤ) → AreSamePair a b x y → AreSamePair c d z w → AreSamePair a2 c2 a c → AreSamePair b2 d2 b d → AreSamePair b3 c3 b2 c2 →
    (l : ℤ) → IsAmong (a2, b3, c3, d2) l ↔ IsAmong (x, y, z, w) l
among_sorted x y z w a b c d a2 c2 b2 d2 b3 c3 first second third fourth fifth l =
    (among_before x y z w a b c d a2 c2 b2 d2 b3 c3 l first second third fourth fifth, among_after x y z w a b c d a2 c2 b2 d2 b3 c3 l first second third fourth fifth)

-- a variable's table is the one of its place
pub true_table : (q : ℤ × ℤ × ℤ × ℤ) (x : ℤ) → x ≡ pos 1 → (v : ℕ → Bool) → v 1 ≡ true → table_value v 65535 q ≡ is_true v x
true_table q x is v on = value_all _ _ _ _ ∙ sym (ap (is_true v) is ∙ on)

pub first_table : (q : ℤ × ℤ × ℤ × ℤ) (x : ℤ) → x ≡ q.0 → (v : ℕ → Bool) → v 1 ≡ true → table_value v 43690 q ≡ is_true v x
first_table q x is v on = value_first _ _ _ _ ∙ sym (ap (is_true v) is)

pub second_table : (q : ℤ × ℤ × ℤ × ℤ) (x : ℤ) → x ≡ q.1 → (v : ℕ → Bool) → v 1 ≡ true → table_value v 52428 q ≡ is_true v x
second_table q x is v on = value_second _ _ _ _ ∙ sym (ap (is_true v) is)

pub third_table : (q : ℤ × ℤ × ℤ × ℤ) (x : ℤ) → x ≡ q.2 → (v : ℕ → Bool) → v 1 ≡ true → table_value v 61680 q ≡ is_true v x
third_table q x is v on = value_third _ _ _ _ ∙ sym (ap (is_true v) is)

fourth_left : (q : ℤ × ℤ × ℤ × ℤ) (x : ℤ) → IsAmong q x → x ≢ q.0 → x ≢ q.1 → x ≢ q.2 → x ≡ q.3
fourth_left q x (inl e) no_first no_second no_third = absurd (no_first (sym e))
fourth_left q x (inr (inl e)) no_first no_second no_third = absurd (no_second (sym e))
fourth_left q x (inr (inr (inl e))) no_first no_second no_third = absurd (no_third (sym e))
fourth_left q x (inr (inr (inr e))) no_first no_second no_third = sym e

pub fourth_table : (q : ℤ × ℤ × ℤ × ℤ) (x : ℤ) → IsAmong q x → x ≢ q.0 → x ≢ q.1 → x ≢ q.2 → (v : ℕ → Bool) → v 1 ≡ true → table_value v 65280 q ≡ is_true v x
fourth_table q x among no_first no_second no_third v on = value_fourth _ _ _ _ ∙ sym (ap (is_true v) (fourth_left q x among no_first no_second no_third))

-- what holds of each of the four
among_on : (P : ℤ → Type 0) (q : ℤ × ℤ × ℤ × ℤ) (l : ℤ) → OnFour P q → IsAmong q l → P l
among_on P q l all (inl e) = subst P e all.0
among_on P q l all (inr (inl e)) = subst P e all.1
among_on P q l all (inr (inr (inl e))) = subst P e all.2
among_on P q l all (inr (inr (inr e))) = subst P e all.3

pub on_among : (P : ℤ → Type 0) (q p : ℤ × ℤ × ℤ × ℤ) → ((l : ℤ) → IsAmong q l ↔ IsAmong p l) → OnFour P p → OnFour P q
on_among P q p same all = (
  among_on P p q.0 all ((same q.0).0 (inl refl)),
  among_on P p q.1 all ((same q.1).0 (inr (inl refl))),
  among_on P p q.2 all ((same q.2).0 (inr (inr (inl refl)))),
  among_on P p q.3 all ((same q.3).0 (inr (inr (inr refl)))),
)

pub unsigned_literal : (n : ℕ) (l : ℤ) → IsLiteral n l → IsLiteral n (pos (unsigned_abs l))
unsigned_literal n (pos zero) is = absurd (is.0 refl)
unsigned_literal n (pos (suc k)) is = (λ e. cc, is.1)
unsigned_literal n (negsuc k) is = (λ e. let z : suc k ≡ 0 = cc in omega (arith, z), is.1)

-- what is ignored
pub first_kept : (t : ℕ) (flag : Bool) (l k : ℤ) (v : ℕ → Bool) → (IsTrue flag → (a b c d e : Bool) → value t a b c d ≡ value t e b c d) → (flag ≡ false → k ≡ l) → (b c d : Bool) →
    value t (is_true v l) b c d ≡ value t (is_true v k) b c d
first_kept t true l k v law kept b c d = law refl (is_true v l) b c d (is_true v k)
first_kept t false l k v law kept b c d = ap (λ x. value t (is_true v x) b c d) (sym (kept refl))

pub second_kept : (t : ℕ) (flag : Bool) (l k : ℤ) (v : ℕ → Bool) → (IsTrue flag → (a b c d e : Bool) → value t a b c d ≡ value t a e c d) → (flag ≡ false → k ≡ l) → (a c d : Bool) →
    value t a (is_true v l) c d ≡ value t a (is_true v k) c d
second_kept t true l k v law kept a c d = law refl a (is_true v l) c d (is_true v k)
second_kept t false l k v law kept a c d = ap (λ x. value t a (is_true v x) c d) (sym (kept refl))

pub third_kept : (t : ℕ) (flag : Bool) (l k : ℤ) (v : ℕ → Bool) → (IsTrue flag → (a b c d e : Bool) → value t a b c d ≡ value t a b e d) → (flag ≡ false → k ≡ l) → (a b d : Bool) →
    value t a b (is_true v l) d ≡ value t a b (is_true v k) d
third_kept t true l k v law kept a b d = law refl a b (is_true v l) d (is_true v k)
third_kept t false l k v law kept a b d = ap (λ x. value t a b (is_true v x) d) (sym (kept refl))

pub fourth_kept : (t : ℕ) (flag : Bool) (l k : ℤ) (v : ℕ → Bool) → (IsTrue flag → (a b c d e : Bool) → value t a b c d ≡ value t a b c e) → (flag ≡ false → k ≡ l) → (a b c : Bool) →
    value t a b c (is_true v l) ≡ value t a b c (is_true v k)
fourth_kept t true l k v law kept a b c = law refl a b c (is_true v l) (is_true v k)
fourth_kept t false l k v law kept a b c = ap (λ x. value t a b c (is_true v x)) (sym (kept refl))

pub literal_kept : (n : ℕ) (flag : Bool) (l k : ℤ) → 1 ≤ n → IsLiteral n l → (flag ≡ true → k ≡ pos 1) → (flag ≡ false → k ≡ l) → IsLiteral n k
literal_kept n true l k some is ignored kept = subst (IsLiteral n) (sym (ignored refl)) ((λ z. cc), some)
literal_kept n false l k some is ignored kept = subst (IsLiteral n) (sym (kept refl)) is

-- the rows of a table of which all inputs but the first are true
pub last_set : (t : ℕ) → bit_and (t / 2 ^ 15) 1 ≡ 1 → value t true true true true ≡ true
unfolding value
last_set t e = sym (value_of_set t 15 e true true true true) ∙ value_all true true true true

pub last_clear : (t : ℕ) → bit_and (t / 2 ^ 15) 1 ≢ 1 → value t true true true true ≡ false
unfolding value
last_clear t e = sym (value_of_clear t 15 e true true true true) ∙ value_none true true true true

pub other_set : (t : ℕ) → bit_and (t / 2 ^ 14) 1 ≡ 1 → value t false true true true ≡ true
unfolding value
other_set t e = sym (value_of_set t 14 e true true true true) ∙ value_all true true true true

pub other_clear : (t : ℕ) → bit_and (t / 2 ^ 14) 1 ≢ 1 → value t false true true true ≡ false
unfolding value
other_clear t e = sym (value_of_clear t 14 e true true true true) ∙ value_none true true true true

alone_value : (t : ℕ) (q : ℤ × ℤ × ℤ × ℤ) (v : ℕ → Bool) → (q.1 ≡ pos 1) × (q.2 ≡ pos 1) × (q.3 ≡ pos 1) → v 1 ≡ true → table_value v t q ≡ value t (is_true v q.0) true true true
alone_value t q v ones on = (λ i. value t (is_true v q.0) (is_true v (ones.0 i)) (is_true v (ones.1 i)) (is_true v (ones.2 i))) ∙ (λ i. value t (is_true v q.0) (on i) (on i) (on i))

same_rows : (t : ℕ) (x b : Bool) → value t true true true true ≡ b → value t false true true true ≡ b → value t x true true true ≡ b
same_rows t true b p q = p
same_rows t false b p q = q

pub constant_alone : (t : ℕ) (q : ℤ × ℤ × ℤ × ℤ) (v : ℕ → Bool) (b : Bool) → (q.1 ≡ pos 1) × (q.2 ≡ pos 1) × (q.3 ≡ pos 1) → v 1 ≡ true →
    value t true true true true ≡ b → value t false true true true ≡ b → table_value v t q ≡ b
constant_alone t q v b ones on high low = alone_value t q v ones on ∙ same_rows t (is_true v q.0) b high low

same_row : (t : ℕ) (x : Bool) → value t true true true true ≡ true → value t false true true true ≡ false → value t x true true true ≡ x
same_row t true p q = p
same_row t false p q = q

pub same_alone : (t : ℕ) (q : ℤ × ℤ × ℤ × ℤ) (v : ℕ → Bool) → (q.1 ≡ pos 1) × (q.2 ≡ pos 1) × (q.3 ≡ pos 1) → v 1 ≡ true →
    value t true true true true ≡ true → value t false true true true ≡ false → table_value v t q ≡ is_true v q.0
same_alone t q v ones on high low = alone_value t q v ones on ∙ same_row t (is_true v q.0) high low

other_row : (t : ℕ) (x : Bool) → value t true true true true ≡ false → value t false true true true ≡ true → value t x true true true ≡ not x
other_row t true p q = p
other_row t false p q = q

pub other_alone : (t : ℕ) (q : ℤ × ℤ × ℤ × ℤ) (v : ℕ → Bool) → (q.1 ≡ pos 1) × (q.2 ≡ pos 1) × (q.3 ≡ pos 1) → v 1 ≡ true →
    value t true true true true ≡ false → value t false true true true ≡ true → table_value v t q ≡ not (is_true v q.0)
other_alone t q v ones on high low = alone_value t q v ones on ∙ other_row t (is_true v q.0) high low
