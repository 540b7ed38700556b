-- A signed number that fits is read back from its bits.
use Rattle.std.proofs.Common.{◌≡◌, ℤ, Bool, true, false, IsTrue, Result, Ok, Err, OnOk, IfOk, IfErr, MatchResult, IsErrAnd, is_err, subst, sym, ◌∙◌, ap, SFits, w32, to_z, of_z}
use Rattle.std.proofs.lemmas.Int.{to_z-of_z}

pub read32 : (a : ℤ) → SFits w32 a → to_z w32 (of_z w32 a) ≡ a
read32 a f = to_z-of_z w32 a f

pub same32 : (a b : ℤ) → SFits w32 a → SFits w32 b → of_z w32 a ≡ of_z w32 b → a ≡ b
same32 a b f g e = sym (read32 a f) ∙ ap (to_z w32) e ∙ read32 b g

-- a test that came out false
pub not_true : {P : Type 0} {b : Bool} → (P → IsTrue b) → b ≡ false → P → ⊥
not_true h e p = let t = h p in cc

-- what a call promises of an `Ok`, where its `is_err` came out false
pub on_ok : {T E P : Type 0} {b : Bool} → (r : Result T E) → OnOk r P → b ≡ is_err r → b ≡ false → P
on_ok (Ok x) p e f = p
on_ok (Err x) p e f = absurd (let t : false ≡ true = sym f ∙ e in cc)

pub if_ok : {T E : Type 0} (P Q : T → Type 0) (r : Result T E) → ((x : T) → P x → Q x) → IfOk r P → IfOk r Q
if_ok P Q (Ok x) f p = f x p
if_ok P Q (Err e) f p = tt

pub if_err : {T E : Type 0} (P Q : E → Type 0) (r : Result T E) → ((x : E) → P x → Q x) → IfErr r P → IfErr r Q
if_err P Q (Ok x) f p = tt
if_err P Q (Err e) f p = f e p

-- what `?` hands on
pub err_gives : {T E : Type 0} (Q : E → Type 0) (r : Result T E) (e : E) → IsErrAnd r (λ f. f ≡ e) → Q e → IfErr r Q
err_gives Q (Ok x) e p q = tt
err_gives Q (Err f) e p q = subst Q (sym p) q

pub match_gives : {T E : Type 0} (P : T → Type 0) (Q : E → Type 0) (r : Result T E) (e : E) → IsErrAnd r (λ f. f ≡ e) → Q e → MatchResult r P Q
match_gives P Q (Ok x) e p q = absurd p
match_gives P Q (Err f) e p q = subst Q (sym p) q
