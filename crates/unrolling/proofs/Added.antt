-- What calls promise of an `Ok`, and numbers that are read back.
use Rattle.std.proofs.Common.{◌≡◌, ℤ, Result, Ok, Err, IfOk, OnOk, ◌∙◌, SFits, w32, to_z, of_z}
use Rattle.lrat.proofs.Fit.{read32}

pub then_ok : {T E P Q : Type 0} (r : Result T E) → OnOk r P → (P → Q) → OnOk r Q
then_ok (Ok x) p f = f p
then_ok (Err e) p f = tt

-- what is read back of a number that is another one
pub read_as : (x y : ℤ) → SFits w32 x → x ≡ y → to_z w32 (of_z w32 x) ≡ y
read_as x y fits is = read32 x fits ∙ is

pub then_both : {T E P Q R : Type 0} (r : Result T E) → OnOk r P → OnOk r Q → (P → Q → R) → OnOk r R
then_both (Ok x) p q f = f p q
then_both (Err e) p q f = tt

pub then_pair : {T E : Type 0} (P Q : Type 0) (r : Result T E) → OnOk r P → OnOk r Q → OnOk r (P × Q)
then_pair P Q (Ok x) p q = (p, q)
then_pair P Q (Err e) p q = tt

pub then_if : {T E : Type 0} (P Q : T → Type 0) (r : Result T E) → IfOk r P → ((x : T) → P x → Q x) → IfOk r Q
then_if P Q (Ok x) p f = f x p
then_if P Q (Err e) p f = tt
