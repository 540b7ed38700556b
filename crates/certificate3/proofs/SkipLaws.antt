-- Parts that are read and forgotten, one after the other.
use Rattle.std.specs.Prelude.{IsErrAnd}
use Rattle.std.proofs.Common.{◌≡◌, ℕ, List, ◌++◌, Result, Ok, Some, None}
use Rattle.base.specs.Devices.{Leaves, Reads}
use Rattle.scan.specs.Reading.{◌>>=◌, Read}
use Rattle.certificate.specs.declared.reader_error.ReaderError.{ReaderError}
use Rattle.certificate.specs.Streams.{FindsWith, ForText}
use Rattle.certificate3.proofs.ChainLaws.{pairs, same_reads, stops}

-- anything is found
abbrev pub Skips : {A X : Type 0} → A → X → Type 0
Skips a x = Unit {0}

-- one part was read and forgotten, and then another one
pub skips_two : {A B C X Y : Type 0} (p : List ℕ → Read A) (f : List ℕ → Read C) (g : A → C → B) (whole : List ℕ → Read B) (y : Y) (r : Result X ReaderError) (before between after : Leaves) (first second third : List ℕ)
    → ((bytes : List ℕ) → (p bytes >>= λ a. (f a.1 >>= λ c. Some (g a.0 c.0, c.1))) ≡ whole bytes)
    → Reads before between (λ ys zs. FindsWith Skips (p (first ++ ys)) (Ok y) second zs) → Reads between after (λ ys zs. FindsWith Skips (f (second ++ ys)) r third zs)
    → Reads before after (λ ys zs. FindsWith Skips (whole (first ++ ys)) r third zs)
skips_two {A} {B} {C} {X} {Y} p f g whole y r before between after first second third same one two =
    same_reads Skips (λ bytes. p bytes >>= λ a. (f a.1 >>= λ c. Some (g a.0 c.0, c.1))) whole r before after first third same
    (pairs Skips Skips Skips p f g y r before between after first second third one two (λ a c x o q. tt))

-- the first one is refused
pub skips_none : {A B C X : Type 0} (p : List ℕ → Read A) (f : List ℕ → Read C) (g : A → C → B) (whole : List ℕ → Read B) (e : ReaderError) (r : Result X ReaderError) (before after : Leaves) (held later : List ℕ)
    → ((bytes : List ℕ) → (p bytes >>= λ a. (f a.1 >>= λ c. Some (g a.0 c.0, c.1))) ≡ whole bytes)
    → IsErrAnd r (λ x. x ≡ e) → Reads before after (λ ys zs. ForText e (p (held ++ ys) ≡ None)) → Reads before after (λ ys zs. FindsWith Skips (whole (held ++ ys)) r later zs)
skips_none p f g whole e r before after held later same is refused =
    same_reads Skips (λ bytes. p bytes >>= λ a. (f a.1 >>= λ c. Some (g a.0 c.0, c.1))) whole r before after held later same
    (stops Skips p (λ a rest. f rest >>= λ c. Some (g a c.0, c.1)) e r before after held later is refused)
