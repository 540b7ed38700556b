-- Parts of a text that are read one after the other, over what a source gives.
use Rattle.std.specs.Prelude.{IsErrAnd}
use Rattle.std.proofs.Common.{◌≡◌, ℕ, List, ◌++◌, Result, Ok, Err, Some, None, ap, ◌∙◌}
use Rattle.base.specs.Devices.{Leaves, Reads}
use Rattle.scan.specs.Reading.{◌>>=◌, Read}
use Rattle.certificate.specs.declared.reader_error.ReaderError.{ReaderError}
use Rattle.certificate.specs.Streams.{Finds, FindsWith, ForText}
use Rattle.certificate.proofs.StreamLaws.{err_finds, for_text_map, same_finds, then_finds, then_none}

-- the first part is refused
pub stops : {A B X : Type 0} (P : B → X → Type 0) (p : List ℕ → Read A) (q : A → List ℕ → Read B) (e : ReaderError) (r : Result X ReaderError) (before after : Leaves) (held later : List ℕ)
    → IsErrAnd r (λ x. x ≡ e) → Reads before after (λ ys zs. ForText e (p (held ++ ys) ≡ None)) → Reads before after (λ ys zs. FindsWith P (p (held ++ ys) >>= λ x. q x.0 x.1) r later zs)
stops P p q e r before after held later is refused text left still =
    let (ys, here, none) = refused text left still in
    (ys, here, err_finds P (p (held ++ ys) >>= λ x. q x.0 x.1) r e later left is (then_none (p (held ++ ys)) q e none))

-- the whole is refused
pub stops_all : {A X : Type 0} (P : A → X → Type 0) (p : List ℕ → Read A) (e : ReaderError) (r : Result X ReaderError) (before after : Leaves) (held later : List ℕ)
    → IsErrAnd r (λ x. x ≡ e) → Reads before after (λ ys zs. ForText e (p (held ++ ys) ≡ None)) → Reads before after (λ ys zs. FindsWith P (p (held ++ ys)) r later zs)
stops_all P p e r before after held later is refused text left still =
    let (ys, here, none) = refused text left still in
    (ys, here, err_finds P (p (held ++ ys)) r e later left is none)

-- the first part was read, and the second part decides
pub goes_on : {A B X : Type 0} (P : B → X → Type 0) (p : List ℕ → Read A) (q : A → List ℕ → Read B) (x : A) (r : Result X ReaderError) (before between after : Leaves) (first second third : List ℕ)
    → Reads before between (λ ys zs. Finds (p (first ++ ys)) (Ok x) second zs) → Reads between after (λ ys zs. FindsWith P (q x (second ++ ys)) r third zs)
    → Reads before after (λ ys zs. FindsWith P (p (first ++ ys) >>= λ x. q x.0 x.1) r third zs)
goes_on P p q x r before between after first second third one two text left still =
    let (zs, there, next) = two text left still in
    let (ys, here, is) = one text zs there in
    (ys, here, then_finds P (p (first ++ ys)) q x second third zs left r is next)

-- two parts, the first read with an answer
pair_finds : {A B C X Y : Type 0} (O : A → Y → Type 0) (Q : C → X → Type 0) (P : B → X → Type 0) (read : Read A) (f : List ℕ → Read C) (g : A → C → B) (y : Y) (held later zs ws : List ℕ) (r : Result X ReaderError)
    → FindsWith O read (Ok y) held zs → FindsWith Q (f (held ++ zs)) r later ws → ((a : A) (c : C) (x : X) → O a y → Q c x → P (g a c) x) → FindsWith P (read >>= λ a. (f a.1 >>= λ c. Some (g a.0 c.0, c.1))) r later ws
pair_finds O Q P read f g y held later zs ws (Ok x) (a, is, o) (c, next, q) h =
    (g a c, ap (λ w. w >>= λ a. (f a.1 >>= λ c. Some (g a.0 c.0, c.1))) is ∙ ap (λ w. w >>= λ c. Some (g a c.0, c.1)) next, h a c x o q)
pair_finds O Q P read f g y held later zs ws (Err e) (a, is, o) next h =
    for_text_map e (f (held ++ zs) ≡ None) ((read >>= λ a. (f a.1 >>= λ c. Some (g a.0 c.0, c.1))) ≡ None)
    (λ none. ap (λ w. w >>= λ a. (f a.1 >>= λ c. Some (g a.0 c.0, c.1))) is ∙ ap (λ w. w >>= λ c. Some (g a c.0, c.1)) none) next

pub pairs : {A B C X Y : Type 0} (O : A → Y → Type 0) (Q : C → X → Type 0) (P : B → X → Type 0) (p : List ℕ → Read A) (f : List ℕ → Read C) (g : A → C → B) (y : Y) (r : Result X ReaderError) (before between after : Leaves) (first second third : List ℕ)
    → Reads before between (λ ys zs. FindsWith O (p (first ++ ys)) (Ok y) second zs) → Reads between after (λ ys zs. FindsWith Q (f (second ++ ys)) r third zs) → ((a : A) (c : C) (x : X) → O a y → Q c x → P (g a c) x)
    → Reads before after (λ ys zs. FindsWith P (p (first ++ ys) >>= λ a. (f a.1 >>= λ c. Some (g a.0 c.0, c.1))) r third zs)
pairs O Q P p f g y r before between after first second third one two h text left still =
    let (zs, there, next) = two text left still in
    let (ys, here, is) = one text zs there in
    (ys, here, pair_finds O Q P (p (first ++ ys)) f g y second third zs left r is next h)

-- the same, where another value is answered
pair_told : {A B C X Y Z : Type 0} (O : A → Y → Type 0) (Q : C → Z → Type 0) (P : B → X → Type 0) (read : Read A) (f : List ℕ → Read C) (g : A → C → B) (y : Y) (z : Z) (x : X) (held later zs ws : List ℕ)
    → FindsWith O read (Ok y) held zs → FindsWith Q (f (held ++ zs)) (Ok z) later ws → ((a : A) (c : C) → O a y → Q c z → P (g a c) x) → FindsWith P (read >>= λ a. (f a.1 >>= λ c. Some (g a.0 c.0, c.1))) (Ok x) later ws
pair_told O Q P read f g y z x held later zs ws (a, is, o) (c, next, q) h =
    (g a c, ap (λ w. w >>= λ a. (f a.1 >>= λ c. Some (g a.0 c.0, c.1))) is ∙ ap (λ w. w >>= λ c. Some (g a c.0, c.1)) next, h a c o q)

pub pairs_told : {A B C X Y Z : Type 0} (O : A → Y → Type 0) (Q : C → Z → Type 0) (P : B → X → Type 0) (p : List ℕ → Read A) (f : List ℕ → Read C) (g : A → C → B) (y : Y) (z : Z) (x : X) (before between after : Leaves) (first second third : List ℕ)
    → Reads before between (λ ys zs. FindsWith O (p (first ++ ys)) (Ok y) second zs) → Reads between after (λ ys zs. FindsWith Q (f (second ++ ys)) (Ok z) third zs) → ((a : A) (c : C) → O a y → Q c z → P (g a c) x)
    → Reads before after (λ ys zs. FindsWith P (p (first ++ ys) >>= λ a. (f a.1 >>= λ c. Some (g a.0 c.0, c.1))) (Ok x) third zs)
pairs_told O Q P p f g y z x before between after first second third one two h text left still =
    let (zs, there, next) = two text left still in
    let (ys, here, is) = one text zs there in
    (ys, here, pair_told O Q P (p (first ++ ys)) f g y z x second third zs left is next h)

-- the second part is refused
pair_none : {A B C X Y : Type 0} (O : A → Y → Type 0) (P : B → X → Type 0) (read : Read A) (f : List ℕ → Read C) (g : A → C → B) (y : Y) (e : ReaderError) (r : Result X ReaderError) (held later zs ws : List ℕ)
    → FindsWith O read (Ok y) held zs → IsErrAnd r (λ x. x ≡ e) → ForText e (f (held ++ zs) ≡ None) → FindsWith P (read >>= λ a. (f a.1 >>= λ c. Some (g a.0 c.0, c.1))) r later ws
pair_none O P read f g y e r held later zs ws (a, is, o) refused next =
    err_finds P (read >>= λ a. (f a.1 >>= λ c. Some (g a.0 c.0, c.1))) r e later ws refused
    (for_text_map e (f (held ++ zs) ≡ None) ((read >>= λ a. (f a.1 >>= λ c. Some (g a.0 c.0, c.1))) ≡ None)
    (λ none. ap (λ w. w >>= λ a. (f a.1 >>= λ c. Some (g a.0 c.0, c.1))) is ∙ ap (λ w. w >>= λ c. Some (g a c.0, c.1)) none) next)

pub pairs_none : {A B C X Y : Type 0} (O : A → Y → Type 0) (P : B → X → Type 0) (p : List ℕ → Read A) (f : List ℕ → Read C) (g : A → C → B) (y : Y) (e : ReaderError) (r : Result X ReaderError) (before between after : Leaves) (first second third : List ℕ)
    → Reads before between (λ ys zs. FindsWith O (p (first ++ ys)) (Ok y) second zs) → IsErrAnd r (λ x. x ≡ e) → Reads between after (λ ys zs. ForText e (f (second ++ ys) ≡ None))
    → Reads before after (λ ys zs. FindsWith P (p (first ++ ys) >>= λ a. (f a.1 >>= λ c. Some (g a.0 c.0, c.1))) r third zs)
pairs_none O P p f g y e r before between after first second third one refused two text left still =
    let (zs, there, next) = two text left still in
    let (ys, here, is) = one text zs there in
    (ys, here, pair_none O P (p (first ++ ys)) f g y e r second third zs left is refused next)

-- a part is the whole but for what is made of it
map_finds : {B C X Y : Type 0} (Q : C → X → Type 0) (P : B → Y → Type 0) (read : Read C) (g : C → B) (k : X → Y) (held later : List ℕ) (x : X) → FindsWith Q read (Ok x) held later → ((c : C) (x : X) → Q c x → P (g c) (k x))
    → FindsWith P (read >>= λ c. Some (g c.0, c.1)) (Ok (k x)) held later
map_finds Q P read g k held later x (c, is, q) h = (g c, ap (λ w. w >>= λ c. Some (g c.0, c.1)) is, h c x q)

pub maps_ok : {B C X Y : Type 0} (Q : C → X → Type 0) (P : B → Y → Type 0) (p : List ℕ → Read C) (g : C → B) (k : X → Y) (x : X) (before after : Leaves) (held later : List ℕ)
    → Reads before after (λ ys zs. FindsWith Q (p (held ++ ys)) (Ok x) later zs) → ((c : C) (x : X) → Q c x → P (g c) (k x))
    → Reads before after (λ ys zs. FindsWith P (p (held ++ ys) >>= λ c. Some (g c.0, c.1)) (Ok (k x)) later zs)
maps_ok Q P p g k x before after held later one h text left still =
    let (ys, here, is) = one text left still in
    (ys, here, map_finds Q P (p (held ++ ys)) g k later left x is h)

pub maps : {B C X : Type 0} (Q : C → X → Type 0) (P : B → X → Type 0) (p : List ℕ → Read C) (g : C → B) (r : Result X ReaderError) (before after : Leaves) (held later : List ℕ)
    → Reads before after (λ ys zs. FindsWith Q (p (held ++ ys)) r later zs) → ((c : C) (x : X) → Q c x → P (g c) x)
    → Reads before after (λ ys zs. FindsWith P (p (held ++ ys) >>= λ c. Some (g c.0, c.1)) r later zs)
maps Q P p g (Ok x) before after held later one h text left still =
    let (ys, here, is) = one text left still in
    (ys, here, map_finds Q P (p (held ++ ys)) g (λ x. x) later left x is h)
maps Q P p g (Err e) before after held later one h text left still =
    let (ys, here, is) = one text left still in
    (ys, here, then_none (p (held ++ ys)) (λ c rest. Some (g c, rest)) e is)

-- of what is found another value is answered
pub finds_to : {A X Y : Type 0} (P : A → X → Type 0) (Q : A → Y → Type 0) (p : List ℕ → Read A) (x : X) (y : Y) (before after : Leaves) (held later : List ℕ)
    → Reads before after (λ ys zs. FindsWith P (p (held ++ ys)) (Ok x) later zs) → ((a : A) → P a x → Q a y) → Reads before after (λ ys zs. FindsWith Q (p (held ++ ys)) (Ok y) later zs)
finds_to P Q p x y before after held later one h text left still =
    let (ys, here, (a, is, q)) = one text left still in
    (ys, here, (a, is, h a q))

-- the same of what is read
pub reads_to : {A X Y : Type 0} (P : A → X → Type 0) (Q : A → Y → Type 0) (p : List ℕ → Read A) (x : X) (y : Y) (before after : Leaves) (held later : List ℕ)
    → ((bytes rest : List ℕ) (a : A) → p bytes ≡ Some (a, rest) → P a x → Q a y) → Reads before after (λ ys zs. FindsWith P (p (held ++ ys)) (Ok x) later zs) → Reads before after (λ ys zs. FindsWith Q (p (held ++ ys)) (Ok y) later zs)
reads_to P Q p x y before after held later h one text left still =
    let (ys, here, (a, is, q)) = one text left still in
    (ys, here, (a, is, h (held ++ ys) (later ++ left) a is q))

known_finds : {A X : Type 0} (P Q : A → X → Type 0) (p : List ℕ → Read A) (bytes : List ℕ) (r : Result X ReaderError) (held later : List ℕ) → ((bytes rest : List ℕ) (a : A) (x : X) → p bytes ≡ Some (a, rest) → P a x → Q a x) → FindsWith P (p bytes) r held later → FindsWith Q (p bytes) r held later
known_finds P Q p bytes (Ok x) held later h (a, is, q) = (a, is, h bytes (held ++ later) a x is q)
known_finds P Q p bytes (Err e) held later h none = none

pub knows : {A X : Type 0} (P Q : A → X → Type 0) (p : List ℕ → Read A) (r : Result X ReaderError) (before after : Leaves) (held later : List ℕ) → ((bytes rest : List ℕ) (a : A) (x : X) → p bytes ≡ Some (a, rest) → P a x → Q a x)
    → Reads before after (λ ys zs. FindsWith P (p (held ++ ys)) r later zs) → Reads before after (λ ys zs. FindsWith Q (p (held ++ ys)) r later zs)
knows P Q p r before after held later h one text left still =
    let (ys, here, is) = one text left still in
    (ys, here, known_finds P Q p (held ++ ys) r later left h is)

-- what is found, weakened
more_finds : {A X : Type 0} (P Q : A → X → Type 0) (read : Read A) (r : Result X ReaderError) (held later : List ℕ) → ((a : A) (x : X) → P a x → Q a x) → FindsWith P read r held later → FindsWith Q read r held later
more_finds P Q read (Ok x) held later h (a, is, p) = (a, is, h a x p)
more_finds P Q read (Err e) held later h none = none

pub weakens : {A X : Type 0} (P Q : A → X → Type 0) (p : List ℕ → Read A) (r : Result X ReaderError) (before after : Leaves) (held later : List ℕ) → ((a : A) (x : X) → P a x → Q a x)
    → Reads before after (λ ys zs. FindsWith P (p (held ++ ys)) r later zs) → Reads before after (λ ys zs. FindsWith Q (p (held ++ ys)) r later zs)
weakens P Q p r before after held later h one text left still =
    let (ys, here, is) = one text left still in
    (ys, here, more_finds P Q (p (held ++ ys)) r later left h is)

-- what is read so is read so too
pub same_reads : {A X : Type 0} (P : A → X → Type 0) (p q : List ℕ → Read A) (r : Result X ReaderError) (before after : Leaves) (held later : List ℕ) → ((bytes : List ℕ) → p bytes ≡ q bytes)
    → Reads before after (λ ys zs. FindsWith P (p (held ++ ys)) r later zs) → Reads before after (λ ys zs. FindsWith P (q (held ++ ys)) r later zs)
same_reads P p q r before after held later same one text left still =
    let (ys, here, is) = one text left still in
    (ys, here, same_finds P (p (held ++ ys)) (q (held ++ ys)) r later left (same (held ++ ys)) is)
