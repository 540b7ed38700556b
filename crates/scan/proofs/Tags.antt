-- The bytes of a tag, as a loop reads them.
use Rattle.std.proofs.Common.{◌≡◌, ℕ, ◌+◌, ◌<◌, ◌≤◌, List, [], ◌∷◌, ◌++◌, length, get_or, take, drop, Option, Some, None, refl, sym, ap, ◌∙◌, append_assoc}
use Rattle.std.proofs.lemmas.List.{at_drop_more, at_drop_all, take_more}
use Rattle.scan.specs.declared.fault.Fault.{Fault}
use Rattle.scan.specs.declared.fault.Fault.TheVariants.{Memory, Text}
use Rattle.scan.specs.declared.fault.Kinds.{Kinds}
use Rattle.scan.specs.Reading.{◌>>=◌, Fails}
use Rattle.scan.specs.Bytes.{byte_at, tag_at}
use Rattle.scan.specs.Refusals.{byte_fault, IsTagFault}
use Rattle.scan.proofs.Toolbox.{byte_takes}

tag_step : (wanted : List ℕ) (i : ℕ) (rest : List ℕ) → i < length wanted → tag_at (drop i wanted) rest ≡ (byte_at (get_or wanted i 0) rest >>= tag_at (drop (i + 1) wanted))
unfolding tag_at
tag_step wanted i rest lt = at_drop_more (λ t. tag_at t rest) wanted i 0 lt

pub tag_more : (wanted : List ℕ) (i : ℕ) (text rest after : List ℕ) (total : Option (List ℕ)) → i < length wanted → byte_at (get_or wanted i 0) rest ≡ Some after
    → tag_at (drop i wanted) rest ≡ total → text ≡ take i wanted ++ rest → (tag_at (drop (i + 1) wanted) after ≡ total) × (text ≡ take (i + 1) wanted ++ after)
tag_more wanted i text rest after total lt one so_far begins =
    let step : tag_at (drop i wanted) rest ≡ tag_at (drop (i + 1) wanted) after = tag_step wanted i rest lt ∙ rw one refl in
    let next : take i wanted ++ rest ≡ take (i + 1) wanted ++ after =
    ap (λ (t : List ℕ). take i wanted ++ t) (byte_takes (get_or wanted i 0) rest after one)
    ∙ sym (append_assoc (take i wanted) (get_or wanted i 0 ∷ []) after)
    ∙ ap (λ (t : List ℕ). t ++ after) (sym (take_more wanted i 0 lt)) in
    (sym step ∙ so_far, begins ∙ next)

pub tag_fails : {K : Type 0} (wanted : List ℕ) (i : ℕ) (e : Fault K) (rest : List ℕ) (total : Option (List ℕ)) → i < length wanted → Fails e (byte_at (get_or wanted i 0) rest)
    → tag_at (drop i wanted) rest ≡ total → Fails e total
tag_fails wanted i (Memory refused) rest total lt one so_far = tt
tag_fails wanted i (Text kind left) rest total lt one so_far =
    let step : tag_at (drop i wanted) rest ≡ None = tag_step wanted i rest lt ∙ rw one refl in
    sym so_far ∙ step

tag_differs : {K : Type 0} (kinds : Kinds K) (k : ℕ) (rest : List ℕ) (e : Fault K) → e ≡ byte_fault kinds rest → Fails e (byte_at k rest) → byte_at k rest ≡ None
tag_differs kinds k [] e is f = refl
tag_differs kinds k (c ∷ cs) e is f = rw is at f

pub tag_refused : {K : Type 0} (kinds : Kinds K) (wanted : List ℕ) (i : ℕ) (text rest : List ℕ) (e : Fault K) → i < length wanted → Fails e (byte_at (get_or wanted i 0) rest) → e ≡ byte_fault kinds rest
    → text ≡ take i wanted ++ rest → IsTagFault kinds wanted text e
tag_refused kinds wanted i text rest e lt f is begins =
    record { same = i; rest = rest; begins = begins; short = lt; differs = tag_differs kinds (get_or wanted i 0) rest e is f; fault = is }

pub tag_done : (wanted : List ℕ) (i : ℕ) (rest : List ℕ) (total : Option (List ℕ)) → length wanted ≤ i → tag_at (drop i wanted) rest ≡ total → total ≡ Some rest
unfolding tag_at
tag_done wanted i rest total le so_far = sym so_far ∙ at_drop_all (λ t. tag_at t rest) wanted i le
