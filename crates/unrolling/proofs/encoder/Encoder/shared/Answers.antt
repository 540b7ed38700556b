use Rattle.std.proofs.Common.{◌≡◌, ◌+◌, ◌≢◌, ◌++◌, ◌∷◌, [], ℕ, suc, List, Some, length, length-append, sym, ◌∙◌, ap, arith}
use Rattle.unrolling.specs.declared.encoder.Encoder.{Encoder}
use Rattle.unrolling.specs.declared.function.Function.{Function}
use Rattle.unrolling.specs.Encodings.{function_at}
use Rattle.unrolling.proofs.Encoded.{function_made, pushed_here, pushed_apart}
use Rattle.unrolling.proofs.encoder.Encoder.shared.Goals as goal

pub returns-in-Some-clause-literal : goal.returns-in-Some-clause-literal
returns-in-Some-clause-literal c = (c.requires.encoding.shared c.args.function c.in-Some.variable.now (sym c.in-Some.ensures.value)).0

pub returns-in-Some-clause-value : goal.returns-in-Some-clause-value
returns-in-Some-clause-value c = (c.requires.encoding.shared c.args.function c.in-Some.variable.now (sym c.in-Some.ensures.value)).1

pub returns-clause-grown : goal.returns-clause-grown
returns-clause-grown c =
    let n : ℕ = c.args.self.now.variables in
    let f : Function = c.args.function in
    let one : n + 1 ≡ suc n = omega arith in
    let updates = c.in_ok-insert_hashed.ensures.updates in
    let fs : List Function = c.fill.new.functions.items in
    let h : Encoder = record { variables = n + 1; shared = c.insert_hashed.new.to; functions = c.push.new.to } in
    let items_is : h.functions.items ≡ fs ++ f ∷ [] = c.in_ok-push.ensures.items in
    let fs_long : length fs ≡ suc n = c.in_ok-fill.ensures.len ∙ one in
    let long : length h.functions.items ≡ suc (suc n) = omega (arith, ap length items_is, length-append fs (f ∷ []), fs_long) in
    let here : function_at h.functions.items (suc n) ≡ f = ap (λ (q : List Function). function_at q (suc n)) items_is ∙ pushed_here fs (suc n) f fs_long in
    let apart : (x : ℕ) → x ≢ suc n → function_at h.functions.items x ≡ function_at c.args.self.now.functions.items x = λ x ne.
    ap (λ (q : List Function). function_at q x) items_is ∙ pushed_apart fs x f (λ e. ne (e ∙ fs_long)) ∙ c.fill.ensures.same x in
    function_made c.args.self.now h f c.requires.encoding c.requires.leaves one long here apart (updates.1 ∙ ap Some one) updates.2
