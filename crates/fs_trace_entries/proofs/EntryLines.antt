-- A piece of text for each entry, with one more.
use Rattle.std.proofs.Common.{◌≡◌, ℕ, suc, ◌+◌, ◌<◌, List, [], ◌∷◌, ◌++◌, length, take, get_or, refl, sym, ap, ◌∙◌, subst, append_assoc, append-nil, arith, take-suc, length-take}
use Rattle.fs_timeline.specs.declared.entry.Entry.{Entry}
use Rattle.fs_trace_entries.specs.Each.{AreEach}
use Rattle.fs_trace_entries.specs.code.Mades.{AddsEach}

each_last : (Is : ℕ → Entry → List ℕ → Type 0) (n : ℕ) (es : List Entry) (e : Entry) (text line : List ℕ) → AreEach Is n es text → Is (n + length es) e line → AreEach Is n (es ++ e ∷ []) (text ++ line)
each_last Is n [] e text line are is =
    let on : n + 0 ≡ n = omega arith in
    (line, [], subst (λ k. Is k e line) on is, refl, ap (λ t. t ++ line) are ∙ sym (append-nil line))
each_last Is n (x ∷ es) e text line (first, rest, one, more, same) is =
    let on : n + suc (length es) ≡ (n + 1) + length es = omega arith in
    (first, rest ++ line, one, each_last Is (n + 1) es e rest line more (subst (λ k. Is k e line) on is), ap (λ t. t ++ line) same ∙ append_assoc first rest line)

pub each_more : (Is : ℕ → Entry → List ℕ → Type 0) (es : List Entry) (at place : ℕ) (e : Entry) (text new : List ℕ) → at < length es → e ≡ get_or es at e → place ≡ at + 1 → AreEach Is 1 (take at es) text → AddsEach Is place e text new → AreEach Is 1 (take (at + 1) es) new
each_more Is es at place e text new less is counted are (line, told, same) =
    let on : at + 1 ≡ suc at = omega arith in
    let taken : take (at + 1) es ≡ take at es ++ e ∷ [] = ap (λ n. take n es) on ∙ take-suc es at e less ∙ ap (λ y. take at es ++ y ∷ []) (sym is) in
    let long = length-take at es in
    let behind : place ≡ 1 + length (take at es) = omega (arith, counted, long, less) in
    let last = each_last Is 1 (take at es) e text line are (subst (λ k. Is k e line) behind told) in
    subst (λ t. AreEach Is 1 (take (at + 1) es) t) (sym same) (subst (λ xs. AreEach Is 1 xs (text ++ line)) (sym taken) last)
