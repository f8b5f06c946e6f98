-- Entries of a history, one by one.
use Rattle.std.proofs.Common.{◌≡◌, ℕ, ◌<◌, ◌+◌, List, [], ◌∷◌, ◌++◌, length, take, get_or, refl, sym, ap, ◌∙◌}
use Rattle.std.proofs.lemmas.List.{take_more}
use Rattle.fs_linearize_histories.specs.declared.heard.Heard.{Heard}
use Rattle.fs_linearize_histories.specs.Heard.{entries, entry_of}

pub entries-push : (es : List Heard) (x : Heard) → entries (es ++ x ∷ []) ≡ entries es ++ entry_of x ∷ []
entries-push [] x = refl
entries-push (y ∷ es) x = ap (λ ys. entry_of y ∷ ys) (entries-push es x)

pub entries_more : (h : List Heard) (i : ℕ) (x : Heard) → i < length h → x ≡ get_or h i x → entries (take (i + 1) h) ≡ entries (take i h) ++ entry_of x ∷ []
entries_more h i x small is = ap entries (take_more h i x small ∙ ap (λ y. take i h ++ y ∷ []) (sym is)) ∙ entries-push (take i h) x
