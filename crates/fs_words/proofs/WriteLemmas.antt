-- Paths as they are written, name by name.
use Rattle.std.proofs.Common.{◌≡◌, ◌≢◌, ℕ, zero, suc, ◌+◌, ◌≤◌, List, [], ◌∷◌, ◌++◌, length, drop, Some, slice_get, refl, sym, ap, ◌∙◌, arith, append_assoc, append-nil}
use Rattle.std.proofs.lemmas.List.{drop_all}
use Rattle.fs_names.specs.Keys.{Key, names_text, path_text}
use Rattle.fs_words.specs.Words.{escaped, escaped_byte, path_word}
use Rattle.fs_words.proofs.EscapeLemmas.{escaped_cons_no}

pub escaped_append : (xs ys : List ℕ) → escaped (xs ++ ys) ≡ escaped xs ++ escaped ys
unfolding escaped
escaped_append [] ys = refl
escaped_append (x ∷ xs) ys = ap (λ z. escaped_byte x ++ z) (escaped_append xs ys) ∙ sym (append_assoc (escaped_byte x) (escaped xs) (escaped ys))

pub escaped_none : escaped [] ≡ []
unfolding escaped
escaped_none = refl

pub slash_escaped : (bs : List ℕ) → escaped (47 ∷ bs) ≡ 47 ∷ escaped bs
slash_escaped bs = escaped_cons_no 47 bs refl

pub root_word : (p : Key) → p ≡ [] → path_word p ≡ 47 ∷ []
root_word p e = ap path_word e ∙ slash_escaped [] ∙ ap (λ z. 47 ∷ z) escaped_none

drop_at : (p : Key) (i : ℕ) (x : List ℕ) → slice_get p i ≡ Some x → drop i p ≡ x ∷ drop (suc i) p
drop_at [] i x e = absurd (cc)
drop_at (y ∷ p) zero x e = let s : y ≡ x = cc in ap (λ z. z ∷ p) s
drop_at (y ∷ p) (suc i) x e = drop_at p i x e

-- a slash and a name were written
pub name_pushed : (line new : List ℕ) (p : Key) (i j : ℕ) (x : List ℕ) → slice_get p i ≡ Some x → j ≡ i + 1 → new ≡ line ++ 47 ∷ escaped x → new ++ escaped (names_text (drop j p)) ≡ line ++ escaped (names_text (drop i p))
name_pushed line new p i j x at next step =
    let rest = names_text (drop (suc i) p) in
    let next_is : j ≡ suc i = omega (arith, next) in
    ap (λ k. new ++ escaped (names_text (drop k p))) next_is
    ∙ ap (λ z. z ++ escaped rest) step
    ∙ append_assoc line (47 ∷ escaped x) (escaped rest)
    ∙ ap (λ z. line ++ 47 ∷ z) (sym (escaped_append x rest))
    ∙ ap (λ z. line ++ z) (sym (slash_escaped (x ++ rest)))
    ∙ ap (λ k. line ++ escaped (names_text k)) (sym (drop_at p i x at))

text_of_names : (p : Key) → p ≢ [] → path_text p ≡ names_text p
text_of_names [] some = absurd (some refl)
text_of_names (x ∷ p) some = refl

-- all names were written
pub path_pushed : (line new : List ℕ) (p : Key) (i : ℕ) → length p ≤ i → p ≢ [] → new ++ escaped (names_text (drop i p)) ≡ line ++ escaped (names_text p) → new ≡ line ++ path_word p
path_pushed line new p i all some so_far =
    sym (append-nil new)
    ∙ ap (λ z. new ++ z) (sym escaped_none)
    ∙ ap (λ k. new ++ escaped (names_text k)) (sym (drop_all i p all))
    ∙ so_far ∙ ap (λ z. line ++ escaped z) (sym (text_of_names p some))
