-- What a page has of a text is read as this text.
use Rattle.std.proofs.Common.{◌≡◌, ℕ, ◌==◌, true, false, ⊎_elim, List, [], ◌∷◌, ◌++◌, Some, None, refl, ap, sym, subst, ◌∙◌, arith}
use Rattle.std.proofs.lemmas.Bool.{cond-false, cases_Bool}
use Rattle.std.proofs.lemmas.Bool.Decides.{nat_tests}
use Rattle.fs_draw_page.specs.Html.{before, read_html, read_on}
use Rattle.fs_draw_page.specs.code.Marks.{marked, marked_byte}

same : (a b : ℕ) → (a == b) ≡ true → a ≡ b
same a b e = grind (arith, nat_tests)

-- a byte that is no sign is read as itself
plain : (b : ℕ) (rest : List ℕ) → (b == 60) ≡ false → (b == 38) ≡ false → read_on None (b ∷ rest) ≡ before (Some b) (read_on None rest)
unfolding read_on
plain b rest no_tag no_name = cond-false _ _ _ no_tag ∙ cond-false _ _ _ no_name

-- the names of signs are read as these
less : (rest : List ℕ) → read_on None (marked_byte 60 ++ rest) ≡ before (Some 60) (read_on None rest)
unfolding read_on
less rest = refl

greater : (rest : List ℕ) → read_on None (marked_byte 62 ++ rest) ≡ before (Some 62) (read_on None rest)
unfolding read_on
greater rest = refl

ampersand : (rest : List ℕ) → read_on None (marked_byte 38 ++ rest) ≡ before (Some 38) (read_on None rest)
unfolding read_on
ampersand rest = refl

-- each other byte is written as itself
other : (b : ℕ) → (b == 60) ≡ false → (b == 62) ≡ false → (b == 38) ≡ false → marked_byte b ≡ b ∷ []
other b l g a = cond-false _ _ _ l ∙ cond-false _ _ _ g ∙ cond-false _ _ _ a

-- so a byte is read as itself
byte_again : (b : ℕ) (rest : List ℕ) → read_on None (marked_byte b ++ rest) ≡ before (Some b) (read_on None rest)
byte_again b rest =
    let Reads : ℕ → Type 0 = λ x. read_on None (marked_byte x ++ rest) ≡ before (Some x) (read_on None rest) in
    ⊎_elim (λ l. subst Reads (sym (same b 60 l)) (less rest))
    (λ l. ⊎_elim (λ g. subst Reads (sym (same b 62 g)) (greater rest))
    (λ g. ⊎_elim (λ a. subst Reads (sym (same b 38 a)) (ampersand rest))
    (λ a. rw (other b l g a) (plain b rest l a))
    (cases_Bool (b == 38))) (cases_Bool (b == 62))) (cases_Bool (b == 60))

-- and a text as this text
pub read_again : (text : List ℕ) → read_html (marked text) ≡ Some text
unfolding marked read_on
read_again [] = refl
read_again (b ∷ text) = byte_again b (marked text) ∙ ap (before (Some b)) (read_again text)
