-- A string that was written is read as its bytes.
use Rattle.std.proofs.Common.{◌≡◌, ℕ, ◌+◌, ◌*◌, ◌/◌, ◌%◌, ◌<◌, ◌==◌, true, false, Bool, ⊎_elim, List, [], ◌∷◌, ◌++◌, Option, Some, None, refl, ap, ap₂, sym, subst, ◌∙◌, append_assoc, arith}
use Rattle.std.specs.List.{flat_map}
use Rattle.std.specs.Prelude.{nat_lt, nat_le, ◌&&◌, codes, slice_index}
use Rattle.std.proofs.lemmas.Bool.{cond-true, cond-false, cases_Bool}
use Rattle.std.proofs.lemmas.Bool.Decides.{nat_tests}
use Rattle.hex.specs.Hex.{hex_digit_value, lower_digits, encode_with}
use Rattle.hex.proofs.HexLemmas.{IsDigits-lower_digits}
use Rattle.fs_names.specs.Names.{AreBytes}
use Rattle.fs_words.specs.Words.{hex_word}
use Rattle.fs_words.specs.Json.{char_text, is_printable, string_text}
use Rattle.fs_words.specs.JsonReading.{before, read_on, read_string, with_digit, Plain, Escaped, Digit}

same : (a b : ℕ) → (a == b) ≡ true → a ≡ b
same a b e = grind (arith, nat_tests)

not_small : (b : ℕ) → is_printable b ≡ true → nat_lt b 32 ≡ false
not_small b p = grind (arith, nat_tests)

-- two digits after two zeros
two_digits : (hi lo h l : ℕ) (tail : List ℕ) → hex_digit_value hi ≡ Some h → hex_digit_value lo ≡ Some l → read_on (Digit 3 (Some 0)) (48 ∷ 48 ∷ hi ∷ lo ∷ tail) ≡ before (Some ((0 + h) * 16 + l)) (read_on Plain tail)
unfolding read_on
two_digits hi lo h l tail is_h is_l = ap₂ (λ (a b : Option ℕ). before (with_digit (with_digit (Some 0) a) b) (read_on Plain tail)) is_h is_l

-- the digits of a byte are read as the byte
digits_again : (b : ℕ) (tail : List ℕ) → b < 256 → read_on Plain ((codes "\\u00" ++ hex_word (b ∷ [])) ++ tail) ≡ before (Some b) (read_on Plain tail)
unfolding read_on hex_word encode_with
digits_again b tail less =
    let high : b / 16 < 16 = omega arith in
    let low : b % 16 < 16 = omega arith in
    let whole : (0 + b / 16) * 16 + b % 16 ≡ b = omega arith in
    two_digits (slice_index lower_digits (b / 16)) (slice_index lower_digits (b % 16)) (b / 16) (b % 16) tail (IsDigits-lower_digits (b / 16) high) (IsDigits-lower_digits (b % 16) low)
    ∙ ap (λ (n : ℕ). before (Some n) (read_on Plain tail)) whole

-- characters with a short escape
quote : (tail : List ℕ) → read_on Plain (char_text 34 ++ tail) ≡ before (Some 34) (read_on Plain tail)
unfolding read_on
quote tail = refl

backslash : (tail : List ℕ) → read_on Plain (char_text 92 ++ tail) ≡ before (Some 92) (read_on Plain tail)
unfolding read_on
backslash tail = refl

feed : (tail : List ℕ) → read_on Plain (char_text 10 ++ tail) ≡ before (Some 10) (read_on Plain tail)
unfolding read_on
feed tail = refl

-- a character that is written as itself
itself : (b : ℕ) (tail : List ℕ) → (b == 34) ≡ false → (b == 92) ≡ false → is_printable b ≡ true → read_on Plain (b ∷ tail) ≡ before (Some b) (read_on Plain tail)
unfolding read_on
itself b tail q s p = cond-false _ _ _ q ∙ cond-false _ _ _ s ∙ cond-false _ _ _ (not_small b p)

printed : (b : ℕ) → (b == 34) ≡ false → (b == 92) ≡ false → (b == 10) ≡ false → is_printable b ≡ true → char_text b ≡ b ∷ []
printed b q s f p = cond-false _ _ _ q ∙ cond-false _ _ _ s ∙ cond-false _ _ _ f ∙ cond-true _ _ _ p

coded : (b : ℕ) → (b == 34) ≡ false → (b == 92) ≡ false → (b == 10) ≡ false → is_printable b ≡ false → char_text b ≡ codes "\\u00" ++ hex_word (b ∷ [])
coded b q s f p = cond-false _ _ _ q ∙ cond-false _ _ _ s ∙ cond-false _ _ _ f ∙ cond-false _ _ _ p

-- a byte is read as itself
byte_again : (b : ℕ) (tail : List ℕ) → b < 256 → read_on Plain (char_text b ++ tail) ≡ before (Some b) (read_on Plain tail)
byte_again b tail less =
    let Reads : ℕ → Type 0 = λ x. read_on Plain (char_text x ++ tail) ≡ before (Some x) (read_on Plain tail) in
    ⊎_elim (λ q. subst Reads (sym (same b 34 q)) (quote tail))
    (λ q. ⊎_elim (λ s. subst Reads (sym (same b 92 s)) (backslash tail))
    (λ s. ⊎_elim (λ f. subst Reads (sym (same b 10 f)) (feed tail))
    (λ f. ⊎_elim (λ p. ap (λ (l : List ℕ). read_on Plain (l ++ tail)) (printed b q s f p) ∙ itself b tail q s p)
    (λ p. ap (λ (l : List ℕ). read_on Plain (l ++ tail)) (coded b q s f p) ∙ digits_again b tail less)
    (cases_Bool (is_printable b))) (cases_Bool (b == 10))) (cases_Bool (b == 92))) (cases_Bool (b == 34))

-- the characters of a string are read up to its last quotation mark
chars_again : (bytes rest : List ℕ) → AreBytes bytes → read_on Plain (flat_map char_text bytes ++ (34 ∷ rest)) ≡ Some (bytes, rest)
unfolding read_on
chars_again [] rest are = refl
chars_again (b ∷ bytes) rest are =
    let tail : List ℕ = flat_map char_text bytes ++ (34 ∷ rest) in
    ap (read_on Plain) (append_assoc (char_text b) (flat_map char_text bytes) (34 ∷ rest)) ∙ byte_again b tail are.0 ∙ ap (before (Some b)) (chars_again bytes rest are.1)

-- and a string as its bytes
pub string_again : (bytes rest : List ℕ) → AreBytes bytes → read_string (string_text bytes ++ rest) ≡ Some (bytes, rest)
string_again bytes rest are = ap (read_on Plain) (append_assoc (flat_map char_text bytes) (codes "\"") rest) ∙ chars_again bytes rest are
