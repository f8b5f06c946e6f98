-- What one word writes is read again.
use Rattle.std.proofs.Common.{◌≡◌, ℕ, ◌/◌, ◌%◌, ◌<◌, ◌≤◌, ◌^◌, true, false, eqb, ◌⊎◌, inl, inr, ⊎_elim, List, [], ◌∷◌, length, get_or, refl, ap, ◌∙◌, arith, rules, codes, Some, Ok, decimal}
use Rattle.std.specs.Str.{all_ascii_digits, bytes_eq}
use Rattle.std.specs.Str.Parse.{digits_value}
use Rattle.std.specs.List.{AllByRecursion}
use Rattle.std.specs.Prelude.{slice_index, zero, suc}
use Rattle.std.proofs.lemmas.Str.Parse.{IsNumeralModel, numerals_by_value, tells_all_ascii_digits, digit_at}
use Rattle.std.proofs.lemmas.Fmt.{digits_decimal, digits_value-decimal, decimal_nonempty, first_decimal, decimal_digit, decimal_is_IsNumeral}
use Rattle.std.proofs.lemmas.List.Elements.{All-cons, All-nil, All-from_get_or, All-get_or, All-from_recursion}
use Rattle.std.proofs.lemmas.Bool.{cond-true, cond-false, and_from, lt-ltb, eq-eqb}
use Rattle.std.proofs.lemmas.Bool.Decides.{nat_tests}
use Rattle.hex.specs.Hex.{encode_with, encode_lower, decode_of, IsBytes, lower_digits}
use Rattle.hex.proofs.HexLemmas.{decode_of-encode_lower, length-encode_with}
use Rattle.fs_words.specs.Words.{is_number_text, number_of, found_bytes, hex_of, hex_word}
use Rattle.fs_words.proofs.WordLemmas.{IsDark, IsWord}

-- ---- numbers

own : IsNumeralModel (λ ds. all_ascii_digits ds ≡ true) (digits_value 10)
own = numerals_by_value _ tells_all_ascii_digits

number_text_from : (w : List ℕ) → all_ascii_digits w ≡ true → 0 < length w → (48 < get_or w 0 0) ⊎ (length w ≡ 1) → is_number_text w ≡ true
number_text_from [] d some h = absurd (omega arith)
number_text_from (c ∷ []) d some h = d
number_text_from (c ∷ e ∷ more) d some h =
    and_from _ _ d (lt-ltb 48 c (⊎_elim (λ (lt : 48 < c). lt) (λ (one : length (c ∷ e ∷ more) ≡ 1). absurd (omega arith)) h))

first_or_one : (n : ℕ) → n < 2 ^ 64 → (48 < get_or (decimal n) 0 0) ⊎ (length (decimal n) ≡ 1)
first_or_one zero small = inr (ap length (decimal_digit 0 (omega arith)))
first_or_one (suc k) small = inl (first_decimal (suc k) (omega arith) small)

pub number_again : (n : ℕ) → n < 2 ^ 64 → number_of (decimal n) ≡ Some n
unfolding number_of
number_again n small =
    let value : digits_value 10 (decimal n) ≡ n = digits_value-decimal own n small in
    let shape : is_number_text (decimal n) ≡ true = number_text_from (decimal n) (digits_decimal own n small) (decimal_nonempty n small) (first_or_one n small) in
    cond-true _ _ _ (and_from _ _ shape (lt-ltb _ _ (omega (arith, value)))) ∙ ap Some value

pub IsWord_decimal : (n : ℕ) → n < 2 ^ 64 → IsWord (decimal n)
IsWord_decimal n small =
    let numeral = (decimal_is_IsNumeral n small).0 in
    record {
      some = decimal_nonempty n small;
      dark = All-from_get_or (λ b. 32 < b) (decimal n) 0 (λ i lt. let d = digit_at (decimal n) i numeral.1 lt in omega (arith, d));
    }

-- ---- file bytes

not_dash : (w : List ℕ) → 2 ≤ length w → bytes_eq w (codes "-") ≡ false
not_dash [] h = absurd (omega arith)
not_dash (x ∷ []) h = absurd (omega arith)
not_dash (x ∷ y ∷ more) h = grind (arith, nat_tests)

not_empty_test : (n : ℕ) → 0 < n → eqb n 0 ≡ false
not_empty_test n h = grind (arith, nat_tests)

pub hex_word_some : (b : ℕ) (bs : List ℕ) → hex_word (b ∷ bs) ≡ encode_lower (b ∷ bs)
unfolding hex_word
hex_word_some b bs = cond-false _ _ _ (not_empty_test (length (b ∷ bs)) (omega arith))

pub hex_word_none : (bs : List ℕ) → length bs ≡ 0 → hex_word bs ≡ codes "-"
unfolding hex_word
hex_word_none bs e = cond-true _ _ _ (eq-eqb (length bs) 0 e)

pub hex_word_long : (bs : List ℕ) → 0 < length bs → hex_word bs ≡ encode_lower bs
unfolding hex_word
hex_word_long bs some = cond-false _ _ _ (not_empty_test (length bs) some)

pub hex_of_long : (w bytes : List ℕ) → 2 ≤ length w → decode_of w ≡ Ok bytes → hex_of w ≡ Some bytes
unfolding hex_of
hex_of_long w bytes long e =
    cond-false _ _ _ (not_dash w long) ∙ cond-false _ _ _ (not_empty_test (length w) (omega arith)) ∙ ap found_bytes e

hex_nil : hex_of (hex_word []) ≡ Some []
unfolding hex_of hex_word
hex_nil = refl

pub hex_again : (bytes : List ℕ) → IsBytes bytes → hex_of (hex_word bytes) ≡ Some bytes
hex_again [] small = hex_nil
hex_again (b ∷ bs) small =
    let len = length-encode_with lower_digits (b ∷ bs) in
    ap hex_of (hex_word_some b bs)
    ∙ hex_of_long (encode_lower (b ∷ bs)) (b ∷ bs) (omega (arith, len)) (decode_of-encode_lower (b ∷ bs) small)

dark_table : AllByRecursion (λ b. 32 < b) lower_digits
dark_table = search rules

-- each place of the table is a dark byte
dark_place : (d : ℕ) → d < 16 → 32 < slice_index lower_digits d
dark_place d small = All-get_or (λ b. 32 < b) lower_digits d 0 small (All-from_recursion (λ b. 32 < b) lower_digits dark_table)

dark-cons : (b : ℕ) (bs : List ℕ) → 32 < b → IsDark bs → IsDark (b ∷ bs)
dark-cons b bs h rest = All-cons (λ x. 32 < x) b bs h rest

dark_encoded : (bs : List ℕ) → AllByRecursion (λ b. b < 256) bs → IsDark (encode_with lower_digits bs)
unfolding encode_with
dark_encoded [] small = All-nil _
dark_encoded (b ∷ bs) small =
    let lt : b < 256 = small.0 in
    let high = slice_index lower_digits (b / 16) in
    let low = slice_index lower_digits (b % 16) in
    let rest = encode_with lower_digits bs in
    dark-cons high (low ∷ rest) (dark_place (b / 16) (omega arith)) (dark-cons low rest (dark_place (b % 16) (omega arith)) (dark_encoded bs small.1))

hex_nil_word : IsWord (hex_word [])
unfolding hex_word
hex_nil_word = record { some = omega arith; dark = dark-cons 45 [] (omega arith) (All-nil _) }

pub IsWord_hex : (bs : List ℕ) → AllByRecursion (λ b. b < 256) bs → IsWord (hex_word bs)
IsWord_hex [] small = hex_nil_word
IsWord_hex (b ∷ bs) small =
    let len = length-encode_with lower_digits (b ∷ bs) in
    rw (hex_word_some b bs) (record { some = omega (arith, len); dark = dark_encoded (b ∷ bs) small })

-- ---- names
