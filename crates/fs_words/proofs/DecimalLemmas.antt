-- A number that is read digit by digit is the one that the grammar gives.
use Rattle.std.proofs.Common.{◌≡◌, ◌≢◌, ℕ, ◌+◌, ◌-◌, ◌*◌, ◌<◌, ◌≤◌, ◌^◌, Bool, true, false, ltb, cond, ◌&&◌, inl, inr, List, [], ◌∷◌, length, get_or, take, refl, ap, sym, ◌∙◌, arith, Option, Some, None}
use Rattle.std.specs.Prelude.{MatchOption}
use Rattle.std.specs.Char.{is_ascii_digit}
use Rattle.std.specs.Int.{IsInRange}
use Rattle.std.specs.Str.{all_ascii_digits}
use Rattle.std.specs.Str.Parse.{digits_value}
use Rattle.std.proofs.lemmas.Str.{digit_value_digit}
use Rattle.std.proofs.lemmas.Str.Parse.{digits_value-take-le}
use Rattle.std.proofs.lemmas.Int.Digits.{digits_value_more}
use Rattle.std.proofs.lemmas.List.Folds.{list_all_at, list_all_more}
use Rattle.std.proofs.lemmas.Bool.{cond-true, cond-false, and_from, and_parts, lt-ltb, leb-true, cases_Bool}
use Rattle.std.proofs.lemmas.Bool.Decides.{nat_tests}
use Rattle.fs_words.specs.Words.{is_number_text, number_of}

-- ---- one digit after the other

-- each byte of a word of digits is one
digit_in : (w : List ℕ) (i : ℕ) → i < length w → all_ascii_digits w ≡ true → is_ascii_digit (get_or w i 0) ≡ true
digit_in w i lt all =
    elim (cases_Bool (is_ascii_digit (get_or w i 0))) [
      | inl e ↦ e
      | inr e ↦ absurd (two_answers (list_all_at is_ascii_digit w i 0 lt e) all)
    ]
  where
    two_answers : {b : Bool} → b ≡ false → b ≡ true → ⊥
    two_answers refused taken = cc

digit_range : (c : ℕ) → is_ascii_digit c ≡ true → IsInRange 48 57 c
digit_range c d = let parts = and_parts _ _ d in (leb-true 48 c parts.0, leb-true c 57 parts.1)

-- one more digit is one more digit of the number
pub value_more : (w : List ℕ) (i n : ℕ) → i < length w → n ≡ digits_value 10 (take i w) → is_ascii_digit (get_or w i 0) ≡ true → n * 10 + (get_or w i 0 - 48) ≡ digits_value 10 (take (i + 1) w)
value_more w i n lt so_far d =
    let value = digit_value_digit (get_or w i 0) (digit_range _ d) in
    omega (arith, digits_value_more 10 w i lt, value, ap (λ x. x * 10) so_far)

pub digits_more : (w : List ℕ) (i : ℕ) → i < length w → all_ascii_digits (take i w) ≡ true → is_ascii_digit (get_or w i 0) ≡ true → all_ascii_digits (take (i + 1) w) ≡ true
digits_more w i lt so_far d = list_all_more is_ascii_digit w i 0 lt ∙ and_from _ _ so_far d

-- where one more digit is too many the number is too large, or no number
pub too_large : (w : List ℕ) (i n : ℕ) → i < length w → n ≡ digits_value 10 (take i w) → (is_ascii_digit (get_or w i 0) ≡ true → 2 ^ 64 ≤ n * 10 + (get_or w i 0 - 48)) → all_ascii_digits w ≡ true → 2 ^ 64 ≤ digits_value 10 w
too_large w i n lt so_far large all =
    let d = digit_in w i lt all in
    omega (arith, value_more w i n lt so_far d, digits_value-take-le 10 w (i + 1) (omega arith), large d)

-- ---- the word

and_false : (a : Bool) → (a && false) ≡ false
and_false true = refl
and_false false = refl

no_text : (w : List ℕ) → is_number_text w ≡ false → number_of w ≡ None
unfolding number_of
no_text w h = ap (λ b. cond (b && ltb (digits_value 10 w) (2 ^ 64)) (Some (digits_value 10 w)) None) h

pub no_number_empty : (w : List ℕ) → length w ≡ 0 → number_of w ≡ None
no_number_empty [] none = no_text [] refl
no_number_empty (c ∷ more) none = absurd (omega arith)

pub no_number_zero : (w : List ℕ) → 1 < length w → get_or w 0 0 ≡ 48 → number_of w ≡ None
no_number_zero [] long zero = absurd (omega arith)
no_number_zero (c ∷ []) long zero = absurd (omega arith)
no_number_zero (c ∷ d ∷ more) long zero =
    let test : ltb 48 c ≡ false = grind (arith, nat_tests) in
    no_text (c ∷ d ∷ more) (ap (λ b. all_ascii_digits (c ∷ d ∷ more) && b) test ∙ and_false (all_ascii_digits (c ∷ d ∷ more)))

is_text : (w : List ℕ) → 0 < length w → (1 < length w → get_or w 0 0 ≢ 48) → all_ascii_digits w ≡ true → is_number_text w ≡ true
is_text [] some first all = absurd (omega arith)
is_text (c ∷ []) some first all = all
is_text (c ∷ d ∷ more) some first all =
    let range = digit_range c (digit_in (c ∷ d ∷ more) 0 (omega arith) all) in
    let not_zero : c ≢ 48 = first (omega arith) in
    and_from _ _ all (lt-ltb 48 c (omega (arith, range.0, not_zero)))

not_text : (w : List ℕ) → all_ascii_digits w ≡ false → is_number_text w ≡ false
not_text [] h = cc
not_text (c ∷ []) h = h
not_text (c ∷ d ∷ more) h = ap (λ b. b && ltb 48 c) h

too_large_test : (n : ℕ) → 2 ^ 64 ≤ n → ltb n (2 ^ 64) ≡ false
too_large_test n h = grind (arith, nat_tests)

large_none : (w : List ℕ) → 2 ^ 64 ≤ digits_value 10 w → number_of w ≡ None
unfolding number_of
large_none w large =
    ap (λ b. cond (is_number_text w && b) (Some (digits_value 10 w)) None) (too_large_test _ large) ∙ cond-false _ _ _ (and_false (is_number_text w))

-- what is read of digits, where the first is no zero that others follow
pub number_read : (w : List ℕ) (r : Option ℕ) → 0 < length w → (1 < length w → get_or w 0 0 ≢ 48)
    → MatchOption r (all_ascii_digits w ≡ true → 2 ^ 64 ≤ digits_value 10 w) (λ n. (all_ascii_digits w ≡ true) × (n ≡ digits_value 10 w) × (n < 2 ^ 64)) → r ≡ number_of w
unfolding number_of
number_read w (Some n) some first read =
    sym (cond-true _ _ _ (and_from _ _ (is_text w some first read.0) (lt-ltb _ _ (omega (arith, read.1, read.2)))) ∙ ap Some (sym read.1))
number_read w None some first large =
    elim (cases_Bool (all_ascii_digits w)) [
      | inl all ↦ sym (large_none w (large all))
      | inr other ↦ sym (no_text w (not_text w other))
    ]
