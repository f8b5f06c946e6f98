-- Two digits that are read, words that are no pairs of digits, and what is appended behind a place.
use Rattle.std.proofs.Common.{◌≡◌, ℕ, ◌+◌, ◌*◌, ◌%◌, ◌≤◌, ◌++◌, ◌&&◌, ◌⊎◌, inl, inr, Bool, false, eqb, List, [], ◌∷◌, length, drop, Option, Some, None, is_some, Ok, Err, Result, OnOk, refl, ap, ◌∙◌}
use Rattle.std.specs.List.{list_all}
use Rattle.std.proofs.lemmas.Bool.{cond-true, cond-false, cases_Bool, eq-eqb}
use Rattle.std.proofs.lemmas.List.{drop-append-le}
use Rattle.hex.specs.Hex.{hex_digit_value, is_hex_digit, pair_value, decode_pairs, decode_of, ◌>>=◌}
use Rattle.hex.specs.declared.error.FromHexError.{FromHexError}
use Rattle.fs_words.specs.Words.{found_bytes}

-- the byte of two digits
pub pair_read : (high low i v w : ℕ) → hex_digit_value high ≡ Some v → hex_digit_value low ≡ Some w → pair_value high low i ≡ Ok (v * 16 + w)
pair_read high low i v w h l = rw (h, l) refl

-- a pair and what follows it, where one of them is no digits
pair_fails : (o p : Option ℕ) (more : Bool) (high low i : ℕ) (r : Result (List ℕ) FromHexError) → hex_digit_value high ≡ o → hex_digit_value low ≡ p
    → (is_some o && (is_some p && more)) ≡ false → (more ≡ false → found_bytes r ≡ None) → found_bytes (pair_value high low i >>= (λ byte. r >>= (λ bytes. Ok (byte ∷ bytes)))) ≡ None
pair_fails None p more high low i r h l some rest = rw h refl
pair_fails (Some v) None more high low i r h l some rest = rw (h, l) refl
pair_fails (Some v) (Some w) more high low i (Err e) h l some rest = rw (h, l) refl
pair_fails (Some v) (Some w) more high low i (Ok bytes) h l some rest = let none : Some bytes ≡ None = rest some in absurd (cc)

no_pairs : (i : ℕ) (word : List ℕ) → list_all is_hex_digit word ≡ false → found_bytes (decode_pairs i word) ≡ None
unfolding decode_pairs
no_pairs i [] h = absurd (cc)
no_pairs i (digit ∷ []) h = refl
no_pairs i (high ∷ low ∷ rest) h =
    pair_fails (hex_digit_value high) (hex_digit_value low) (list_all is_hex_digit rest) high low i (decode_pairs (i + 2) rest) refl refl h (no_pairs (i + 2) rest)

-- an odd number of bytes, or one that is no digit
pub no_digits : (word : List ℕ) → (length word % 2 ≡ 1) ⊎ (list_all is_hex_digit word ≡ false) → found_bytes (decode_of word) ≡ None
no_digits word (inl odd) = ap found_bytes (cond-true _ _ _ (eq-eqb (length word % 2) 1 odd))
no_digits word (inr h) = elim (cases_Bool (eqb (length word % 2) 1)) [
  | inl e ↦ ap found_bytes (cond-true _ _ _ e)
  | inr e ↦ ap found_bytes (cond-false _ _ _ e) ∙ no_pairs 0 word h
]

-- what is appended to a text is appended to what stands behind a place of it
pub added_behind : {X E : Type 0} (start : ℕ) (old new more : List ℕ) (r : Result X E) → start ≤ length old → OnOk r (new ≡ old ++ more) → OnOk r (drop start new ≡ drop start old ++ more)
added_behind start old new more (Ok x) h e = ap (drop start) e ∙ drop-append-le start old more h
added_behind start old new more (Err e) h o = o
