-- What a search of bytes for one byte finds.
use Rattle.std.proofs.Common.{◌≡◌, ℕ, ◌<◌, Bool, true, false, cond, ltb, List, length, position, Option, Some, None, is_some, unwrap_or, refl, sym, ap, ◌∙◌, arith}
use Rattle.std.specs.List.{list_any, position_or_len, All}
use Rattle.std.proofs.lemmas.Bool.{cond-true, cond-false, lt-ltb}
use Rattle.std.proofs.lemmas.Bool.Decides.{nat_tests}
use Rattle.std.proofs.lemmas.List.Sums.{position_or_len_is}
use Rattle.std.proofs.lemmas.List.Folds.{list_any_none, list_any_at}
use Rattle.std.proofs.lemmas.List.Elements.{All-from_get_or}
use Rattle.memchr.specs.Find.{IsFirstByte, is_byte}

-- a test that is not passed fails
fails : (b : Bool) → ¬ (b ≡ true) → b ≡ false
fails true h = absurd (h refl)
fails false h = refl

not_below : (n : ℕ) → ltb n n ≡ false
not_below n = grind (arith, nat_tests)

-- the place that is found is the first place of the byte
pub found_place : (a : ℕ) (hay : List ℕ) (r : Option ℕ) → IsFirstByte (is_byte a) hay r → r ≡ position (is_byte a) hay
found_place a hay None h =
    let at : position_or_len (is_byte a) hay ≡ length hay = position_or_len_is (is_byte a) hay (length hay) 0 (omega arith) (λ k lt. fails _ (h k (omega arith) lt)) (λ lt. absurd (omega arith)) in
    sym (ap (λ n. cond (ltb n (length hay)) (Some n) None) at ∙ cond-false _ _ _ (not_below (length hay)))
found_place a hay (Some k) h =
    let within : k < length hay = h.0.high in
    let at : position_or_len (is_byte a) hay ≡ k = position_or_len_is (is_byte a) hay k 0 (omega arith) (λ j lt. fails _ (h.0.before j (omega arith) lt)) (λ lt. h.1) in
    sym (ap (λ n. cond (ltb n (length hay)) (Some n) None) at ∙ cond-true _ _ _ (lt-ltb _ _ within))

-- where it stands, or else how many bytes there are, is how many bytes stand before it
pub found_len : (a : ℕ) (hay : List ℕ) (r : Option ℕ) → IsFirstByte (is_byte a) hay r → unwrap_or r (length hay) ≡ position_or_len (is_byte a) hay
found_len a hay None h = sym (position_or_len_is (is_byte a) hay (length hay) 0 (omega arith) (λ k lt. fails _ (h k (omega arith) lt)) (λ lt. absurd (omega arith)))
found_len a hay (Some k) h =
    let within : k < length hay = h.0.high in
    sym (position_or_len_is (is_byte a) hay k 0 (omega arith) (λ j lt. fails _ (h.0.before j (omega arith) lt)) (λ lt. h.1))

-- where nothing is found, the byte stands nowhere
pub found_none : (a : ℕ) (hay : List ℕ) → IsFirstByte (is_byte a) hay None → All (λ b. is_byte a b ≡ false) hay
found_none a hay h = All-from_get_or (λ b. is_byte a b ≡ false) hay 0 (λ k lt. fails _ (h k (omega arith) lt))

-- something is found exactly where a byte passes
pub found_any : (a : ℕ) (hay : List ℕ) (r : Option ℕ) → IsFirstByte (is_byte a) hay r → is_some r ≡ list_any (is_byte a) hay
found_any a hay None h = sym (list_any_none (is_byte a) hay (found_none a hay h))
found_any a hay (Some k) h = sym (list_any_at (is_byte a) hay k 0 h.0.high h.1)
