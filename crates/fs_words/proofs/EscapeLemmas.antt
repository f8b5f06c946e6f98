-- Escaped bytes are read again.
use Rattle.std.proofs.Common.{◌≡◌, ◌≢◌, ℕ, ◌<◌, Bool, true, false, ⊎_elim, List, [], ◌∷◌, ◌++◌, length, refl, ap, ◌∙◌, arith, ◌||◌}
use Rattle.std.proofs.lemmas.List.Elements.{All-cons, All-nil, All-append, All-weaker}
use Rattle.std.proofs.lemmas.Bool.{cond-true, cond-false, cases_Bool}
use Rattle.std.specs.List.{list_any}
use Rattle.std.proofs.lemmas.Bool.Decides.{nat_tests}
use Rattle.percent_encoding.specs.Percent.{percent_encode_byte, percent_decode}
use Rattle.percent_encoding.proofs.PercentLemmas.{percent_decode-nil, percent_decode-percent_encode_byte, percent_decode_not_percent, All-percent_encode_byte, IsEscapeByte}
use Rattle.fs_words.specs.Words.{is_escaped, escaped}
use Rattle.fs_names.specs.Names.{AreBytes}
use Rattle.fs_words.proofs.WordLemmas.{IsDark, IsWord}

pub escaped_cons_yes : (b : ℕ) (bs : List ℕ) → is_escaped b ≡ true → escaped (b ∷ bs) ≡ percent_encode_byte b ++ escaped bs
unfolding escaped
escaped_cons_yes b bs e = ap (λ x. x ++ escaped bs) (cond-true _ _ _ e)

pub escaped_cons_no : (b : ℕ) (bs : List ℕ) → is_escaped b ≡ false → escaped (b ∷ bs) ≡ b ∷ escaped bs
unfolding escaped
escaped_cons_no b bs e = ap (λ x. x ++ escaped bs) (cond-false _ _ _ e)

escaped_nil : escaped [] ≡ []
unfolding escaped
escaped_nil = refl

-- where neither of two tests holds, both fail
or_false : (a b : Bool) → (a || b) ≡ false → (a ≡ false) × (b ≡ false)
or_false true b h = absurd (cc)
or_false false b h = (refl, h)

no_percent : (b : ℕ) → is_escaped b ≡ false → b ≢ 37
no_percent b e = grind (arith, nat_tests)

kept_dark : (b : ℕ) → is_escaped b ≡ false → 32 < b
kept_dark b e = grind (arith, nat_tests)

escape_dark : (b : ℕ) → IsEscapeByte b → 32 < b
escape_dark b e = grind arith

-- what is escaped is decoded again
pub escape_again : (bs : List ℕ) → AreBytes bs → percent_decode (escaped bs) ≡ bs
escape_again [] small = ap percent_decode escaped_nil ∙ percent_decode-nil
escape_again (b ∷ bs) small =
    let rest = ap (λ x. b ∷ x) (escape_again bs small.1) in
    ⊎_elim
    (λ e. rw (escaped_cons_yes b bs e) (percent_decode-percent_encode_byte b (escaped bs) small.0 ∙ rest))
    (λ e. rw (escaped_cons_no b bs e) (percent_decode_not_percent b (escaped bs) (no_percent b e) ∙ rest))
    (cases_Bool (is_escaped b))

-- where no byte is escaped, the bytes stand for themselves
pub escaped_plain : (bs : List ℕ) → list_any is_escaped bs ≡ false → escaped bs ≡ bs
escaped_plain [] h = escaped_nil
escaped_plain (b ∷ bs) h =
    let parts = or_false (is_escaped b) (list_any is_escaped bs) h in
    escaped_cons_no b bs parts.0 ∙ ap (λ x. b ∷ x) (escaped_plain bs parts.1)

-- no space, no line feed
pub dark_escaped : (bs : List ℕ) → IsDark (escaped bs)
dark_escaped [] = rw escaped_nil (All-nil (λ b. 32 < b))
dark_escaped (b ∷ bs) =
    let rest = dark_escaped bs in
    ⊎_elim
    (λ e. rw (escaped_cons_yes b bs e) (All-append (λ b. 32 < b) (percent_encode_byte b) (escaped bs) (All-weaker IsEscapeByte (λ b. 32 < b) escape_dark (percent_encode_byte b) (All-percent_encode_byte b)) rest))
    (λ e. rw (escaped_cons_no b bs e) (All-cons (λ b. 32 < b) b (escaped bs) (kept_dark b e) rest))
    (cases_Bool (is_escaped b))

some_escaped : (b : ℕ) (bs : List ℕ) → 0 < length (escaped (b ∷ bs))
unfolding percent_encode_byte
some_escaped b bs =
    ⊎_elim
    (λ e. rw (escaped_cons_yes b bs e) (omega arith))
    (λ e. rw (escaped_cons_no b bs e) (omega arith))
    (cases_Bool (is_escaped b))

pub IsWord_escaped : (bs : List ℕ) → 0 < length bs → IsWord (escaped bs)
IsWord_escaped [] h = absurd (omega arith)
IsWord_escaped (b ∷ bs) h = record { some = some_escaped b bs; dark = dark_escaped (b ∷ bs) }
