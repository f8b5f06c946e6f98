-- Pieces of a text that are painted one after the other.
use Rattle.std.proofs.Common.{◌≡◌, ℕ, Bool, true, false, ◌||◌, length, ap₂, List, [], ◌∷◌, ◌++◌, refl, sym, ap, ◌∙◌, append_assoc, append-nil, arith, ◌==◌}
use Rattle.std.proofs.lemmas.Bool.{cond-false}
use Rattle.std.proofs.lemmas.Grind.{common_steps}
use Rattle.atomfs_colours.specs.Colours.{has_escape, plain_on}
use Rattle.atomfs_colours.specs.code.Shows.{IsPaintedUpTo, Shows}

or_left : (a b : Bool) → (a || b) ≡ false → a ≡ false
or_left true b e = e
or_left false b e = refl

or_right : (a b : Bool) → (a || b) ≡ false → b ≡ false
or_right true b e = absurd (let both : true ≡ false = e in cc)
or_right false b e = e

no_escape_at : (b : ℕ) (text : List ℕ) → has_escape (b ∷ text) ≡ false → (b == 27) ≡ false
no_escape_at b text none = or_left (b == 27) (has_escape text) none

no_escape_after : (b : ℕ) (text : List ℕ) → has_escape (b ∷ text) ≡ false → has_escape text ≡ false
no_escape_after b text none = or_right (b == 27) (has_escape text) none

-- neither part of a text without escapes has one
pub escape_parts : (piece rest : List ℕ) → has_escape (piece ++ rest) ≡ false → (has_escape piece ≡ false) × (has_escape rest ≡ false)
escape_parts [] rest none = (refl, none)
escape_parts (b ∷ piece) rest none =
    let more = escape_parts piece rest (no_escape_after b (piece ++ rest) none) in
    (ap₂ (λ (x y : Bool). x || y) (no_escape_at b (piece ++ rest) none) more.0, more.1)

-- a piece without escapes is left as it is
pub plain_piece : (piece rest : List ℕ) → has_escape piece ≡ false → plain_on false (piece ++ rest) ≡ piece ++ plain_on false rest
unfolding plain_on
plain_piece [] rest none = refl
plain_piece (b ∷ piece) rest none = cond-false _ _ _ (no_escape_at b piece none) ∙ ap (λ (l : List ℕ). b ∷ l) (plain_piece piece rest (no_escape_after b piece none))

-- nothing is painted yet
pub shows_none : Shows [] []
shows_none rest = refl

-- a piece more, between two sequences
pub shows_more : (old start piece stop one two new before : List ℕ) → one ≡ old ++ start → two ≡ one ++ piece → new ≡ two ++ stop → ((rest : List ℕ) → plain_on false (start ++ rest) ≡ plain_on false rest) → ((rest : List ℕ) → plain_on false (stop ++ rest) ≡ plain_on false rest)
    → has_escape piece ≡ false → Shows old before → Shows new (before ++ piece)
shows_more old start piece stop one two new before e f g starts stops none shows rest =
    let whole : new ++ rest ≡ old ++ (start ++ (piece ++ (stop ++ rest))) =
    ap (λ (l : List ℕ). l ++ rest) (g ∙ ap (λ (l : List ℕ). l ++ stop) (f ∙ ap (λ (l : List ℕ). l ++ piece) e))
    ∙ append_assoc ((old ++ start) ++ piece) stop rest ∙ append_assoc (old ++ start) piece (stop ++ rest) ∙ append_assoc old start (piece ++ (stop ++ rest)) in
    ap (plain_on false) whole ∙ shows (start ++ (piece ++ (stop ++ rest)))
    ∙ ap (λ (l : List ℕ). before ++ l) (starts (piece ++ (stop ++ rest)) ∙ plain_piece piece (stop ++ rest) none ∙ ap (λ (l : List ℕ). piece ++ l) (stops rest))
    ∙ sym (append_assoc before piece (plain_on false rest))

-- the whole, where nothing is left
pub all_plain : (text left painted : List ℕ) → length left ≡ 0 → has_escape text ≡ false → IsPaintedUpTo text left painted → plain_on false painted ≡ text
unfolding plain_on
all_plain text [] painted zero none is = let told = is none in
    ap (plain_on false) (sym (append-nil painted)) ∙ told.3 [] ∙ sym told.1
all_plain text (b ∷ left) painted zero none is = absurd (omega arith)
