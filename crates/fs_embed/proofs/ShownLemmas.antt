-- The names that are told behind one are those that are to be shown.
use Rattle.std.proofs.Common.{◌≡◌, ℕ, ◌+◌, ◌-◌, ◌<◌, zero, suc, Bool, true, false, List, [], ◌∷◌, ◌++◌, length, take, drop, Some, leb, refl, sym, ap, ◌∙◌, arith, cond, length-append}
use Rattle.std.specs.Prelude.{slice_get, max}
use Rattle.std.specs.Ordering.{is_lt}
use Rattle.std.proofs.lemmas.Bool.{cond-true, leb-true, leb-false, le-leb}
use Rattle.fs_names.specs.Names.{Name, name_cmp}
use Rattle.fs_embed.specs.Texts.{names_text, IsBehind, IsMostThatFits, IsShown, IsShownText}
use Rattle.fs_embed.specs.code.Shown.{behind, fitting, shown}

-- where the first name stands that comes behind one
abbrev place_of : Name → List Name → ℕ
place_of after [] = 0
place_of after (x ∷ xs) = cond (is_lt (name_cmp after x)) 0 (suc (place_of after xs))

-- how many of the first names there is room for
abbrev count_of : ℕ → List Name → ℕ
count_of room [] = 0
count_of room (x ∷ xs) = cond (leb room (length x)) 0 (suc (count_of (room - (length x + 1)) xs))

-- none comes behind it at the front
place_here : (after x : Name) (xs : List Name) → is_lt (name_cmp after x) ≡ true → IsBehind (x ∷ xs) after 0
place_here after x xs h = record {
  inside = omega arith;
  before = λ i name low is. absurd (omega (arith, low));
  first = λ name is. let same : x ≡ name = cc in ap (λ y. is_lt (name_cmp after y)) (sym same) ∙ h;
}

place_later : (after x : Name) (xs : List Name) (n : ℕ) → is_lt (name_cmp after x) ≡ false → IsBehind xs after n → IsBehind (x ∷ xs) after (suc n)
place_later after x xs n h rest = record {
  inside = omega (arith, rest.inside);
  before = early;
  first = λ name is. rest.first name is;
}
  where
    early : (i : ℕ) (name : Name) → i < suc n → slice_get (x ∷ xs) i ≡ Some name → is_lt (name_cmp after name) ≡ false
    early zero name low is = let same : x ≡ name = cc in ap (λ y. is_lt (name_cmp after y)) (sym same) ∙ h
    early (suc i) name low is = rest.before i name (omega (arith, low)) is

is_placed : (after : Name) (xs : List Name) → IsBehind xs after (place_of after xs)
is_placed after [] = record {
  inside = omega arith;
  before = λ i name low is. absurd (omega (arith, low));
  first = λ name is. cc;
}
is_placed after (x ∷ xs) = by (is_lt (name_cmp after x)) refl (is_placed after xs)
  where
    by : (b : Bool) → is_lt (name_cmp after x) ≡ b → IsBehind xs after (place_of after xs) → IsBehind (x ∷ xs) after (cond b 0 (suc (place_of after xs)))
    by true h rest = place_here after x xs h
    by false h rest = place_later after x xs (place_of after xs) h rest

-- what stands from there on
behind_placed : (after : Name) (xs : List Name) → behind after xs ≡ drop (place_of after xs) xs
behind_placed after [] = refl
behind_placed after (x ∷ xs) = by (is_lt (name_cmp after x)) (behind_placed after xs)
  where
    by : (b : Bool) → behind after xs ≡ drop (place_of after xs) xs → cond b (x ∷ xs) (behind after xs) ≡ drop (cond b 0 (suc (place_of after xs))) (x ∷ xs)
    by true rest = refl
    by false rest = rest

-- the text of one name more in front
text_more : (x : Name) (xs : List Name) → length (names_text (x ∷ xs)) ≡ length x + 1 + length (names_text xs)
text_more x xs = omega (arith, length-append (x ++ 0 ∷ []) (names_text xs), length-append x (0 ∷ []))

text_longer : (x : Name) (xs : List Name) (n : ℕ) → length (names_text (take (suc n + 1) (x ∷ xs))) ≡ length x + 1 + length (names_text (take (n + 1) xs))
text_longer x xs n = let again : suc n + 1 ≡ suc (n + 1) = omega arith in ap (λ k. length (names_text (take k (x ∷ xs)))) again ∙ text_more x (take (n + 1) xs)

no_room : (room : ℕ) (x : Name) (xs : List Name) → leb room (length x) ≡ true → IsMostThatFits (x ∷ xs) room 0
no_room room x xs h = record {
  inside = omega arith;
  fits = omega arith;
  most = λ low. omega (arith, text_more x [], leb-true room (length x) h);
}

more_room : (room : ℕ) (x : Name) (xs : List Name) (n : ℕ) → leb room (length x) ≡ false → IsMostThatFits xs (room - (length x + 1)) n → IsMostThatFits (x ∷ xs) room (suc n)
more_room room x xs n h rest =
    let wide = leb-false room (length x) h in
    record {
      inside = omega (arith, rest.inside);
      fits = omega (arith, text_more x (take n xs), rest.fits, wide);
      most = λ low. omega (arith, text_longer x xs n, rest.most (omega (arith, low)), wide);
    }

is_most : (room : ℕ) (xs : List Name) → IsMostThatFits xs room (count_of room xs)
is_most room [] = record { inside = omega arith; fits = omega arith; most = λ low. absurd (omega (arith, low)) }
is_most room (x ∷ xs) = by (leb room (length x)) refl (is_most (room - (length x + 1)) xs)
  where
    by : (b : Bool) → leb room (length x) ≡ b → IsMostThatFits xs (room - (length x + 1)) (count_of (room - (length x + 1)) xs)
        → IsMostThatFits (x ∷ xs) room (cond b 0 (suc (count_of (room - (length x + 1)) xs)))
    by true h rest = no_room room x xs h
    by false h rest = more_room room x xs (count_of (room - (length x + 1)) xs) h rest

-- those names
fitting_taken : (room : ℕ) (xs : List Name) → fitting room xs ≡ take (count_of room xs) xs
fitting_taken room [] = refl
fitting_taken room (x ∷ xs) = by (leb room (length x)) (fitting_taken (room - (length x + 1)) xs)
  where
    by : (b : Bool) → fitting (room - (length x + 1)) xs ≡ take (count_of (room - (length x + 1)) xs) xs
        → cond b [] (x ∷ fitting (room - (length x + 1)) xs) ≡ take (cond b 0 (suc (count_of (room - (length x + 1)) xs))) (x ∷ xs)
    by true rest = refl
    by false rest = ap (λ t. x ∷ t) rest

none_left : (xs : List Name) → fitting 0 xs ≡ []
none_left [] = refl
none_left (x ∷ xs) = cond-true _ _ _ (le-leb 0 (length x) (omega arith))

one_at_least : (n : ℕ) → max 1 (suc n) ≡ suc n
one_at_least n = omega arith

-- and the first in any case
shown_taken : (room : ℕ) (xs : List Name) → shown room xs ≡ take (max 1 (count_of room xs)) xs
shown_taken room [] = refl
shown_taken room (x ∷ xs) = by (leb room (length x)) refl
  where
    by : (b : Bool) → leb room (length x) ≡ b → x ∷ fitting (room - (length x + 1)) xs ≡ take (max 1 (cond b 0 (suc (count_of (room - (length x + 1)) xs)))) (x ∷ xs)
    by true h =
        let none : room - (length x + 1) ≡ 0 = omega (arith, leb-true room (length x) h) in
        ap (λ n. x ∷ fitting n xs) none ∙ ap (λ t. x ∷ t) (none_left xs)
    by false h = ap (λ t. x ∷ t) (fitting_taken (room - (length x + 1)) xs) ∙ ap (λ n. take n (x ∷ xs)) (sym (one_at_least (count_of (room - (length x + 1)) xs)))

pub are_shown : (names : List Name) (after : Name) (room : ℕ) → IsShown names after room (shown room (behind after names))
are_shown names after room = record {
  place = place_of after names;
  behind = is_placed after names;
  count = count_of room (drop (place_of after names) names);
  fit = is_most room (drop (place_of after names) names);
  shown_is = ap (shown room) (behind_placed after names) ∙ shown_taken room (drop (place_of after names) names);
}

-- their text
pub text_shown : (names : List Name) (after : Name) (room : ℕ) (text : List ℕ) → text ≡ names_text (shown room (behind after names)) → IsShownText names after room text
text_shown names after room text h = (shown room (behind after names), are_shown names after room, h)
