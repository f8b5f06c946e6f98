-- Words cut at each that is a certain one: at each `and`, at each `or`.
use Rattle.std.proofs.Common.{◌≡◌, ℕ, ◌+◌, ◌<◌, ◌≤◌, Bool, true, false, ltb, List, [], ◌∷◌, ◌++◌, length, take, drop, get_or, Bor, sym, refl, ap, ◌∙◌, arith, Ok, Err, Result}
use Rattle.std.specs.List.{slice_split, position_or_len, take-map, drop-map}
use Rattle.std.proofs.lemmas.List.Splits.{slice_split_first, slice_split_none}
use Rattle.std.proofs.lemmas.Bool.{ltb-true, ltb-false}
use Rattle.std.proofs.lemmas.List.{length-map, take_all}
use Rattle.std.proofs.lemmas.List.Elements.{All-from_get_or}
use Rattle.std.proofs.lemmas.List.Sums.{fails_before_first, position_or_len_is}
use Rattle.fs_words.specs.Words.{Word}
use Rattle.fs_words.specs.Reading.{◌>>=◌}
use Rattle.fs_words.proofs.ReadLemmas.{with_front, front_twice, words_in}
use Rattle.fs_sched_find.specs.Reading.{each_of}
use Rattle.fs_sched_find.specs.code.Answers.{FailsAs}
use Rattle.fs_sched_find.specs.declared.reading.WhatFault.{WhatFault}
use Rattle.fs_sched_find.specs.declared.reading.WhatFault.TheVariants as fault

split_at : (p : Word → Bool) (xs : List Word) (at : ℕ) → at ≡ position_or_len p xs → at < length xs → slice_split p xs ≡ take at xs ∷ slice_split p (drop (at + 1) xs)
split_at p xs at is less =
    let first = slice_split_first p xs [] (omega (arith, is, less)) in
    first ∙ ap (λ k. take k xs ∷ slice_split p (drop (k + 1) xs)) (sym is)

none_split : (p : Word → Bool) (xs : List Word) (at : ℕ) → at ≡ position_or_len p xs → length xs ≤ at → slice_split p xs ≡ xs ∷ []
none_split p xs at is long = slice_split_none p xs (All-from_get_or (λ b. p b ≡ false) xs [] (λ i lt. fails_before_first p xs i [] (omega (arith, is, long, lt))))

-- the words before the first that is a certain one
pub place_at : (p : Word → Bool) (ws : List (Bor Word)) (at : ℕ) → at < length ws → ((k : ℕ) → k < at → p (get_or (words_in ws) k []) ≡ false) → p (get_or (words_in ws) at []) ≡ true → at ≡ position_or_len p (words_in ws)
place_at p ws at less before here = sym (position_or_len_is p (words_in ws) at [] (simp length-map (omega (arith, less))) before (λ h. here))

pub place_nowhere : (p : Word → Bool) (ws : List (Bor Word)) → ((k : ℕ) → k < length ws → p (get_or (words_in ws) k []) ≡ false) → length ws ≡ position_or_len p (words_in ws)
place_nowhere p ws before = sym (position_or_len_is p (words_in ws) (length ws) [] (simp length-map (omega arith)) before (λ h. absurd (let less : length ws < length ws = simp length-map at h in omega (arith, less))))

-- what is read of words
abbrev pub Read : Type 0 → Type 0
Read X = Result X WhatFault

-- of all groups of them
abbrev pub read_all : {X : Type 0} → (List Word → Read X) → (Word → Bool) → List Word → Read (List X)
read_all said p words = each_of said (slice_split p words)

joined : {X : Type 0} (x : X) (r : Read (List X)) → (r >>= λ xs. Ok (x ∷ xs)) ≡ with_front (x ∷ []) r
joined x (Ok xs) = refl
joined x (Err f) = refl

-- one group more is read
pub group_pushed : {X : Type 0} (said : List Word → Read X) (p : Word → Bool) (whole : Read (List X)) (front : List X) (words : List Word) (at : ℕ) (x : X) → whole ≡ with_front front (read_all said p words) → at ≡ position_or_len p words → at < length words → said (take at words) ≡ Ok x → whole ≡ with_front (front ++ x ∷ []) (read_all said p (drop (at + 1) words))
group_pushed {X} said p whole front words at x h place less is =
    let cut = ap (each_of said) (split_at p words at place less) in
    let more : Read (List X) = read_all said p (drop (at + 1) words) in
    let one = ap (λ (r : Read X). r >>= λ y. more >>= λ ys. Ok (y ∷ ys)) is ∙ joined x more in
    h ∙ ap (with_front front) (cut ∙ one) ∙ front_twice front (x ∷ []) more

-- or it is none
group_refused : {X : Type 0} (said : List Word → Read X) (p : Word → Bool) (whole : Read (List X)) (front : List X) (words : List Word) (at : ℕ) (f : WhatFault) → whole ≡ with_front front (read_all said p words) → at ≡ position_or_len p words → at < length words → said (take at words) ≡ Err f → whole ≡ Err f
group_refused {X} said p whole front words at f h place less is =
    let cut = ap (each_of said) (split_at p words at place less) in
    let more : Read (List X) = read_all said p (drop (at + 1) words) in
    let one : (said (take at words) >>= λ y. more >>= λ ys. Ok (y ∷ ys)) ≡ Err f = ap (λ (r : Read X). r >>= λ y. more >>= λ ys. Ok (y ∷ ys)) is in
    h ∙ ap (with_front front) (cut ∙ one)

-- the last group is read
last_pushed : {X : Type 0} (said : List Word → Read X) (p : Word → Bool) (whole : Read (List X)) (front : List X) (words : List Word) (at : ℕ) (x : X) → whole ≡ with_front front (read_all said p words) → at ≡ position_or_len p words → length words ≤ at → said words ≡ Ok x → whole ≡ Ok (front ++ x ∷ [])
last_pushed {X} said p whole front words at x h place long is =
    let cut = ap (each_of said) (none_split p words at place long) in
    let one = ap (λ (r : Read X). r >>= λ y. each_of said [] >>= λ ys. Ok (y ∷ ys)) is in
    h ∙ ap (with_front front) (cut ∙ one)

-- or it is none
last_refused : {X : Type 0} (said : List Word → Read X) (p : Word → Bool) (whole : Read (List X)) (front : List X) (words : List Word) (at : ℕ) (f : WhatFault) → whole ≡ with_front front (read_all said p words) → at ≡ position_or_len p words → length words ≤ at → said words ≡ Err f → whole ≡ Err f
last_refused {X} said p whole front words at f h place long is =
    let cut = ap (each_of said) (none_split p words at place long) in
    let one : (said words >>= λ y. each_of said [] >>= λ ys. Ok (y ∷ ys)) ≡ Err f = ap (λ (r : Read X). r >>= λ y. each_of said [] >>= λ ys. Ok (y ∷ ys)) is in
    h ∙ ap (with_front front) (cut ∙ one)

fails_too : (f : WhatFault) {Y Z : Type 0} (given : Read Y) (whole : Read Z) → (given ≡ Err f → whole ≡ Err f) → FailsAs f given → FailsAs f whole
fails_too fault.OutOfMemory given whole k h = tt
fails_too fault.BadWords given whole k h = k h
fails_too fault.BadCall given whole k h = k h
fails_too fault.BadReply given whole k h = k h
fails_too fault.BadLine given whole k h = k h

-- where the next group is none, the words say none
pub words_refused : {X : Type 0} (said : List Word → Read X) (p : Word → Bool) (whole : Read (List X)) (front : List X) (words : List Word) (at : ℕ) (f : WhatFault) → whole ≡ with_front front (read_all said p words) → at ≡ position_or_len p words → FailsAs f (said (take at words)) → FailsAs f whole
words_refused {X} said p whole front words at f h place fails = go (ltb at (length words)) refl
  where
    go : (b : Bool) → ltb at (length words) ≡ b → FailsAs f whole
    go true t = fails_too f (said (take at words)) whole (λ e. group_refused said p whole front words at f h place (ltb-true _ _ t) e) fails
    go false l =
        let long : length words ≤ at = omega (arith, ltb-false _ _ l) in
        fails_too f (said (take at words)) whole (λ e. last_refused said p whole front words at f h place long (ap said (sym (take_all at words long)) ∙ e)) fails

-- where the last one is read, so are all
pub words_said : {X : Type 0} (said : List Word → Read X) (p : Word → Bool) (whole : Read (List X)) (front : List X) (words : List Word) (at : ℕ) (x : X) → whole ≡ with_front front (read_all said p words) → at ≡ position_or_len p words → length words ≤ at → said (take at words) ≡ Ok x → whole ≡ Ok (front ++ x ∷ [])
words_said said p whole front words at x h place long is = last_pushed said p whole front words at x h place long (ap said (sym (take_all at words long)) ∙ is)

-- before the first group
pub none_before : {X : Type 0} (front : List X) (r : Read (List X)) → front ≡ [] → r ≡ with_front front r
none_before {X} front (Ok xs) none = ap (λ (l : List X). Ok (l ++ xs)) (sym none)
none_before front (Err f) none = refl

-- the words of the next group
pub taken : (ws front : List (Bor Word)) (end : ℕ) → front ≡ take end ws → words_in front ≡ take end (words_in ws)
taken ws front end is = ap words_in is ∙ sym (take-map (λ (w : Bor Word). w.now) end ws)

-- those behind it
pub left_of : (ws rest : List (Bor Word)) (end : ℕ) → rest ≡ drop (end + 1) ws → words_in rest ≡ drop (end + 1) (words_in ws)
left_of ws rest end is = ap words_in is ∙ sym (drop-map (λ (w : Bor Word). w.now) (end + 1) ws)
