-- Names of threads, and the words of a schedule that name them.
use Rattle.std.proofs.Common.{◌≡◌, ℕ, zero, suc, ◌+◌, ◌<◌, ◌≤◌, ◌^◌, Bool, true, false, cond, ltb, leb, eqb, not, ◌&&◌, ◌||◌, List, [], ◌∷◌, ◌++◌, length, get_or, drop, Some, None, Ok, refl, sym, ap, subst, ◌∙◌, position, codes, decimal, append-nil, arith, rules}
use Rattle.std.specs.List.{All, list_all, list_any, position_or_len}
use Rattle.std.specs.Str.{bytes_eq}
use Rattle.std.proofs.Math.Seq.{take-append_seam, drop-append-add, get_or-append_seam}
use Rattle.std.proofs.lemmas.Bool.{cond-true, cond-false, and_parts, and_from, le-leb, lt-ltb, eqb-true}
use Rattle.std.proofs.lemmas.Bool.Decides.{nat_tests}
use Rattle.std.proofs.lemmas.List.{get_or_append_left, length-append}
use Rattle.std.proofs.lemmas.List.Elements.{All-cons, All-nil, All-append, All-from_recursion}
use Rattle.std.proofs.lemmas.List.Folds.{list_any-append, list_any_at}
use Rattle.std.proofs.lemmas.List.Sums.{position_or_len_is}
use Rattle.std.proofs.lemmas.Slice.Eq.{bytes_eq-Decides}
use Rattle.fs_words.specs.Lines.{is_passed_over}
use Rattle.fs_words.specs.Words.{number_of}
use Rattle.fs_words.proofs.WordLemmas.{IsDark, IsWord}
use Rattle.fs_words.proofs.NumberLemmas.{number_again, IsWord_decimal}
use Rattle.fs_script.specs.Limits.{events_in}
use Rattle.fs_script.specs.Script.{is_lower, is_thread_byte, is_thread, is_star, seat_named, with_word, events_word, timed_word, has_finish, schedule_word}
use Rattle.fs_script.specs.declared.limits.TheConstants.{EVENT_LIMIT, THREAD_NAME_LIMIT}
use Rattle.fs_script.specs.declared.script.Script.{Script}
use Rattle.fs_script.specs.declared.script.Word.TheVariants.{Events, Checkpoint}
use Rattle.fs_trace.specs.Traces.{word_text}

-- ---- names, each once

-- names of threads, none of which stands twice
abbrev pub AreNames : List (List ℕ) → Type 0
AreNames [] = Unit {0}
AreNames (name ∷ names) = (is_thread name ≡ true) × (list_any (bytes_eq name) names ≡ false) × AreNames names

or_parts : (a b : Bool) → (a || b) ≡ false → (a ≡ false) × (b ≡ false)
or_parts true b e = absurd (cc)
or_parts false b e = (refl, e)

differ : (xs ys : List ℕ) → bytes_eq xs ys ≡ false → bytes_eq ys xs ≡ false
differ xs ys e = go (bytes_eq ys xs) refl
  where
    go : (b : Bool) → bytes_eq ys xs ≡ b → bytes_eq ys xs ≡ false
    go false f = f
    go true t = absurd (let same : bytes_eq xs ys ≡ true = (bytes_eq-Decides xs ys).1 (sym ((bytes_eq-Decides ys xs).0 t)) in cc)

pub names_more : (names : List (List ℕ)) (name : List ℕ) → AreNames names → is_thread name ≡ true → list_any (bytes_eq name) names ≡ false → AreNames (names ++ name ∷ [])
names_more [] name are is new = (is, refl, tt)
names_more (x ∷ names) name (is_x, new_x, are) is new =
    let (other, later) = or_parts (bytes_eq name x) (list_any (bytes_eq name) names) new in
    let apart : list_any (bytes_eq x) (names ++ name ∷ []) ≡ false = list_any-append (bytes_eq x) names (name ∷ []) ∙ (let a : bytes_eq x name ≡ false = differ name x other in cc) in
    (is_x, apart, names_more names name are is later)

not_there : (p : List ℕ → Bool) (xs : List (List ℕ)) (i : ℕ) → list_any p xs ≡ false → i < length xs → p (get_or xs i []) ≡ false
not_there p xs i none less = go (p (get_or xs i [])) refl
  where
    go : (b : Bool) → p (get_or xs i []) ≡ b → p (get_or xs i []) ≡ false
    go false f = f
    go true t = absurd (let any : list_any p xs ≡ true = list_any_at p xs i [] less t in cc)

apart_at : (names : List (List ℕ)) (i k : ℕ) → AreNames names → i < k → k < length names → bytes_eq (get_or names k []) (get_or names i []) ≡ false
apart_at [] i k are low high = absurd (omega (arith, high))
apart_at (x ∷ names) zero zero are low high = absurd (omega (arith, low))
apart_at (x ∷ names) zero (suc k) (is, new, are) low high = differ x (get_or names k []) (not_there (bytes_eq x) names k new (omega (arith, high)))
apart_at (x ∷ names) (suc i) zero are low high = absurd (omega (arith, low))
apart_at (x ∷ names) (suc i) (suc k) (is, new, are) low high = apart_at names i k are (omega (arith, low)) (omega (arith, high))

-- a name is found on its seat
pub seat_found : (names : List (List ℕ)) (seat : ℕ) → AreNames names → seat < length names → seat_named names (get_or names seat []) ≡ Some seat
seat_found names seat are less =
    let name : List ℕ = get_or names seat [] in
    let at : position_or_len (bytes_eq name) names ≡ seat = position_or_len_is (bytes_eq name) names seat [] (omega (arith, less)) (λ i low. apart_at names i seat are low less) (λ high. (bytes_eq-Decides name name).1 refl) in
    ap (λ n. cond (ltb n (length names)) (Some n) None) at ∙ cond-true _ _ _ (lt-ltb seat (length names) less)

thread_at : (names : List (List ℕ)) (seat : ℕ) → AreNames names → seat < length names → is_thread (get_or names seat []) ≡ true
thread_at [] seat are less = absurd (omega (arith, less))
thread_at (x ∷ names) zero (is, new, are) less = is
thread_at (x ∷ names) (suc seat) (is, new, are) less = thread_at names seat are (omega (arith, less))

-- ---- the bytes of a name

dark_byte : (b : ℕ) → is_thread_byte b ≡ true → 32 < b
dark_byte b e = grind (arith, nat_tests)

no_star : (b : ℕ) → is_thread_byte b ≡ true → is_star b ≡ false
no_star b e = grind (arith, nat_tests)

all_dark : (bs : List ℕ) → list_all is_thread_byte bs ≡ true → IsDark bs
all_dark [] e = All-nil (λ b. 32 < b)
all_dark (b ∷ bs) e = let (here, more) = and_parts _ _ e in All-cons (λ b. 32 < b) b bs (dark_byte b here) (all_dark bs more)

stars_none : (bs : List ℕ) → list_all is_thread_byte bs ≡ true → All (λ b. is_star b ≡ false) bs
stars_none [] e = All-nil (λ b. is_star b ≡ false)
stars_none (b ∷ bs) e = let (here, more) = and_parts _ _ e in All-cons (λ b. is_star b ≡ false) b bs (no_star b here) (stars_none bs more)

not_comment : (b : ℕ) → is_lower b ≡ true → eqb b 35 ≡ false
not_comment b e = grind (arith, nat_tests)

not_mark : (b : ℕ) → is_lower b ≡ true → eqb b 33 ≡ false
not_mark b e = grind (arith, nat_tests)

not_below : (n : ℕ) → ltb n n ≡ false
not_below n = grind (arith, nat_tests)

not_above : (n : ℕ) → n ≤ EVENT_LIMIT → ltb EVENT_LIMIT n ≡ false
not_above n h = grind (arith, nat_tests)

small : (n : ℕ) → n ≤ EVENT_LIMIT → n < 2 ^ 64
small n h = omega (arith, h)

-- what is known of the bytes of a name
record NameFacts (name : List ℕ) : Type 0 where
  word : IsWord name
  clear : All (λ b. is_star b ≡ false) name
  begun : (more : List ℕ) → is_passed_over (name ++ more) ≡ false
  mark : (more : List ℕ) → bytes_eq (name ++ more) (codes "!checkpoint") ≡ false
  drawn : (more : List ℕ) → bytes_eq (name ++ more) (codes "!drawn") ≡ false
  other : bytes_eq name (codes "finish") ≡ false

not_true : (b : Bool) → not b ≡ true → b ≡ false
not_true true e = absurd (cc)
not_true false e = refl

name_facts : (name : List ℕ) → is_thread name ≡ true → NameFacts name
name_facts [] e = absurd (cc)
name_facts (b ∷ bs) e =
    let fits : Bool = leb (length (b ∷ bs)) THREAD_NAME_LIMIT in
    let all : Bool = list_all is_thread_byte (b ∷ bs) in
    let other : Bool = not (bytes_eq (b ∷ bs) (codes "finish")) in
    let parts : (is_lower b ≡ true) × ((all && (fits && other)) ≡ true) = and_parts (is_lower b) (all && (fits && other)) e in
    let bytes : (all ≡ true) × ((fits && other) ≡ true) = and_parts all (fits && other) parts.1 in
    let last : (fits ≡ true) × (other ≡ true) = and_parts fits other bytes.1 in
    let lower : is_lower b ≡ true = parts.0 in
    let no_comment : eqb b 35 ≡ false = not_comment b lower in
    let no_mark : eqb b 33 ≡ false = not_mark b lower in
    record {
      word = record { some = omega arith; dark = all_dark (b ∷ bs) bytes.0 };
      clear = stars_none (b ∷ bs) bytes.0;
      begun = λ more. no_comment;
      mark = λ more. ap (λ t. t && bytes_eq (bs ++ more) (codes "checkpoint")) no_mark;
      drawn = λ more. ap (λ t. t && bytes_eq (bs ++ more) (codes "drawn")) no_mark;
      other = not_true _ last.1;
    }

-- ---- a word is read again

-- a name, and how many events behind it
abbrev starred : List ℕ → ℕ → List ℕ
starred name times = name ++ 42 ∷ decimal times

star_place : (name more : List ℕ) → All (λ b. is_star b ≡ false) name → position is_star (name ++ 42 ∷ more) ≡ Some (length name)
star_place name more clear =
    let text : List ℕ = name ++ 42 ∷ more in
    let long : length text ≡ length name + suc (length more) = length-append name (42 ∷ more) in
    let at : position_or_len is_star text ≡ length name =
    position_or_len_is is_star text (length name) 0 (omega (arith, long))
    (λ i less. ap is_star (get_or_append_left name (42 ∷ more) 0 i less) ∙ clear i 0 less)
    (λ less. ap is_star (get_or-append_seam name 42 more 0)) in
    ap (λ n. cond (ltb n (length text)) (Some n) None) at ∙ cond-true _ _ _ (lt-ltb (length name) (length text) (omega (arith, long)))

no_star_place : (name : List ℕ) → All (λ b. is_star b ≡ false) name → position is_star name ≡ None
no_star_place name clear =
    let at : position_or_len is_star name ≡ length name = position_or_len_is is_star name (length name) 0 (omega arith) (λ i less. clear i 0 less) (λ less. absurd (omega (arith, less))) in
    let past : ltb (length name) (length name) ≡ false = not_below (length name) in
    ap (λ n. cond (ltb n (length name)) (Some n) None) at ∙ cond-false _ _ _ past

-- a text with a star is not `finish`
starred_other : (name more : List ℕ) → All (λ b. is_star b ≡ false) name → bytes_eq (name ++ 42 ∷ more) (codes "finish") ≡ false
starred_other name more clear = go (bytes_eq (name ++ 42 ∷ more) (codes "finish")) refl
  where
    go : (b : Bool) → bytes_eq (name ++ 42 ∷ more) (codes "finish") ≡ b → bytes_eq (name ++ 42 ∷ more) (codes "finish") ≡ false
    go false e = e
    go true e =
        let same : name ++ 42 ∷ more ≡ codes "finish" = (bytes_eq-Decides (name ++ 42 ∷ more) (codes "finish")).0 e in
        let none : position is_star (codes "finish") ≡ None = refl in
        absurd (let place : Some (length name) ≡ None = sym (star_place name more clear) ∙ ap (position is_star) same ∙ none in cc)

-- so many events of a thread that is there
events_read : (s : Script) (seat times : ℕ) → 1 ≤ times → events_in s.words + times ≤ EVENT_LIMIT → events_word s (Some seat) (Some times) ≡ Ok (with_word s (Events seat times))
events_read s seat times some few =
    let few_here : times ≤ EVENT_LIMIT = omega (arith, few) in
    let room : ltb EVENT_LIMIT (events_in s.words + times) ≡ false = not_above (events_in s.words + times) few in
    cond-true _ _ _ (and_from _ _ (le-leb 1 times some) (le-leb times EVENT_LIMIT few_here)) ∙ cond-false _ _ _ room

-- a word that is no mark is read by its star
by_star : (s : Script) (word : List ℕ) → has_finish s.words ≡ false → bytes_eq word (codes "finish") ≡ false → bytes_eq word (codes "!checkpoint") ≡ false → bytes_eq word (codes "!drawn") ≡ false → schedule_word s word ≡ timed_word s word (position is_star word)
unfolding schedule_word
by_star s word unended other mark drawn = cond-false _ _ _ unended ∙ cond-false _ _ _ other ∙ cond-false _ _ _ mark ∙ cond-false _ _ _ drawn

one_read : (s : Script) (seat : ℕ) → AreNames s.names → seat < length s.names → has_finish s.words ≡ false → events_in s.words + 1 ≤ EVENT_LIMIT → schedule_word s (get_or s.names seat []) ≡ Ok (with_word s (Events seat 1))
one_read s seat are there unended few =
    let name : List ℕ = get_or s.names seat [] in
    let facts = name_facts name (thread_at s.names seat are there) in
    by_star s name unended facts.other (ap (λ n. bytes_eq n (codes "!checkpoint")) (sym (append-nil name)) ∙ facts.mark []) (ap (λ n. bytes_eq n (codes "!drawn")) (sym (append-nil name)) ∙ facts.drawn [])
    ∙ ap (timed_word s name) (no_star_place name facts.clear)
    ∙ ap (λ o. events_word s o (Some 1)) (seat_found s.names seat are there)
    ∙ events_read s seat 1 (omega arith) few

many_read : (s : Script) (seat times : ℕ) → AreNames s.names → seat < length s.names → has_finish s.words ≡ false → 1 ≤ times → events_in s.words + times ≤ EVENT_LIMIT → schedule_word s (starred (get_or s.names seat []) times) ≡ Ok (with_word s (Events seat times))
many_read s seat times are there unended some few =
    let name : List ℕ = get_or s.names seat [] in
    let facts = name_facts name (thread_at s.names seat are there) in
    let text : List ℕ = starred name times in
    let behind : drop (length name + 1) text ≡ decimal times = drop-append-add name (42 ∷ decimal times) 1 in
    by_star s text unended (starred_other name (decimal times) facts.clear) (facts.mark (42 ∷ decimal times)) (facts.drawn (42 ∷ decimal times))
    ∙ ap (timed_word s text) (star_place name (decimal times) facts.clear)
    ∙ ap (λ n. events_word s (seat_named s.names n) (number_of (drop (length name + 1) text))) (take-append_seam name (42 ∷ decimal times))
    ∙ ap (λ o. events_word s o (number_of (drop (length name + 1) text))) (seat_found s.names seat are there)
    ∙ ap (λ t. events_word s (Some seat) (number_of t)) behind
    ∙ ap (events_word s (Some seat)) (number_again times (small times (omega (arith, few))))
    ∙ events_read s seat times some few

-- events that a word gives, by its text
pub events_again : (s : Script) (seat times : ℕ) → AreNames s.names → seat < length s.names → has_finish s.words ≡ false → 1 ≤ times → events_in s.words + times ≤ EVENT_LIMIT → schedule_word s (word_text s.names (Events seat times)) ≡ Ok (with_word s (Events seat times))
events_again s seat times are there unended some few = go (eqb times 1) refl
  where
    name : List ℕ
    name = get_or s.names seat []

    go : (b : Bool) → eqb times 1 ≡ b → schedule_word s (word_text s.names (Events seat times)) ≡ Ok (with_word s (Events seat times))
    go true one =
        let is : times ≡ 1 = eqb-true times 1 one in
        ap (λ t. schedule_word s (name ++ t)) (cond-true _ _ _ one) ∙ ap (schedule_word s) (append-nil name)
        ∙ one_read s seat are there unended (omega (arith, few, is)) ∙ ap (λ n. Ok (with_word s (Events seat n))) (sym is)
    go false more = ap (λ t. schedule_word s (name ++ t)) (cond-false _ _ _ more) ∙ many_read s seat times are there unended some few

pub checkpoint_again : (s : Script) → has_finish s.words ≡ false → schedule_word s (codes "!checkpoint") ≡ Ok (with_word s Checkpoint)
unfolding schedule_word
checkpoint_again s unended = cond-false _ _ _ unended

-- ---- the text of a word

-- it is one word of a line, and begins no comment
pub record IsText (text : List ℕ) : Type 0 where
  pub is_word : IsWord text
  pub begun : is_passed_over text ≡ false

starred_word : (name : List ℕ) (times : ℕ) → IsWord name → times < 2 ^ 64 → IsWord (starred name times)
starred_word name times is less =
    let long : length (starred name times) ≡ length name + suc (length (decimal times)) = length-append name (42 ∷ decimal times) in
    record {
      some = omega (arith, long);
      dark = All-append (λ b. 32 < b) name (42 ∷ decimal times) is.dark (All-cons (λ b. 32 < b) 42 (decimal times) (omega arith) (IsWord_decimal times less).dark);
    }

pub events_text : (names : List (List ℕ)) (seat times : ℕ) → AreNames names → seat < length names → times ≤ EVENT_LIMIT → IsText (word_text names (Events seat times))
events_text names seat times are there few = go (eqb times 1) refl
  where
    name : List ℕ
    name = get_or names seat []

    facts : NameFacts name
    facts = name_facts name (thread_at names seat are there)

    go : (b : Bool) → eqb times 1 ≡ b → IsText (word_text names (Events seat times))
    go true one = subst (λ t. IsText (name ++ t)) (sym (cond-true _ _ _ one)) (record { is_word = subst IsWord (sym (append-nil name)) facts.word; begun = facts.begun [] })
    go false more = subst (λ t. IsText (name ++ t)) (sym (cond-false _ _ _ more)) (record { is_word = starred_word name times facts.word (small times few); begun = facts.begun (42 ∷ decimal times) })

pub checkpoint_text : IsText (codes "!checkpoint")
checkpoint_text = record { is_word = record { some = omega arith; dark = All-from_recursion (λ b. 32 < b) (codes "!checkpoint") (search rules) }; begun = refl }
