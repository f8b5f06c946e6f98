-- A path that was written is read again.
use Rattle.std.proofs.Common.{◌≡◌, ◌≢◌, ℕ, ◌+◌, ◌-◌, ◌<◌, ◌≤◌, Bool, true, false, ltb, eqb, List, [], ◌∷◌, ◌++◌, length, get_or, sym, refl, ap, ◌∙◌, append-nil, arith, ◌&&◌, None, Option, Ok, length-append, leb}
use Rattle.std.specs.List.{All, AllByRecursion, list_any}
use Rattle.std.proofs.lemmas.List.Elements.{All-cons, All-nil, All-append, All-weaker, All-get_or, All-head, All-tail}
use Rattle.std.proofs.lemmas.Bool.{or_from}
use Rattle.std.proofs.lemmas.Bool.Decides.{nat_tests}
use Rattle.std.proofs.lemmas.List.{get_or-append-add}
use Rattle.fs_names.specs.Failures.{check, or_else}
use Rattle.fs_names.specs.Names.{Name, is_dots}
use Rattle.fs_names.specs.Keys.{Key, names_text, path_text}
use Rattle.fs_names.specs.Reading.{reading, if_sound, path_fault, names, has_names, is_zero, first_fault, name_fault, ends_in_slash}
use Rattle.fs_names.specs.declared.fault.PathFault.TheVariants.{Nul, NameTooLong, TooManyNames, Dot, TrailingSlash}
use Rattle.fs_names.proofs.WrittenLemmas.{NameFacts, names_again}
use Rattle.fs_words.specs.Words.{path_word, path_of}
use Rattle.fs_names.specs.Names.{AreBytes}
use Rattle.fs_names.specs.Limits.{name_limit, path_limit}
use Rattle.fs_names.specs.declared.limits.Limits.{Limits}
use Rattle.fs_words.proofs.EscapeLemmas.{escape_again, IsWord_escaped}
use Rattle.fs_words.proofs.WordLemmas.{IsWord}

-- no more bytes than a set of limits allows
abbrev pub IsShort : Limits → Name → Type 0
IsShort limits n = length n ≤ name_limit limits

pub record KeyFacts (limits : Limits) (key : Key) : Type 0 where
  pub few : length key ≤ path_limit limits
  pub short : AllByRecursion (IsShort limits) key
  pub names : AllByRecursion NameFacts key
  pub bytes : AllByRecursion AreBytes key

not_many : (limits : Limits) (count : ℕ) → count < path_limit limits → leb (path_limit limits) count ≡ false
not_many limits count h = grind (arith, nat_tests)

not_long : (limits : Limits) (n : List ℕ) → length n ≤ name_limit limits → ltb (name_limit limits) (length n) ≡ false
not_long limits n h = grind (arith, nat_tests)

not_on : {F : Type 0} (b : Bool) (f : F) → b ≡ false → check b f ≡ None
not_on b f e = ap (λ t. check t f) e

-- no check fails
none_fails : {F : Type 0} (a b : Option F) → a ≡ None → b ≡ None → or_else a b ≡ None
none_fails a b e f = ap (λ t. or_else t b) e ∙ f

no_fault : (limits : Limits) (count : ℕ) (ns : Key) → AllByRecursion NameFacts ns → AllByRecursion (IsShort limits) ns → count + length ns ≤ path_limit limits → first_fault limits count ns ≡ None
no_fault limits count [] h short few = refl
no_fault limits count (n ∷ ns) h short few =
    none_fails (name_fault limits count n) (first_fault limits (count + 1) ns)
    (none_fails (check (leb (path_limit limits) count) TooManyNames) _ (not_on _ TooManyNames (not_many limits count (omega arith)))
    (none_fails (check (ltb (name_limit limits) (length n)) NameTooLong) _ (not_on _ NameTooLong (not_long limits n short.0))
    (none_fails (check (is_dots n) Dot) None (not_on _ Dot h.0.no_dot) refl)))
    (no_fault limits (count + 1) ns h.1 short.1 (omega arith))

not_zero : (b : ℕ) → b ≢ 0 → eqb b 0 ≡ false
not_zero b h = grind (arith, nat_tests)

-- no zero byte
none_zero : (bs : List ℕ) → All (λ b. b ≢ 0) bs → list_any is_zero bs ≡ false
none_zero [] h = refl
none_zero (b ∷ bs) h = or_from _ _ (not_zero b (All-head (λ x. x ≢ 0) b bs h)) (none_zero bs (All-tail (λ x. x ≢ 0) b bs h))

tail_clean : (n : List ℕ) (ns : Key) → NameFacts n → AllByRecursion NameFacts ns → All (λ b. b ≢ 0) (n ++ names_text ns)
tail_clean n [] f h = All-append (λ b. b ≢ 0) n [] (All-weaker (λ b. (b ≢ 47) × (b ≢ 0)) (λ b. b ≢ 0) (λ b p. p.1) n f.clean) (All-nil (λ b. b ≢ 0))
tail_clean n (m ∷ ms) f h =
    All-append (λ b. b ≢ 0) n (47 ∷ (m ++ names_text ms)) (All-weaker (λ b. (b ≢ 47) × (b ≢ 0)) (λ b. b ≢ 0) (λ b p. p.1) n f.clean)
    (All-cons (λ b. b ≢ 0) 47 (m ++ names_text ms) (omega arith) (tail_clean m ms h.0 h.1))

last_of : List ℕ → ℕ
last_of bs = get_or bs (length bs - 1) 0

last_behind : (xs ys : List ℕ) → 0 < length ys → last_of (xs ++ ys) ≡ last_of ys
unfolding last_of
last_behind xs ys some =
    let place : length (xs ++ ys) - 1 ≡ length xs + (length ys - 1) = omega (arith, length-append xs ys) in
    ap (λ k. get_or (xs ++ ys) k 0) place ∙ get_or-append-add xs ys (length ys - 1) 0

some_tail : (n : List ℕ) (ns : Key) → 0 < length n → 0 < length (n ++ names_text ns)
some_tail n ns h = omega (arith, length-append n (names_text ns))

last_not_slash : (n : List ℕ) (ns : Key) → NameFacts n → AllByRecursion NameFacts ns → last_of (n ++ names_text ns) ≢ 47
unfolding last_of
last_not_slash n [] f h = rw (append-nil n) (All-get_or (λ b. (b ≢ 47) × (b ≢ 0)) n (length n - 1) 0 (omega (arith, f.some)) f.clean).0
last_not_slash n (m ∷ ms) f h = λ e. last_not_slash m ms h.0 h.1
    (sym (last_behind (47 ∷ []) (m ++ names_text ms) (some_tail m ms h.0.some))
    ∙ sym (last_behind n (47 ∷ (m ++ names_text ms)) (omega arith)) ∙ e)

is_not : (a b : ℕ) → (a ≢ b) → eqb a b ≡ false
is_not a b h = grind (arith, nat_tests)

no_end_slash : (n : List ℕ) (ns : Key) → NameFacts n → AllByRecursion NameFacts ns → ends_in_slash (names_text (n ∷ ns)) ≡ false
unfolding last_of
no_end_slash n ns f h =
    is_not (last_of (47 ∷ (n ++ names_text ns))) 47
    (λ e. last_not_slash n ns f h (sym (last_behind (47 ∷ []) (n ++ names_text ns) (some_tail n ns f.some)) ∙ e))

and_no : (a b : Bool) → b ≡ false → (a && b) ≡ false
and_no true b e = e
and_no false b e = refl

some_right : (limits : Limits) (n : Name) (ns : Key) → KeyFacts limits (n ∷ ns) → path_fault limits (names_text (n ∷ ns)) ≡ None
some_right limits n ns h =
    let bytes = names_text (n ∷ ns) in
    let again = names_again n ns h.names.0 h.names.1 in
    let clean : list_any is_zero bytes ≡ false = none_zero (n ++ names_text ns) (tail_clean n ns h.names.0 h.names.1) in
    let good : first_fault limits 0 (names bytes) ≡ None = ap (first_fault limits 0) again ∙ no_fault limits 0 (n ∷ ns) h.names h.short (omega (arith, h.few)) in
    none_fails (check (list_any is_zero bytes) Nul) _ (not_on _ Nul clean)
    (none_fails (first_fault limits 0 (names bytes)) _ good
    (none_fails (check (has_names (names bytes) && ends_in_slash bytes) TrailingSlash) None (not_on _ TrailingSlash (and_no _ _ (no_end_slash n ns h.names.0 h.names.1))) refl))

parse_some : (limits : Limits) (n : Name) (ns : Key) → KeyFacts limits (n ∷ ns) → reading limits (path_text (n ∷ ns)) ≡ Ok (n ∷ ns)
unfolding reading
parse_some limits n ns h =
    ap (λ f. if_sound f (names (names_text (n ∷ ns)))) (some_right limits n ns h) ∙ ap Ok (names_again n ns h.names.0 h.names.1)

parse_nil : (limits : Limits) → reading limits (path_text []) ≡ Ok []
unfolding reading
parse_nil limits = refl

-- what a path spells is read as that path
pub parse_again : (limits : Limits) (key : Key) → KeyFacts limits key → reading limits (path_text key) ≡ Ok key
parse_again limits [] h = parse_nil limits
parse_again limits (n ∷ ns) h = parse_some limits n ns h

-- ---- the word of a path

append_bytes : (xs ys : List ℕ) → AreBytes xs → AreBytes ys → AreBytes (xs ++ ys)
append_bytes [] ys p q = q
append_bytes (x ∷ xs) ys p q = (p.0, append_bytes xs ys p.1 q)

bytes_of_tail : (ns : Key) → AllByRecursion AreBytes ns → AreBytes (names_text ns)
bytes_of_tail [] h = tt
bytes_of_tail (n ∷ ns) h = (omega arith, append_bytes n (names_text ns) h.0 (bytes_of_tail ns h.1))

bytes_of_path : (key : Key) → AllByRecursion AreBytes key → AreBytes (path_text key)
bytes_of_path [] h = (omega arith, tt)
bytes_of_path (n ∷ ns) h = bytes_of_tail (n ∷ ns) h

pub path_again : (limits : Limits) (key : Key) → KeyFacts limits key → path_of limits (path_word key) ≡ Ok key
path_again limits key h = ap (reading limits) (escape_again (path_text key) (bytes_of_path key h.bytes)) ∙ parse_again limits key h

some_path : (key : Key) → 0 < length (path_text key)
some_path [] = omega arith
some_path (n ∷ ns) = omega arith

pub IsWord_path : (key : Key) → IsWord (path_word key)
IsWord_path key = IsWord_escaped (path_text key) (some_path key)
