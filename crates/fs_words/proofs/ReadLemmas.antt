-- What the code's reading of one word and of one line rests on.
use Rattle.std.proofs.Common.{◌≡◌, ℕ, ◌+◌, ◌<◌, ◌≤◌, Bool, true, false, ltb, eqb, cond, inl, inr, List, [], ◌∷◌, ◌++◌, length, get_or, take, drop, map, sym, refl, ap, ◌∙◌, append_assoc, arith, ◌||◌, codes, Some, None, Ok, Err, Result, position}
use Rattle.std.specs.List.{slice_split, position_or_len, All, onto_first}
use Rattle.std.specs.Str.{bytes_eq}
use Rattle.std.proofs.lemmas.Bool.{cond-true, cond-false, ltb-true, cases_Bool, eq-eqb}
use Rattle.std.proofs.lemmas.Bool.Decides.{nat_tests}
use Rattle.std.proofs.lemmas.List.Splits.{slice_split_first, slice_split_none, slice_split-cons_yes, slice_split-cons_no}
use Rattle.std.proofs.lemmas.List.Elements.{All-from_get_or}
use Rattle.std.proofs.lemmas.List.{drop_more, drop_all}
use Rattle.std.proofs.lemmas.List.Sums.{fails_before_first}
use Rattle.hex.specs.Hex.{decode_of}
use Rattle.hex.specs.declared.error.FromHexError.{FromHexError}
use Rattle.fs_words.specs.declared.fault.FaultKind.{FaultKind}
use Rattle.fs_words.specs.declared.fault.FaultKind.TheVariants as kind
use Rattle.fs_words.specs.code.Answers.{Gives, FailsAs, FailsThere, path_fault_of, pushed_word}
use Rattle.fs_words.specs.Reading.{◌>>=◌, hex_at, or_fault, or_bad_path, words_of, fault_at, headed}
use Rattle.fs_words.specs.declared.fault.ScriptFault.{ScriptFault}
use Rattle.std.specs.Prelude.{suc, MatchResult, IsTrue, is_some, not, Option}
use Rattle.memchr.specs.Find.{IsFirstByte, is_byte}
use Rattle.percent_encoding.specs.Percent.{percent_decode}
use Rattle.percent_encoding.proofs.PercentLemmas.{percent_decode-nil, percent_decode_not_percent}
use Rattle.fs_names.specs.declared.bytes.Bytes.{Bytes}
use Rattle.fs_names.proofs.SearchLemmas.{found_none}
use Rattle.fs_names.specs.Keys.{Key}
use Rattle.fs_names.specs.Reading.{FailsWith}
use Rattle.fs_names.specs.declared.fault.PathFault.{PathFault}
use Rattle.fs_names.specs.declared.fault.PathFault.TheVariants as path
use Rattle.fs_words.specs.Lines.{is_line_feed, is_space, is_passed_over, without_last_empty, lines_of, pieces_of, has_empty, is_empty}
use Rattle.std.specs.Borrow.{Bor}
use Rattle.fs_words.specs.declared.numbered.Line.{Line}
use Rattle.fs_words.specs.code.LinesLeft.{LinesLeft, from_next, IsNext, AreOver}
use Rattle.fs_words.specs.Headers.{is_too_long}
use Rattle.fs_words.specs.Words.{found_bytes, hex_of}

-- ---- file bytes

pub hex_dash : (w : List ℕ) → bytes_eq w (codes "-") ≡ true → hex_of w ≡ Some []
unfolding hex_of
hex_dash w h = cond-true _ _ _ h

pub hex_empty : (w : List ℕ) → bytes_eq w (codes "-") ≡ false → length w ≡ 0 → hex_of w ≡ None
unfolding hex_of
hex_empty w h none = cond-false _ _ _ h ∙ cond-true _ _ _ (eq-eqb (length w) 0 none)

not_empty_test : (n : ℕ) → 0 < n → eqb n 0 ≡ false
not_empty_test n h = grind (arith, nat_tests)

pub hex_decoded : (w : List ℕ) (r : Result (List ℕ) FromHexError) → bytes_eq w (codes "-") ≡ false → 0 < length w → decode_of w ≡ r → hex_of w ≡ found_bytes r
unfolding hex_of
hex_decoded w r h some e = cond-false _ _ _ h ∙ cond-false _ _ _ (not_empty_test (length w) some) ∙ ap found_bytes e

-- what is no pairs of digits is no word of bytes
pub hex_none : (w : List ℕ) → bytes_eq w (codes "-") ≡ false → 0 < length w → found_bytes (decode_of w) ≡ None → hex_at w ≡ Err kind.BadHex
hex_none w h some none = ap (or_fault kind.BadHex) (hex_decoded w (decode_of w) h some refl ∙ none)

-- what digits are read as, where there is memory
pub hex_given : (w : List ℕ) (r : Result Bytes FaultKind) → bytes_eq w (codes "-") ≡ false → 0 < length w
    → MatchResult r (λ bytes. decode_of w ≡ Ok bytes) (λ e. e ≡ kind.OutOfMemory) → Gives (λ bytes. bytes) r (hex_at w)
hex_given w (Ok bytes) h some e = ap (or_fault kind.BadHex) (hex_decoded w (Ok bytes) h some e)
hex_given w (Err f) h some e = rw e tt

-- ---- words without escapes

plain_decoded : (w : List ℕ) → All (λ b. is_byte 37 b ≡ false) w → percent_decode w ≡ w
plain_decoded [] h = percent_decode-nil
plain_decoded (b ∷ bs) h =
    let here : is_byte 37 b ≡ false = h 0 b (omega arith) in
    percent_decode_not_percent b bs (grind (arith, nat_tests)) ∙ ap (λ x. b ∷ x) (plain_decoded bs (λ k d lt. h (suc k) d (omega arith)))

-- a word in which no `%` is found stands for its own bytes
pub unescaped : (w : List ℕ) (r : Option ℕ) (b : Bool) → IsFirstByte (is_byte 37) w r → is_some r ≡ not b → IsTrue b → percent_decode w ≡ w
unescaped w None b h e t = plain_decoded w (found_none 37 w h)
unescaped w (Some k) true h e t = absurd (cc)
unescaped w (Some k) false h e t = absurd (cc)

-- ---- lines

split_some : (p : ℕ → Bool) (xs : List ℕ) → (part : List ℕ) × (parts : List (List ℕ)) × (slice_split p xs ≡ part ∷ parts)
split_some p [] = ([], [], refl)
split_some p (x ∷ xs) =
    elim (cases_Bool (p x)) [
      | inl e ↦ ([], slice_split p xs, slice_split-cons_yes p x xs e)
      | inr e ↦
          let r = split_some p xs in
          (x ∷ r.0, r.1, slice_split-cons_no p x xs e ∙ ap (onto_first x) r.2)
    ]

front_stays : (line : List ℕ) (parts : List (List ℕ)) (part : List ℕ) (more : List (List ℕ)) → parts ≡ part ∷ more → without_last_empty (line ∷ parts) ≡ line ∷ without_last_empty parts
front_stays line parts part more e = ap (λ ps. without_last_empty (line ∷ ps)) e ∙ ap (λ ps. line ∷ without_last_empty ps) (sym e)

some_not_none : {X : Type 0} (x : X) (P : Type 0) → None ≡ Some x → P
some_not_none x P e = cc

same_some : (m n : ℕ) → Some m ≡ Some n → m ≡ n
same_some m n e = cc

position_at : (p : ℕ → Bool) (xs : List ℕ) (at : ℕ) → position p xs ≡ Some at → (position_or_len p xs ≡ at) × (at < length xs)
position_at p xs at h =
    elim (cases_Bool (ltb (position_or_len p xs) (length xs))) [
      | inl e ↦
          let same : position_or_len p xs ≡ at = same_some _ _ (sym (cond-true _ _ _ e) ∙ h) in
          let below : position_or_len p xs < length xs = ltb-true _ _ e in
          (same, omega arith)
      | inr e ↦ some_not_none at _ (sym (cond-false _ _ _ e) ∙ h)
    ]

position_none : (p : ℕ → Bool) (xs : List ℕ) → position p xs ≡ None → length xs ≤ position_or_len p xs
position_none p xs h =
    elim (cases_Bool (ltb (position_or_len p xs) (length xs))) [
      | inl e ↦ some_not_none (position_or_len p xs) _ (sym h ∙ cond-true _ _ _ e)
      | inr e ↦ grind (arith, nat_tests)
    ]

pub lines_cut : (xs : List ℕ) (at : ℕ) → position is_line_feed xs ≡ Some at → (at < length xs) × (lines_of xs ≡ take at xs ∷ lines_of (drop (at + 1) xs))
lines_cut xs at h =
    let place = position_at is_line_feed xs at h in
    let first = slice_split_first is_line_feed xs 0 (omega (arith, place.0, place.1)) in
    let rest = drop (at + 1) xs in
    let cut : slice_split is_line_feed xs ≡ take at xs ∷ slice_split is_line_feed rest = first ∙ ap (λ k. take k xs ∷ slice_split is_line_feed (drop (k + 1) xs)) place.0 in
    let some = split_some is_line_feed rest in
    (place.1, ap without_last_empty cut ∙ front_stays (take at xs) (slice_split is_line_feed rest) some.0 some.1 some.2)

pub lines_whole : (xs : List ℕ) → position is_line_feed xs ≡ None → 0 < length xs → lines_of xs ≡ xs ∷ []
lines_whole xs h some =
    let long = position_none is_line_feed xs h in
    let none : All (λ b. is_line_feed b ≡ false) xs = All-from_get_or (λ b. is_line_feed b ≡ false) xs 0 (λ i lt. fails_before_first is_line_feed xs i 0 (omega arith)) in
    ap without_last_empty (slice_split_none is_line_feed xs none) ∙ cond-false _ _ _ (not_empty_test (length xs) some)

-- ---- lists, one item after the other

abbrev pub with_front : {X F : Type 0} → List X → Result (List X) F → Result (List X) F
with_front front rest = rest >>= λ xs. Ok (front ++ xs)

pub front_twice : {X F : Type 0} (xs ys : List X) (r : Result (List X) F) → with_front xs (with_front ys r) ≡ with_front (xs ++ ys) r
front_twice xs ys (Ok zs) = ap Ok (sym (append_assoc xs ys zs))
front_twice xs ys (Err f) = refl

abbrev pub words_in : List (Bor (List ℕ)) → List (List ℕ)
words_in ws = map (λ w. w.now) ws

pub words_from : (ws : List (Bor (List ℕ))) (i : ℕ) (d : Bor (List ℕ)) → i < length ws → words_in (drop i ws) ≡ (get_or ws i d).now ∷ words_in (drop (i + 1) ws)
words_from ws i d h = ap words_in (drop_more ws i d h)

pub no_words : (ws : List (Bor (List ℕ))) (i : ℕ) → length ws ≤ i → words_in (drop i ws) ≡ []
no_words ws i h = ap words_in (drop_all i ws h)

-- ---- the words of a line

abbrev pub Pieces : Type 0
Pieces = Result (List (List ℕ)) FaultKind

split_at : (p : ℕ → Bool) (xs : List ℕ) (at : ℕ) → position p xs ≡ Some at → (at < length xs) × (slice_split p xs ≡ take at xs ∷ slice_split p (drop (at + 1) xs))
split_at p xs at h =
    let place = position_at p xs at h in
    let first = slice_split_first p xs 0 (omega (arith, place.0, place.1)) in
    (place.1, first ∙ ap (λ k. take k xs ∷ slice_split p (drop (k + 1) xs)) place.0)

bad_first : (word : List ℕ) (rest : List (List ℕ)) → is_empty word ≡ true → has_empty (word ∷ rest) ≡ true
bad_first word rest e = ap (λ b. b || has_empty rest) e

good_first : (word : List ℕ) (rest : List (List ℕ)) → is_empty word ≡ false → has_empty (word ∷ rest) ≡ has_empty rest
good_first word rest e = ap (λ b. b || has_empty rest) e

or_words : Bool → List (List ℕ) → Pieces
or_words bad words = cond bad (Err kind.BadLine) (Ok words)

front_or : (bad : Bool) (word : List ℕ) (rest : List (List ℕ)) → cond {A = Pieces} bad (Err kind.BadLine) (Ok (word ∷ rest)) ≡ with_front (word ∷ []) (cond {A = Pieces} bad (Err kind.BadLine) (Ok rest))
front_or true word rest = refl
front_or false word rest = refl

bad_words : (line : List ℕ) (word : List ℕ) (rest : List (List ℕ)) → pieces_of line ≡ word ∷ rest → is_empty word ≡ true → words_of line ≡ Err kind.BadLine
bad_words line word rest cut e = cond-true _ _ _ (ap has_empty cut ∙ bad_first word rest e)

good_words : (line more : List ℕ) (word : List ℕ) → pieces_of line ≡ word ∷ pieces_of more → is_empty word ≡ false → words_of line ≡ with_front (word ∷ []) (words_of more)
good_words line more word cut e =
    ap (λ ps. cond {A = Pieces} (has_empty ps) (Err kind.BadLine) (Ok ps)) cut
    ∙ ap (λ b. cond {A = Pieces} b (Err kind.BadLine) (Ok (word ∷ pieces_of more))) (good_first word (pieces_of more) e)
    ∙ front_or (has_empty (pieces_of more)) word (pieces_of more)

-- where a line stands after some words
word_bad : (k : FaultKind) (front : List (List ℕ)) (word : List ℕ) (whole : Pieces) → is_empty word ≡ true → FailsAs k (pushed_word front word) → (whole ≡ Err kind.BadLine) → FailsAs k whole
word_bad kind.OutOfMemory front word whole e given bad = tt
word_bad k front word whole e given bad = bad ∙ sym (cond-true _ _ _ e) ∙ given

good_no_fault : (k : FaultKind) (front : List (List ℕ)) (word : List ℕ) (whole : Pieces) → is_empty word ≡ false → FailsAs k (pushed_word front word) → FailsAs k whole
good_no_fault kind.OutOfMemory front word whole e given = tt
good_no_fault k front word whole e given = let no : Ok (front ++ word ∷ []) ≡ Err k = sym (cond-false _ _ _ e) ∙ given in absurd (cc)

pub piece_fails : (k : FaultKind) (whole : Pieces) (front : List (List ℕ)) (line : List ℕ) (at : ℕ) (word : List ℕ) → whole ≡ with_front front (words_of line) → position is_space line ≡ Some at → word ≡ take at line → FailsAs k (pushed_word front word) → FailsAs k whole
piece_fails k whole front line at word h place is given =
    elim (cases_Bool (is_empty word)) [
      | inl e ↦
          let cut = (split_at is_space line at place).1 in
          let bad = bad_words line (take at line) (pieces_of (drop (at + 1) line)) cut (ap is_empty (sym is) ∙ e) in
          word_bad k front word whole e given (h ∙ ap (with_front front) bad)
      | inr e ↦ good_no_fault k front word whole e given
    ]

some_pushed : (front new : List (List ℕ)) (word : List ℕ) → pushed_word front word ≡ Ok new → (is_empty word ≡ false) × (new ≡ front ++ word ∷ [])
some_pushed front new word given =
    elim (cases_Bool (is_empty word)) [
      | inl e ↦ let no : Err kind.BadLine ≡ Ok new = sym (cond-true _ _ _ e) ∙ given in absurd (cc)
      | inr e ↦ let same : Ok (front ++ word ∷ []) ≡ Ok new = sym (cond-false _ _ _ e) ∙ given in let is : new ≡ front ++ word ∷ [] = cc in (e, is)
    ]

pub piece_pushed : (whole : Pieces) (front new : List (List ℕ)) (line more : List ℕ) (at : ℕ) (word : List ℕ) → whole ≡ with_front front (words_of line) → position is_space line ≡ Some at → word ≡ take at line → more ≡ drop (at + 1) line → pushed_word front word ≡ Ok new
    → whole ≡ with_front new (words_of more)
piece_pushed whole front new line more at word h place is rest given =
    let pushed = some_pushed front new word given in
    let cut = (split_at is_space line at place).1 in
    let good = good_words line more word (cut ∙ ap (λ w. w ∷ pieces_of (drop (at + 1) line)) (sym is) ∙ ap (λ m. word ∷ pieces_of m) (sym rest)) pushed.0 in
    h ∙ ap (with_front front) good ∙ front_twice front (word ∷ []) (words_of more) ∙ ap (λ f. with_front f (words_of more)) (sym pushed.1)

none_split : (p : ℕ → Bool) (xs : List ℕ) → position p xs ≡ None → slice_split p xs ≡ xs ∷ []
none_split p xs h =
    let long = position_none p xs h in
    slice_split_none p xs (All-from_get_or (λ b. p b ≡ false) xs 0 (λ i lt. fails_before_first p xs i 0 (omega arith)))

pub last_piece : (whole : Pieces) (front : List (List ℕ)) (line : List ℕ) → whole ≡ with_front front (words_of line) → position is_space line ≡ None → whole ≡ pushed_word front line
last_piece whole front line h place =
    let cut = none_split is_space line place in
    elim (cases_Bool (is_empty line)) [
      | inl e ↦ h ∙ ap (with_front front) (bad_words line line [] cut e) ∙ sym (cond-true _ _ _ e)
      | inr e ↦ h ∙ ap (with_front front) (cond-false _ _ _ (ap has_empty cut ∙ good_first line [] e) ∙ ap Ok cut) ∙ sym (cond-false _ _ _ e)
    ]

pub first_piece : (line : List ℕ) → words_of line ≡ with_front [] (words_of line)
first_piece line = no_front (words_of line)
  where
    no_front : (r : Pieces) → r ≡ with_front [] r
    no_front (Ok xs) = refl
    no_front (Err k) = refl

-- a step that failed so makes the whole fail so
pub fails_bind : {X Y : Type 0} (k : FaultKind) (r : Result X FaultKind) (f : X → Result Y FaultKind) → FailsAs k r → FailsAs k (r >>= f)
fails_bind kind.OutOfMemory r f h = tt
fails_bind k r f h = ap (λ x. x >>= f) h

-- ---- paths

-- what the reader of paths says of a fault
pub path_failed : (f : PathFault) (read : Result Key PathFault) → FailsWith f read → FailsAs (path_fault_of f) (or_bad_path read)
path_failed path.OutOfMemory read h = tt
path_failed path.NotAbsolute read h = ap or_bad_path h
path_failed path.Nul read h = ap or_bad_path h
path_failed path.NameTooLong read h = ap or_bad_path h
path_failed path.TooManyNames read h = ap or_bad_path h
path_failed path.Dot read h = ap or_bad_path h
path_failed path.TrailingSlash read h = ap or_bad_path h

-- ---- faults with a line

-- a text that is too long is refused before its header is looked at
pub too_long : (text : List ℕ) → is_too_long text ≡ true → headed text ≡ Err (fault_at 1 kind.TooLarge)
too_long text h = cond-true _ _ _ h

-- a fault that is exact is one of the text
pub fails_there : {Y : Type 0} (n : ℕ) (k : FaultKind) (given : Result Y ScriptFault) → given ≡ Err (fault_at n k) → FailsThere n k given
fails_there n kind.OutOfMemory given h = tt
fails_there n k given h = h

-- ---- lines that are passed over

-- a reader of numbered lines takes none that is passed over
abbrev pub PassesOver : {X : Type 0} → (ℕ → List (List ℕ) → X) → Type 0
PassesOver read = (n : ℕ) (line : List ℕ) (more : List (List ℕ)) → is_passed_over line ≡ true → read n (line ∷ more) ≡ read (n + 1) more

passed_first : (n : ℕ) (line : List ℕ) (more : List (List ℕ)) → is_passed_over line ≡ true → from_next n (line ∷ more) ≡ from_next (n + 1) more
passed_first n line more p = cond-true _ _ _ p

kept_first : (n : ℕ) (line : List ℕ) (more : List (List ℕ)) → is_passed_over line ≡ false → from_next n (line ∷ more) ≡ record { number = n; lines = line ∷ more }
kept_first n line more p = cond-false _ _ _ p

-- so it reads from the next line on
pub from_next_read : {X : Type 0} (read : ℕ → List (List ℕ) → X) → PassesOver read → (n : ℕ) (lines : List (List ℕ)) → read n lines ≡ read (from_next n lines).number (from_next n lines).lines
from_next_read read passes n [] = refl
from_next_read read passes n (line ∷ more) =
    let at : LinesLeft → _ = λ l. read l.number l.lines in
    elim (cases_Bool (is_passed_over line)) [
      | inl p ↦ passes n line more p ∙ from_next_read read passes (n + 1) more ∙ ap at (sym (passed_first n line more p))
      | inr p ↦ ap at (sym (kept_first n line more p))
    ]

-- from the line that is given on
pub next_read : {X : Type 0} (read : ℕ → List (List ℕ) → X) → PassesOver read → (old new : LinesLeft) (line : Line) → IsNext old line new → read old.number old.lines ≡ read line.number (line.text.now ∷ new.lines)
next_read read passes old new line next = from_next_read read passes old.number old.lines ∙ ap (λ (l : LinesLeft). read l.number l.lines) next.left

-- where no line is left
pub over_read : {X : Type 0} (read : ℕ → List (List ℕ) → X) → PassesOver read → (old new : LinesLeft) → AreOver old new → read old.number old.lines ≡ read new.number []
over_read read passes old new over =
    from_next_read read passes old.number old.lines ∙ ap (λ (l : LinesLeft). read l.number l.lines) over.left ∙ ap (read new.number) over.none

-- the lines behind those that are passed over are no more
pub no_more_left : (n : ℕ) (lines : List (List ℕ)) → length (from_next n lines).lines ≤ length lines
no_more_left n [] = omega arith
no_more_left n (line ∷ more) = elim (cases_Bool (is_passed_over line)) [
  | inl p ↦ rw (passed_first n line more p) (omega (arith, no_more_left (n + 1) more))
  | inr p ↦ rw (kept_first n line more p) (omega arith)
]
