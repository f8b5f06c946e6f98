-- Words, lines and texts: what is joined is cut again.
use Rattle.std.proofs.Common.{◌≡◌, ℕ, ◌<◌, false, List, [], ◌∷◌, ◌++◌, length, map, sym, refl, ap, ◌∙◌, append_assoc, append-nil, arith}
use Rattle.std.specs.List.{slice_split, join_with_byte, flat_map, All, AllByRecursion}
use Rattle.std.proofs.lemmas.List.Splits.{slice_split_at, slice_split_none}
use Rattle.std.proofs.lemmas.List.Elements.{All-weaker, All-append, All-cons, All-nil}
use Rattle.std.proofs.lemmas.Bool.Decides.{nat_tests}
use Rattle.fs_words.specs.Words.{escaped}
use Rattle.fs_words.specs.Lines.{is_line_feed, is_space, is_empty, without_last_empty, lines_of, pieces_of, has_empty}

-- no space, no line feed, nothing below
abbrev pub IsDark : List ℕ → Type 0
IsDark word = All (λ b. 32 < b) word

pub record IsWord (word : List ℕ) : Type 0 where
  pub some : 0 < length word
  pub dark : IsDark word

not_space : (b : ℕ) → 32 < b → is_space b ≡ false
not_space b h = grind (arith, nat_tests)

not_feed : (b : ℕ) → 31 < b → is_line_feed b ≡ false
not_feed b h = grind (arith, nat_tests)

pub pieces_of_joined : (words : List (List ℕ)) → AllByRecursion IsWord words → 0 < length words → pieces_of (join_with_byte 32 words) ≡ words
pieces_of_joined [] h some = absurd (omega arith)
pieces_of_joined (x ∷ []) h some = slice_split_none is_space x (All-weaker _ _ not_space x h.0.dark)
pieces_of_joined (x ∷ y ∷ xs) h some =
    slice_split_at is_space x 32 (join_with_byte 32 (y ∷ xs)) (All-weaker _ _ not_space x h.0.dark) refl
    ∙ ap (λ t. x ∷ t) (pieces_of_joined (y ∷ xs) h.1 (omega arith))

no_empty : (x : List ℕ) → 0 < length x → is_empty x ≡ false
no_empty x h = grind (arith, nat_tests)

pub has_no_empty : (words : List (List ℕ)) → AllByRecursion IsWord words → has_empty words ≡ false
has_no_empty [] h = refl
has_no_empty (x ∷ xs) h = rw (no_empty x h.0.some) (has_no_empty xs h.1)

-- a line has no line feed
abbrev pub IsLine : List ℕ → Type 0
IsLine line = All (λ b. 31 < b) line

pub IsLine_joined : (words : List (List ℕ)) → AllByRecursion IsWord words → IsLine (join_with_byte 32 words)
IsLine_joined [] h = All-nil _
IsLine_joined (x ∷ []) h = All-weaker (λ b. 32 < b) (λ b. 31 < b) (λ b lt. omega arith) x h.0.dark
IsLine_joined (x ∷ y ∷ xs) h =
    All-append (λ b. 31 < b) x _ (All-weaker (λ b. 32 < b) (λ b. 31 < b) (λ b lt. omega arith) x h.0.dark)
    (All-cons (λ b. 31 < b) 32 _ (omega arith) (IsLine_joined (y ∷ xs) h.1))

abbrev pub ended : List ℕ → List ℕ
ended line = line ++ 10 ∷ []

pub split_ended : (lines : List (List ℕ)) → AllByRecursion IsLine lines → slice_split is_line_feed (flat_map ended lines) ≡ lines ++ [] ∷ []
split_ended [] h = refl
split_ended (l ∷ ls) h =
    ap (slice_split is_line_feed) (append_assoc l (10 ∷ []) (flat_map ended ls))
    ∙ slice_split_at is_line_feed l 10 (flat_map ended ls) (All-weaker _ _ not_feed l h.0) refl
    ∙ ap (λ t. l ∷ t) (split_ended ls h.1)

without_added : (lines : List (List ℕ)) → without_last_empty (lines ++ [] ∷ []) ≡ lines
without_added [] = refl
without_added (l ∷ []) = refl
without_added (l ∷ m ∷ ls) = ap (λ t. l ∷ t) (without_added (m ∷ ls))

-- lines that were written are the lines of the text
pub lines_of_ended : (lines : List (List ℕ)) → AllByRecursion IsLine lines → lines_of (flat_map ended lines) ≡ lines
lines_of_ended lines h = ap without_last_empty (split_ended lines h) ∙ without_added lines

-- a first word, and each of the others behind a space
pub joined_by_spaces : (first : List ℕ) (names : List (List ℕ)) → join_with_byte 32 (first ∷ map escaped names) ≡ first ++ flat_map (λ n. 32 ∷ escaped n) names
joined_by_spaces first [] = sym (append-nil first)
joined_by_spaces first (n ∷ ns) = ap (λ t. first ++ 32 ∷ t) (joined_by_spaces (escaped n) ns)
