-- The lines of a script's text that stay.
use Rattle.std.specs.Prelude.{ℕ, ◌≡◌, Bool, false, List, [], ◌∷◌, ◌++◌, length, drop, get_or, Result, Ok, Err, if◌then◌else◌, codes}
use Rattle.std.specs.List.{flat_map}
use Rattle.std.specs.Str.{bytes_eq}
use Rattle.fs_words.specs.Lines.{is_passed_over}
use Rattle.fs_words.specs.Words.{Word}
use Rattle.fs_words.specs.Reading.{words_of}
use Rattle.fs_words.specs.declared.fault.FaultKind.{FaultKind}
use Rattle.fs_sched_shrink.specs.Kept.{picked}

-- the words of a line; none where it has none
abbrev pub read_words : Result (List Word) FaultKind → List Word
read_words (Ok ws) = ws
read_words (Err k) = []

-- whether the words of a line begin a block
abbrev pub begins_block : List Word → Bool
begins_block [] = false
begins_block (first ∷ more) = bytes_eq first (codes "thread")

-- a word, and each of the others behind a space
abbrev pub spaced : Word → List Word → List ℕ
spaced first more = first ++ flat_map (λ word. 32 ∷ word) more

-- a line of words; no line where there are none
abbrev pub line_of : List Word → List (List ℕ)
line_of [] = []
line_of (w ∷ ws) = spaced w ws ∷ []

-- the line of a call, where its flag is true
abbrev pub call_kept : List Bool → List ℕ → List (List ℕ)
call_kept kept line = if get_or kept 0 false then line ∷ [] else []

-- of the lines of a schedule those of words that stay, with these words alone, and those that are passed over
unfoldable pub words_thinned : List Bool → List (List ℕ) → List (List ℕ)
words_thinned kept [] = []
words_thinned kept (line ∷ more) =
    if is_passed_over line then line ∷ words_thinned kept more
    else line_of (picked (read_words (words_of line)) kept) ++ words_thinned (drop (length (read_words (words_of line))) kept) more

-- of the lines of blocks and those behind them: those that begin a block, those of calls that stay, those that are passed over, and those of the schedule
unfoldable pub blocks_thinned : List Bool → List (List ℕ) → List (List ℕ)
blocks_thinned kept [] = []
blocks_thinned kept (line ∷ more) =
    if is_passed_over line then line ∷ blocks_thinned kept more
    else (if bytes_eq line (codes "schedule") then line ∷ words_thinned kept more
    else (if begins_block (read_words (words_of line)) then line ∷ blocks_thinned kept more
    else call_kept kept line ++ blocks_thinned (drop 1 kept) more))

-- the lines of a script, of which the first is its header
abbrev pub thinned : List Bool → List (List ℕ) → List (List ℕ)
thinned kept [] = []
thinned kept (first ∷ more) = first ∷ blocks_thinned kept more

-- ---- as the loops do it

-- a line with its line feed
abbrev pub ended : List ℕ → List ℕ
ended line = line ++ 10 ∷ []

-- what is still to be added of these lines is these
abbrev pub AddsLine : List (List ℕ) → List (List ℕ) → List ℕ → List ℕ → Type 0
AddsLine lines rest old new = old ++ flat_map ended lines ≡ new ++ flat_map ended rest
