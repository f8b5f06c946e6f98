-- The words of a schedule that name calls, and a text without these calls.
use Rattle.std.specs.Prelude.{ℕ, ◌+◌, Bool, false, List, ◌++◌, map, take, drop, Option, Some, None, if◌then◌else◌, codes}
use Rattle.std.specs.List.{join_with_byte, list_any, slice_split}
use Rattle.std.specs.Option.{option_map}
use Rattle.memchr.specs.Find.{first_of, matches}
use Rattle.fs_words.specs.Lines.{is_line_feed, is_passed_over, pieces_of}
use Rattle.fs_sched_reach.specs.Words.{is_at_sign, plain_word}

-- ---- the words of a schedule

-- the place at which the schedule begins: after the first line `schedule` that has a line before it
abbrev pub schedule_start : List ℕ → Option ℕ
schedule_start text = option_map (λ at. at + 10) (first_of (matches text (codes "\nschedule\n") 0))

-- the lines from a place on; what comes after the last line feed is one too
abbrev pub lines_from : List ℕ → ℕ → List (List ℕ)
lines_from text start = slice_split is_line_feed (drop start text)

-- whether there is a `@` from the begin of the schedule on
abbrev pub has_words_from : List ℕ → Option ℕ → Bool
has_words_from text None = false
has_words_from text (Some start) = list_any is_at_sign (drop start text)

abbrev pub has_words : List ℕ → Bool
has_words text = has_words_from text (schedule_start text)

-- ---- a text without them

-- a line with the thread alone for each word that names a call of it; a comment stays
abbrev pub plain_line : List ℕ → List ℕ
plain_line line = if is_passed_over line then line else join_with_byte 32 (map plain_word (pieces_of line))

abbrev pub plain_from : List ℕ → Option ℕ → List ℕ
plain_from text None = text
plain_from text (Some start) = take start text ++ join_with_byte 10 (map plain_line (lines_from text start))

-- a text with such lines in its schedule, and the same bytes before that
abbrev pub plain : List ℕ → List ℕ
plain text = plain_from text (schedule_start text)
