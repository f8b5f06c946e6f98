-- A text whose words that name calls are written out.
use Rattle.std.specs.Prelude.{ℕ, ◌≡◌, ◌⊎◌, Bool, true, false, List, [], ◌∷◌, ◌++◌, take, Ok, Err, Option, Some, None, codes}
use Rattle.std.specs.List.{flat_map, join_with_byte}
use Rattle.fs_names.specs.declared.limits.Limits.{Limits}
use Rattle.fs_words.specs.Lines.{is_passed_over}
use Rattle.fs_words.specs.Reading.{words_of}
use Rattle.fs_words.specs.Words.{Word}
use Rattle.fs_words.specs.declared.fault.FaultKind.{FaultKind}
use Rattle.fs_sched.specs.declared.origin.Origin.{Origin}
use Rattle.fs_sched_reach.specs.Words.{CallWord, reach_of, times_words}
use Rattle.fs_sched_reach.specs.Counts.{IsCount, HasNoCount}
use Rattle.fs_sched_reach.specs.Plain.{has_words, lines_from, schedule_start}

-- words, each with a space after it
abbrev pub spaced : List Word → List ℕ
spaced words = flat_map (λ w. w ++ codes " ") words

-- what is written after a text for a word that says this: the word itself, or its count
abbrev pub IsWordFor : Origin → Limits → List ℕ → Word → Option CallWord → List Word → Type 0
IsWordFor from limits text word None new = new ≡ word ∷ []
IsWordFor from limits text word (Some w) new = (n : ℕ) × IsCount from limits text w n × (new ≡ times_words w.name n)

abbrev pub IsWordWritten : Origin → Limits → List ℕ → Word → List Word → Type 0
IsWordWritten from limits text word new = IsWordFor from limits text word (reach_of word) new

-- a word names a call and is no count
abbrev pub IsStuck : Origin → Limits → List ℕ → Word → Type 0
IsStuck from limits text word = (w : CallWord) × (reach_of word ≡ Some w) × HasNoCount from limits text w

-- what is written after a text for the words of a line, from left to right
abbrev pub AreWordsWritten : Origin → Limits → List ℕ → List Word → List Word → Type 0
AreWordsWritten from limits text [] new = new ≡ []
AreWordsWritten from limits text (word ∷ words) new =
    (first more : List Word) × IsWordWritten from limits text word first × AreWordsWritten from limits (text ++ spaced first) words more × (new ≡ first ++ more)

-- one of the words is no count, after what is written for those before it
abbrev pub IsOneStuck : Origin → Limits → List ℕ → List Word → Type 0
IsOneStuck from limits text [] = ⊥
IsOneStuck from limits text (word ∷ words) =
    IsStuck from limits text word ⊎ ((first : List Word) × IsWordWritten from limits text word first × IsOneStuck from limits (text ++ spaced first) words)

-- what is written for a line: a comment stays, and the words of another line are written with a space between each two
abbrev pub IsLineWritten : Origin → Limits → List ℕ → List ℕ → List ℕ → Type 0
IsLineWritten from limits text line new =
    ((is_passed_over line ≡ true) × (new ≡ line))
    ⊎ ((is_passed_over line ≡ false) × (words written : List Word) × (words_of line ≡ Ok words) × AreWordsWritten from limits text words written × (new ≡ join_with_byte 32 written))

-- a line is left: it cannot be read as words, or one of them is no count
abbrev pub IsLeft : Origin → Limits → List ℕ → List ℕ → Type 0
IsLeft from limits text line =
    (is_passed_over line ≡ false) × (((k : FaultKind) × (words_of line ≡ Err k)) ⊎ ((words : List Word) × (words_of line ≡ Ok words) × IsOneStuck from limits text words))

-- what is written for lines, each after those before it: from the first line on that is left, they stay
abbrev pub AreLinesWritten : Origin → Limits → List ℕ → List (List ℕ) → List (List ℕ) → Type 0
AreLinesWritten from limits text [] new = new ≡ []
AreLinesWritten from limits text (line ∷ lines) new =
    ((first : List ℕ) × (more : List (List ℕ)) × IsLineWritten from limits text line first × AreLinesWritten from limits (text ++ (first ++ codes "\n")) lines more × (new ≡ first ∷ more))
    ⊎ (IsLeft from limits text line × (new ≡ line ∷ lines))

-- up to the schedule a text stays byte for byte, and the lines of the schedule are written so
abbrev pub IsWrittenFrom : Origin → Limits → List ℕ → Option ℕ → List ℕ → Type 0
IsWrittenFrom from limits text None made = made ≡ text
IsWrittenFrom from limits text (Some start) made =
    (lines : List (List ℕ)) × AreLinesWritten from limits (take start text) (lines_from text start) lines × (made ≡ take start text ++ join_with_byte 10 lines)

abbrev pub IsWrittenIf : Bool → Origin → Limits → List ℕ → List ℕ → Type 0
IsWrittenIf false from limits text made = made ≡ text
IsWrittenIf true from limits text made = IsWrittenFrom from limits text (schedule_start text) made

-- a text is written out: a text without `@` in its schedule is itself
abbrev pub IsWrittenOut : Origin → Limits → List ℕ → List ℕ → Type 0
IsWrittenOut from limits text made = IsWrittenIf (has_words text) from limits text made
