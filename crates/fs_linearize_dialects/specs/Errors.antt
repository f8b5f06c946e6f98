-- Errors in one word, with a bar between each two.
use Rattle.std.specs.Prelude.{ℕ, List, [], ◌∷◌, ◌++◌, ◌==◌, map, Option, Some, None, Result, Ok, Err, if◌then◌else◌}
use Rattle.std.specs.List.{flat_map}
use Rattle.std.specs.Str.{bytes_eq}
use Rattle.fs_calls.specs.declared.errno.Errno.{Errno}
use Rattle.fs_words.specs.Words.{Word}
use Rattle.fs_words.specs.Reading.{words_of}
use Rattle.fs_words.specs.declared.fault.FaultKind.{FaultKind}
use Rattle.fs_text.specs.Journal.{errno_word, errno_of}

-- the first of these errors that a word names
abbrev pub errno_among : Word → List Errno → Option Errno
errno_among word [] = None
errno_among word (e ∷ errors) = if bytes_eq word (errno_word e) then Some e else errno_among word errors

-- a word with spaces in the place of its bars
abbrev pub spaced_byte : ℕ → ℕ
spaced_byte b = if b == 124 then 32 else b

abbrev pub spaced : Word → List ℕ
spaced word = map spaced_byte word

-- an error before others, if both are known
abbrev pub with_errno : Option Errno → Option (List Errno) → Option (List Errno)
with_errno None more = None
with_errno (Some e) None = None
with_errno (Some e) (Some errors) = Some (e ∷ errors)

-- the errors that words name
abbrev pub errnos_of : List Word → Option (List Errno)
errnos_of [] = Some []
errnos_of (word ∷ words) = with_errno (errno_of word) (errnos_of words)

abbrev pub errnos_in : Result (List Word) FaultKind → Option (List Errno)
errnos_in (Ok words) = errnos_of words
errnos_in (Err k) = None

-- the errors that a word names
abbrev pub errors_of : Word → Option (List Errno)
errors_of word = errnos_in (words_of (spaced word))

-- errors as a word
abbrev pub barred : Errno → List ℕ
barred e = 124 ∷ errno_word e

abbrev pub errors_word : List Errno → Word
errors_word [] = []
errors_word (e ∷ errors) = errno_word e ++ flat_map barred errors
