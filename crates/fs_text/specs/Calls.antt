-- Calls as words of a line, both ways.
use Rattle.std.specs.Prelude.{ℕ, ◌^◌, Bool, false, ◌==◌, nat_lt, List, [], ◌∷◌, length, Result, Ok, Err, Option, Some, None, if◌then◌else◌, codes, decimal}
use Rattle.std.specs.Str.{bytes_eq}
use Rattle.fs_names.specs.Keys.{Key}
use Rattle.fs_names.specs.Limits.{has_list}
use Rattle.fs_names.specs.declared.limits.Limits.{Limits}
use Rattle.fs_calls.specs.declared.call.Call.{Call}
use Rattle.fs_calls.specs.declared.call.Call.TheVariants.{Mkdir, Mknod, Unlink, Rmdir, Rename, Exchange, Stat, Readdir, ListAfter, Read, Write, Truncate}
use Rattle.fs_words.specs.Words.{Word, hex_word, path_word}
use Rattle.fs_words.specs.Reading.{◌>>=◌, path_at, number_at, hex_at}
use Rattle.fs_words.specs.declared.fault.FaultKind.{FaultKind}
use Rattle.fs_words.specs.declared.fault.FaultKind.TheVariants as kind

-- ---- written

-- the words of a call
abbrev pub call_words : Call → List Word
call_words (Mkdir p) = codes "mkdir" ∷ path_word p ∷ []
call_words (Mknod p) = codes "mknod" ∷ path_word p ∷ []
call_words (Unlink p) = codes "unlink" ∷ path_word p ∷ []
call_words (Rmdir p) = codes "rmdir" ∷ path_word p ∷ []
call_words (Rename p q) = codes "rename" ∷ path_word p ∷ path_word q ∷ []
call_words (Exchange p q) = codes "exchange" ∷ path_word p ∷ path_word q ∷ []
call_words (Stat p) = codes "stat" ∷ path_word p ∷ []
call_words (Readdir p) = codes "readdir" ∷ path_word p ∷ []
call_words (ListAfter count p after) = codes "list" ∷ path_word p ∷ path_word after ∷ decimal count ∷ []
call_words (Read p off count) = codes "read" ∷ path_word p ∷ decimal off ∷ decimal count ∷ []
call_words (Write p off bytes) = codes "write" ∷ path_word p ∷ decimal off ∷ hex_word bytes ∷ []
call_words (Truncate p size) = codes "truncate" ∷ path_word p ∷ decimal size ∷ []

-- ---- read: the first step that fails is the answer

-- what stands behind the first word of a call, and the call that it makes
pub data CallForm : Type 0 where
  one_path : (Key → Call) → CallForm
  two_paths : (Key → Key → Call) → CallForm
  paths_and_count : (ℕ → Key → Key → Call) → CallForm
  a_number : (Key → ℕ → Call) → CallForm
  two_numbers : (Key → ℕ → ℕ → Call) → CallForm
  number_and_bytes : (Key → ℕ → List ℕ → Call) → CallForm

-- the form of the call that lists a directory in pieces, where texts by these limits have it
abbrev pub list_form : Limits → Option CallForm
list_form limits = if has_list limits then Some (paths_and_count ListAfter) else None

-- the form of a call by its first word, where more than one path stands behind that
abbrev pub longer_form_of : Limits → Word → Option CallForm
longer_form_of limits word =
    if bytes_eq word (codes "rename") then Some (two_paths Rename)
    else (if bytes_eq word (codes "exchange") then Some (two_paths Exchange)
    else (if bytes_eq word (codes "read") then Some (two_numbers Read)
    else (if bytes_eq word (codes "write") then Some (number_and_bytes Write)
    else (if bytes_eq word (codes "truncate") then Some (a_number Truncate)
    else (if bytes_eq word (codes "list") then list_form limits
    else None)))))

-- the form of a call by its first word, by these limits
abbrev pub form_of : Limits → Word → Option CallForm
form_of limits word =
    if bytes_eq word (codes "mkdir") then Some (one_path Mkdir)
    else (if bytes_eq word (codes "mknod") then Some (one_path Mknod)
    else (if bytes_eq word (codes "unlink") then Some (one_path Unlink)
    else (if bytes_eq word (codes "rmdir") then Some (one_path Rmdir)
    else (if bytes_eq word (codes "stat") then Some (one_path Stat)
    else (if bytes_eq word (codes "readdir") then Some (one_path Readdir)
    else longer_form_of limits word)))))

-- the words behind the first, read from left to right, by these limits
abbrev pub one_path_of : Limits → List Word → Result Key FaultKind
one_path_of limits (p ∷ []) = path_at limits p
one_path_of limits _ = Err kind.BadLine

-- two words as two paths
abbrev pub two_paths_at : Limits → Word → Word → Result (Key × Key) FaultKind
two_paths_at limits p q = path_at limits p >>= λ from. path_at limits q >>= λ to. Ok (from, to)

-- the words of two paths; another number of words is a bad line
abbrev pub two_paths_of : Limits → List Word → Result (Key × Key) FaultKind
two_paths_of limits (p ∷ q ∷ []) = two_paths_at limits p q
two_paths_of limits _ = Err kind.BadLine

-- two words as a path and a number
abbrev pub a_number_at : Limits → Word → Word → Result (Key × ℕ) FaultKind
a_number_at limits p n = path_at limits p >>= λ key. number_at n >>= λ size. Ok (key, size)

-- the words of a path and a number; another number of words is a bad line
abbrev pub a_number_of : Limits → List Word → Result (Key × ℕ) FaultKind
a_number_of limits (p ∷ n ∷ []) = a_number_at limits p n
a_number_of limits _ = Err kind.BadLine

-- a word as a number of 32 bits: a greater one is none
abbrev pub count_at : Word → Result ℕ FaultKind
count_at n = number_at n >>= λ count. if nat_lt count (2 ^ 32) then Ok count else Err kind.BadNumber

-- three words as two paths and a number of 32 bits
abbrev pub paths_and_count_at : Limits → Word → Word → Word → Result (Key × Key × ℕ) FaultKind
paths_and_count_at limits p q n = path_at limits p >>= λ key. path_at limits q >>= λ after. count_at n >>= λ count. Ok (key, after, count)

-- the words of two paths and such a number; another number of words is a bad line
abbrev pub paths_and_count_of : Limits → List Word → Result (Key × Key × ℕ) FaultKind
paths_and_count_of limits (p ∷ q ∷ n ∷ []) = paths_and_count_at limits p q n
paths_and_count_of limits _ = Err kind.BadLine

-- three words as a path and two numbers
abbrev pub two_numbers_at : Limits → Word → Word → Word → Result (Key × ℕ × ℕ) FaultKind
two_numbers_at limits p m n = path_at limits p >>= λ key. number_at m >>= λ off. number_at n >>= λ count. Ok (key, off, count)

-- the words of a path and two numbers; another number of words is a bad line
abbrev pub two_numbers_of : Limits → List Word → Result (Key × ℕ × ℕ) FaultKind
two_numbers_of limits (p ∷ m ∷ n ∷ []) = two_numbers_at limits p m n
two_numbers_of limits _ = Err kind.BadLine

-- three words as a path, a number and bytes
abbrev pub number_and_bytes_at : Limits → Word → Word → Word → Result (Key × ℕ × List ℕ) FaultKind
number_and_bytes_at limits p n h = path_at limits p >>= λ key. number_at n >>= λ off. hex_at h >>= λ bytes. Ok (key, off, bytes)

-- the words of a path, a number and bytes; another number of words is a bad line
abbrev pub number_and_bytes_of : Limits → List Word → Result (Key × ℕ × List ℕ) FaultKind
number_and_bytes_of limits (p ∷ n ∷ h ∷ []) = number_and_bytes_at limits p n h
number_and_bytes_of limits _ = Err kind.BadLine

-- the call of a form, with the arguments that the words spell
abbrev pub arguments_at : Limits → CallForm → List Word → Result Call FaultKind
arguments_at limits (one_path make) words = one_path_of limits words >>= λ key. Ok (make key)
arguments_at limits (two_paths make) words = two_paths_of limits words >>= λ both. Ok (make both.0 both.1)
arguments_at limits (paths_and_count make) words = paths_and_count_of limits words >>= λ found. Ok (make found.2 found.0 found.1)
arguments_at limits (a_number make) words = a_number_of limits words >>= λ found. Ok (make found.0 found.1)
arguments_at limits (two_numbers make) words = two_numbers_of limits words >>= λ found. Ok (make found.0 found.1 found.2)
arguments_at limits (number_and_bytes make) words = number_and_bytes_of limits words >>= λ found. Ok (make found.0 found.1 found.2)

-- how many words stand behind the first
abbrev pub argument_count : CallForm → ℕ
argument_count (one_path make) = 1
argument_count (two_paths make) = 2
argument_count (paths_and_count make) = 3
argument_count (a_number make) = 2
argument_count (two_numbers make) = 3
argument_count (number_and_bytes make) = 3

-- the same; a first word that begins no call is a bad line
abbrev pub formed_call : Limits → Option CallForm → List Word → Result Call FaultKind
formed_call limits None words = Err kind.BadLine
formed_call limits (Some form) words = arguments_at limits form words

-- the call that words spell, by these limits: a first word that is none, and a wrong number of words, are a bad line
unfoldable pub call_of : Limits → List Word → Result Call FaultKind
call_of limits [] = Err kind.BadLine
call_of limits (first ∷ more) = formed_call limits (form_of limits first) more

-- whether a call has this first word, and so many words behind it
abbrev pub is_formed : Option CallForm → List Word → Bool
is_formed None words = false
is_formed (Some form) words = length words == argument_count form

-- whether the first word is a call's by these limits, with the right number of words behind it
abbrev pub has_call_form : Limits → List Word → Bool
has_call_form limits [] = false
has_call_form limits (first ∷ more) = is_formed (form_of limits first) more
