-- The calls by their names.
use Rattle.std.specs.Prelude.{Bool, ◌==◌, ℕ, [], ◌∷◌, Option, Some, None, if◌then◌else◌, codes}
use Rattle.std.specs.Prelude as prelude
use Rattle.std.specs.Str.{bytes_eq}
use Rattle.fs_calls.specs.declared.call.Call.{Call}
use Rattle.fs_calls.specs.declared.call.Call.TheVariants as call
use Rattle.fs_words.specs.Words.{Word}
use Rattle.fs_linearize_dialects.specs.declared.call_name.CallName.{CallName}
use Rattle.fs_linearize_dialects.specs.declared.call_name.CallName.TheVariants.{Mkdir, Mknod, Unlink, Rmdir, Rename, Exchange, Stat, Readdir, List, Read, Write, Truncate}
use Rattle.fs_linearize_dialects.specs.declared.call_name.TheConstants.{NAMES}

-- the name of a call
abbrev pub name_of : Call → CallName
name_of (call.Mkdir p) = Mkdir
name_of (call.Mknod p) = Mknod
name_of (call.Unlink p) = Unlink
name_of (call.Rmdir p) = Rmdir
name_of (call.Rename p q) = Rename
name_of (call.Exchange p q) = Exchange
name_of (call.Stat p) = Stat
name_of (call.Readdir p) = Readdir
name_of (call.ListAfter count p after) = List
name_of (call.Read p off count) = Read
name_of (call.Write p off bytes) = Write
name_of (call.Truncate p size) = Truncate

-- its word
abbrev pub name_word : CallName → Word
name_word Mkdir = codes "mkdir"
name_word Mknod = codes "mknod"
name_word Unlink = codes "unlink"
name_word Rmdir = codes "rmdir"
name_word Rename = codes "rename"
name_word Exchange = codes "exchange"
name_word Stat = codes "stat"
name_word Readdir = codes "readdir"
name_word List = codes "list"
name_word Read = codes "read"
name_word Write = codes "write"
name_word Truncate = codes "truncate"

-- the first of these names that a word is
abbrev pub name_among : Word → prelude.List CallName → Option CallName
name_among word [] = None
name_among word (name ∷ names) = if bytes_eq word (name_word name) then Some name else name_among word names

-- the name that a word is
abbrev pub name_at : Word → Option CallName
name_at word = name_among word NAMES

-- its number
abbrev pub number_of : CallName → ℕ
number_of Mkdir = 1
number_of Mknod = 2
number_of Unlink = 3
number_of Rmdir = 4
number_of Rename = 5
number_of Exchange = 6
number_of Stat = 7
number_of Readdir = 8
number_of List = 9
number_of Read = 10
number_of Write = 11
number_of Truncate = 12

-- whether two names are the same
abbrev pub same_name : CallName → CallName → Bool
same_name one other = number_of one == number_of other
