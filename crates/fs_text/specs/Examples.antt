-- Worked examples of texts, computed from the definitions.
use Rattle.std.specs.Prelude.{◌≡◌, ℕ, ◌^◌, ◌-◌, List, [], ◌∷◌, ◌++◌, Result, Ok, Err, Some, None, codes}
use Prim.Native.String.{String}
use Rattle.fs_names.specs.Reading.{names}
use Rattle.fs_names.specs.Keys.{Key}
use Rattle.fs_names.specs.declared.kind.Kind.TheVariants as kind
use Rattle.fs_names.specs.declared.fault.PathFault.TheVariants.{NotAbsolute}
use Rattle.fs_calls.specs.declared.call.Call.TheVariants.{Mkdir, Rename, ListAfter, Write}
use Rattle.fs_calls.specs.declared.reply.Reply.TheVariants as answer
use Rattle.fs_calls.specs.declared.errno.Errno.TheVariants.{Enoent, Eexist, Eoverflow}
use Rattle.fs_timeline.specs.declared.entry.Entry.{Entry}
use Rattle.fs_timeline.specs.declared.entry.Entry.TheVariants.{Begin, Commit, Return}
use Rattle.fs_words.specs.Words.{number_of, escaped}
use Rattle.fs_words.specs.Reading.{fault_at}
use Rattle.fs_text.specs.Calls.{count_at}
use Rattle.fs_text.specs.Journal.{entry_line, journal_text, entries_of}
use Rattle.fs_words.specs.declared.fault.ScriptFault.{ScriptFault}
use Rattle.fs_words.specs.declared.fault.FaultKind.{FaultKind}
use Rattle.fs_words.specs.declared.fault.FaultKind.TheVariants.{BadHeader, BadLine, BadPath, BadNumber, BadHex, BadReply}

abbrev pub at : String → Key
at text = names (codes text)

-- the lines behind the header of a journal, read; and the fault
abbrev pub journal : String → Result (List Entry) ScriptFault
journal lines = entries_of (codes "atomfs-journal 1\n" ++ codes lines)

abbrev pub JournalFault : String → ℕ → FaultKind → Type 0
JournalFault lines line kind = journal lines ≡ Err (fault_at line kind)

pub record JournalFaults : Type 0 where
  pub empty : entries_of [] ≡ Err (fault_at 1 BadHeader)
  pub script_header : entries_of (codes "atomfs 1\n") ≡ Err (fault_at 1 BadHeader)
  pub commit_nothing : JournalFault "commit" 2 BadLine
  pub commit_two : JournalFault "commit 1 2" 2 BadLine
  pub begin_few : JournalFault "begin 1 0" 2 BadLine
  pub return_few : JournalFault "return 1" 2 BadLine
  pub list_in_the_first : JournalFault "begin 1 0 list / / 1" 2 BadLine
  pub list_before_number : JournalFault "begin x 0 list / / 1" 2 BadLine
  pub relative_path : JournalFault "begin 1 0 mkdir a" 2 (BadPath NotAbsolute)
  pub no_reply : JournalFault "return 1 fine" 2 BadReply
  pub dots : JournalFault "return 1 names .." 2 BadReply
  pub number_in_reply : JournalFault "return 1 wrote x" 2 BadNumber
  pub bytes_in_reply : JournalFault "return 1 bytes abc" 2 BadHex
  pub call_number_first : JournalFault "return x fine" 2 BadNumber
  pub form_before_number : JournalFault "return 1 stat dirx 01" 2 BadReply

-- the journal of the first mkdir
abbrev pub first_mkdir : List Entry
first_mkdir = Begin 1 0 (Mkdir (at "/a")) ∷ Commit 1 ∷ Return 1 answer.Done ∷ []

pub record JournalsRead : Type 0 where
  pub no_entries : journal "" ≡ Ok []
  pub first_mkdir : journal "begin 1 0 mkdir /a\ncommit 1\nreturn 1 ok\ntree\nanything  at all" ≡ Ok first_mkdir
  pub replies : journal "return 1 failed EEXIST\n# ok\n\nreturn 2 stat dir 3\nreturn 3 names b a%20b b\nreturn 4 names\nreturn 5 bytes 6869\nreturn 6 bytes -\nreturn 7 wrote 0\nreturn 8 failed EOVERFLOW"
      ≡ Ok (Return 1 (answer.Failed Eexist) ∷ Return 2 (answer.Stat kind.Dir 3) ∷ Return 3 (answer.Names (codes "b" ∷ codes "a b" ∷ codes "b" ∷ []))
      ∷ Return 4 (answer.Names []) ∷ Return 5 (answer.Bytes (codes "hi")) ∷ Return 6 (answer.Bytes []) ∷ Return 7 (answer.Wrote 0) ∷ Return 8 (answer.Failed Eoverflow) ∷ [])

pub record TextsWritten : Type 0 where
  pub first_mkdir : journal_text first_mkdir ≡ codes "atomfs-journal 1\nbegin 1 0 mkdir /a\ncommit 1\nreturn 1 ok\n"
  pub failed : entry_line (Return 4 (answer.Failed Enoent)) ≡ codes "return 4 failed ENOENT\n"
  pub crowded : entry_line (Return 4 (answer.Failed Eoverflow)) ≡ codes "return 4 failed EOVERFLOW\n"
  pub name_with_escapes : escaped (97 ∷ 32 ∷ 37 ∷ []) ≡ codes "a%20%25"
  pub name_beyond_ascii : escaped (195 ∷ 169 ∷ []) ≡ codes "%C3%A9"
  pub ends_of_escapes : escaped (0 ∷ 32 ∷ 33 ∷ 126 ∷ 127 ∷ []) ≡ codes "%00%20!~%7F"
  pub names : entry_line (Return 3 (answer.Names (codes "b" ∷ codes "a b" ∷ []))) ≡ codes "return 3 names b a%20b\n"
  pub root : entry_line (Begin 9 2 (Rename [] (at "/a/b"))) ≡ codes "begin 9 2 rename / /a/b\n"
  pub list : entry_line (Begin 9 2 (ListAfter 256 (at "/a") (at "/a/b"))) ≡ codes "begin 9 2 list /a /a/b 256\n"
  pub bytes : entry_line (Begin 1 0 (Write (at "/f") 9 (10 ∷ 255 ∷ []))) ≡ codes "begin 1 0 write /f 9 0aff\n"

pub record NumbersRead : Type 0 where
  pub zero : number_of (codes "0") ≡ Some 0
  pub largest : number_of (codes "18446744073709551615") ≡ Some (2 ^ 64 - 1)
  pub too_large : number_of (codes "18446744073709551616") ≡ None
  pub two_zeros : number_of (codes "00") ≡ None
  pub signed : number_of (codes "+1") ≡ None
  pub nothing : number_of [] ≡ None
  pub largest_count : count_at (codes "4294967295") ≡ Ok (2 ^ 32 - 1)
  pub too_large_count : count_at (codes "4294967296") ≡ Err BadNumber
