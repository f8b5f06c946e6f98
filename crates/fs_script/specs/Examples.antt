-- Worked examples of scripts and trees, computed from the definitions.
use Rattle.std.specs.Prelude.{◌≡◌, ℕ, ◌^◌, ◌-◌, [], ◌∷◌, ◌++◌, Result, Ok, Err, codes}
use Prim.Native.String.{String}
use Rattle.fs_names.specs.Reading.{names}
use Rattle.fs_names.specs.Keys.{Key}
use Rattle.fs_names.specs.declared.limits.Limits.TheVariants.{V1, V2, V3}
use Rattle.fs_names.specs.declared.fault.PathFault.TheVariants.{Nul, TrailingSlash}
use Rattle.fs_calls.specs.declared.call.Call.TheVariants.{Mkdir, Mknod, Unlink, Rmdir, Rename, Stat, Readdir, ListAfter, Read, Write, Truncate}
use Rattle.fs_calls.specs.declared.reply.Reply.TheVariants.{Done, Names}
use Rattle.fs_calls.specs.Tree.{Tree}
use Rattle.fs_calls.specs.Starts.{Start, root_start}
use Rattle.fs_calls.specs.Outcomes.{play}
use Rattle.fs_timeline.specs.declared.entry.Entry.TheVariants.{Begin, Commit, Return}
use Rattle.fs_words.specs.Reading.{fault_at}
use Rattle.fs_words.specs.declared.fault.ScriptFault.{ScriptFault}
use Rattle.fs_words.specs.declared.fault.FaultKind.{FaultKind}
use Rattle.fs_words.specs.declared.fault.FaultKind.TheVariants.{BadHeader, BadLine, BadThread, ThreadTwice, BadPath, BadNumber, BadHex, NoSchedule, BadWord, TooLarge, BadStart}
use Rattle.fs_script.specs.Script.{script_of}
use Rattle.fs_script.specs.TreeText.{tree_text}
use Rattle.fs_text.specs.Journal.{entries_of}
use Rattle.fs_script.specs.Journals.{journal_text, Read as Told, journal_of, start_of}
use Rattle.fs_script.specs.declared.script.Script.{Script}
use Rattle.fs_script.specs.declared.script.Word.TheVariants.{Events, Finish, Checkpoint, Drawn}

abbrev pub at : String → Key
at text = names (codes text)

-- the lines behind the header of a script, read; and the fault
abbrev pub script : String → Result Script ScriptFault
script lines = script_of (codes "atomfs 1\n" ++ codes lines)

abbrev pub FaultOf : String → ℕ → FaultKind → Type 0
FaultOf lines line kind = script lines ≡ Err (fault_at line kind)

pub record ScriptFaults : Type 0 where
  pub empty : script_of [] ≡ Err (fault_at 1 BadHeader)
  pub other_header : script_of (codes "atomfs 4\n") ≡ Err (fault_at 1 BadHeader)
  pub spaced_second : script_of (codes "atomfs 2 \n") ≡ Err (fault_at 1 BadHeader)
  pub second_unended : script_of (codes "atomfs 2\n") ≡ Err (fault_at 2 NoSchedule)
  pub third_unended : script_of (codes "atomfs 3\n") ≡ Err (fault_at 2 NoSchedule)
  pub list_in_the_second : script_of (codes "atomfs 2\nthread t\nlist / / 1\nschedule\n") ≡ Err (fault_at 3 BadLine)
  pub few_words_of_a_list : script_of (codes "atomfs 3\nthread t\nlist / 1\nschedule\n") ≡ Err (fault_at 3 BadLine)
  pub large_count_of_a_list : script_of (codes "atomfs 3\nthread t\nlist / / 4294967296\nschedule\n") ≡ Err (fault_at 3 BadNumber)
  pub spaced_header : script_of (codes "atomfs 1 \n") ≡ Err (fault_at 1 BadHeader)
  pub upper_thread : FaultOf "thread T\n" 2 BadThread
  pub thread_finish : FaultOf "thread finish\n" 2 BadThread
  pub call_first : FaultOf "mkdir /a\n" 2 BadLine
  pub thread_twice : FaultOf "thread t\nthread t\n" 3 ThreadTwice
  pub two_spaces : FaultOf "thread t\nmkdir  /a\n" 3 BadLine
  pub few_words : FaultOf "thread t\nread /f\n" 3 BadLine
  pub zero_byte : FaultOf "thread t\nmkdir /a%00\n" 3 (BadPath Nul)
  pub trailing_slash : FaultOf "thread t\nmkdir /a/\nschedule\n" 3 (BadPath TrailingSlash)
  pub leading_zero : FaultOf "thread t\nread /f 01 1\n" 3 BadNumber
  pub large_number : FaultOf "thread t\nread /f 18446744073709551616 1\n" 3 BadNumber
  pub odd_digits : FaultOf "thread t\nwrite /f 0 abc\n" 3 BadHex
  pub unknown_thread : FaultOf "thread t\nschedule\nu" 4 BadWord
  pub no_times : FaultOf "thread t\nschedule\nt*0" 4 BadWord
  pub many_times : FaultOf "thread t\nschedule\nt*1000001" 4 BadWord
  pub two_stars : FaultOf "thread t\nschedule\nt*1*1" 4 BadWord
  pub after_finish : FaultOf "thread t\nschedule\nfinish t" 4 BadWord
  pub after_finish_below : FaultOf "thread t\nschedule\nfinish\n\nt" 6 BadWord
  pub timed_checkpoint : FaultOf "thread t\nschedule\n!checkpoint*1" 4 BadWord
  pub other_sign : FaultOf "thread t\nschedule\n!check" 4 BadWord
  pub checkpoint_after_finish : FaultOf "thread t\nschedule\nfinish !checkpoint" 4 BadWord
  pub after_drawn : FaultOf "thread t\nschedule\n!drawn t" 4 BadWord
  pub finish_after_drawn : FaultOf "thread t\nschedule\nt !drawn\nfinish" 5 BadWord
  pub drawn_twice : FaultOf "thread t\nschedule\n!drawn !drawn" 4 BadWord
  pub timed_drawn : FaultOf "thread t\nschedule\n!drawn*2" 4 BadWord
  pub thread_checkpoint : FaultOf "thread !checkpoint\n" 2 BadThread
  pub many_events : FaultOf "thread t\nschedule\nt*1000000 t" 4 TooLarge
  pub many_events_with_checkpoints : FaultOf "thread t\nschedule\n!checkpoint t*999999 !checkpoint t\nt" 5 TooLarge
  pub no_schedule : FaultOf "thread t\nmkdir /a" 4 NoSchedule
  pub counted_lines : FaultOf "# mkdir\n\nthread t\nmkdir /a" 6 NoSchedule

pub record ScriptsRead : Type 0 where
  pub empty_script : script "schedule\n" ≡ Ok (record { names = []; lists = []; words = []; limits = V1 })
  pub second_version : script_of (codes "atomfs 2\nschedule\n") ≡ Ok (record { names = []; lists = []; words = []; limits = V2 })
  pub third_version : script_of (codes "atomfs 3\nthread t\nlist /d /d/x 3\nlist / / 256\nschedule\n")
      ≡ Ok (record { names = codes "t" ∷ []; lists = (ListAfter 3 (at "/d") (at "/d/x") ∷ ListAfter 256 [] [] ∷ []) ∷ []; words = []; limits = V3 })
  pub first_mkdir : script "thread t\nmkdir /a\nschedule\nt*5\n"
      ≡ Ok (record { names = codes "t" ∷ []; lists = (Mkdir (at "/a") ∷ []) ∷ []; words = Events 0 5 ∷ []; limits = V1 })
  pub helped_mkdir : script "thread m\nmkdir /a\nmkdir /a/d\nmkdir /a/d/x\nthread r\nrename /a /b\nschedule\nm*18 r*6 m*3\n"
      ≡ Ok (record {
        names = codes "m" ∷ codes "r" ∷ [];
        lists = (Mkdir (at "/a") ∷ Mkdir (at "/a/d") ∷ Mkdir (at "/a/d/x") ∷ []) ∷ (Rename (at "/a") (at "/b") ∷ []) ∷ [];
        words = Events 0 18 ∷ Events 1 6 ∷ Events 0 3 ∷ [];
        limits = V1;
      })
  pub waiting_victim : script "thread w\nmknod /f\nwrite /f 0 6869\nthread u\nunlink /f\nschedule\nw*9 u*3 finish\n"
      ≡ Ok (record {
        names = codes "w" ∷ codes "u" ∷ [];
        lists = (Mknod (at "/f") ∷ Write (at "/f") 0 (codes "hi") ∷ []) ∷ (Unlink (at "/f") ∷ []) ∷ [];
        words = Events 0 9 ∷ Events 1 3 ∷ Finish ∷ [];
        limits = V1;
      })
  pub checkpoints : script "thread t\nmkdir /a\nschedule\n!checkpoint t*1000000 !checkpoint\n!checkpoint finish\n"
      ≡ Ok (record {
        names = codes "t" ∷ [];
        lists = (Mkdir (at "/a") ∷ []) ∷ [];
        words = Checkpoint ∷ Events 0 1000000 ∷ Checkpoint ∷ Checkpoint ∷ Finish ∷ [];
        limits = V1;
      })
  pub drawn_race : script "thread t\nmkdir /a\nschedule\nt*2 !checkpoint t !drawn\n"
      ≡ Ok (record {
        names = codes "t" ∷ [];
        lists = (Mkdir (at "/a") ∷ []) ∷ [];
        words = Events 0 2 ∷ Checkpoint ∷ Events 0 1 ∷ Drawn ∷ [];
        limits = V1;
      })
  pub empty_block : script "thread a_1\nthread b\nrmdir /%2Fx\nstat /%\nreaddir /\nread //f 0 18446744073709551615\nwrite /f 1 -\ntruncate /f 7\nschedule\nb a_1"
      ≡ Ok (record {
        names = codes "a_1" ∷ codes "b" ∷ [];
        lists = [] ∷ (Rmdir (at "/x") ∷ Stat (at "/%") ∷ Readdir [] ∷ Read (at "/f") 0 (2 ^ 64 - 1) ∷ Write (at "/f") 1 [] ∷ Truncate (at "/f") 7 ∷ []) ∷ [];
        words = Events 1 1 ∷ Events 0 1 ∷ [];
        limits = V1;
      })

-- a tree with a file in a directory, and a name that is escaped
abbrev pub small_tree : Tree
small_tree = play (root_start V1) (Mkdir (at "/a") ∷ Mknod (at "/a/f") ∷ Write (at "/a/f") 0 (codes "hi") ∷ Mkdir (at "/b c") ∷ [])

-- the same by the first limits
abbrev pub small_start : Start
small_start = record { limits = V1; tree = small_tree }

pub record JournalTexts : Type 0 where
  pub from_the_root : journal_text (root_start V1) (Begin 1 0 (Mkdir (at "/a")) ∷ Commit 1 ∷ Return 1 Done ∷ []) ≡ codes "atomfs-journal 1\nbegin 1 0 mkdir /a\ncommit 1\nreturn 1 ok\n"
  pub nothing : journal_text (root_start V1) [] ≡ codes "atomfs-journal 1\n"
  pub from_a_directory : journal_text (record { limits = V1; tree = play (root_start V1) (Mkdir (at "/a") ∷ []) }) (Begin 1 0 (Mkdir (at "/a/b")) ∷ Commit 1 ∷ Return 1 Done ∷ [])
      ≡ codes "atomfs-journal 2\nstart\ndir /\ndir /a\nentries\nbegin 1 0 mkdir /a/b\ncommit 1\nreturn 1 ok\n"
  pub by_the_second : journal_text (root_start V2) (Begin 1 0 (Mkdir (at "/a")) ∷ Commit 1 ∷ Return 1 Done ∷ []) ≡ codes "atomfs-journal 3\nstart\ndir /\nentries\nbegin 1 0 mkdir /a\ncommit 1\nreturn 1 ok\n"
  pub by_the_third : journal_text (root_start V3) (Begin 1 0 (ListAfter 2 (at "/") (at "/x")) ∷ Commit 1 ∷ Return 1 (Names (codes "y" ∷ [])) ∷ []) ≡ codes "atomfs-journal 4\nstart\ndir /\nentries\nbegin 1 0 list / /x 2\ncommit 1\nreturn 1 names y\n"
  pub from_a_file : journal_text small_start [] ≡ codes "atomfs-journal 2\nstart\ndir /\ndir /a\nfile /a/f 6869\ndir /b%20c\nentries\n"

-- the lines behind the header of a journal that tells its start tree, read; and the fault of a line of that
abbrev pub started : String → Told
started lines = journal_of (codes "atomfs-journal 2\n" ++ codes lines)

abbrev pub WrongAt : ℕ → String → Type 0
WrongAt line lines = started lines ≡ Err (fault_at line BadStart)

abbrev pub TreeWrongAt : ℕ → String → Type 0
TreeWrongAt line text = start_of V1 (codes text) ≡ Err (fault_at line BadStart)

pub record StartFaults : Type 0 where
  pub nothing : WrongAt 2 ""
  pub entries_alone : WrongAt 2 "begin 1 0 mkdir /a\n"
  pub no_nodes : WrongAt 3 "start\nentries\n"
  pub no_root : WrongAt 3 "start\ndir /a\nentries\n"
  pub root_file : WrongAt 3 "start\nfile / -\nentries\n"
  pub unended : WrongAt 4 "start\ndir /\n"
  pub out_of_order : WrongAt 5 "start\ndir /\ndir /b\ndir /a\nentries\n"
  pub twice : WrongAt 5 "start\ndir /\ndir /a\ndir /a\nentries\n"
  pub after_its_entry : WrongAt 4 "start\ndir /\ndir /a/b\ndir /a\nentries\n"
  pub in_a_file : WrongAt 5 "start\ndir /\nfile /f -\ndir /f/x\nentries\n"
  pub two_slashes : WrongAt 4 "start\ndir /\ndir //a\nentries\n"
  pub needless_escape : WrongAt 4 "start\ndir /\ndir /%61\nentries\n"
  pub upper_digit : WrongAt 4 "start\ndir /\nfile /f 0A\nentries\n"
  pub space_at_the_end : WrongAt 4 "start\ndir /\ndir /a \nentries\n"
  pub no_bytes : WrongAt 4 "start\ndir /\nfile /f\nentries\n"
  pub dot : WrongAt 4 "start\ndir /\ndir /.\nentries\n"
  pub long_name : WrongAt 4 "start\ndir /\ndir /abcdefghijklmnopqrstuvwxyz0123456\nentries\n"
  pub tree_line : WrongAt 4 "start\ndir /\ntree\nentries\n"
  pub counted : WrongAt 7 "start\n# x\n\ndir /\n\ndir a\nentries\n"
  pub second_entries : started "start\ndir /\nentries\nentries\n" ≡ Err (fault_at 5 BadLine)
  pub third_alone : journal_of (codes "atomfs-journal 3\n") ≡ Err (fault_at 2 BadStart)
  pub third_without_start : journal_of (codes "atomfs-journal 3\ncommit 1\n") ≡ Err (fault_at 2 BadStart)
  pub fourth_without_start : journal_of (codes "atomfs-journal 4\ncommit 1\n") ≡ Err (fault_at 2 BadStart)
  pub list_in_the_third : journal_of (codes "atomfs-journal 3\nstart\ndir /\nentries\nbegin 1 0 list / / 1\n") ≡ Err (fault_at 5 BadLine)
  pub other_version : journal_of (codes "atomfs-journal 5\n") ≡ Err (fault_at 1 BadHeader)
  pub first_version_alone : entries_of (codes "atomfs-journal 2\nstart\ndir /\nentries\n") ≡ Err (fault_at 1 BadHeader)
  -- of the text of a tree, which has no line `entries`
  pub tree_alone : TreeWrongAt 2 "tree"
  pub tree_without_root : TreeWrongAt 2 "tree\n"
  pub tree_of_entries : TreeWrongAt 2 "tree\nentries\n"
  pub tree_with_entries : TreeWrongAt 3 "tree\ndir /\nentries\n"
  pub tree_with_a_journal : TreeWrongAt 4 "tree\ndir /\ndir /a\nentries\nbegin 1 0 mkdir /b\n"
  pub tree_at_fault_before : TreeWrongAt 3 "tree\ndir /\ndir a\nentries\n"
  pub tree_without_end : start_of V1 (codes "tree\ndir /") ≡ Ok (root_start V1)

pub record JournalsRead : Type 0 where
  pub root_alone : started "start\ndir /\nentries" ≡ Ok (root_start V1, [])
  pub first_version : journal_of (codes "atomfs-journal 1\ncommit 1\n") ≡ Ok (root_start V1, Commit 1 ∷ [])
  pub third_version : journal_of (codes "atomfs-journal 3\nstart\ndir /\nentries\ncommit 1\n") ≡ Ok (root_start V2, Commit 1 ∷ [])
  pub fourth_version : journal_of (codes "atomfs-journal 4\nstart\ndir /\nentries\nbegin 1 0 list / /x 2\ncommit 1\n") ≡ Ok (root_start V3, Begin 1 0 (ListAfter 2 [] (at "/x")) ∷ Commit 1 ∷ [])
  pub small : started "\nstart\n# a\ndir /\ndir /a\n\nfile /a/f 6869\ndir /b%20c\nentries\n\ncommit 1\ntree\nno  entry" ≡ Ok (small_start, Commit 1 ∷ [])

pub record TreeTexts : Type 0 where
  pub root : tree_text (play (root_start V1) []) ≡ codes "tree\ndir /\n"
  pub helped_mkdir : tree_text (play (root_start V1) (Mkdir (at "/a") ∷ Mkdir (at "/a/d") ∷ Mkdir (at "/a/d/x") ∷ Rename (at "/a") (at "/b") ∷ []))
      ≡ codes "tree\ndir /\ndir /b\ndir /b/d\ndir /b/d/x\n"
  pub helped_rename : tree_text (play (root_start V1) (Mkdir (at "/a") ∷ Mkdir (at "/a/p") ∷ Mkdir (at "/a/q") ∷ Mknod (at "/a/p/s") ∷ Rename (at "/a/p/s") (at "/a/q/t") ∷ Rename (at "/a") (at "/b") ∷ []))
      ≡ codes "tree\ndir /\ndir /b\ndir /b/p\ndir /b/q\nfile /b/q/t -\n"
  pub renames_in_sequence : tree_text (play (root_start V1) (Mkdir (at "/e") ∷ Mknod (at "/e/b") ∷ Mkdir (at "/e/d") ∷ Mknod (at "/f") ∷ Write (at "/e/b") 0 (codes "hi") ∷ []))
      ≡ codes "tree\ndir /\ndir /e\nfile /e/b 6869\ndir /e/d\nfile /f -\n"
