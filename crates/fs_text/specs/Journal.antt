-- The text of entries, and what reading a journal gives.
use Rattle.std.specs.Prelude.{ℕ, ◌+◌, Bool, List, [], ◌∷◌, ◌++◌, map, Result, Ok, Err, Option, Some, None, if◌then◌else◌, codes, decimal}
use Rattle.std.specs.List.{flat_map}
use Rattle.std.specs.Str.{bytes_eq}
use Rattle.fs_names.specs.Names.{Name}
use Rattle.fs_names.specs.declared.limits.Limits.TheVariants.{V1}
use Rattle.fs_names.specs.declared.kind.Kind.{Kind}
use Rattle.fs_names.specs.declared.kind.Kind.TheVariants.{Dir, File}
use Rattle.fs_names.specs.declared.limits.Limits.{Limits}
use Rattle.fs_calls.specs.declared.errno.Errno.{Errno}
use Rattle.fs_calls.specs.declared.errno.Errno.TheVariants as errno
use Rattle.fs_calls.specs.declared.reply.Reply.{Reply}
use Rattle.fs_calls.specs.declared.reply.Reply.TheVariants.{Done, Stat, Names, Bytes, Wrote, Failed}
use Rattle.fs_timeline.specs.declared.entry.Entry.{Entry}
use Rattle.fs_timeline.specs.declared.entry.Entry.TheVariants.{Begin, Commit, Return}
use Rattle.fs_words.specs.Lines.{is_passed_over, line_text}
use Rattle.fs_words.specs.Words.{Word, hex_word, escaped}
use Rattle.fs_words.specs.Reading.{◌>>=◌, or_fault, number_at, hex_at, name_at, words_of, at_line, behind_header}
use Rattle.fs_text.specs.Calls.{call_words, call_of, has_call_form}
use Rattle.fs_words.specs.declared.fault.ScriptFault.{ScriptFault}
use Rattle.fs_words.specs.declared.fault.FaultKind.{FaultKind}
use Rattle.fs_words.specs.declared.fault.FaultKind.TheVariants as kind

-- ---- written: an entry is its words

-- the word of a kind
abbrev pub kind_word : Kind → Word
kind_word Dir = codes "dir"
kind_word File = codes "file"

-- the word of an error number
abbrev pub errno_word : Errno → Word
errno_word errno.Enoent = codes "ENOENT"
errno_word errno.Enotdir = codes "ENOTDIR"
errno_word errno.Eexist = codes "EEXIST"
errno_word errno.Enotempty = codes "ENOTEMPTY"
errno_word errno.Eisdir = codes "EISDIR"
errno_word errno.Einval = codes "EINVAL"
errno_word errno.Ebusy = codes "EBUSY"
errno_word errno.Eperm = codes "EPERM"
errno_word errno.Enospc = codes "ENOSPC"
errno_word errno.Efbig = codes "EFBIG"
errno_word errno.Eoverflow = codes "EOVERFLOW"

-- the words of a reply
abbrev pub reply_words : Reply → List Word
reply_words Done = codes "ok" ∷ []
reply_words (Stat k size) = codes "stat" ∷ kind_word k ∷ decimal size ∷ []
reply_words (Names names) = codes "names" ∷ map escaped names
reply_words (Bytes bytes) = codes "bytes" ∷ hex_word bytes ∷ []
reply_words (Wrote size) = codes "wrote" ∷ decimal size ∷ []
reply_words (Failed e) = codes "failed" ∷ errno_word e ∷ []

-- the words of an entry
abbrev pub entry_words : Entry → List Word
entry_words (Begin call_no seat call) = codes "begin" ∷ decimal call_no ∷ decimal seat ∷ call_words call
entry_words (Commit call_no) = codes "commit" ∷ decimal call_no ∷ []
entry_words (Return call_no reply) = codes "return" ∷ decimal call_no ∷ reply_words reply

-- the line of an entry
abbrev pub entry_line : Entry → List ℕ
entry_line e = line_text (entry_words e)

-- the first line of a journal
abbrev pub journal_header : List ℕ
journal_header = codes "atomfs-journal 1"

-- the header line, and a line for each entry
abbrev pub journal_text : List Entry → List ℕ
journal_text es = journal_header ++ 10 ∷ flat_map entry_line es

-- ---- read: replies

-- the kind that a word names
abbrev pub kind_named : Word → Option Kind
kind_named word = if bytes_eq word (codes "dir") then Some Dir else (if bytes_eq word (codes "file") then Some File else None)

-- the error number that a word names
abbrev pub errno_of : Word → Option Errno
errno_of word =
    if bytes_eq word (codes "ENOENT") then Some errno.Enoent
    else (if bytes_eq word (codes "ENOTDIR") then Some errno.Enotdir
    else (if bytes_eq word (codes "EEXIST") then Some errno.Eexist
    else (if bytes_eq word (codes "ENOTEMPTY") then Some errno.Enotempty
    else (if bytes_eq word (codes "EISDIR") then Some errno.Eisdir
    else (if bytes_eq word (codes "EINVAL") then Some errno.Einval
    else (if bytes_eq word (codes "EBUSY") then Some errno.Ebusy
    else (if bytes_eq word (codes "EPERM") then Some errno.Eperm
    else (if bytes_eq word (codes "ENOSPC") then Some errno.Enospc
    else (if bytes_eq word (codes "EFBIG") then Some errno.Efbig
    else (if bytes_eq word (codes "EOVERFLOW") then Some errno.Eoverflow
    else None))))))))))

-- words as names, by these limits; the first that is none is the answer
abbrev pub names_at : Limits → List Word → Result (List Name) FaultKind
names_at limits [] = Ok []
names_at limits (word ∷ more) = name_at limits word >>= λ n. names_at limits more >>= λ ns. Ok (n ∷ ns)

-- what stands behind `ok`: nothing
abbrev pub done_of : List Word → Result Reply FaultKind
done_of [] = Ok Done
done_of _ = Err kind.BadReply

-- a kind and a size as the reply to a stat
abbrev pub stated_at : Word → Word → Result Reply FaultKind
stated_at k n = or_fault kind.BadReply (kind_named k) >>= λ found. number_at n >>= λ size. Ok (Stat found size)

-- what stands behind `stat`: two words
abbrev pub stated_of : List Word → Result Reply FaultKind
stated_of (k ∷ n ∷ []) = stated_at k n
stated_of _ = Err kind.BadReply

-- what stands behind `names`: any number of names
abbrev pub names_of : Limits → List Word → Result Reply FaultKind
names_of limits words = names_at limits words >>= λ ns. Ok (Names ns)

-- what stands behind `bytes`: one word of hexadecimal digits
abbrev pub bytes_of : List Word → Result Reply FaultKind
bytes_of (h ∷ []) = hex_at h >>= λ bytes. Ok (Bytes bytes)
bytes_of _ = Err kind.BadReply

-- what stands behind `wrote`: one number
abbrev pub wrote_of : List Word → Result Reply FaultKind
wrote_of (n ∷ []) = number_at n >>= λ size. Ok (Wrote size)
wrote_of _ = Err kind.BadReply

-- what stands behind `failed`: one error number
abbrev pub failed_of : List Word → Result Reply FaultKind
failed_of (e ∷ []) = or_fault kind.BadReply (errno_of e) >>= λ found. Ok (Failed found)
failed_of _ = Err kind.BadReply

-- the reply that words spell: its form is looked at before a number or bytes in it
unfoldable pub reply_of : Limits → List Word → Result Reply FaultKind
reply_of limits [] = Err kind.BadReply
reply_of limits (first ∷ more) =
    if bytes_eq first (codes "ok") then done_of more
    else (if bytes_eq first (codes "stat") then stated_of more
    else (if bytes_eq first (codes "names") then names_of limits more
    else (if bytes_eq first (codes "bytes") then bytes_of more
    else (if bytes_eq first (codes "wrote") then wrote_of more
    else (if bytes_eq first (codes "failed") then failed_of more
    else Err kind.BadReply)))))

-- ---- read: entries

-- a Begin by its number, its seat and the words of its call
abbrev pub begin_at : Limits → Word → Word → List Word → Result Entry FaultKind
begin_at limits c s call = number_at c >>= λ call_no. number_at s >>= λ seat. call_of limits call >>= λ found. Ok (Begin call_no seat found)

-- what stands behind `begin`; a call of another form is a bad line
abbrev pub begin_of : Limits → List Word → Result Entry FaultKind
begin_of limits (c ∷ s ∷ call) = if has_call_form limits call then begin_at limits c s call else Err kind.BadLine
begin_of limits _ = Err kind.BadLine

-- what stands behind `commit`: one number
abbrev pub commit_of : List Word → Result Entry FaultKind
commit_of (c ∷ []) = number_at c >>= λ call_no. Ok (Commit call_no)
commit_of _ = Err kind.BadLine

-- what stands behind `return`: a number, and the words of a reply
abbrev pub return_of : Limits → List Word → Result Entry FaultKind
return_of limits (c ∷ first ∷ more) = number_at c >>= λ call_no. reply_of limits (first ∷ more) >>= λ found. Ok (Return call_no found)
return_of limits _ = Err kind.BadLine

-- the entry that words spell
unfoldable pub entry_of : Limits → List Word → Result Entry FaultKind
entry_of limits [] = Err kind.BadLine
entry_of limits (first ∷ more) =
    if bytes_eq first (codes "begin") then begin_of limits more
    else (if bytes_eq first (codes "commit") then commit_of more
    else (if bytes_eq first (codes "return") then return_of limits more
    else Err kind.BadLine))

-- the entry that a line spells
abbrev pub entry_in_line : Limits → List ℕ → Result Entry FaultKind
entry_in_line limits line = words_of line >>= entry_of limits

-- ---- read: the text

-- whether a line is the one behind which a tree stands
abbrev pub is_tree_line : List ℕ → Bool
is_tree_line line = bytes_eq line (codes "tree")

-- what the lines from this number on spell, up to a line `tree`
unfoldable pub entries_from : Limits → ℕ → List (List ℕ) → Result (List Entry) ScriptFault
entries_from limits n [] = Ok []
entries_from limits n (line ∷ more) =
    if is_passed_over line then entries_from limits (n + 1) more
    else (if is_tree_line line then Ok []
    else (at_line n (entry_in_line limits line) >>= λ e. entries_from limits (n + 1) more >>= λ es. Ok (e ∷ es)))

-- what reading a journal text of the first version gives
unfoldable pub entries_of : List ℕ → Result (List Entry) ScriptFault
entries_of text = behind_header journal_header text >>= entries_from V1 2
