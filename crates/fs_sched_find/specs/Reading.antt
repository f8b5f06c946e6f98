-- What is said of a run, read from words.
use Rattle.std.specs.Prelude.{ℕ, ◌+◌, ◌==◌, nat_le, Bool, true, false, ◌&&◌, List, [], ◌∷◌, ◌++◌, take, drop, position, Result, Ok, Err, Option, Some, None, is_some, if◌then◌else◌, codes}
use Rattle.std.specs.List.{flat_map, list_any, slice_split}
use Rattle.std.specs.Str.{bytes_eq}
use Rattle.fs_names.specs.Limits.{largest}
use Rattle.fs_calls.specs.declared.reply.Reply.{Reply}
use Rattle.fs_timeline.specs.declared.entry.Entry.{Entry}
use Rattle.fs_timeline.specs.declared.entry.Entry.TheVariants.{Return}
use Rattle.fs_words.specs.Lines.{is_line_feed}
use Rattle.fs_words.specs.Words.{Word, number_of, hex_of}
use Rattle.fs_words.specs.Reading.{◌>>=◌, behind_header, words_of}
use Rattle.fs_words.specs.declared.fault.FaultKind.{FaultKind}
use Rattle.fs_words.specs.declared.fault.FaultKind.TheVariants as kind
use Rattle.fs_words.specs.declared.fault.ScriptFault.{ScriptFault}
use Rattle.fs_text.specs.Journal.{entries_from}
use Rattle.fs_sched_find.specs.declared.what.CallName.{CallName}
use Rattle.fs_sched_find.specs.declared.what.Condition.{Condition}
use Rattle.fs_sched_find.specs.declared.what.Condition.TheVariants as condition
use Rattle.fs_sched_find.specs.declared.what.Clause.{Clause}
use Rattle.fs_sched_find.specs.declared.reading.WhatFault.{WhatFault}
use Rattle.fs_sched_find.specs.declared.reading.WhatFault.TheVariants.{BadWords, BadCall, BadReply, BadLine}

-- `#`
abbrev pub is_hash : ℕ → Bool
is_hash b = b == 35

-- a thread's name and a number from 1
abbrev pub numbered : List ℕ → Option ℕ → Result CallName WhatFault
numbered thread None = Err BadCall
numbered thread (Some place) = if nat_le 1 place then Ok (record { thread = thread; place = place }) else Err BadCall

-- a word as a call: what stands before its first `#`, and behind that
abbrev pub call_at : Word → Option ℕ → Result CallName WhatFault
call_at word None = Err BadCall
call_at word (Some at) = numbered (take at word) (number_of (drop (at + 1) word))

abbrev pub call_of : Word → Result CallName WhatFault
call_of word = call_at word (position is_hash word)

-- the text of a journal that has one line behind its header, which returns what words say
abbrev pub return_text : List Word → List ℕ
return_text words = codes "reply\nreturn 1" ++ flat_map (λ word. 32 ∷ word) words

-- of what was read of it the reply, where that is one return
abbrev pub only_reply : Result (List Entry) ScriptFault → Result Reply WhatFault
only_reply (Ok (Return c r ∷ [])) = Ok r
only_reply _ = Err BadReply

-- the entries of a text behind a line `reply`, by the largest limits
abbrev pub entries_behind : List ℕ → Result (List Entry) ScriptFault
entries_behind text = behind_header (codes "reply") text >>= entries_from largest 2

-- the reply that words say, as a journal has it
unfoldable pub reply_of : List Word → Result Reply WhatFault
reply_of words = only_reply (entries_behind (return_text words))

-- `failed` alone is any error
abbrev pub is_failed : List Word → Bool
is_failed (word ∷ []) = bytes_eq word (codes "failed")
is_failed words = false

abbrev pub returned_of : CallName → List Word → Result Condition WhatFault
returned_of call words = if is_failed words then Ok (condition.Fails call) else (reply_of words >>= λ r. Ok (condition.Reply call r))

abbrev pub reply_words_of : List Word → Result Condition WhatFault
reply_words_of [] = Err BadWords
reply_words_of (call ∷ more) = call_of call >>= λ c. returned_of c more

-- a word begins with a slash
abbrev pub is_path : Word → Bool
is_path [] = false
is_path (b ∷ bs) = b == 47

-- the words of a line of a tree text
abbrev pub is_node : List Word → Bool
is_node (word ∷ path ∷ []) = bytes_eq word (codes "dir") && is_path path
is_node (word ∷ path ∷ hex ∷ []) = bytes_eq word (codes "file") && (is_path path && is_some (hex_of hex))
is_node words = false

-- words with a space between two
abbrev pub joined : List Word → List ℕ
joined [] = []
joined (first ∷ more) = first ++ flat_map (λ word. 32 ∷ word) more

abbrev pub line_of : List Word → Result Condition WhatFault
line_of words = if is_node words then Ok (condition.Line (joined words)) else Err BadLine

abbrev pub helped_of : List Word → Result Condition WhatFault
helped_of (call ∷ []) = call_of call >>= λ c. Ok (condition.Helped c)
helped_of words = Err BadWords

abbrev pub waits_of : List Word → Result Condition WhatFault
waits_of (call ∷ []) = call_of call >>= λ c. Ok (condition.Waits c)
waits_of words = Err BadWords

abbrev pub before_of : List Word → Result Condition WhatFault
before_of (call ∷ other ∷ []) = call_of call >>= λ c. call_of other >>= λ d. Ok (condition.Before c d)
before_of words = Err BadWords

abbrev pub overlap_of : List Word → Result Condition WhatFault
overlap_of (call ∷ other ∷ []) = call_of call >>= λ c. call_of other >>= λ d. Ok (condition.Overlap c d)
overlap_of words = Err BadWords

-- a condition
unfoldable pub condition_of : List Word → Result Condition WhatFault
condition_of [] = Err BadWords
condition_of (first ∷ more) =
    if bytes_eq first (codes "reply") then reply_words_of more
    else (if bytes_eq first (codes "tree") then line_of more
    else (if bytes_eq first (codes "helped") then helped_of more
    else (if bytes_eq first (codes "waits") then waits_of more
    else (if bytes_eq first (codes "before") then before_of more
    else (if bytes_eq first (codes "overlap") then overlap_of more
    else Err BadWords)))))

abbrev pub clause_with : Bool → List Word → Result Clause WhatFault
clause_with negated words = condition_of words >>= λ c. Ok (record { negated = negated; condition = c })

-- a condition, or `not` and one
abbrev pub clause_of : List Word → Result Clause WhatFault
clause_of [] = Err BadWords
clause_of (first ∷ more) = if bytes_eq first (codes "not") then clause_with true more else clause_with false (first ∷ more)

-- a word is a certain one
abbrev pub is_same : List ℕ → Word → Bool
is_same wanted word = bytes_eq word wanted

-- what these groups of words say, from left to right
abbrev pub each_of : {X : Type 0} → (List Word → Result X WhatFault) → List (List Word) → Result (List X) WhatFault
each_of said [] = Ok []
each_of said (group ∷ more) = said group >>= λ x. each_of said more >>= λ xs. Ok (x ∷ xs)

-- clauses, with a word `and` between two
unfoldable pub clauses_of : List Word → Result (List Clause) WhatFault
clauses_of words = each_of clause_of (slice_split (is_same (codes "and")) words)

-- alternatives, with a word `or` between two
unfoldable pub alternatives_of : List Word → Result (List (List Clause)) WhatFault
alternatives_of words = each_of clauses_of (slice_split (is_same (codes "or")) words)

-- what the words of a line say
abbrev pub said_of : Result (List Word) FaultKind → Result (List (List Clause)) WhatFault
said_of (Ok words) = alternatives_of words
said_of (Err k) = Err BadWords

-- what a text of one line says
abbrev pub what_of : List ℕ → Result (List (List Clause)) WhatFault
what_of text = if list_any is_line_feed text then Err BadWords else said_of (words_of text)

-- ---- faults

-- whether a fault is want of memory
abbrev pub is_memory : FaultKind → Bool
is_memory kind.OutOfMemory = true
is_memory kind.BadHeader = false
is_memory kind.BadLine = false
is_memory kind.BadThread = false
is_memory kind.ThreadTwice = false
is_memory (kind.BadPath p) = false
is_memory kind.BadNumber = false
is_memory kind.BadHex = false
is_memory kind.NoSchedule = false
is_memory kind.BadWord = false
is_memory kind.TooLarge = false
is_memory kind.BadReply = false
is_memory kind.BadStart = false
