-- What a fault of reading tells, where memory did not run out.
use Rattle.std.proofs.Common.{◌≡◌, ℕ, List, Result, Err, false, ap}
use Rattle.fs_timeline.specs.declared.entry.Entry.{Entry}
use Rattle.fs_words.specs.Reading.{fault_at}
use Rattle.fs_words.specs.Words.{Word}
use Rattle.fs_words.specs.code.Answers as words
use Rattle.fs_words.specs.declared.fault.FaultKind.{FaultKind}
use Rattle.fs_words.specs.declared.fault.FaultKind.TheVariants as kind
use Rattle.fs_words.specs.declared.fault.ScriptFault.{ScriptFault}
use Rattle.fs_sched_find.specs.Reading.{is_memory, only_reply, said_of}
use Rattle.fs_sched_find.specs.declared.reading.WhatFault.TheVariants.{BadReply, BadWords}

pub told : {Y : Type 0} (k : FaultKind) (given : Result Y FaultKind) → is_memory k ≡ false → words.FailsAs k given → given ≡ Err k
told kind.OutOfMemory given other h = cc
told kind.BadHeader given other h = h
told kind.BadLine given other h = h
told kind.BadThread given other h = h
told kind.ThreadTwice given other h = h
told (kind.BadPath p) given other h = h
told kind.BadNumber given other h = h
told kind.BadHex given other h = h
told kind.NoSchedule given other h = h
told kind.BadWord given other h = h
told kind.TooLarge given other h = h
told kind.BadReply given other h = h
told kind.BadStart given other h = h

pub told_there : {Y : Type 0} (n : ℕ) (k : FaultKind) (given : Result Y ScriptFault) → is_memory k ≡ false → words.FailsThere n k given → given ≡ Err (fault_at n k)
told_there n kind.OutOfMemory given other h = cc
told_there n kind.BadHeader given other h = h
told_there n kind.BadLine given other h = h
told_there n kind.BadThread given other h = h
told_there n kind.ThreadTwice given other h = h
told_there n (kind.BadPath p) given other h = h
told_there n kind.BadNumber given other h = h
told_there n kind.BadHex given other h = h
told_there n kind.NoSchedule given other h = h
told_there n kind.BadWord given other h = h
told_there n kind.TooLarge given other h = h
told_there n kind.BadReply given other h = h
told_there n kind.BadStart given other h = h

pub no_reply : (n : ℕ) (k : FaultKind) (given : Result (List Entry) ScriptFault) → is_memory k ≡ false → words.FailsThere n k given → only_reply given ≡ Err BadReply
no_reply n k given other h = ap only_reply (told_there n k given other h)

pub no_words : (k : FaultKind) (given : Result (List Word) FaultKind) → is_memory k ≡ false → words.FailsAs k given → said_of given ≡ Err BadWords
no_words k given other h = ap said_of (told k given other h)
