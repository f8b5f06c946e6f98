-- What is told in a caller's memory, and by which status.
use Rattle.std.specs.Prelude.{◌≡◌, ◌≢◌, ◌<◌, ◌≤◌, ℕ, List, Option, IsSomeAnd, length}
use Rattle.fs_names.specs.declared.kind.Kind.{Kind}
use Rattle.fs_names.specs.declared.kind.Kind.TheVariants.{Dir, File}
use Rattle.fs_calls.specs.declared.reply.Reply.{Reply}
use Rattle.fs_calls.specs.declared.reply.Reply.TheVariants as answer
use Rattle.fs_calls.specs.declared.reply.Reply.TheVariants.{Done, Names, Bytes, Wrote, Failed}
use Rattle.fs_timeline.specs.declared.verdict.Verdict.{Verdict}
use Rattle.fs_timeline.specs.declared.verdict.Verdict.TheVariants.{Lawful, Fault}
use Rattle.fs_timeline.specs.declared.verdict.FaultKind.{FaultKind}
use Rattle.fs_timeline.specs.declared.verdict.FaultKind.TheVariants.{BeginTwice, SeatBusy, CommitUnbegun, CommitTwice, ReturnUncommitted, ReturnTwice, WrongReply}
use Rattle.fs_machine.specs.States.{begun_again}
use Rattle.fs_core.specs.CoreValues.{CoreValue, state_of, IsAtRest}
use Rattle.fs_script.specs.Journals.{journal_text}
use Rattle.fs_embed.specs.Texts.{IsCopied, IsReply, HasNoReply, IsShown, reply_text, names_text}
use Rattle.fs_embed.specs.Statuses.{IsReturned, failed_status}
use Rattle.fs_embed.specs.declared.status.TheConstants.{OK, TOO_SMALL, UNTOLD, NO_REPLY}
use Rattle.fs_embed.specs.declared.told.Stat.{Stat as StatValue}

-- the caller's bytes begin with the whole of a text, and its length is told
abbrev pub IsFilled : List ℕ → ℕ → List ℕ → List ℕ → Type 0
IsFilled text count old new = (count ≡ length text) × IsCopied text old new

-- the text is longer than the caller's bytes, which are as before, and its length is told
abbrev pub IsTooLong : List ℕ → ℕ → List ℕ → List ℕ → Type 0
IsTooLong text count old new = (count ≡ length text) × (length old < length text) × (new ≡ old)

-- what a status below UNTOLD says of a text
abbrev pub Tells : ℕ → List ℕ → ℕ → List ℕ → List ℕ → Type 0
Tells status text count old new = (status ≡ OK → IsFilled text count old new) × (status ≡ TOO_SMALL → IsTooLong text count old new)

-- a caller's places for a text: its bytes are as before but by OK, and its length but by that and TOO_SMALL
pub record LeavesText (status : ℕ) (first last : ℕ) (old new : List ℕ) : Type 0 where
  pub out : status ≢ OK → new ≡ old
  pub count : status ≢ OK → status ≢ TOO_SMALL → last ≡ first

-- the journal was handed out, from its start tree, and begins again at the tree as it stands
pub record IsHanded (old new : CoreValue) (count : ℕ) (before after : List ℕ) : Type 0 where
  pub text : IsFilled (journal_text old.start old.timeline) count before after
  pub rest : IsAtRest old
  pub again : state_of new ≡ begun_again (state_of old)
  pub seats : new.seats ≡ old.seats

-- ---- what tells a reply

-- as text: where there is no memory for it, it is not told
abbrev pub IsToldText : Reply → ℕ → ℕ → List ℕ → List ℕ → Type 0
IsToldText reply status count old new = Tells status (reply_text reply) count old new × (status ≤ UNTOLD)

-- of a call that answers no more than that it is done
abbrev pub done_status : Reply → ℕ
done_status Done = OK
done_status (Failed errno) = failed_status errno
done_status _ = UNTOLD

-- whether a directory is of this kind, as a number
abbrev pub is_dir : Kind → ℕ
is_dir Dir = 1
is_dir File = 0

-- of a stat
abbrev pub IsToldStat : Reply → ℕ → StatValue → Type 0
IsToldStat (answer.Stat kind size) status stat = (status ≡ OK) × (stat.is_dir ≡ is_dir kind) × (stat.size ≡ size)
IsToldStat (Failed errno) status stat = status ≡ failed_status errno
IsToldStat _ status stat = status ≡ UNTOLD

-- of a readdir or a list, a byte 0 behind each name: where there is no memory for them, they are not told
abbrev pub IsToldNames : Reply → ℕ → ℕ → List ℕ → List ℕ → Type 0
IsToldNames (Names names) status count old new = Tells status (names_text names) count old new × (status ≤ UNTOLD)
IsToldNames (Failed errno) status count old new = status ≡ failed_status errno
IsToldNames _ status count old new = status ≡ UNTOLD

-- of a read
abbrev pub IsToldBytes : Reply → ℕ → ℕ → List ℕ → List ℕ → Type 0
IsToldBytes (Bytes bytes) status count old new = Tells status bytes count old new × (status < UNTOLD)
IsToldBytes (Failed errno) status count old new = status ≡ failed_status errno
IsToldBytes _ status count old new = status ≡ UNTOLD

-- of a write
abbrev pub IsToldWrote : Reply → ℕ → ℕ → Type 0
IsToldWrote (Wrote bytes) status wrote = (status ≡ OK) × (wrote ≡ bytes)
IsToldWrote (Failed errno) status wrote = status ≡ failed_status errno
IsToldWrote _ status wrote = status ≡ UNTOLD

-- of a readdir or a list, the names behind one, as many as there is room for
abbrev pub IsToldBehind : Reply → List ℕ → ℕ → ℕ → List ℕ → List ℕ → Type 0
IsToldBehind (Names names) after status count old new = (shown : List (List ℕ)) × IsShown names after (length old) shown × Tells status (names_text shown) count old new × (status ≤ UNTOLD)
IsToldBehind (Failed errno) after status count old new = status ≡ failed_status errno
IsToldBehind _ after status count old new = status ≡ UNTOLD

-- the number of what is wrong with an entry
abbrev pub kind_number : FaultKind → ℕ
kind_number BeginTwice = 1
kind_number SeatBusy = 2
kind_number CommitUnbegun = 3
kind_number CommitTwice = 4
kind_number ReturnUncommitted = 5
kind_number ReturnTwice = 6
kind_number WrongReply = 7

-- a verdict by two numbers: the place of the first entry that does not fit and what is wrong with it, or 0 and 0
abbrev pub IsToldVerdict : Verdict → ℕ → ℕ → Type 0
IsToldVerdict Lawful place kind = (place ≡ 0) × (kind ≡ 0)
IsToldVerdict (Fault at why) place kind = (place ≡ at) × (kind ≡ kind_number why)

-- what a status says of the reply of a call that has returned, and Told of it
pub record IsReplied (core : Option CoreValue) (Told : Reply → Type 0) (number status : ℕ) : Type 0 where
  pub found : IsReturned status → IsSomeAnd core (λ c. (reply : Reply) × IsReply c.timeline number reply × Told reply)
  pub none : status ≡ NO_REPLY → IsSomeAnd core (λ c. HasNoReply c.timeline number)
