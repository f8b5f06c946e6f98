-- What is heard of a timeline: begins and returns, and of a reply perhaps not all.
use Rattle.std.specs.Prelude.{◌≡◌, ◌==◌, Bool, true, false, ◌||◌, List, [], ◌∷◌, map}
use Rattle.fs_names.specs.declared.kind.Kind.TheVariants as kinds
use Rattle.fs_calls.specs.Replies.{number_of, same_reply}
use Rattle.fs_calls.specs.declared.errno.Errno.{Errno}
use Rattle.fs_calls.specs.declared.reply.Reply.{Reply}
use Rattle.fs_calls.specs.declared.reply.Reply.TheVariants as answer
use Rattle.fs_timeline.specs.declared.entry.Entry.{Entry}
use Rattle.fs_timeline.specs.declared.entry.Entry.TheVariants.{Begin, Commit, Return}
use Rattle.fs_linearize_histories.specs.declared.heard.Heard.{Heard}
use Rattle.fs_linearize_histories.specs.declared.heard.Heard.TheVariants as heard
use Rattle.fs_linearize_histories.specs.declared.heard.Pattern.{Pattern}
use Rattle.fs_linearize_histories.specs.declared.heard.Pattern.TheVariants.{Exactly, AnyError, OneOf, AnyDirectory, Except, Anything}

abbrev pub is_error : Reply → Bool
is_error (answer.Failed e) = true
is_error r = false

abbrev pub is_directory : Reply → Bool
is_directory (answer.Stat kinds.Dir size) = true
is_directory r = false

-- an error is among errors
abbrev pub has_error : Errno → List Errno → Bool
has_error e [] = false
has_error e (f ∷ errors) = (number_of f == number_of e) || has_error e errors

-- a reply is one of these errors
abbrev pub is_one_of : Reply → List Errno → Bool
is_one_of (answer.Failed e) errors = has_error e errors
is_one_of r errors = false

-- a reply is among replies
abbrev pub is_among : Reply → List Reply → Bool
is_among r [] = false
is_among r (s ∷ replies) = same_reply s r || is_among r replies

-- a reply matches what is known of it
abbrev pub Matches : Pattern → Reply → Type 0
Matches (Exactly r) s = s ≡ r
Matches AnyError s = is_error s ≡ true
Matches (OneOf errors) s = is_one_of s errors ≡ true
Matches AnyDirectory s = is_directory s ≡ true
Matches (Except replies) s = is_among s replies.items ≡ false
Matches Anything s = Unit {0}

-- an entry of a timeline is heard as this one
abbrev pub IsHeardAs : Entry → Heard → Type 0
IsHeardAs (Begin c seat call) x = x ≡ heard.Begin c seat call
IsHeardAs (Commit c) x = ⊥
IsHeardAs (Return c r) x = (p : Pattern) × (x ≡ heard.Return c p) × Matches p r

-- entries are heard as the first ones of a history
abbrev pub AreHeardIn : List Entry → List Heard → Type 0
AreHeardIn [] h = Unit {0}
AreHeardIn (e ∷ es) [] = ⊥
AreHeardIn (e ∷ es) (x ∷ h) = IsHeardAs e x × AreHeardIn es h

-- the entry that was heard, with Done in the place of its reply: which calls have begun and returned, no reply tells
abbrev pub entry_of : Heard → Entry
entry_of (heard.Begin c seat call) = Begin c seat call
entry_of (heard.Return c p) = Return c answer.Done

abbrev pub entries : List Heard → List Entry
entries h = map entry_of h
