-- Tables of what another tree replies in the place of this one, and a history that is read by one.
use Rattle.std.specs.Prelude.{◌≡◌, ℕ, Bool, ◌&&◌, ◌==◌, List, [], ◌∷◌, ◌++◌, map, Option, Some, None, if◌then◌else◌}
use Rattle.fs_names.specs.Failures.{or_else}
use Rattle.fs_calls.specs.Replies.{number_of}
use Rattle.fs_calls.specs.declared.errno.Errno.{Errno}
use Rattle.fs_calls.specs.declared.reply.Reply.{Reply}
use Rattle.fs_calls.specs.declared.reply.Reply.TheVariants as answer
use Rattle.fs_linearize_histories.specs.declared.heard.Heard.{Heard}
use Rattle.fs_linearize_histories.specs.declared.heard.Heard.TheVariants.{Begin, Return}
use Rattle.fs_linearize_histories.specs.declared.heard.Pattern.{Pattern}
use Rattle.fs_linearize_histories.specs.declared.heard.Pattern.TheVariants.{Exactly, AnyError, OneOf, AnyDirectory, Except, Anything}
use Rattle.fs_linearize_dialects.specs.Names.{name_of, same_name}
use Rattle.fs_linearize_dialects.specs.declared.call_name.CallName.{CallName}
use Rattle.fs_linearize_dialects.specs.declared.dialect.Row.{Row}

-- a row is for this call and what the other tree replied
abbrev pub is_for : CallName → Errno → Row → Bool
is_for name theirs row = same_name row.call name && (number_of row.theirs == number_of theirs)

-- what this tree may have replied where the other replied an error
abbrev pub ours_for : List Row → CallName → Errno → List Errno
ours_for [] name theirs = []
ours_for (row ∷ rows) name theirs = if is_for name theirs row then row.ours ∷ ours_for rows name theirs else ours_for rows name theirs

-- errors, each with those
abbrev pub widened_errors : List Row → CallName → List Errno → List Errno
widened_errors rows name [] = []
widened_errors rows name (e ∷ errors) = e ∷ (ours_for rows name e ++ widened_errors rows name errors)

-- an error, or one of more
abbrev pub error_or : Errno → List Errno → Pattern
error_or e [] = Exactly (answer.Failed e)
error_or e (f ∷ errors) = OneOf (e ∷ f ∷ errors)

-- what is known of a reply that was this one
abbrev pub widened_reply : List Row → CallName → Reply → Pattern
widened_reply rows name (answer.Failed e) = error_or e (ours_for rows name e)
widened_reply rows name r = Exactly r

-- what is known of a reply of which this was
abbrev pub widened_pattern : List Row → CallName → Pattern → Pattern
widened_pattern rows name (Exactly r) = widened_reply rows name r
widened_pattern rows name (OneOf errors) = OneOf (widened_errors rows name errors)
widened_pattern rows name AnyError = AnyError
widened_pattern rows name AnyDirectory = AnyDirectory
widened_pattern rows name (Except replies) = Except replies
widened_pattern rows name Anything = Anything

-- the call that an entry begins under a number
abbrev pub begun_as : ℕ → Heard → Option CallName
begun_as c (Begin d seat call) = if c == d then Some (name_of call) else None
begun_as c (Return d p) = None

-- the call of a number in a history, by its last Begin
abbrev pub named_in : ℕ → List Heard → Option CallName
named_in c [] = None
named_in c (x ∷ h) = or_else (named_in c h) (begun_as c x)

abbrev pub widened_by : List Row → Option CallName → Pattern → Pattern
widened_by rows None p = p
widened_by rows (Some name) p = widened_pattern rows name p

-- an entry of a history: each Return by the rows of its call
abbrev pub widened_entry : List Row → List Heard → Heard → Heard
widened_entry rows h (Begin c seat call) = Begin c seat call
widened_entry rows h (Return c p) = Return c (widened_by rows (named_in c h) p)

-- a history that is read by a table
abbrev pub widened : List Row → List Heard → List Heard
widened rows h = map (widened_entry rows h) h
