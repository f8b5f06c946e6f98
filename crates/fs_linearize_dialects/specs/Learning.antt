-- What is learned of the history of one thread: where another tree replied other errors than this one.
use Rattle.std.specs.Prelude.{◌≡◌, ℕ, ◌+◌, ◌==◌, ◌&&◌, Bool, true, false, not, List, [], ◌∷◌, ◌++◌, Option, Some, None, if◌then◌else◌}
use Rattle.std.specs.List.{list_any}
use Rattle.fs_calls.specs.Starts.{Start}
use Rattle.fs_calls.specs.Replies.{number_of, same_reply}
use Rattle.fs_calls.specs.Outcomes.{reply_at, called}
use Rattle.fs_calls.specs.declared.errno.Errno.{Errno}
use Rattle.fs_calls.specs.declared.reply.Reply.{Reply}
use Rattle.fs_calls.specs.declared.reply.Reply.TheVariants as answer
use Rattle.fs_linearize_histories.specs.declared.heard.Heard.{Heard}
use Rattle.fs_linearize_histories.specs.declared.heard.Heard.TheVariants.{Begin, Return}
use Rattle.fs_linearize_histories.specs.declared.heard.Pattern.{Pattern}
use Rattle.fs_linearize_histories.specs.declared.heard.Pattern.TheVariants.{Exactly, AnyError, OneOf, AnyDirectory, Except, Anything}
use Rattle.fs_linearize_histories.specs.Heard.{is_error, is_directory, is_one_of, is_among}
use Rattle.fs_linearize_dialects.specs.Names.{name_of}
use Rattle.fs_linearize_dialects.specs.Dialects.{is_for}
use Rattle.fs_linearize_dialects.specs.Tables.{rows_of}
use Rattle.fs_linearize_dialects.specs.declared.call_name.CallName.{CallName}
use Rattle.fs_linearize_dialects.specs.declared.dialect.Row.{Row}
use Rattle.fs_linearize_dialects.specs.declared.learning.End.{End}
use Rattle.fs_linearize_dialects.specs.declared.learning.End.TheVariants.{Whole, At, Overlaps, Fault}

-- a reply may be the one of which this is known
abbrev pub may_be : Pattern → Reply → Bool
may_be (Exactly known) r = same_reply r known
may_be AnyError r = is_error r
may_be (OneOf errors) r = is_one_of r errors
may_be AnyDirectory r = is_directory r
may_be (Except replies) r = not (is_among r replies.items)
may_be Anything r = true

-- the rows of a call that got one of these errors, where this tree replies an error: a row for each
abbrev pub rows_for : CallName → Reply → List Errno → Option (List Row)
rows_for name (answer.Failed ours) (e ∷ errors) = Some (rows_of name ours (e ∷ errors))
rows_for name ours errors = None

-- the same of what is known of its reply
abbrev pub rows_failed : CallName → Reply → Reply → Option (List Row)
rows_failed name ours (answer.Failed theirs) = rows_for name ours (theirs ∷ [])
rows_failed name ours theirs = None

abbrev pub rows_known : CallName → Reply → Pattern → Option (List Row)
rows_known name ours (Exactly theirs) = rows_failed name ours theirs
rows_known name ours (OneOf errors) = rows_for name ours errors
rows_known name ours known = None

-- the rows that explain a return: none are needed if this tree's reply may be the one that was recorded
abbrev pub rows_at : CallName → Reply → Pattern → Option (List Row)
rows_at name ours known = if may_be known ours then Some [] else rows_known name ours known

-- where learning ends before entries of which the first two are no call
abbrev pub end_at : ℕ → List Heard → End
end_at n [] = Whole
end_at n (Begin c seat call ∷ []) = Whole
end_at n (Begin c seat call ∷ x ∷ h) = Overlaps (n + 2)
end_at n (Return c known ∷ h) = Overlaps (n + 1)

-- rows before what is learned later; or learning ends here, where this tree replies this
abbrev pub goes_on : Option (List Row) → ℕ → Reply → List Row × End → List Row × End
goes_on (Some rows) n ours later = (rows ++ later.0, later.1)
goes_on None n ours later = ([], At n ours)

-- what is learned of entries before which there are so many, call by call from this tree: the rows that explain them, and where that ends
abbrev pub learned : Start → ℕ → List Heard → List Row × End
learned now n (Begin c seat call ∷ Return d known ∷ h) =
    if c == d then goes_on (rows_at (name_of call) (reply_at now call) known) (n + 2) (reply_at now call) (learned (called now call) (n + 2) h)
    else ([], Overlaps (n + 2))
learned now n h = ([], end_at n h)

-- two calls of a history overlap
abbrev pub is_overlap : End → Bool
is_overlap (Overlaps place) = true
is_overlap other = false

-- no row explains a return of it, or it is no history
abbrev pub is_unexplained : End → Bool
is_unexplained (At place ours) = true
is_unexplained (Fault place kind) = true
is_unexplained other = false

-- a row is this one
abbrev pub is_row : CallName → Errno → Errno → Row → Bool
is_row name ours theirs row = is_for name theirs row && (number_of row.ours == number_of ours)

abbrev pub has_row : Row → List Row → Bool
has_row wanted rows = list_any (is_row wanted.call wanted.ours wanted.theirs) rows

-- rows are among all
abbrev pub AreAmong : List Row → List Row → Type 0
AreAmong all [] = Unit {0}
AreAmong all (row ∷ rows) = (has_row row all ≡ true) × AreAmong all rows
