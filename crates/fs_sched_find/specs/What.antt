-- What a run may have.
use Rattle.std.specs.Prelude.{ℕ, ◌≡◌, ◌==◌, Bool, true, false, not, ◌&&◌, nat_lt, nat_le, List, [], length, All, Any, Option, Some, None, slice_get, get_or, option_and_then, unwrap_or, if◌then◌else◌}
use Rattle.std.specs.List.{list_any, list_all}
use Rattle.std.specs.Str.{bytes_eq}
use Rattle.fs_calls.specs.Replies.{same_reply}
use Rattle.fs_calls.specs.Tree.{Tree}
use Rattle.fs_calls.specs.declared.reply.Reply.{Reply}
use Rattle.fs_calls.specs.declared.reply.Reply.TheVariants as reply
use Rattle.fs_nodes.specs.Graphs.{Graph}
use Rattle.fs_words.specs.Lines.{lines_of}
use Rattle.fs_script.specs.Script.{seat_named}
use Rattle.fs_script.specs.TreeText.{tree_text, IsSpelled}
use Rattle.fs_script.specs.declared.script.Script.{Script}
use Rattle.fs_sched_find.specs.Lives.{Lived, nth_from}
use Rattle.fs_sched_find.specs.declared.what.CallName.{CallName}
use Rattle.fs_sched_find.specs.declared.what.Condition.{Condition}
use Rattle.fs_sched_find.specs.declared.what.Condition.TheVariants.{Reply as IsReply, Fails, Line, Helped, Waits, Before, Overlap}
use Rattle.fs_sched_find.specs.declared.what.Clause.{Clause}

-- the index at which a call's commit, or its return, stands among those with these seats: the N-th of a thread is that of its N-th call
abbrev pub index_of : List (List ℕ) → List ℕ → CallName → Option ℕ
index_of names seats call = option_and_then (λ seat. nth_from 0 seat call.place seats) (seat_named names call.thread)

-- the reply of a call, where it returned
abbrev pub reply_of : List (List ℕ) → Lived → CallName → Option Reply
reply_of names l call = option_and_then (slice_get l.replies) (index_of names l.reply_seats call)

-- it is there, and is this one
abbrev pub is_reply : Reply → Option Reply → Bool
is_reply wanted None = false
is_reply wanted (Some r) = same_reply r wanted

-- it is there, and is an error
abbrev pub is_failure : Option Reply → Bool
is_failure None = false
is_failure (Some reply.Done) = false
is_failure (Some (reply.Stat kind size)) = false
is_failure (Some (reply.Names names)) = false
is_failure (Some (reply.Bytes bytes)) = false
is_failure (Some (reply.Wrote size)) = false
is_failure (Some (reply.Failed errno)) = true

-- a call's commit is there, and was another call's step
abbrev pub was_helped : List (List ℕ) → Lived → CallName → Bool
was_helped names l call = unwrap_or (option_and_then (slice_get l.helped) (index_of names l.commit_seats call)) false

-- how many calls had returned when a call began, and its own place among the returns
abbrev pub began : List (List ℕ) → Lived → CallName → Option ℕ
began names l call = option_and_then (slice_get l.returned_before) (index_of names l.begin_seats call)

abbrev pub returned : List (List ℕ) → Lived → CallName → Option ℕ
returned names l call = index_of names l.reply_seats call

-- a call with this place among the returns had not returned yet when so many had
abbrev pub is_left : Option ℕ → ℕ → Bool
is_left None n = true
is_left (Some i) n = nat_le n i

-- a wait, by its seat and how many calls had returned then, is one of the call on a seat that began and returned so
abbrev pub is_wait_of : ℕ → ℕ → Option ℕ → ℕ × ℕ → Bool
is_wait_of seat began returned wait = wait.0 == seat && (nat_le began wait.1 && is_left returned wait.1)

abbrev pub has_wait : List (ℕ × ℕ) → Option ℕ → Option ℕ → Option ℕ → Bool
has_wait waits (Some seat) (Some began) returned = list_any (is_wait_of seat began returned) waits
has_wait waits (Some seat) None returned = false
has_wait waits None began returned = false

-- a call waited for a node that another call held
abbrev pub has_waited : List (List ℕ) → Lived → CallName → Bool
has_waited names l call = has_wait l.waits (seat_named names call.thread) (began names l call) (returned names l call)

-- two calls that began and returned so were under way together: neither had returned when the other began
abbrev pub is_together : Option ℕ → Option ℕ → Option ℕ → Option ℕ → Bool
is_together (Some began) returned (Some other) over = is_left returned other && is_left over began
is_together (Some began) returned None over = false
is_together None returned other over = false

abbrev pub do_overlap : List (List ℕ) → Lived → CallName → CallName → Bool
do_overlap names l call other = is_together (began names l call) (returned names l call) (began names l other) (returned names l other)

-- both are there, and the first is before the second
abbrev pub is_before : Option ℕ → Option ℕ → Bool
is_before (Some i) (Some j) = nat_lt i j
is_before (Some i) None = false
is_before None j = false

-- whether the tree text of these nodes has a line
abbrev pub IsTreeLine : Graph → List ℕ → Bool → Type 0
IsTreeLine graph line b = (t : Tree) × IsSpelled graph t × (b ≡ list_any (bytes_eq line) (lines_of (tree_text t)))

-- what a condition is of a run that told this and ended with these nodes
abbrev pub Answers : List (List ℕ) → Lived → Graph → Condition → Bool → Type 0
Answers names l graph (IsReply call r) b = b ≡ is_reply r (reply_of names l call)
Answers names l graph (Fails call) b = b ≡ is_failure (reply_of names l call)
Answers names l graph (Line line) b = IsTreeLine graph line b
Answers names l graph (Helped call) b = b ≡ was_helped names l call
Answers names l graph (Waits call) b = b ≡ has_waited names l call
Answers names l graph (Overlap call other) b = b ≡ do_overlap names l call other
Answers names l graph (Before call other) b = b ≡ is_before (index_of names l.commit_seats call) (index_of names l.commit_seats other)

-- the same of a clause, which may stand behind `not`
abbrev pub IsClause : List (List ℕ) → Lived → Graph → Bool → Clause → Type 0
IsClause names l graph b clause = Answers names l graph clause.condition (if clause.negated then not b else b)

-- all clauses hold; or one does not
abbrev pub HasAll : List (List ℕ) → Lived → Graph → Bool → List Clause → Type 0
HasAll names l graph true clauses = All (IsClause names l graph true) clauses
HasAll names l graph false clauses = Any (IsClause names l graph false) clauses

-- of one alternative all clauses hold; or of each one does not
abbrev pub Has : List (List ℕ) → Lived → Graph → List (List Clause) → Bool → Type 0
Has names l graph what true = Any (HasAll names l graph true) what
Has names l graph what false = All (HasAll names l graph false) what

-- ---- whether its calls are there

-- a place in the block of the thread on a seat
abbrev pub is_place : Script → ℕ → Option ℕ → Bool
is_place script place None = false
is_place script place (Some seat) = nat_le 1 place && nat_le place (length (get_or script.lists seat []))

-- a call of the script
abbrev pub is_there : Script → CallName → Bool
is_there script call = is_place script call.place (seat_named script.names call.thread)

-- those of a condition are
abbrev pub has_calls : Script → Condition → Bool
has_calls script (IsReply call r) = is_there script call
has_calls script (Fails call) = is_there script call
has_calls script (Line line) = true
has_calls script (Helped call) = is_there script call
has_calls script (Waits call) = is_there script call
has_calls script (Before call other) = is_there script call && is_there script other
has_calls script (Overlap call other) = is_there script call && is_there script other

-- and those of all clauses
abbrev pub clauses_name_calls : Script → List Clause → Bool
clauses_name_calls script clauses = list_all (λ (c : Clause). has_calls script c.condition) clauses

-- of all alternatives
abbrev pub names_calls : Script → List (List Clause) → Bool
names_calls script what = list_all (clauses_name_calls script) what
