-- The text of what is said of a run.
use Rattle.std.specs.Prelude.{ℕ, List, [], ◌∷◌, ◌++◌, if◌then◌else◌, codes, decimal}
use Rattle.std.specs.List.{flat_map, join_with_byte}
use Rattle.fs_text.specs.Journal.{reply_words}
use Rattle.fs_sched_find.specs.declared.what.CallName.{CallName}
use Rattle.fs_sched_find.specs.declared.what.Condition.{Condition}
use Rattle.fs_sched_find.specs.declared.what.Condition.TheVariants.{Reply, Fails, Line, Helped, Waits, Before, Overlap}
use Rattle.fs_sched_find.specs.declared.what.Clause.{Clause}

-- the name of its thread, and its place
abbrev pub call_text : CallName → List ℕ
call_text call = call.thread ++ (codes "#" ++ decimal call.place)

abbrev pub condition_text : Condition → List ℕ
condition_text (Reply call r) = codes "reply " ++ (call_text call ++ (codes " " ++ join_with_byte 32 (reply_words r)))
condition_text (Fails call) = codes "reply " ++ (call_text call ++ codes " failed")
condition_text (Line line) = codes "tree " ++ line
condition_text (Helped call) = codes "helped " ++ call_text call
condition_text (Waits call) = codes "waits " ++ call_text call
condition_text (Before call other) = codes "before " ++ (call_text call ++ (codes " " ++ call_text other))
condition_text (Overlap call other) = codes "overlap " ++ (call_text call ++ (codes " " ++ call_text other))

abbrev pub clause_text : Clause → List ℕ
clause_text clause = (if clause.negated then codes "not " else []) ++ condition_text clause.condition

-- each behind the word `and`
abbrev pub more_text : List Clause → List ℕ
more_text clauses = flat_map (λ (clause : Clause). codes " and " ++ clause_text clause) clauses

-- the same of all, but for the first
abbrev pub clauses_text : List Clause → List ℕ
clauses_text [] = []
clauses_text (clause ∷ more) = clause_text clause ++ more_text more

-- alternatives, each behind the word `or`
abbrev pub others_text : List (List Clause) → List ℕ
others_text what = flat_map (λ (clauses : List Clause). codes " or " ++ clauses_text clauses) what

-- the same of all, but for the first
abbrev pub what_text : List (List Clause) → List ℕ
what_text [] = []
what_text (clauses ∷ more) = clauses_text clauses ++ others_text more
