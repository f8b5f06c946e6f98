-- What a caller asks for by a number.
use Rattle.std.specs.Prelude.{ℕ, ◌-◌, ◌^◌, min, ◌==◌, eqb, Bool, true, false, List, Option, Some, None, Err, if◌then◌else◌}
use Rattle.fs_names.specs.declared.limits.Limits.{Limits}
use Rattle.fs_names.specs.declared.limits.Limits.TheVariants.{V1, V2, V3}
use Rattle.fs_calls.specs.declared.call.Call.TheVariants.{Mkdir, Mknod, Unlink, Rmdir, Rename, Exchange, Stat, Readdir, ListAfter, Read, Write, Truncate}
use Rattle.fs_words.specs.declared.fault.FaultKind.TheVariants as kind
use Rattle.fs_sched.specs.declared.schedule.Schedule.{Schedule}
use Rattle.fs_sched.specs.declared.schedule.Schedule.TheVariants.{Given, RoundRobin, Seeded}
use Rattle.fs_embed.specs.Requests.{Asked, on_path, on_both}
use Rattle.fs_embed.specs.declared.numbered.TheConstants.{KEEP_ALL}

-- the count of a list by a size: one of more than 32 bits counts as the greatest of 32
abbrev pub count_of : ℕ → ℕ
count_of size = min size (2 ^ 32 - 1)

-- the call of a number that has more than one path, or more than a path
abbrev pub asked_with_more : ℕ → List ℕ → List ℕ → ℕ → ℕ → List ℕ → Asked
asked_with_more number path other off size bytes =
    if number == 4 then on_both Rename path other
    else (if number == 5 then on_both Exchange path other
    else (if number == 8 then on_path (λ p. Read p off size) path
    else (if number == 9 then on_path (λ p. Write p off bytes) path
    else (if number == 10 then on_path (λ p. Truncate p size) path
    else (if number == 11 then on_both (ListAfter (count_of size)) path other
    else λ limits. Err kind.BadLine)))))

-- the call of a number, with the parts that it has of those that may stand with it
abbrev pub asked_by : ℕ → List ℕ → List ℕ → ℕ → ℕ → List ℕ → Asked
asked_by number path other off size bytes =
    if number == 0 then on_path Mkdir path
    else (if number == 1 then on_path Mknod path
    else (if number == 2 then on_path Unlink path
    else (if number == 3 then on_path Rmdir path
    else (if number == 6 then on_path Stat path
    else (if number == 7 then on_path Readdir path
    else asked_with_more number path other off size bytes)))))

-- the limits of names and files that have a version
abbrev pub limits_of : ℕ → Option Limits
limits_of version = if eqb version 1 then Some V1 else if eqb version 2 then Some V2 else if eqb version 3 then Some V3 else None

-- how many calls a core is to keep by a number: so many, or all
abbrev pub to_keep : ℕ → Option ℕ
to_keep most = if eqb most KEEP_ALL then None else Some most

-- the schedule of a number: the script's own, round robin, or the one that is drawn from a seed
abbrev pub schedule_of : ℕ → ℕ → Option Schedule
schedule_of number seed = if eqb number 0 then Some Given else if eqb number 1 then Some RoundRobin else if eqb number 2 then Some (Seeded seed) else None

-- whether a number says true
abbrev pub is_set : ℕ → Bool
is_set flag = if eqb flag 0 then false else true
