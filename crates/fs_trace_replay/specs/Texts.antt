-- How it is written who changed what stands at a path.
use Rattle.std.specs.Prelude.{ℕ, List, ◌++◌, codes, decimal}
use Rattle.std.specs.List.{join_with_byte}
use Rattle.fs_calls.specs.declared.call.Call.{Call}
use Rattle.fs_text.specs.Calls.{call_words}

-- the line of a commit: its place among the commits, its call's number, its thread, the call's place there, the call
abbrev pub who_line : ℕ → ℕ → List ℕ → ℕ → Call → List ℕ
who_line place number thread turn call =
    codes "commit " ++ decimal place ++ codes " call " ++ decimal number ++ codes " " ++ thread ++ codes "#" ++ decimal turn ++ codes " " ++ join_with_byte 32 (call_words call) ++ codes "\n"

-- the line where no commit changed it
abbrev pub nobody_line : List ℕ
nobody_line = codes "nobody\n"
