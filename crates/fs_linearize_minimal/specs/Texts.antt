-- How a history is written.
use Rattle.std.specs.Prelude.{ℕ, List, ◌++◌, codes, decimal}
use Rattle.std.specs.List.{flat_map}
use Rattle.fs_calls.specs.Starts.{Start}
use Rattle.fs_calls.specs.declared.errno.Errno.{Errno}
use Rattle.fs_calls.specs.declared.reply.Reply.TheVariants.{Done}
use Rattle.fs_timeline.specs.declared.entry.Entry.TheVariants as entry
use Rattle.fs_linearize_histories.specs.declared.heard.Heard.{Heard}
use Rattle.fs_linearize_histories.specs.declared.heard.Heard.TheVariants.{Begin, Return}
use Rattle.fs_linearize_histories.specs.declared.heard.Pattern.{Pattern}
use Rattle.fs_linearize_histories.specs.declared.heard.Pattern.TheVariants.{Exactly, AnyError, OneOf, AnyDirectory, Except, Anything}
use Rattle.fs_text.specs.Journal.{entry_line}
use Rattle.fs_linearize_dialects.specs.Errors.{errors_word}
use Rattle.fs_script.specs.Journals.{opening}

-- the line of a return by one of these errors
abbrev pub errors_line : ℕ → List Errno → List ℕ
errors_line c errors = codes "return " ++ (decimal c ++ (codes " failed " ++ (errors_word errors ++ codes "\n")))

-- the line of a return: where its reply is left open, a question mark; no text says which a reply is not
abbrev pub return_line : ℕ → Pattern → List ℕ
return_line c (Exactly r) = entry_line (entry.Return c r)
return_line c AnyError = codes "return " ++ (decimal c ++ codes " failed ?\n")
return_line c (OneOf errors) = errors_line c errors
return_line c AnyDirectory = codes "return " ++ (decimal c ++ codes " stat dir ?\n")
return_line c (Except replies) = entry_line (entry.Return c Done)
return_line c Anything = codes "return " ++ (decimal c ++ codes " ?\n")

-- the line of an entry
abbrev pub heard_line : Heard → List ℕ
heard_line (Begin c seat call) = entry_line (entry.Begin c seat call)
heard_line (Return c p) = return_line c p

-- a history from its start tree
abbrev pub history_text : Start → List Heard → List ℕ
history_text start h = opening start ++ flat_map heard_line h
