-- What a caller asks for.
use Rattle.std.specs.Prelude.{ℕ, Bool, true, List, Result, Ok, Err}
use Rattle.fs_names.specs.Keys.{Key}
use Rattle.fs_names.specs.Limits.{has_list}
use Rattle.fs_names.specs.Reading.{reading}
use Rattle.fs_names.specs.declared.limits.Limits.{Limits}
use Rattle.fs_calls.specs.declared.call.Call.{Call}
use Rattle.fs_calls.specs.declared.call.Call.TheVariants as call
use Rattle.fs_words.specs.declared.fault.FaultKind.{FaultKind}
use Rattle.fs_words.specs.declared.fault.FaultKind.TheVariants as kind
use Rattle.fs_words.specs.Reading.{◌>>=◌, or_bad_path, words_of}
use Rattle.fs_text.specs.Calls.{call_of}
use Rattle.fs_embed.specs.declared.request.Request.{Request}
use Rattle.fs_embed.specs.declared.request.Request.TheVariants.{Line, Mkdir, Mknod, Unlink, Rmdir, Rename, Exchange, Stat, Readdir, ListAfter, Read, Write, Truncate, Nothing}

-- what is asked for, by the limits of names and paths: a call, or what is wrong with the request
abbrev pub Asked : Type 0
Asked = Limits → Result Call FaultKind

-- the call that a line spells, or what is wrong with the line
abbrev pub call_in : List ℕ → Asked
call_in line limits = words_of line >>= call_of limits

-- the call on the path that bytes spell
abbrev pub on_path : (Key → Call) → List ℕ → Asked
on_path make bytes limits = or_bad_path (reading limits bytes) >>= λ path. Ok (make path)

-- the two paths that bytes spell, the first of them read first
abbrev pub both_in : List ℕ → List ℕ → Limits → Result (Key × Key) FaultKind
both_in bytes other limits = or_bad_path (reading limits bytes) >>= λ from. or_bad_path (reading limits other) >>= λ to. Ok (from, to)

-- the call on the two paths that bytes spell
abbrev pub on_both : (Key → Key → Call) → List ℕ → List ℕ → Asked
on_both make bytes other limits = both_in bytes other limits >>= λ both. Ok (make both.0 both.1)

-- the call that is asked for, or what is wrong with the request
abbrev pub asked : Request → Asked
asked (Line line) = call_in line.now
asked (Mkdir path) = on_path call.Mkdir path.now
asked (Mknod path) = on_path call.Mknod path.now
asked (Unlink path) = on_path call.Unlink path.now
asked (Rmdir path) = on_path call.Rmdir path.now
asked (Rename path other) = on_both call.Rename path.now other.now
asked (Exchange path other) = on_both call.Exchange path.now other.now
asked (Stat path) = on_path call.Stat path.now
asked (Readdir path) = on_path call.Readdir path.now
asked (ListAfter path after count) = on_both (call.ListAfter count) path.now after.now
asked (Read path off count) = on_path (λ p. call.Read p off count) path.now
asked (Write path off bytes) = on_path (λ p. call.Write p off bytes.now) path.now
asked (Truncate path size) = on_path (λ p. call.Truncate p size) path.now
asked Nothing = λ limits. Err kind.BadLine

-- whether limits have a call: all have each, but the one that lists a directory in pieces
abbrev pub has_call : Limits → Call → Bool
has_call limits (call.ListAfter count p after) = has_list limits
has_call limits c = true
