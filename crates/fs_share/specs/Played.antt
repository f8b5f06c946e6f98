-- Which calls began on a seat, and lists of calls that were played.
use Rattle.std.specs.Prelude.{◌≡◌, ℕ, ◌==◌, if◌then◌else◌, List, [], ◌∷◌, get_or}
use Rattle.std.specs.List.{flat_map}
use Rattle.fs_calls.specs.declared.call.Call.{Call}
use Rattle.fs_timeline.specs.declared.entry.Entry.{Entry}
use Rattle.fs_timeline.specs.declared.entry.Entry.TheVariants.{Begin, Commit, Return}
use Rattle.fs_share.specs.Returns.{AllReturned}

-- the call that an entry begins on a seat, or none
abbrev pub call_begun : ℕ → Entry → List Call
call_begun s (Begin c seat call) = if s == seat then call ∷ [] else []
call_begun s (Commit c) = []
call_begun s (Return c r) = []

-- the calls that began on a seat, in order
abbrev pub calls_begun : ℕ → List Entry → List Call
calls_begun s es = flat_map (call_begun s) es

-- lists of calls were played: on the seat of each number the calls of its list began, in order, and no others; and every call that began has returned
pub record ArePlayed (lists : List (List Call)) (es : List Entry) : Type 0 where
  pub begun : (seat : ℕ) → calls_begun seat es ≡ get_or lists seat []
  pub returned : AllReturned es
