-- The calls of a script, and what each replied.
use Rattle.std.specs.Prelude.{ℕ, ◌+◌, ◌-◌, ◌==◌, List, [], ◌∷◌, length, map, get_or, slice_get, Option, Some, None, if◌then◌else◌}
use Rattle.std.specs.List.{filter_map, flat_map, join_with_byte, range_with_len}
use Rattle.fs_names.specs.Failures.{or_else}
use Rattle.fs_calls.specs.declared.call.Call.{Call}
use Rattle.fs_calls.specs.declared.reply.Reply.{Reply}
use Rattle.fs_timeline.specs.Timeline.{begun_on}
use Rattle.fs_timeline.specs.declared.entry.Entry.{Entry}
use Rattle.fs_timeline.specs.declared.entry.Entry.TheVariants.{Begin, Commit, Return}
use Rattle.fs_text.specs.Journal.{reply_words}
use Rattle.fs_sched_seen.specs.declared.places.Place.{Place}

-- ---- the calls of a script, block by block

-- the call of a thread behind so many others
abbrev pub place_on : ℕ → ℕ → Place
place_on seat before = record { seat = seat; turn = before + 1 }

-- those of a thread that has so many
abbrev pub places_on : ℕ → ℕ → List Place
places_on seat calls = map (place_on seat) (range_with_len 0 calls)

-- those of the thread on a seat
abbrev pub places_at : List (List Call) → ℕ → List Place
places_at lists seat = places_on seat (length (get_or lists seat []))

-- those of all threads
abbrev pub places_of : List (List Call) → List Place
places_of lists = flat_map (places_at lists) (range_with_len 0 (length lists))

-- ---- what they replied

-- the numbers of the calls that began on a seat, in order
abbrev pub calls_on : ℕ → List Entry → List ℕ
calls_on seat es = filter_map (begun_on seat) es

-- the reply with which an entry returns the call of a number
abbrev pub returned_as : ℕ → Entry → Option Reply
returned_as c (Begin d seat call) = None
returned_as c (Commit d) = None
returned_as c (Return d r) = if c == d then Some r else None

-- the reply that the call of a number returned
abbrev pub reply_of : ℕ → List Entry → Option Reply
reply_of c [] = None
reply_of c (e ∷ es) = or_else (reply_of c es) (returned_as c e)

-- the same where there is such a call
abbrev pub reply_to : Option ℕ → List Entry → Option Reply
reply_to None es = None
reply_to (Some c) es = reply_of c es

-- a reply in the words of a journal
abbrev pub reply_text : Option Reply → List ℕ
reply_text None = []
reply_text (Some r) = join_with_byte 32 (reply_words r)

-- what the call at a place replied
abbrev pub reply_at : List Entry → Place → List ℕ
reply_at es p = reply_text (reply_to (slice_get (calls_on p.seat es) (p.turn - 1)) es)
