-- What is heard of the entries of a timeline.
use Rattle.std.specs.Prelude.{ℕ, ◌≡◌, ◌-◌, ◌==◌, List, [], ◌∷◌, ◌++◌, map, get_or, slice_get, Option, Some, None, if◌then◌else◌}
use Rattle.fs_calls.specs.declared.reply.Reply.{Reply}
use Rattle.fs_timeline.specs.declared.entry.Entry.{Entry}
use Rattle.fs_timeline.specs.declared.entry.Entry.TheVariants.{Return}
use Rattle.fs_sched_seen.specs.Calls.{calls_on, reply_of, reply_to}
use Rattle.fs_sched_seen.specs.declared.heard.Heard.{Heard}
use Rattle.fs_sched_seen.specs.declared.places.Place.{Place}

-- the calls of a thread, and where the call of a number returned
abbrev pub begun_of : Heard → ℕ → List ℕ
begun_of heard seat = get_or (map (λ calls. calls.items) heard.begun.items) seat []

abbrev pub returned_of : Heard → ℕ → Option ℕ
returned_of heard c = get_or heard.returned.items c None

-- this reply is returned at a place of a timeline, or there is none
abbrev pub IsReplyAt : List Entry → Option Reply → Option ℕ → Type 0
IsReplyAt es reply None = reply ≡ None
IsReplyAt es reply (Some at) = (d : ℕ) × (r : Reply) × (slice_get es at ≡ Some (Return d r)) × (reply ≡ Some r)

-- all that is heard of these entries
pub record IsHeard (heard : Heard) (es : List Entry) : Type 0 where
  pub begun : (seat : ℕ) → begun_of heard seat ≡ calls_on seat es
  pub returned : (c : ℕ) → IsReplyAt es (reply_of c es) (returned_of heard c)

-- the same of the call at a place of the script
abbrev pub IsReturnAt : List Entry → Place → Option ℕ → Type 0
IsReturnAt es p at = IsReplyAt es (reply_to (slice_get (calls_on p.seat es) (p.turn - 1)) es) at

-- a call began on a seat, and is noted
abbrev pub Begins : Heard → Heard → ℕ → ℕ → Type 0
Begins old new seat call = (other : ℕ) → begun_of new other ≡ (if other == seat then begun_of old other ++ call ∷ [] else begun_of old other)

-- a call returned at a place, and that is noted
abbrev pub Returns : Heard → Heard → ℕ → ℕ → Type 0
Returns old new call at = (c : ℕ) → returned_of new c ≡ (if c == call then Some at else returned_of old c)
