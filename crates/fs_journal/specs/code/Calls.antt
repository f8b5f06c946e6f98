-- What is known of each call that has begun, by its number.
use Rattle.std.specs.Prelude.{◌≡◌, ◌<◌, ℕ, zero, suc, Bool, false, List, Option, Some, None, length, slice_get}
use Rattle.std.specs.Ordering.{nat_cmp}
use Rattle.std.specs.BTreeMap.{get}
use Rattle.fs_names.specs.Failures.{or_else}
use Rattle.fs_calls.specs.declared.call.Call.{Call}
use Rattle.fs_calls.specs.declared.reply.Reply.{Reply}
use Rattle.fs_journal.specs.declared.calls.Begun.{Begun}
use Rattle.fs_journal.specs.declared.calls.Calls.{Calls}

-- of calls that began in the order of their numbers, from 1 on, the one of this number
abbrev pub in_order_at : List Begun → ℕ → Option Begun
in_order_at calls zero = None
in_order_at calls (suc place) = slice_get calls place

-- the call of this number, wherever it stands
abbrev pub begun_at : Calls → ℕ → Option Begun
begun_at calls c = or_else (in_order_at calls.in_order.items c) (get nat_cmp calls.others c)

-- the place of a number among those in order
abbrev pub IsPlaceOf : List Begun → ℕ → Option ℕ → Type 0
IsPlaceOf calls c None = in_order_at calls c ≡ None
IsPlaceOf calls c (Some place) = (c ≡ suc place) × (place < length calls)

-- the call that was found
abbrev pub call_in : Option Begun → Option Call
call_in None = None
call_in (Some begun) = Some begun.call.now

-- the reply that is due to a call that was found
abbrev pub due_in : Option Begun → Option Reply
due_in None = None
due_in (Some begun) = begun.due

-- whether it was found and has returned
abbrev pub is_back : Option Begun → Bool
is_back None = false
is_back (Some begun) = begun.returned
