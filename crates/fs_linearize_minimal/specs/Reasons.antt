-- Why a history has no order.
use Rattle.std.specs.Prelude.{◌≡◌, ◌≢◌, ◌==◌, ℕ, Bool, true, false, ◌&&◌, ◌||◌, not, min, List, [], ◌∷◌, Option, Some, None, if◌then◌else◌}
use Rattle.std.specs.Global.{Vec}
use Rattle.fs_calls.specs.Starts.{Start}
use Rattle.fs_calls.specs.declared.reply.Reply.{Reply}
use Rattle.fs_timeline.specs.declared.entry.Entry.{Entry}
use Rattle.fs_linearize_histories.specs.declared.heard.Heard.{Heard}
use Rattle.fs_linearize_histories.specs.declared.heard.Heard.TheVariants.{Begin, Return}
use Rattle.fs_linearize_histories.specs.declared.heard.Pattern.TheVariants.{Except}
use Rattle.fs_linearize_histories.specs.Heard.{is_among}
use Rattle.fs_linearize_histories.specs.Histories.{Explains}
use Rattle.fs_linearize_histories.specs.Faults.{history_fault}
use Rattle.fs_linearize.specs.Results.{IsAnswerFor, fault_in}
use Rattle.fs_linearize.specs.declared.replies.Possible.{Possible}
use Rattle.fs_linearize.specs.declared.linearizing.Found.{Found}
use Rattle.fs_linearize.specs.declared.linearizing.Found.TheVariants as found
use Rattle.fs_linearize_minimal.specs.declared.limits.TheConstants.{RACE_LIMIT}
use Rattle.fs_linearize_minimal.specs.declared.reason.Reason.{Reason}

-- each of these replies is among others
abbrev pub are_among : List Reply → List Reply → Bool
are_among [] others = true
are_among (r ∷ replies) others = is_among r others && are_among replies others

-- a call could have had the replies that are known, if all are
abbrev pub same_replies : Possible → Possible → Bool
same_replies known possible = not known.all || (possible.all && (are_among known.replies.items possible.replies.items && are_among possible.replies.items known.replies.items))

-- the return of this call is refused for a reason, where the call could have had these replies: if that is no race, they are the same
abbrev pub is_same : Reason → ℕ → Possible → Bool
is_same reason call possible = (call == reason.call) && (reason.race || same_replies reason.possible possible)

-- the place of the first return that nothing explains, if it is refused for a reason
abbrev pub place_in : Reason → Found → Option ℕ
place_in reason (found.NoOrder place call possible held) = if is_same reason call possible then Some place else None
place_in reason other = None

abbrev pub is_lawful : Found → Bool
is_lawful (found.Lawful journal) = true
is_lawful other = false

-- an entry, with an open reply if it is the return of another call: any reply matches what is none of no replies
abbrev pub IsOpen : ℕ → Heard → Heard → Type 0
IsOpen call (Begin c seat asked) x = x ≡ Begin c seat asked
IsOpen call (Return c p) x = (c ≡ call → x ≡ Return c p) × (c ≢ call → (any : Vec Reply) × (any.items ≡ []) × (x ≡ Return c (Except any)))

-- entries, where the replies of other calls are open
abbrev pub AreOpen : ℕ → List Heard → List Heard → Type 0
AreOpen call [] opened = opened ≡ []
AreOpen call (x ∷ h) [] = ⊥
AreOpen call (x ∷ h) (y ∷ opened) = IsOpen call x y × AreOpen call h opened

-- the recorded reply of a call could be right, if the other calls had other replies
abbrev pub CouldBeRight : Start → ℕ → List Heard → Type 0
CouldBeRight start call h = (opened : List Heard) × AreOpen call h opened × ((es : List Entry) × Explains start opened es)

-- it is not found that it could
abbrev pub IsNotRight : Start → ℕ → ℕ → List Heard → Type 0
IsNotRight start limit call h = (opened : List Heard) × AreOpen call h opened × ((f : Found) × IsAnswerFor start opened (min limit RACE_LIMIT) f × (fault_in f ≡ history_fault opened) × (is_lawful f ≡ false))
