-- The replies that a call could have had, where it returns one that nothing explains.
use Rattle.std.specs.Prelude.{◌≡◌, ◌⊎◌, ℕ, true, false, List, [], ◌∷◌, ◌++◌, length}
use Rattle.fs_calls.specs.Starts.{Start}
use Rattle.fs_calls.specs.declared.reply.Reply.{Reply}
use Rattle.fs_linearize_histories.specs.declared.heard.Heard.{Heard}
use Rattle.fs_linearize_histories.specs.declared.heard.Heard.TheVariants.{Return}
use Rattle.fs_linearize_histories.specs.declared.heard.Pattern.TheVariants.{Except}
use Rattle.fs_linearize_histories.specs.Heard.{is_among}
use Rattle.fs_linearize_histories.specs.Histories.{CouldReply}
use Rattle.fs_linearize.specs.Limited.{WasLimited}
use Rattle.fs_linearize.specs.declared.replies.Possible.{Possible}
use Rattle.fs_linearize.specs.declared.replies.TheConstants.{MOST_REPLIES}

-- no reply is there twice
abbrev pub AreDifferent : List Reply → Type 0
AreDifferent [] = Unit {0}
AreDifferent (r ∷ replies) = (is_among r replies ≡ false) × AreDifferent replies

-- the call could reply something else
abbrev pub CouldReplyElse : Start → List Heard → ℕ → List Reply → Type 0
CouldReplyElse start before c replies = (r : Reply) × CouldReply start before c r × (is_among r replies ≡ false)

-- these are replies that a call could have behind entries, each once; and they are all, or the most that are named, or the limit was reached in the search for one more
pub record ArePossible (start : Start) (before : List Heard) (limit c : ℕ) (p : Possible) : Type 0 where
  pub each : (r : Reply) → is_among r p.replies.items ≡ true → CouldReply start before c r
  pub once : AreDifferent p.replies.items
  pub all : p.all ≡ true → (r : Reply) → CouldReply start before c r → is_among r p.replies.items ≡ true
  pub more : p.all ≡ false → ((length p.replies.items ≡ MOST_REPLIES) × CouldReplyElse start before c p.replies.items) ⊎ ((place : ℕ) × WasLimited start (before ++ Return c (Except p.replies) ∷ []) limit place)
