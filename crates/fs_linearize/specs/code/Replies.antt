-- What is found of the replies of a call.
use Rattle.std.specs.Prelude.{ℕ, List, [], ◌∷◌, ◌++◌}
use Rattle.fs_calls.specs.Starts.{Start}
use Rattle.fs_timeline.specs.declared.entry.Entry.{Entry}
use Rattle.fs_linearize_histories.specs.declared.heard.Heard.{Heard}
use Rattle.fs_linearize_histories.specs.declared.heard.Heard.TheVariants.{Return}
use Rattle.fs_linearize_histories.specs.declared.heard.Pattern.{Pattern}
use Rattle.fs_linearize_histories.specs.Heard.{Matches}
use Rattle.fs_linearize_histories.specs.Histories.{Explains, CouldReply}
use Rattle.fs_linearize.specs.Limited.{WasLimited}
use Rattle.fs_linearize.specs.declared.replies.Another.{Another}
use Rattle.fs_linearize.specs.declared.replies.Another.TheVariants.{Is, No, Limited}

-- a call could have a reply behind entries of which this is known; or it has none; or the limit was reached
abbrev pub IsAnother : Start → List Heard → ℕ → Pattern → ℕ → Another → Type 0
IsAnother start before c p limit (Is r) = Matches p r × CouldReply start before c r
IsAnother start before c p limit No = (es : List Entry) → Explains start (before ++ Return c p ∷ []) es → ⊥
IsAnother start before c p limit Limited = (place : ℕ) × WasLimited start (before ++ Return c p ∷ []) limit place
