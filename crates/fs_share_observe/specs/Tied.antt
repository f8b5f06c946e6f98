-- How the copies, the calls that wait and the history are tied.
use Rattle.std.specs.Prelude.{◌≡◌, List, [], ◌∷◌, ◌++◌, Option, Some, None, IfSome}
use mathlib.Core.List.{IsPrefix}
use Rattle.logbook.specs.Pages.{Book}
use Rattle.fs_share_observe.specs.declared.history.Noted.{Noted}
use Rattle.fs_share_observe.specs.declared.history.Noted.TheVariants.{Played}
use Rattle.fs_share_observe.specs.declared.shown.Shown.{Shown}
use Rattle.fs_share_observe.specs.declared.shown.Op.{Op}
use Rattle.fs_share_observe.specs.Playing.{total, IsPlayed}

-- the operation adds a call to what was taken in
abbrev pub IsNext : Book → List Noted → Op → Type 0
IsNext b taken o = (o.token.book ≡ b) × (o.token.log ≡ taken ++ Played o.call ∷ [])

-- what stands in the history
abbrev pub entered : List Noted → Option Op → List Noted
entered taken None = taken
entered taken (Some o) = o.token.log

-- what is shown is a beginning of what was taken in; with the calls that wait it is that
pub record Tied (b : Book) (shown : Shown) (ops : List Op) (taken : List Noted) (held : Option Op) : Type 0 where
  pub begins : IsPrefix shown.token.log taken
  pub book : shown.token.book ≡ b
  pub total_book : (total shown ops).token.book ≡ b
  pub total_log : (total shown ops).token.log ≡ taken
  pub total_played : IsPlayed (total shown ops)
  pub next : IfSome held (λ o. IsNext b taken o)
