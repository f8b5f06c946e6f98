-- Worked examples of histories that are linearizable, and of some that are not.
use Rattle.std.specs.Prelude.{List, [], ◌∷◌, codes}
use Rattle.fs_names.specs.declared.kind.Kind.TheVariants as kinds
use Rattle.fs_names.specs.declared.limits.Limits.TheVariants.{V1}
use Rattle.fs_names.specs.Keys.{Key}
use Rattle.fs_calls.specs.Starts.{root_start}
use Rattle.fs_calls.specs.declared.call.Call.TheVariants.{Mkdir, Stat}
use Rattle.fs_calls.specs.declared.reply.Reply.{Reply}
use Rattle.fs_calls.specs.declared.reply.Reply.TheVariants as answer
use Rattle.fs_calls.specs.declared.errno.Errno.TheVariants.{Enoent}
use Rattle.fs_linearizable.specs.Linearizable.{IsLinearizable}
use Rattle.fs_timeline.specs.declared.entry.Entry.{Entry}
use Rattle.fs_timeline.specs.declared.entry.Entry.TheVariants.{Begin, Return}

-- the path /a, and the replies of a stat of it: nothing is there, or a directory is
abbrev pub at_a : Key
at_a = codes "a" ∷ []

abbrev pub nothing : Reply
nothing = answer.Failed Enoent

abbrev pub directory : Reply
directory = answer.Stat kinds.Dir 0

-- from the root alone
abbrev pub IsLinear : List Entry → Type 0
IsLinear h = IsLinearizable (root_start V1) h

-- a mkdir of /a has returned when the stat begins
abbrev pub stat_after : Reply → List Entry
stat_after reply = Begin 1 0 (Mkdir at_a) ∷ Return 1 answer.Done ∷ Begin 2 1 (Stat at_a) ∷ Return 2 reply ∷ []

-- the mkdir begins before the stat, and returns after it
abbrev pub stat_during : Reply → List Entry
stat_during reply = Begin 1 0 (Mkdir at_a) ∷ Begin 2 1 (Stat at_a) ∷ Return 2 reply ∷ Return 1 answer.Done ∷ []

-- the mkdir never returns
abbrev pub stat_beside : Reply → List Entry
stat_beside reply = Begin 1 0 (Mkdir at_a) ∷ Begin 2 1 (Stat at_a) ∷ Return 2 reply ∷ []

-- the mkdir never returns, and meanwhile two stats come, one after the other
abbrev pub two_stats_beside : Reply → Reply → List Entry
two_stats_beside first second = Begin 1 0 (Mkdir at_a) ∷ Begin 2 1 (Stat at_a) ∷ Return 2 first ∷ Begin 3 1 (Stat at_a) ∷ Return 3 second ∷ []

pub record LinearizableHistories : Type 0 where
  pub empty : IsLinear []
  pub read_after : IsLinear (stat_after directory)
  pub read_during_first : IsLinear (stat_during nothing)
  pub read_during_last : IsLinear (stat_during directory)
  -- a pending call may have taken effect, or not
  pub took_effect : IsLinear (stat_beside directory)
  pub no_effect : IsLinear (stat_beside nothing)
  -- it may take effect between two other calls
  pub effect_between : IsLinear (two_stats_beside nothing directory)

pub record RefusedHistories : Type 0 where
  -- a stale read: the replies fit an order, the stat first, but not one that keeps real-time precedence
  pub stale_read : IsLinear (stat_after nothing) → ⊥
  -- a new-old inversion: the effect of a pending call is seen, and then it is not
  pub new_old_inversion : IsLinear (two_stats_beside directory nothing) → ⊥
  -- a read of what nobody made
  pub out_of_thin_air : IsLinear (Begin 2 1 (Stat at_a) ∷ Return 2 directory ∷ []) → ⊥
  -- a response without an invocation
  pub unbegun : IsLinear (Return 1 answer.Done ∷ []) → ⊥
