-- What the core's lock keeps, as its callers see it, and what it keeps of the publisher's lists.
use Rattle.std.specs.Prelude.{◌≡◌, ℕ, ◌+◌, ◌<◌, ◌≤◌, List, [], length, take, slice_get, Some}
use mathlib.Core.List.{IsPrefix}
use Rattle.fs_calls.specs.Starts.{Start}
use Rattle.fs_calls.specs.Outcomes.{reply_at, next_start}
use Rattle.fs_calls.specs.declared.call.Call.{Call}
use Rattle.fs_calls.specs.declared.reply.Reply.{Reply}
use Rattle.fs_timeline.specs.Timeline.{commits}
use Rattle.fs_core.specs.CoreValues.{CoreValue, IsAtRest}
use Rattle.fs_share_observe.specs.Lists.{Lists}

-- the core, and the list that observers are shown
pub record Boarded : Type 0 where
  pub core : CoreValue
  pub published : List Call

-- a shared tree, as its callers see it: the tree at which its timeline starts, and how many sessions the tree had that went on as it, 0 where there is none
pub record Shared : Type 0 where
  pub start : Start
  pub earlier : ℕ

-- each of the publisher's lists is a beginning of the commits, and at most one call waits for memory
pub record AreBeginnings (commits : List Call) (lists : Lists) : Type 0 where
  pub published : IsPrefix lists.published commits
  pub taken : IsPrefix lists.taken commits
  pub entered : IsPrefix lists.entered commits
  pub one_more : length lists.entered ≤ length lists.taken + 1

-- a core at rest, the start that its commits leave, and a publisher that shows it
pub record IsReady (core : CoreValue) (tree : Start) (lists : Lists) : Type 0 where
  pub rest : IsAtRest core
  pub is_played : tree ≡ next_start core.start (commits core.timeline)
  pub shows : lists ≡ record { start = tree; published = []; taken = []; entered = [] }

-- the call stands at the place in the list, and the reply is that of the start which the calls before it leave
pub record IsListed (start : Start) (list : List Call) (place : ℕ) (call : Call) (answer : Reply) : Type 0 where
  pub inside : place < length list
  pub stands : slice_get list place ≡ Some call
  pub replied : answer ≡ reply_at (next_start start (take place list)) call
