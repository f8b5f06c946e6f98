-- What a publisher has, as its callers see it.
use Rattle.std.specs.Prelude.{List}
use Rattle.fs_calls.specs.Starts.{Start}
use Rattle.fs_calls.specs.declared.call.Call.{Call}

-- the tree at which its lists start; the published list; the calls that it has taken in, of which that list is a beginning; and those that stand in the
-- history: the same, or one more, for which there was no memory yet
pub record Lists : Type 0 where
  pub start : Start
  pub published : List Call
  pub taken : List Call
  pub entered : List Call
