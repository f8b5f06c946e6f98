-- How many entries of each kind the code has counted.
use Rattle.std.specs.Prelude.{◌≡◌, ◌^◌, ◌-◌, min, List}
use Rattle.fs_timeline.specs.declared.entry.Entry.{Entry}
use Rattle.fs_sched.specs.RunTexts.{number_of}
use Rattle.fs_sched.specs.declared.run_texts.EntryKind.TheVariants as kind
use Rattle.fs_sched.specs.declared.run_texts.Counts.{Counts}

-- the counts are those of these entries
pub record AreCounts (counts : Counts) (entries : List Entry) : Type 0 where
  pub begun : counts.begun ≡ number_of kind.Begin entries
  pub committed : counts.committed ≡ number_of kind.Commit entries
  pub returned : counts.returned ≡ number_of kind.Return entries

-- up to the greatest number
pub record AreCapped (counts : Counts) (entries : List Entry) : Type 0 where
  pub begun : counts.begun ≡ min (2 ^ 64 - 1) (number_of kind.Begin entries)
  pub committed : counts.committed ≡ min (2 ^ 64 - 1) (number_of kind.Commit entries)
  pub returned : counts.returned ≡ min (2 ^ 64 - 1) (number_of kind.Return entries)
