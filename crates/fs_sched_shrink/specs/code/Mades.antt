-- Why a script that was read is not shrunk.
use Rattle.fs_script.specs.declared.script.Script.{Script}
use Rattle.fs_sched.specs.code.Done.{IsStopOn}
use Rattle.fs_sched.specs.declared.origin.Origin.{Origin}
use Rattle.fs_sched.specs.declared.schedule.Schedule.TheVariants.{Given}
use Rattle.fs_sched_shrink.specs.declared.room.Unshrunk.{Unshrunk}
use Rattle.fs_sched_shrink.specs.declared.room.Unshrunk.TheVariants as unshrunk

-- its own run from there stops; or what stays is too long by the end of its last line, which the input need not have
abbrev pub IsUnshrunk : Origin → Script → Unshrunk → Type 0
IsUnshrunk from script (unshrunk.Run fault) = IsStopOn from Given script fault
IsUnshrunk from script unshrunk.TooLong = Unit {0}
