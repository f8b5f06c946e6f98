-- Lemmas on replies and effects.
use Rattle.std.proofs.Common.{◌≡◌, Option, Some, None, refl}
use Rattle.fs_names.specs.declared.limits.Limits.{Limits}
use Rattle.fs_calls.specs.Tree.{Tree}
use Rattle.fs_calls.specs.Laws.{ErrorsChangeNothing}
use Rattle.fs_calls.specs.Outcomes.{fault, reply, after, success, change, replied, if_sound}
use Rattle.fs_calls.specs.declared.call.Call.{Call}
use Rattle.fs_calls.specs.declared.call.Call.TheVariants.{Mkdir, Mknod, Unlink, Rmdir, Rename, Exchange, Stat, Readdir, ListAfter, Read, Write, Truncate}
use Rattle.fs_calls.specs.declared.reply.Reply.TheVariants.{Failed}
use Rattle.fs_calls.specs.declared.errno.Errno.{Errno}

-- a call without an error that answers one all the same changes nothing: only a stat could
success_changes_nothing : (limits : Limits) (t : Tree) (call : Call) (e : Errno) → success limits t call ≡ Failed e → change limits t call ≡ t
success_changes_nothing limits t (Mkdir p) e h = absurd (cc)
success_changes_nothing limits t (Mknod p) e h = absurd (cc)
success_changes_nothing limits t (Unlink p) e h = absurd (cc)
success_changes_nothing limits t (Rmdir p) e h = absurd (cc)
success_changes_nothing limits t (Rename p q) e h = absurd (cc)
success_changes_nothing limits t (Exchange p q) e h = absurd (cc)
success_changes_nothing limits t (Stat p) e h = refl
success_changes_nothing limits t (Readdir p) e h = refl
success_changes_nothing limits t (ListAfter count p after) e h = refl
success_changes_nothing limits t (Read p off count) e h = refl
success_changes_nothing limits t (Write p off bytes) e h = absurd (cc)
success_changes_nothing limits t (Truncate p size) e h = absurd (cc)

by_fault : (limits : Limits) (found : Option Errno) (t : Tree) (call : Call) (e : Errno) → replied found (success limits t call) ≡ Failed e → if_sound found t (change limits t call) ≡ t
by_fault limits None t call e h = success_changes_nothing limits t call e h
by_fault limits (Some f) t call e h = refl

pub errors_change_nothing : ErrorsChangeNothing
unfolding reply after
errors_change_nothing limits t call e h = by_fault limits (fault limits t call) t call e h
