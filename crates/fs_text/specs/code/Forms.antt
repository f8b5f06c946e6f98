-- The forms of calls as the code has them.
use Rattle.fs_names.specs.Keys.{Key}
use Rattle.fs_calls.specs.declared.call.Call.{Call}
use Rattle.fs_calls.specs.declared.call.Call.TheVariants.{Mkdir, Mknod, Unlink, Rmdir, Rename, Exchange, Stat, Readdir, ListAfter, Read, Write, Truncate}
use Rattle.fs_calls.specs.declared.target.PairCall.{PairCall}
use Rattle.fs_calls.specs.declared.target.PairCall.TheVariants as pairs
use Rattle.fs_text.specs.declared.calls.Form.{Form}
use Rattle.fs_text.specs.declared.calls.Form.TheVariants as form
use Rattle.fs_text.specs.declared.calls.OnPath.{OnPath}
use Rattle.fs_text.specs.declared.calls.OnPath.TheVariants as on
use Rattle.fs_text.specs.Calls.{CallForm, one_path, two_paths, paths_and_count, a_number, two_numbers, number_and_bytes}

-- the call on a path
abbrev pub call_on : OnPath → Key → Call
call_on on.Mkdir = Mkdir
call_on on.Mknod = Mknod
call_on on.Unlink = Unlink
call_on on.Rmdir = Rmdir
call_on on.Stat = Stat
call_on on.Readdir = Readdir

-- the call on two paths
abbrev pub call_on_both : PairCall → Key → Key → Call
call_on_both pairs.Rename = Rename
call_on_both pairs.Exchange = Exchange

-- the form of a call that the code's form stands for
abbrev pub form_meant : Form → CallForm
form_meant (form.OnPath call) = one_path (call_on call)
form_meant (form.OnBoth call) = two_paths (call_on_both call)
form_meant form.List = paths_and_count ListAfter
form_meant form.Truncate = a_number Truncate
form_meant form.Read = two_numbers Read
form_meant form.Write = number_and_bytes Write
