-- The code's targets as forms.
use Rattle.fs_names.specs.Limits.{entry_limit, file_limit, read_limit}
use Rattle.fs_names.specs.declared.limits.Limits.{Limits}
use Rattle.fs_calls.specs.Forms.{Form, AtNode, AtEntry, AtPair}
use Rattle.fs_calls.specs.Forms as forms
use Rattle.fs_calls.specs.declared.target.EntryCall.{EntryCall}
use Rattle.fs_calls.specs.declared.target.EntryCall.TheVariants.{Mkdir, Mknod, Unlink, Rmdir}
use Rattle.fs_calls.specs.declared.target.PairCall.{PairCall}
use Rattle.fs_calls.specs.declared.target.PairCall.TheVariants.{Rename, Exchange}
use Rattle.fs_calls.specs.declared.target.NodeCall.{NodeCall}
use Rattle.fs_calls.specs.declared.target.NodeCall.TheVariants.{Stat, Readdir, ListAfter, Read, Write, Truncate}
use Rattle.fs_calls.specs.declared.target.Target.{Target}
use Rattle.fs_calls.specs.declared.target.Target.TheVariants.{Node, Entry, Pair}

-- a call on a node by these limits, with its bytes as a list
abbrev pub node_call : Limits → NodeCall → forms.NodeCall
node_call limits Stat = forms.Stat
node_call limits Readdir = forms.Readdir
node_call limits (ListAfter after count) = forms.ListAfter after.now count
node_call limits (Read off count) = forms.Read (read_limit limits) off count
node_call limits (Write off bytes) = forms.Write (file_limit limits) off bytes.now
node_call limits (Truncate size) = forms.Truncate (file_limit limits) size

-- a call on an entry by these limits
abbrev pub entry_call : Limits → EntryCall → forms.EntryCall
entry_call limits Mkdir = forms.Mkdir (entry_limit limits)
entry_call limits Mknod = forms.Mknod (entry_limit limits)
entry_call limits Unlink = forms.Unlink
entry_call limits Rmdir = forms.Rmdir

-- a call on two entries by these limits
abbrev pub pair_call : Limits → PairCall → forms.PairCall
pair_call limits Rename = forms.Rename (entry_limit limits)
pair_call limits Exchange = forms.Exchange

-- the form that a target is by these limits
abbrev pub form_of : Limits → Target → Form
form_of limits (Node c p) = AtNode (node_call limits c) p.now
form_of limits (Entry c p) = AtEntry (entry_call limits c) p.now
form_of limits (Pair c p q) = AtPair (pair_call limits c) p.now q.now
