-- What an entry must be to be read back: all that an entry of the code always is, with names that keep the limit.
use Rattle.std.specs.Prelude.{ℕ, IsTrue, ◌<◌, ◌≤◌, ◌^◌, List, length}
use Rattle.std.specs.List.{AllByRecursion}
use Rattle.fs_names.specs.Names.{Name, AreBytes, IsName}
use Rattle.fs_names.specs.Keys.{Key}
use Rattle.fs_names.specs.Limits.{name_limit, path_limit, has_list}
use Rattle.fs_names.specs.declared.limits.Limits.{Limits}
use Rattle.fs_calls.specs.declared.call.Call.{Call}
use Rattle.fs_calls.specs.declared.call.Call.TheVariants as call
use Rattle.fs_calls.specs.declared.reply.Reply.{Reply}
use Rattle.fs_calls.specs.declared.reply.Reply.TheVariants as reply
use Rattle.fs_timeline.specs.declared.entry.Entry.{Entry}
use Rattle.fs_timeline.specs.declared.entry.Entry.TheVariants.{Begin, Commit, Return}

-- a name, by these limits
pub record FitsName (limits : Limits) (name : Name) : Type 0 where
  pub is_name : IsName name
  pub short : length name ≤ name_limit limits

-- a path of such names
pub record FitsPath (limits : Limits) (key : Key) : Type 0 where
  pub few : length key ≤ path_limit limits
  pub names : AllByRecursion (FitsName limits) key

-- a number of 64 bits
abbrev pub IsU64 : ℕ → Type 0
IsU64 n = n < 2 ^ 64

-- a number of 32 bits
abbrev pub IsU32 : ℕ → Type 0
IsU32 n = n < 2 ^ 32

-- the paths, numbers and bytes of a call, which these limits have
abbrev pub FitsCall : Limits → Call → Type 0
FitsCall limits (call.Mkdir p) = FitsPath limits p
FitsCall limits (call.Mknod p) = FitsPath limits p
FitsCall limits (call.Unlink p) = FitsPath limits p
FitsCall limits (call.Rmdir p) = FitsPath limits p
FitsCall limits (call.Rename p q) = FitsPath limits p × FitsPath limits q
FitsCall limits (call.Exchange p q) = FitsPath limits p × FitsPath limits q
FitsCall limits (call.Stat p) = FitsPath limits p
FitsCall limits (call.Readdir p) = FitsPath limits p
FitsCall limits (call.ListAfter count p after) = FitsPath limits p × FitsPath limits after × IsU32 count × IsTrue (has_list limits)
FitsCall limits (call.Read p off count) = FitsPath limits p × IsU64 off × IsU64 count
FitsCall limits (call.Write p off bytes) = FitsPath limits p × IsU64 off × AreBytes bytes
FitsCall limits (call.Truncate p size) = FitsPath limits p × IsU64 size

-- the names, numbers and bytes of a reply
abbrev pub FitsReply : Limits → Reply → Type 0
FitsReply limits reply.Done = Unit {0}
FitsReply limits (reply.Stat k size) = IsU64 size
FitsReply limits (reply.Names names) = AllByRecursion (FitsName limits) names
FitsReply limits (reply.Bytes bytes) = AreBytes bytes
FitsReply limits (reply.Wrote size) = IsU64 size
FitsReply limits (reply.Failed e) = Unit {0}

-- the numbers of an entry, its call or its reply
abbrev pub FitsEntry : Limits → Entry → Type 0
FitsEntry limits (Begin c s x) = IsU64 c × IsU64 s × FitsCall limits x
FitsEntry limits (Commit c) = IsU64 c
FitsEntry limits (Return c r) = IsU64 c × FitsReply limits r

-- each entry of a list
abbrev pub AllFit : Limits → List Entry → Type 0
AllFit limits es = AllByRecursion (FitsEntry limits) es
