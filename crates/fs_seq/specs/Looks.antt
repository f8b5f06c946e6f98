-- Which calls change nothing.
use Rattle.std.specs.Prelude.{Bool, true, false}
use Rattle.fs_calls.specs.declared.call.Call.{Call}
use Rattle.fs_calls.specs.declared.call.Call.TheVariants.{Mkdir, Mknod, Unlink, Rmdir, Rename, Exchange, Stat, Readdir, ListAfter, Read, Write, Truncate}

-- a call that asks, whatever the tree is: a stat, a readdir, a list or a read
abbrev pub is_look : Call → Bool
is_look (Mkdir p) = false
is_look (Mknod p) = false
is_look (Unlink p) = false
is_look (Rmdir p) = false
is_look (Rename p q) = false
is_look (Exchange p q) = false
is_look (Stat p) = true
is_look (Readdir p) = true
is_look (ListAfter count p after) = true
is_look (Read p off count) = true
is_look (Write p off bytes) = false
is_look (Truncate p size) = false
