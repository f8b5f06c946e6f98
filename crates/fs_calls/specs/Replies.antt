-- When two replies are the same.
use Rattle.std.specs.Prelude.{ℕ, Bool, true, false, ◌&&◌, ◌==◌}
use Rattle.fs_names.specs.Names.{same_bytes, same_names}
use Rattle.fs_names.specs.declared.kind.Kind.{Kind}
use Rattle.fs_names.specs.declared.kind.Kind.TheVariants as kind
use Rattle.fs_calls.specs.declared.errno.Errno.{Errno}
use Rattle.fs_calls.specs.declared.errno.Errno.TheVariants.{Enoent, Enotdir, Eexist, Enotempty, Eisdir, Einval, Ebusy, Eperm, Enospc, Efbig, Eoverflow}
use Rattle.fs_calls.specs.declared.reply.Reply.{Reply}
use Rattle.fs_calls.specs.declared.reply.Reply.TheVariants.{Done, Stat, Names, Bytes, Wrote, Failed}

-- whether two kinds are the same
abbrev pub same_kind : Kind → Kind → Bool
same_kind kind.Dir kind.Dir = true
same_kind kind.Dir kind.File = false
same_kind kind.File kind.Dir = false
same_kind kind.File kind.File = true

-- the number of an error
abbrev pub number_of : Errno → ℕ
number_of Enoent = 1
number_of Enotdir = 2
number_of Eexist = 3
number_of Enotempty = 4
number_of Eisdir = 5
number_of Einval = 6
number_of Ebusy = 7
number_of Eperm = 8
number_of Enospc = 9
number_of Efbig = 10
number_of Eoverflow = 11

-- of one form, with the same parts
abbrev pub same_reply : Reply → Reply → Bool
same_reply Done Done = true
same_reply (Stat k n) (Stat l m) = same_kind k l && (n == m)
same_reply (Names xs) (Names ys) = same_names xs ys
same_reply (Bytes xs) (Bytes ys) = same_bytes xs ys
same_reply (Wrote n) (Wrote m) = n == m
same_reply (Failed e) (Failed f) = number_of e == number_of f
same_reply _ _ = false
