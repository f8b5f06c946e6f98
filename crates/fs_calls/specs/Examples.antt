-- Worked examples of calls on a tree: each call with its reply, from the root alone, by the first limits but where others are named, and where it tells more the tree at the end.
use Rattle.std.specs.Prelude.{◌≡◌, ℕ, suc, zero, ◌+◌, ◌/◌, ◌%◌, List, [], ◌∷◌, ◌++◌, map, codes}
use Prim.Native.String.{String}
use Rattle.fs_names.specs.Keys.{Key}
use Rattle.fs_names.specs.Reading.{names}
use Rattle.fs_names.specs.declared.kind.Kind.TheVariants as kind
use Rattle.fs_names.specs.declared.limits.Limits.{Limits}
use Rattle.fs_names.specs.declared.limits.Limits.TheVariants.{V1, V2, V3}
use Rattle.fs_calls.specs.declared.call.Call.{Call}
use Rattle.fs_calls.specs.declared.call.Call.TheVariants.{Mkdir, Mknod, Unlink, Rmdir, Rename, Exchange, Stat, Readdir, ListAfter, Read, Write, Truncate}
use Rattle.fs_calls.specs.declared.reply.Reply.{Reply}
use Rattle.fs_calls.specs.declared.reply.Reply.TheVariants as answer
use Rattle.fs_calls.specs.declared.reply.Reply.TheVariants.{Done, Names, Bytes, Wrote, Failed}
use Rattle.fs_calls.specs.declared.errno.Errno.TheVariants.{Enoent, Enotdir, Eexist, Enotempty, Eisdir, Einval, Ebusy, Eperm, Enospc, Efbig, Eoverflow}
use Rattle.fs_calls.specs.Tree.{Tree, Dir, File}
use Rattle.fs_calls.specs.Starts.{root_start}
use Rattle.fs_calls.specs.Outcomes.{play, replies}

-- calls with their replies, in order, by some limits
abbrev pub AnsweredBy : Limits → List (Call × Reply) → Type 0
AnsweredBy limits steps = replies (root_start limits) (map (λ s. s.0) steps) ≡ map (λ s. s.1) steps

-- and by the first
abbrev pub Answered : List (Call × Reply) → Type 0
Answered steps = AnsweredBy V1 steps

abbrev pub tree_after : List (Call × Reply) → Tree
tree_after steps = play (root_start V1) (map (λ s. s.0) steps)

abbrev pub at : String → Key
at text = names (codes text)

abbrev pub RootCalls : Type 0
RootCalls = Answered
    ((Mkdir [], Failed Eexist)
    ∷ (Mknod [], Failed Eexist)
    ∷ (Rmdir [], Failed Ebusy)
    ∷ (Unlink [], Failed Eperm)
    ∷ (Rename [] (at "/x"), Failed Ebusy)
    ∷ (Rename (at "/x") [], Failed Ebusy)
    ∷ (Stat [], answer.Stat kind.Dir 0)
    ∷ (Readdir [], Names [])
    ∷ (Read [] 0 1, Failed Eisdir)
    ∷ (Write [] 65536 (0 ∷ []), Failed Eisdir)
    ∷ (Truncate [] 65537, Failed Eisdir)
    ∷ [])

abbrev pub ResolutionErrors : Type 0
ResolutionErrors = Answered
    ((Mkdir (at "/x/y"), Failed Enoent)
    ∷ (Mknod (at "/a"), Done)
    ∷ (Mkdir (at "/a/b"), Failed Enotdir)
    ∷ (Stat (at "/a/b/c"), Failed Enotdir)
    ∷ (Mkdir (at "/a"), Failed Eexist)
    ∷ (Readdir (at "/a"), Failed Enotdir)
    ∷ (Mkdir (at "/d"), Done)
    ∷ (Read (at "/d") 0 1, Failed Eisdir)
    ∷ (Unlink (at "/d"), Failed Eperm)
    ∷ (Rmdir (at "/a"), Failed Enotdir)
    ∷ (Readdir [], Names (codes "a" ∷ codes "d" ∷ []))
    ∷ (Stat [], answer.Stat kind.Dir 2)
    ∷ [])

abbrev pub FileBytes : Type 0
FileBytes = Answered
    ((Mknod (at "/f"), Done)
    ∷ (Write (at "/f") 65535 (255 ∷ []), Wrote 1)
    ∷ (Stat (at "/f"), answer.Stat kind.File 65536)
    ∷ (Write (at "/f") 65536 (0 ∷ []), Failed Efbig)
    ∷ (Stat (at "/f"), answer.Stat kind.File 65536)
    ∷ (Mknod (at "/g"), Done)
    ∷ (Write (at "/g") 9 [], Wrote 0)
    ∷ (Stat (at "/g"), answer.Stat kind.File 0)
    ∷ (Write (at "/g") 3 (255 ∷ []), Wrote 1)
    ∷ (Read (at "/g") 0 10, Bytes (0 ∷ 0 ∷ 0 ∷ 255 ∷ []))
    ∷ (Read (at "/g") 4 1, Bytes [])
    ∷ (Truncate (at "/g") 6, Done)
    ∷ (Read (at "/g") 2 99, Bytes (0 ∷ 255 ∷ 0 ∷ 0 ∷ []))
    ∷ (Truncate (at "/g") 65537, Failed Efbig)
    ∷ [])

abbrev pub FileOffsets : Type 0
FileOffsets = Answered
    ((Mknod (at "/g"), Done)
    ∷ (Write (at "/g") 0 (0x00 ∷ 0x11 ∷ 0x22 ∷ 0x33 ∷ []), Wrote 4)
    ∷ (Write (at "/g") 1 (0xff ∷ []), Wrote 1)
    ∷ (Read (at "/g") 0 9, Bytes (0x00 ∷ 0xff ∷ 0x22 ∷ 0x33 ∷ []))
    ∷ (Write (at "/g") 18446744073709551615 (0xff ∷ []), Failed Efbig)
    ∷ (Write (at "/g") 18446744073709551615 [], Wrote 0)
    ∷ (Read (at "/g") 18446744073709551615 18446744073709551615, Bytes [])
    ∷ (Truncate (at "/g") 2, Done)
    ∷ (Read (at "/g") 0 9, Bytes (0x00 ∷ 0xff ∷ []))
    ∷ [])

abbrev pub renames : List (Call × Reply)
renames =
    (Mkdir (at "/a"), Done)
    ∷ (Mknod (at "/a/b"), Done)
    ∷ (Rename (at "/a") (at "/a"), Done)
    ∷ (Rename (at "/a") (at "/a/b"), Failed Einval)
    ∷ (Rename (at "/z") (at "/z/y"), Failed Einval)
    ∷ (Rename (at "/z") (at "/z"), Failed Enoent)
    ∷ (Rename (at "/a/b") (at "/a"), Failed Eisdir)
    ∷ (Mkdir (at "/a/d"), Done)
    ∷ (Rename (at "/a/d") (at "/a"), Failed Enotempty)
    ∷ (Mknod (at "/f"), Done)
    ∷ (Rename (at "/a") (at "/f"), Failed Enotdir)
    ∷ (Rename (at "/f") (at "/a"), Failed Eisdir)
    ∷ (Mkdir (at "/e"), Done)
    ∷ (Rename (at "/e") (at "/a"), Failed Enotempty)
    ∷ (Rename (at "/a") (at "/e"), Done)
    ∷ []

pub record RenamesInSequence : Type 0 where
  pub answers : Answered renames
  pub tree : tree_after renames
      ≡ ([], Dir)
      ∷ (at "/e", Dir)
      ∷ (at "/e/b", File [])
      ∷ (at "/e/d", Dir)
      ∷ (at "/f", File [])
      ∷ []

abbrev pub RenamesOntoAncestors : Type 0
RenamesOntoAncestors = Answered
    ((Mkdir (at "/a"), Done)
    ∷ (Mkdir (at "/a/b"), Done)
    ∷ (Rename (at "/a/b/x") (at "/a"), Failed Enoent)
    ∷ (Rename (at "/a/b/x") (at "/a/b"), Failed Enoent)
    ∷ (Rename (at "/a/b") (at "/a"), Failed Enotempty)
    ∷ (Rename (at "/z/x") (at "/z"), Failed Enoent)
    ∷ [])

-- exchanges one after another: of directories, of what is missing, of the root, of a path and one below it, of a file and a directory
abbrev pub exchanges : List (Call × Reply)
exchanges =
    (Mkdir (at "/a"), Done)
    ∷ (Mknod (at "/a/f"), Done)
    ∷ (Mkdir (at "/b"), Done)
    ∷ (Exchange (at "/a") (at "/b"), Done)
    ∷ (Exchange (at "/a") (at "/z"), Failed Enoent)
    ∷ (Exchange (at "/z") (at "/z"), Failed Enoent)
    ∷ (Exchange [] (at "/a"), Failed Ebusy)
    ∷ (Exchange (at "/b/f") (at "/b"), Failed Einval)
    ∷ (Exchange (at "/b/f") (at "/a"), Done)
    ∷ (Exchange (at "/a/x") (at "/b/f"), Failed Enotdir)
    ∷ (Exchange (at "/a") (at "/a"), Done)
    ∷ []

pub record ExchangesInSequence : Type 0 where
  pub answers : Answered exchanges
  pub tree : tree_after exchanges ≡ ([], Dir) ∷ (at "/a", File []) ∷ (at "/b", Dir) ∷ (at "/b/f", Dir) ∷ []

-- the tree of two calls that were below what an exchange moved
abbrev pub helped_over : List (Call × Reply)
helped_over =
    (Mkdir (at "/a"), Done)
    ∷ (Mkdir (at "/b"), Done)
    ∷ (Mkdir (at "/a/x"), Done)
    ∷ (Mkdir (at "/b/y"), Done)
    ∷ (Exchange (at "/a") (at "/b"), Done)
    ∷ []

pub record ExchangeOfTwoTrees : Type 0 where
  pub answers : Answered helped_over
  pub tree : tree_after helped_over ≡ ([], Dir) ∷ (at "/a", Dir) ∷ (at "/a/y", Dir) ∷ (at "/b", Dir) ∷ (at "/b/x", Dir) ∷ []

-- the file of a number in /d, by three digits
abbrev pub numbered : ℕ → Key
numbered n = names (codes "/d/" ++ (48 + n / 100) ∷ (48 + n / 10 % 10) ∷ (48 + n % 10) ∷ [])

-- the files of the first numbers, each made in its turn
abbrev pub making_files : ℕ → List (Call × Reply)
making_files zero = []
making_files (suc n) = making_files n ++ (Mknod (numbered n), Done) ∷ []

abbrev pub FullDirectory : Type 0
FullDirectory = Answered
    ((Mkdir (at "/d"), Done)
    ∷ making_files 256
    ++ (Mknod (numbered 256), Failed Enospc)
    ∷ (Rename (numbered 0) (numbered 256), Done)
    ∷ (Mknod (at "/x"), Done)
    ∷ (Rename (at "/x") (at "/d/y"), Failed Enospc)
    ∷ (Rename (at "/x") (numbered 1), Done)
    ∷ (Stat (at "/d"), answer.Stat kind.Dir 256)
    ∷ [])

-- a directory is listed in pieces: from its first name on, behind a name that it has, or where a name would stand
abbrev pub ListsInPieces : Type 0
ListsInPieces = AnsweredBy V3
    ((Mkdir (at "/d"), Done)
    ∷ (ListAfter 2 (at "/d") [], Names [])
    ∷ (Mknod (at "/d/b"), Done)
    ∷ (Mknod (at "/d/c"), Done)
    ∷ (Mkdir (at "/d/a"), Done)
    ∷ (ListAfter 2 (at "/d") [], Names (codes "a" ∷ codes "b" ∷ []))
    ∷ (ListAfter 2 (at "/d") (at "/d/b"), Names (codes "c" ∷ []))
    ∷ (ListAfter 2 (at "/d") (at "/d/c"), Names [])
    ∷ (ListAfter 9 (at "/d") (at "/x/aa"), Names (codes "b" ∷ codes "c" ∷ []))
    ∷ (ListAfter 0 (at "/d") [], Names [])
    ∷ (ListAfter 1 [] [], Names (codes "d" ∷ []))
    ∷ (ListAfter 1 (at "/d/b") [], Failed Enotdir)
    ∷ (ListAfter 1 (at "/d/z") [], Failed Enoent)
    ∷ [])

-- by the third limits a directory has more names than a reply: it is listed, and its names are not read at once
abbrev pub CrowdedDirectory : Type 0
CrowdedDirectory = AnsweredBy V3
    ((Mkdir (at "/d"), Done)
    ∷ making_files 257
    ++ (Readdir (at "/d"), Failed Eoverflow)
    ∷ (ListAfter 3 (at "/d") (numbered 254), Names (codes "255" ∷ codes "256" ∷ []))
    ∷ (Stat (at "/d"), answer.Stat kind.Dir 257)
    ∷ (Unlink (numbered 256), Done)
    ∷ (ListAfter 3 (at "/d") (numbered 254), Names (codes "255" ∷ []))
    ∷ [])

-- files have more bytes by the second limits than by the first, and more still by the third
abbrev pub SecondLimits : Type 0
SecondLimits = AnsweredBy V2
    ((Mknod (at "/f"), Done)
    ∷ (Write (at "/f") 65536 (255 ∷ []), Wrote 1)
    ∷ (Stat (at "/f"), answer.Stat kind.File 65537)
    ∷ (Write (at "/f") 1048576 (0 ∷ []), Failed Efbig)
    ∷ (Truncate (at "/f") 1048577, Failed Efbig)
    ∷ [])

abbrev pub ThirdLimits : Type 0
ThirdLimits = AnsweredBy V3
    ((Mknod (at "/f"), Done)
    ∷ (Write (at "/f") 65536 (255 ∷ []), Wrote 1)
    ∷ (Write (at "/f") 2147483648 (0 ∷ []), Failed Efbig)
    ∷ (Truncate (at "/f") 2147483649, Failed Efbig)
    ∷ (Stat (at "/f"), answer.Stat kind.File 65537)
    ∷ [])
