-- What stands at a path, as it is kept and as it is asked for.
use Rattle.std.specs.Prelude.{◌≡◌, ℕ, List, [], length, Option, Some, None}
use Rattle.fs_names.specs.Keys.{Key}
use Rattle.fs_names.specs.declared.kind.Kind.{Kind}
use Rattle.fs_names.specs.declared.kind.Kind.TheVariants as kind
use Rattle.fs_calls.specs.Tree as tree
use Rattle.fs_calls.specs.Tree.{Tree, look}
use Rattle.fs_calls.specs.declared.reply.Reply.{Reply}
use Rattle.fs_calls.specs.declared.reply.Reply.TheVariants as answer
use Rattle.fs_trace_replay.specs.declared.changes.Sight.{Sight}
use Rattle.fs_trace_replay.specs.declared.changes.Sight.TheVariants.{Nothing, Dir, File}

-- the node that is kept so
abbrev pub node_in : Sight → Option tree.Node
node_in Nothing = None
node_in Dir = Some tree.Dir
node_in (File bytes) = Some (tree.File bytes)

-- the kind and the size that a stat replies
abbrev pub kind_in : Reply → Option (Kind × ℕ)
kind_in answer.Done = None
kind_in (answer.Stat k n) = Some (k, n)
kind_in (answer.Names names) = None
kind_in (answer.Bytes bytes) = None
kind_in (answer.Wrote n) = None
kind_in (answer.Failed e) = None

-- the bytes that a read replies
abbrev pub bytes_in : Reply → List ℕ
bytes_in answer.Done = []
bytes_in (answer.Stat k n) = []
bytes_in (answer.Names names) = []
bytes_in (answer.Bytes bytes) = bytes
bytes_in (answer.Wrote n) = []
bytes_in (answer.Failed e) = []

-- what stands at a key has this kind and, where it is a file, this size
abbrev pub StandsAs : Tree → Key → Kind → ℕ → Type 0
StandsAs t p kind.Dir n = look t p ≡ Some tree.Dir
StandsAs t p kind.File n = (bytes : List ℕ) × (look t p ≡ Some (tree.File bytes)) × (length bytes ≡ n)

abbrev pub StandsAt : Tree → Key → Option (Kind × ℕ) → Type 0
StandsAt t p None = look t p ≡ None
StandsAt t p (Some there) = StandsAs t p there.0 there.1
