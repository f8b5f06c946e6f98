-- What holds of rows: laws, each proved as the contract of a function of the module `row_laws`.
use Rattle.std.specs.Prelude.{◌≡◌, ◌↔◌, ℕ, false, List, map, take, drop, None, IsTrue}
use Rattle.std.specs.List.{list_all}
use Rattle.fs_names.specs.Keys.{Key}
use Rattle.fs_names.specs.Limits.{read_limit}
use Rattle.fs_names.specs.declared.limits.Limits.{Limits}
use Rattle.fs_names.specs.declared.limits.Limits.TheVariants.{V1, V2}
use Rattle.fs_calls.specs.Tree.{Tree}
use Rattle.fs_calls.specs.Forms.{Read}
use Rattle.fs_calls.specs.Rows.{node_reply}
use Rattle.fs_calls.specs.Sights.{tree_shapes, bytes_of, is_crowded}
use Rattle.fs_calls.specs.declared.reply.Reply.TheVariants.{Bytes}
use Rattle.fs_seq.specs.declared.rows.Row.{Row}
use Rattle.fs_seq.specs.Rows.{row_of, is_plain, misfit, IsWithinLimits}

-- rows of which each one fits are the entries of a tree within the limits, and no directory has bytes; and conversely
abbrev pub FittingRowsAreTrees : Type 0
FittingRowsAreTrees = (limits : Limits) (rows : List Row) → (misfit limits rows ≡ None) ↔ (IsWithinLimits limits (map row_of rows) × IsTrue (list_all is_plain rows))

-- on the trees within some limits no directory is crowded, so that EOVERFLOW never comes, and no read is cut: it answers all bytes that were asked for, as far as the file has them
pub record HasPlainReplies (limits : Limits) : Type 0 where
  pub crowded : (t : Tree) (d : Key) → IsWithinLimits limits t → is_crowded (tree_shapes t d) ≡ false
  pub uncut : (t : Tree) (k : Key) (off count : ℕ) → IsWithinLimits limits t → node_reply (Read (read_limit limits) off count) (tree_shapes t k) ≡ Bytes (take count (drop off (bytes_of (tree_shapes t k))))

-- so it is by the first and by the second limits
abbrev pub EarlierRepliesArePlain : Type 0
EarlierRepliesArePlain = HasPlainReplies V1 × HasPlainReplies V2
