-- What a rename has to do.
use Rattle.std.specs.Prelude.{◌≡◌, ◌≢◌, ℕ, insert, remove, slice_set, Some, None, Result, Ok, Err}
use Rattle.fs_names.specs.Names.{Name}
use Rattle.fs_names.specs.Keys.{Key}
use Rattle.fs_names.specs.declared.limits.Limits.{Limits}
use Rattle.fs_seq_nodes.specs.code.Slots.{Slots, Dir, links_at, tree_of, Sets}
use Rattle.fs_seq_nodes.specs.code.Nodes.{IsFree, IsAt}
use Rattle.fs_seq.specs.code.Effects.{HasFaultBy}
use Rattle.fs_calls.specs.declared.call.Call.TheVariants.{Rename}
use Rattle.fs_calls.specs.declared.errno.Errno.{Errno}
use Rattle.fs_seq_nodes.specs.declared.nodes.Entry.{Entry}
use Rattle.fs_seq.specs.declared.rename.Plan.{Plan}
use Rattle.fs_seq.specs.declared.rename.Plan.TheVariants.{Stay, Onto, Within, Across}

-- a rename without an error, of one path to another
pub record Moves (limits : Limits) (g : Slots) (p q : Key) : Type 0 where
  pub allowed : HasFaultBy limits (tree_of g) (Rename p q) None
  pub differ : p ≢ q

-- nothing to do, an entry onto another, an entry of a new name in its directory, or an entry to another directory; or the first error
abbrev pub Plans : Limits → Slots → Key → Key → Result Plan Errno → Type 0
Plans limits g p q (Ok Stay) = HasFaultBy limits (tree_of g) (Rename p q) None × (p ≡ q)
Plans limits g p q (Ok (Onto entry victim)) = Moves limits g p q × IsAt g p entry × IsAt g q victim
Plans limits g p q (Ok (Within entry)) = Moves limits g p q × IsAt g p entry × ((i entries : ℕ) × IsFree g q entry.dir i entries)
Plans limits g p q (Ok (Across entry dir i)) = Moves limits g p q × IsAt g p entry × ((entries : ℕ) × IsFree g q dir i entries) × (entry.dir ≢ dir)
Plans limits g p q (Err e) = HasFaultBy limits (tree_of g) (Rename p q) (Some e)

-- an entry is led to the node of another one, which is taken out, and its own node is removed
pub record Displaces (g g' : Slots) (entry victim : Entry) (x : Name) : Type 0 where
  pub between : Slots
  pub unlinked : Slots
  pub leading : Sets g between victim.dir (Some (Dir (slice_set (links_at g victim.dir) victim.place (x, entry.node))))
  pub unlinking : Sets between unlinked entry.dir (Some (Dir (remove (links_at between entry.dir) entry.place)))
  pub removing : Sets unlinked g' victim.node None

-- an entry is put into another directory at a place, and the old one is taken out
pub record Transfers (g g' : Slots) (entry : Entry) (dir i : ℕ) (x : Name) : Type 0 where
  pub between : Slots
  pub linking : Sets g between dir (Some (Dir (insert (links_at g dir) i (x, entry.node))))
  pub unlinking : Sets between g' entry.dir (Some (Dir (remove (links_at between entry.dir) entry.place)))
