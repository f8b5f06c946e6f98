-- What an exchange finds and does.
use Rattle.std.specs.Prelude.{◌≡◌, ℕ, slice_get, slice_set, Some, None, Result, Ok, Err}
use Rattle.fs_names.specs.Names.{Name}
use Rattle.fs_names.specs.Keys.{Key}
use Rattle.fs_calls.specs.declared.call.Call.TheVariants.{Exchange}
use Rattle.fs_calls.specs.declared.errno.Errno.{Errno}
use Rattle.fs_seq_nodes.specs.declared.nodes.Entry.{Entry}
use Rattle.fs_seq_nodes.specs.code.Slots.{Slots, Dir, links_at, tree_of, Sets}
use Rattle.fs_seq_nodes.specs.code.Nodes.{name_of, IsAt}
use Rattle.fs_seq.specs.code.Effects.{HasFault}

-- the entries at both paths of an exchange without an error; or the first error
abbrev pub FindsBoth : Slots → Key → Key → Result (Entry × Entry) Errno → Type 0
FindsBoth g p q (Ok both) = HasFault (tree_of g) (Exchange p q) None × IsAt g p both.0 × IsAt g q both.1
FindsBoth g p q (Err e) = HasFault (tree_of g) (Exchange p q) (Some e)

-- the entry at a place of a directory leads to another number under its name
abbrev pub Leads : Slots → Slots → ℕ → ℕ → ℕ → Type 0
Leads g g' dir i n = (x : Name) → name_of (slice_get (links_at g dir) i) ≡ Some x → Sets g g' dir (Some (Dir (slice_set (links_at g dir) i (x, n))))

-- two entries lead to one another's numbers
pub record Swaps (g g' : Slots) (one two : Entry) : Type 0 where
  pub between : Slots
  pub first : Leads g between one.dir one.place two.node
  pub second : Leads between g' two.dir two.place one.node
