-- Where calls begin.
use Rattle.fs_names.specs.declared.limits.Limits.{Limits}
use Rattle.fs_calls.specs.Tree.{Tree, root_tree}

-- what a timeline begins at: the limits that hold from there on, and the tree before the first call
pub record Start : Type 0 where
  pub limits : Limits
  pub tree : Tree

-- the tree before the first call
abbrev pub start_tree : Start → Tree
start_tree start = start.tree

-- the root alone
abbrev pub root_start : Limits → Start
root_start limits = record { limits = limits; tree = root_tree }
