use Rattle.std.proofs.Common.{◌≡◌, ◌++◌}
use Rattle.fs_nodes.specs.Seen.{seen}
use Rattle.fs_nodes.specs.Stores.{child}
use Rattle.fs_script.specs.code.Walks.{forest_of, Leads, IsLast, text_at, pending_at, at_root, left}
use Rattle.fs_script.proofs.tree.push_nodes.Given as goal

abbrev pub invariant-steps : goal.invariant-steps
invariant-steps l = record {
  leads : Leads (forest_of (seen l.store)) 0 l.walk.above l.walk.dir;
  last : IsLast (child l.store) l.walk.dir l.walk.low l.walk.last;
  text : l.line.added ++ text_at (forest_of (seen l.store)) (pending_at (forest_of (seen l.store)) l.walk) ≡ l.fn.line.added ++ text_at (forest_of (seen l.store)) (pending_at (forest_of (seen l.store)) at_root);
  before : l.line.before ≡ l.fn.line.before;
}

abbrev pub decreases-steps : goal.decreases-steps
decreases-steps l = left (forest_of (seen l.store)) l.walk
