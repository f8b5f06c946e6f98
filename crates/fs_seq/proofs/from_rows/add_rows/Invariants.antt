use Rattle.std.proofs.Common.{◌≡◌, ◌+◌, map, take, drop}
use Rattle.fs_seq.specs.Rows.{row_of, misfit_from, misfit}
use Rattle.fs_seq_nodes.specs.code.Nodes.{graph}
use Rattle.fs_seq_nodes.specs.code.Slots.{tree_of, IsForest, KeepsForm}
use Rattle.fs_seq.proofs.from_rows.add_rows.Given as goal

-- the rows so far fit and are the tree, and the others decide
abbrev pub invariant-loop-i : goal.invariant-loop-i
invariant-loop-i l = record {
  forest : IsForest (graph l.nodes);
  form : KeepsForm l.limits (graph l.fn.nodes) (graph l.nodes);
  tree : tree_of (graph l.nodes) ≡ map row_of (take l.i l.rows);
  rest : misfit_from l.limits (map row_of (take l.i l.rows)) (l.i + 1) (drop l.i l.rows) ≡ misfit l.limits l.rows;
}
