use Rattle.std.proofs.Common.{◌≡◌, ◌≤◌, take}
use Rattle.std.specs.Prelude.{vec_capacity}
use Rattle.fs_seq_nodes.specs.declared.piece.TheConstants.{MOST}
use Rattle.fs_seq_nodes.proofs.piece.PieceClone.clone.Given as goal

-- the entries so far, with room for all
abbrev pub invariant-loop-link : goal.invariant-loop-link
invariant-loop-link l = record {
  links : l.links.items ≡ take l.link-index l.self;
  room : MOST ≤ vec_capacity l.links;
}
