use Rattle.std.proofs.Common.{◌≡◌, ◌≤◌, ◌+◌, ◌*◌, ◌++◌, take, map}
use Rattle.fs_seq_nodes.specs.code.Nodes.{pairs}
use Rattle.fs_names.specs.declared.name_list.TheConstants.{NAME_TEXT}
use Rattle.fs_seq.proofs.queries.push_names.Given as goal

-- the names of the links so far, and there is room for all others
abbrev pub invariant-loop-link : goal.invariant-loop-link
invariant-loop-link l = record {
  names : l.names.names ≡ l.fn.names.names ++ map (λ k. k.0) (pairs (take l.link-index l.links));
  room : l.fn.names.room ≤ l.names.room + l.link-index * NAME_TEXT;
}
