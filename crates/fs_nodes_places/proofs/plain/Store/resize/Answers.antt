use Rattle.fs_nodes_places.specs.Seen.{seen}
use Rattle.fs_nodes_places.proofs.SwapLemmas.{still_file, put_back}
use Rattle.fs_nodes_places.proofs.plain.Store.resize.Goals as goal

pub swap_file-requires-clause-node : goal.swap_file-requires-clause-node
swap_file-requires-clause-node c = still_file (seen c.args.self.now) (seen c.swap_file-content.new.self) c.args.file _ c.swap_file-content.ensures.change

pub returns : goal.returns
returns c = put_back (seen c.args.self.now) (seen c.swap_file-content.new.self) (seen c.swap_file.new.self) c.args.file _ _ c.swap_file-content.ensures.change (rw (c.resize.ensures, c.swap_file-content.ensures.bytes) at c.swap_file.ensures.change)
