use Rattle.fs_seq_nodes.specs.code.Nodes.{graph}
use Rattle.fs_seq_nodes.specs.code.Slots.{links_at}
use Rattle.fs_seq.proofs.Exchanged.{still_dir, still_within, has_name}
use Rattle.fs_seq.proofs.exchange.swap.Goals as goal

pub lead-requires-2-clause-directory : goal.lead-requires-2-clause-directory
lead-requires-2-clause-directory c =
    let g = graph c.args.nodes.now in
    let named = has_name (links_at g c.args.one.dir) c.args.one.place c.requires.place in
    still_dir g (graph c.lead.new.nodes) c.args.one.dir c.args.one.place (named.0, c.args.two.node) c.args.two.dir (c.lead.ensures named.0 named.1) c.requires.other_dir

pub lead-requires-2-clause-within : goal.lead-requires-2-clause-within
lead-requires-2-clause-within c =
    let g = graph c.args.nodes.now in
    let named = has_name (links_at g c.args.one.dir) c.args.one.place c.requires.place in
    still_within g (graph c.lead.new.nodes) c.args.one.dir c.args.one.place (named.0, c.args.two.node) c.args.two.dir c.args.two.place (c.lead.ensures named.0 named.1) c.requires.other_place
