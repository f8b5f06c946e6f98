use Rattle.fs_seq_nodes.specs.code.Nodes.{graph}
use Rattle.fs_seq_nodes.specs.code.Slots.{links_at}
use Rattle.fs_seq_nodes.proofs.NodeLemmas.{has_key}
use Rattle.fs_seq_nodes.proofs.SlabLemmas.{sets_slot}
use Rattle.fs_seq.proofs.Exchanged.{has_name, still_dir, still_within}
use Rattle.fs_seq.proofs.Rewiring.{still_placed}
use Rattle.fs_seq.proofs.rename.displace.Goals as goal

pub remove_link-requires-clause-directory : goal.remove_link-requires-clause-directory
remove_link-requires-clause-directory c =
    let g = graph c.args.nodes.now in
    let named = has_name (links_at g c.args.victim.dir) c.args.victim.place c.requires.victim_place in
    still_dir g (graph c.lead.new.nodes) c.args.victim.dir c.args.victim.place (named.0, c.args.entry.node) c.args.entry.dir (c.lead.ensures named.0 named.1) c.requires.dir

pub remove_link-requires-clause-within : goal.remove_link-requires-clause-within
remove_link-requires-clause-within c =
    let g = graph c.args.nodes.now in
    let named = has_name (links_at g c.args.victim.dir) c.args.victim.place c.requires.victim_place in
    still_within g (graph c.lead.new.nodes) c.args.victim.dir c.args.victim.place (named.0, c.args.entry.node) c.args.entry.dir c.args.entry.place (c.lead.ensures named.0 named.1) c.requires.place

pub remove-requires : goal.remove-requires
remove-requires c =
    let named = has_name (links_at (graph c.args.nodes.now) c.args.victim.dir) c.args.victim.place c.requires.victim_place in
    has_key c.remove_link.new.nodes c.args.victim.node
    (still_placed _ _ _ _ c.args.victim.node c.remove_link.ensures (still_placed _ _ _ _ c.args.victim.node (c.lead.ensures named.0 named.1) c.requires.victim_node))

pub returns : goal.returns
returns c x named = record {
  between = graph c.lead.new.nodes;
  unlinked = graph c.remove_link.new.nodes;
  leading = c.lead.ensures x named;
  unlinking = c.remove_link.ensures;
  removing = sets_slot c.remove_link.new.nodes c.remove.new.self c.args.victim.node _ c.remove.ensures.updates;
}
