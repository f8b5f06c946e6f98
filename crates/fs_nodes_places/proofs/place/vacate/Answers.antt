use Rattle.std.proofs.Common.{sym, ap, get_or}
use Rattle.fs_nodes_places.specs.code.Edits.{vacated}
use Rattle.fs_nodes_places.proofs.EditLemmas.{set_edited}
use Rattle.fs_nodes_places.proofs.place.vacate.Goals as goal

pub returns : goal.returns
returns c = set_edited c.args.node (vacated c.args.next) c.args.places.now c.index-places-node.result (vacated c.args.next (get_or c.args.places.now c.args.node c.index-places-node.result)) c.index-places-node.is (ap (vacated c.args.next) (sym c.index-places-node.is))
