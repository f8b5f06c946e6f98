use Rattle.std.proofs.Common.{Option, sym, ap, ◌∙◌}
use Rattle.fs_calls.specs.code.Seen.{sight}
use Rattle.fs_seq_nodes.specs.code.Slots.{Place, shape_of}
use Rattle.fs_seq_nodes.proofs.NodeLemmas.{place_got}
use Rattle.fs_seq_nodes.proofs.nodes.sight_of.Goals as goal

pub returns : goal.returns
returns c = c.sight.ensures ∙ ap (λ (o : Option Place). sight (shape_of o)) (sym (place_got c.args.nodes.now c.args.node _ c.index.ensures))
