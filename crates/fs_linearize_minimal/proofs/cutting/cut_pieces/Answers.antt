use Rattle.fs_linearize_minimal.proofs.PartLemmas.{itself, part_of_part}
use Rattle.fs_linearize_minimal.proofs.cutting.cut_pieces.Goals as goal

pub pieces-init : goal.pieces-init
pieces-init g c = record { part = itself c.args.entries.now.items; refuted = λ known. known }

pub pieces-preserved : goal.pieces-preserved
pieces-preserved g c = record {
  part = part_of_part c.cut.new.entries.items c.pieces.entries.items c.args.entries.now.items c.in_ok-cut.ensures.part c.pieces.invariant.part;
  refuted = λ known. c.in_ok-cut.ensures.refuted (c.pieces.invariant.refuted known);
}
