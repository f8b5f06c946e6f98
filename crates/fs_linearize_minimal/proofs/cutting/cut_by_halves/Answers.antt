use Rattle.fs_linearize_minimal.proofs.PartLemmas.{itself, part_of_part}
use Rattle.fs_linearize_minimal.proofs.cutting.cut_by_halves.Goals as goal

pub halves-init : goal.halves-init
halves-init g c = record { part = itself c.args.entries.now.items; refuted = λ known. known }

pub halves-preserved : goal.halves-preserved
halves-preserved g c = record {
  part = part_of_part c.cut_pieces.new.entries.items c.halves.entries.items c.args.entries.now.items c.in_ok-cut_pieces.ensures.part c.halves.invariant.part;
  refuted = λ known. c.in_ok-cut_pieces.ensures.refuted (c.halves.invariant.refuted known);
}
