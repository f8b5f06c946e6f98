use Rattle.fs_linearize_minimal.proofs.PartLemmas.{itself, part_of_part}
use Rattle.fs_linearize_minimal.proofs.cutting.cut_ones.Goals as goal

pub passes-init : goal.passes-init
passes-init g c = record { part = itself c.args.entries.now.items; refuted = λ known. known }

pub passes-preserved : goal.passes-preserved
passes-preserved g c = record {
  part = part_of_part c.cut_each.new.entries.items c.passes.entries.items c.args.entries.now.items c.in_ok-cut_each.ensures.part c.passes.invariant.part;
  refuted = λ known. c.in_ok-cut_each.ensures.refuted (c.passes.invariant.refuted known);
}

pub returns-then-not-branch-clause-part : goal.returns-then-not-branch-clause-part
returns-then-not-branch-clause-part g c = part_of_part c.cut_each.new.entries.items c.passes.entries.items c.args.entries.now.items c.in_ok-cut_each.ensures.part c.passes.invariant.part
