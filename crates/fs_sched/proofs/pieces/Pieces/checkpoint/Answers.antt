use Rattle.std.proofs.Common.{[], ◌∷◌, refl, subst}
use Rattle.fs_sched.specs.code.Counts.{AreCounts}
use Rattle.fs_sched.specs.code.Stages.{stage_of}
use Rattle.fs_sched_witness.specs.declared.moments.Moment.TheVariants.{Checkpoint}
use Rattle.fs_sched.proofs.pieces.Pieces.checkpoint.Goals as goal

pub returns-in-Ok-saw-clause-notes : goal.returns-in-Ok-saw-clause-notes
returns-in-Ok-saw-clause-notes g c lists = (Checkpoint c.in-Ok.entries ∷ [], c.in-Ok-saw.ensures.told, refl, (stage_of c.begin_again.new.self, c.in-Ok.ensures.does lists, refl))

pub returns-in-Ok-saw-clause-done : goal.returns-in-Ok-saw-clause-done
returns-in-Ok-saw-clause-done g c lists = record {
  told = c.in-Ok.entries.items;
  came = c.in-Ok.ensures.does lists;
  counted = λ before counted. c.plus-self.ensures before c.in-Ok.entries.items counted (subst (AreCounts c.counts_of.result) c.deref.ensures.value c.counts_of.ensures.exact);
}
