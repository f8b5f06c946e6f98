use Rattle.std.proofs.Common.{List}
use Rattle.fs_linearize_histories.specs.Configurations.{Configuration}
use Rattle.fs_linearize.proofs.FindingLemmas.{Stands}
use Rattle.fs_linearize.proofs.search.search_layers.Given as goal

abbrev pub invariant-loop-place : goal.invariant-loop-place
invariant-loop-place g l = (gone : List Configuration) × Stands l.start l.history l.fn.limit l.place l.calls.items l.links.items l.layer l.most gone
