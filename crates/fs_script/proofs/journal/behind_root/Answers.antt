use Rattle.fs_script.proofs.StartLemmas.{numbered}
use Rattle.fs_script.proofs.journal.behind_root.Goals as goal

pub tree_of-requires : goal.tree_of-requires
tree_of-requires c = rw (c.deref.ensures.value, c.deref-2.ensures.value) (numbered c.args.limits _ _ _ _ _ c.in-Ok.ensures c.in-Ok-take_rows.ensures)
