use Rattle.fs_script.proofs.StartLemmas.{root_row, only_row}
use Rattle.fs_script.proofs.journal.root_rows.Goals as goal

pub returns : goal.returns
returns c = (c.dir_row.result, root_row c.dir_row.result c.new.result.items c.dir_row.ensures c.new.ensures.items, only_row _ _ c.dir_row.result c.in_ok-push.ensures.items c.new-rows.ensures.items)
