use Rattle.fs_share.proofs.lists.run_lists_with.Given as goal

abbrev pub ghosts-run_named-N-Named : goal.ghosts-run_named-N-Named
ghosts-run_named-N-Named g a = record { book = a.opened }

abbrev pub ghosts-run_named-N-Ledger : goal.ghosts-run_named-N-Ledger
ghosts-run_named-N-Ledger g a = record { name = a.blank.name; parts = a.blank.parts }
