use Rattle.fs_share.proofs.inside.with_tree.Given as goal

abbrev pub ghosts-inside_named-N-Named : goal.ghosts-inside_named-N-Named
ghosts-inside_named-N-Named g a = record { book = a.opened }

abbrev pub ghosts-inside_named-N-Ledger : goal.ghosts-inside_named-N-Ledger
ghosts-inside_named-N-Ledger g a = record { name = a.blank.name; parts = a.blank.parts }
