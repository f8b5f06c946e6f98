use Rattle.check_threads.proofs.again.begin_again.Given as goal

abbrev pub ghosts-go_on-M-Named : goal.ghosts-go_on-M-Named
ghosts-go_on-M-Named g a = record { book = a.opened }

abbrev pub ghosts-go_on-M-Ledger : goal.ghosts-go_on-M-Ledger
ghosts-go_on-M-Ledger g a = record { name = a.blank.name; parts = a.blank.parts }
