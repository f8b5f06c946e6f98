use Rattle.check_threads.proofs.again.are_lawful_of.Given as goal

abbrev pub ghosts-play_on-N-Named : goal.ghosts-play_on-N-Named
ghosts-play_on-N-Named g a = record { book = a.opened }

abbrev pub ghosts-play_on-N-Ledger : goal.ghosts-play_on-N-Ledger
ghosts-play_on-N-Ledger g a = record { name = a.blank.name; parts = a.blank.parts }
