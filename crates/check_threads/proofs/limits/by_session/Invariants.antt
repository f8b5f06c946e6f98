use Rattle.check_threads.proofs.limits.by_session.Given as goal

abbrev pub ghosts-on_opened-N-Named : goal.ghosts-on_opened-N-Named
ghosts-on_opened-N-Named g a = record { book = a.opened }

abbrev pub ghosts-on_opened-N-Ledger : goal.ghosts-on_opened-N-Ledger
ghosts-on_opened-N-Ledger g a = record { name = a.blank.name; parts = a.blank.parts }
