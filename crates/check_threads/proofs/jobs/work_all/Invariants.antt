use Rattle.check_threads.proofs.jobs.work_all.Given as goal

abbrev pub ghosts-work-N-Named : goal.ghosts-work-N-Named
ghosts-work-N-Named g a = record { book = a.opened }

abbrev pub ghosts-work-N-Ledger : goal.ghosts-work-N-Ledger
ghosts-work-N-Ledger g a = record { name = a.blank.name; parts = a.blank.parts }
