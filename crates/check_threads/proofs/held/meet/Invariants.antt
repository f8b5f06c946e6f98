use Rattle.check_threads.proofs.held.meet.Given as goal

abbrev pub ghosts-meet_named-N-Named : goal.ghosts-meet_named-N-Named
ghosts-meet_named-N-Named g a = record { book = a.opened }

abbrev pub ghosts-meet_named-N-Ledger : goal.ghosts-meet_named-N-Ledger
ghosts-meet_named-N-Ledger g a = record { name = a.blank.name; parts = a.blank.parts }
