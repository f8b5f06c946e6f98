use Rattle.check_observers.proofs.handed.are_shown.Given as goal

abbrev pub ghosts-on_named-N-Named : goal.ghosts-on_named-N-Named
ghosts-on_named-N-Named g a = record { book = a.opened }

abbrev pub ghosts-on_named-N-Ledger : goal.ghosts-on_named-N-Ledger
ghosts-on_named-N-Ledger g a = record { name = a.blank.name; parts = a.blank.parts }
