use Rattle.check_observers.proofs.again.on_named.Given as goal

abbrev pub ghosts-begins_again-M-Named : goal.ghosts-begins_again-M-Named
ghosts-begins_again-M-Named g a = record { book = a.opened }

abbrev pub ghosts-begins_again-M-Ledger : goal.ghosts-begins_again-M-Ledger
ghosts-begins_again-M-Ledger g a = record { name = a.blank.name; parts = a.blank.parts }
