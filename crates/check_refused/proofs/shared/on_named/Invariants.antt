use Rattle.check_refused.proofs.shared.on_named.Given as goal

abbrev pub ghosts-begin_again-M-Named : goal.ghosts-begin_again-M-Named
ghosts-begin_again-M-Named g a = record { book = a.opened }

abbrev pub ghosts-begin_again-M-Ledger : goal.ghosts-begin_again-M-Ledger
ghosts-begin_again-M-Ledger g a = record { name = a.blank.name; parts = a.blank.parts }

abbrev pub ghosts-begin_again-L-Named : goal.ghosts-begin_again-L-Named
ghosts-begin_again-L-Named g a = record { book = a.other }

abbrev pub ghosts-begin_again-L-Ledger : goal.ghosts-begin_again-L-Ledger
ghosts-begin_again-L-Ledger g a = record { name = a.blank.name; parts = a.blank.parts }
