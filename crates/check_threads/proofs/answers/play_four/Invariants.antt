use Rattle.check_threads.proofs.answers.play_four.Given as goal

abbrev pub ghosts-on_four_threads-N-Named : goal.ghosts-on_four_threads-N-Named
ghosts-on_four_threads-N-Named g a = record { book = a.opened }

abbrev pub ghosts-on_four_threads-N-Ledger : goal.ghosts-on_four_threads-N-Ledger
ghosts-on_four_threads-N-Ledger g a = record { name = a.blank.name; parts = a.blank.parts }
