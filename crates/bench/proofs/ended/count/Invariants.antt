use Rattle.bench.proofs.ended.count.Given as goal

abbrev pub ghosts-runs_on_named-N-Named : goal.ghosts-runs_on_named-N-Named
ghosts-runs_on_named-N-Named g a = record { book = a.opened }

abbrev pub ghosts-runs_on_named-N-Ledger : goal.ghosts-runs_on_named-N-Ledger
ghosts-runs_on_named-N-Ledger g a = record { name = a.blank.name; parts = a.blank.parts }
