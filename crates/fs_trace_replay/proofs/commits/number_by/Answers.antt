use Rattle.std.proofs.Common.{sym, ap, ◌∙◌, [], ◌∷◌, if◌then◌else◌}
use Rattle.fs_trace_replay.specs.Commits.{committed_by}
use Rattle.fs_trace_replay.proofs.CommitLemmas.{has_number}
use Rattle.fs_trace_replay.proofs.commits.number_by.Goals as goal

pub returns-then-has : goal.returns-then-has
returns-then-has c whole are = sym (ap (committed_by whole) c.in-Commit.is ∙ ap (λ b. if b then c.in-Commit.number ∷ [] else []) (sym (has_number c.args.begun.now whole c.in-Commit.number are) ∙ sym c.has.ensures ∙ c.if-has.true))

pub returns-else-has : goal.returns-else-has
returns-else-has c whole are = sym (ap (committed_by whole) c.in-Commit.is ∙ ap (λ b. if b then c.in-Commit.number ∷ [] else []) (sym (has_number c.args.begun.now whole c.in-Commit.number are) ∙ sym c.has.ensures ∙ c.if-has.false))
