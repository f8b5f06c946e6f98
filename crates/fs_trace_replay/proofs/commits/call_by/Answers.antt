use Rattle.std.proofs.Common.{sym, ap, ◌∙◌}
use Rattle.std.specs.Ordering.{nat_cmp}
use Rattle.std.specs.BTreeMap.{get}
use Rattle.fs_trace_replay.specs.code.Seen.{call_by, call_in}
use Rattle.fs_trace_replay.proofs.commits.call_by.Goals as goal

pub returns-in-Some : goal.returns-in-Some
returns-in-Some c whole are = ap call_in c.in-Some.ensures.value ∙ ap (λ k. call_in (get nat_cmp c.args.begun.now k)) c.get.ensures ∙ are c.in-Commit.number ∙ sym (ap (call_by whole) c.in-Commit.is)

pub returns-in-None : goal.returns-in-None
returns-in-None c whole are = ap call_in c.in-None.ensures.value ∙ ap (λ k. call_in (get nat_cmp c.args.begun.now k)) c.get.ensures ∙ are c.in-Commit.number ∙ sym (ap (call_by whole) c.in-Commit.is)
