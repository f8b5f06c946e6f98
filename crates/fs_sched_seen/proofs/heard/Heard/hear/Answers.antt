use Rattle.fs_sched_seen.proofs.HeardLemmas.{heard_begin, heard_commit, heard_return}
use Rattle.fs_sched_seen.proofs.heard.Heard.hear.Goals as goal

pub returns-in-Begin : goal.returns-in-Begin
returns-in-Begin c = λ es len heard. heard_begin c.begins.result c.args.self.now c.begins.new.self es c.args.entry.now _ _ _ _ _ c.in-Begin.is c.get.ensures c.get-in-Begin.ensures heard c.begins.ensures.begun c.begins.ensures.returned

pub returns-in-Commit : goal.returns-in-Commit
returns-in-Commit c = λ es len heard. heard_commit c.args.self.now es c.args.entry.now _ c.in-Commit.is heard

pub returns-in-Return : goal.returns-in-Return
returns-in-Return c = λ es len heard. heard_return c.returns.result c.args.self.now c.returns.new.self es c.args.entry.now _ _ _ _ c.in-Return.is c.get-in-Return.ensures len heard c.returns.ensures.returned c.returns.ensures.begun
