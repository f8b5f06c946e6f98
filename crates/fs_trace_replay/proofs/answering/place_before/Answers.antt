use Rattle.std.proofs.lemmas.Result.{IfErr-weaker}
use Rattle.fs_trace_replay.specs.code.Tellings.{IsUncalled, IsUnplaced}
use Rattle.fs_trace_replay.proofs.AnswerLemmas.{unplaced}
use Rattle.fs_trace_replay.proofs.answering.place_before.Goals as goal

pub returns-in-Ok-clause-fault : goal.returns-in-Ok-clause-fault
returns-in-Ok-clause-fault c = IfErr-weaker c.place_in.result (IsUnplaced c.args.entries.now c.in-Ok.number) (IsUncalled c.args.names.now c.args.entries.now c.args.thread.now c.args.turn)
    (unplaced c.args.names.now c.args.entries.now c.args.thread.now c.args.turn c.in-Ok.number c.in-Ok.ensures.number) c.place_in.ensures.fault
