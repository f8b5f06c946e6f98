use Rattle.std.proofs.Common.{◌-◌}
use Rattle.fs_trace_replay.proofs.AnswerLemmas.{has_turn}
use Rattle.fs_trace_replay.proofs.answering.line_of.Goals as goal

pub unreachable-requires : goal.unreachable-requires
unreachable-requires c = has_turn c.args.entries.now c.args.number (c.args.place - 1) c.requires.place c.in_default.ensures
