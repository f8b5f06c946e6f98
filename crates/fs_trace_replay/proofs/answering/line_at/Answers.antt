use Rattle.std.proofs.Common.{◌-◌, ◌<◌, length, arith}
use Rattle.fs_trace_replay.proofs.AnswerLemmas.{call_there, enough, number_there}
use Rattle.fs_trace_replay.proofs.answering.line_at.Goals as goal

pub bounds-numbers-place : goal.bounds-numbers-place
bounds-numbers-place c = enough c.args.numbers.now c.args.calls.now c.args.entries.now c.args.place c.requires.numbers c.requires.commits c.requires.some c.requires.few

pub line_of-requires-clause-place : goal.line_of-requires-clause-place
line_of-requires-clause-place c = number_there c.args.numbers.now c.args.entries.now (c.args.place - 1) c.index-numbers-place.result c.requires.numbers
    (enough c.args.numbers.now c.args.calls.now c.args.entries.now c.args.place c.requires.numbers c.requires.commits c.requires.some c.requires.few) c.index-numbers-place.is

pub line_of-requires-clause-call : goal.line_of-requires-clause-call
line_of-requires-clause-call c =
    let less : c.args.place - 1 < length c.args.calls.now = omega (arith, c.requires.some, c.requires.few) in
    call_there c.args.calls.now c.args.entries.now (c.args.place - 1) c.index-calls-place.result c.requires.commits less c.index-calls-place.is
