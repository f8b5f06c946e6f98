use Rattle.std.proofs.Common.{◌≡◌, sym, take, length, rules}
use Rattle.fs_trace_replay.specs.Commits.{calls_on}
use Rattle.fs_trace_replay.proofs.TurnLemmas.{none_more, no_begin, other_begin, turn_at}
use Rattle.fs_trace_replay.proofs.turns.turn_of.Goals as goal
use Rattle.fs_trace_replay.proofs.turns.turn_of.Goals.{in-Begin+else-get, in_default}

pub loop-index-preserved : goal.loop-index-preserved
loop-index-preserved c =
    let more = none_more c.args.entries.now c.loop-index.index c.args.number c.index-entries-index.result c.loop-index-test.true c.index-entries-index.is c.loop-index.invariant in
    elim c.match-entry.branch [
      | in-Begin+else-get w ↦ more (other_begin c.args.number w.in-Begin.other w.in-Begin.seat w.in-Begin.field-2 c.index-entries-index.result w.in-Begin.is (λ same. w.if-get.false (cc)))
      | in_default w ↦ more (no_begin c.args.number c.index-entries-index.result w.in_default.not-Begin)
    ]

pub returns-then-get : goal.returns-then-get
returns-then-get c =
    let same : c.in-Begin.other ≡ c.args.number = cc in
    let count : c.begins_on.result ≡ length (calls_on c.get-seat.result (take c.loop-index.index c.args.entries.now)) = search rules in
    turn_at c.args.entries.now c.loop-index.index c.args.number c.get-seat.result c.in-Begin.other c.in-Begin.seat c.begins_on.result c.in-Begin.field-2 c.index-entries-index.result c.loop-index-test.true c.index-entries-index.is c.in-Begin.is same (sym c.get-seat.ensures) count
