use Rattle.std.proofs.Common.{◌≡◌, ◌+◌, ◌-◌, ◌∷◌, ◌∙◌, ℕ, ap₂, sym, arith}
use Rattle.fs_sched.specs.Schedules.{generator_of, turns_from}
use Rattle.fs_sched.proofs.Turning.{turns_end, turns_more}
use Rattle.fs_sched.proofs.turns.turns_from.Goals as goal

pub loop-preserved : goal.loop-preserved
loop-preserved c =
    let turns = c.args.turns - (c.loop.counter + 1) in
    let left : c.args.turns - c.loop.counter ≡ turns + 1 = omega (arith, c.loop-test.true) in
    let next = ap₂ (λ (threads most : ℕ). turns_from threads most (turns + 1) c.loop.draws) (sym c.new-by_threads.ensures) (sym c.new-by_most.ensures) ∙ c.turn.ensures turns
    ∙ ap₂ (λ (threads most : ℕ). c.turn.result ∷ turns_from threads most turns c.turn.new.draws) c.new-by_threads.ensures c.new-by_most.ensures in
    turns_more c.args.threads c.args.most turns (c.args.turns - c.loop.counter) c.loop.words.items c.push.new.self.items (turns_from c.args.threads c.args.most c.args.turns (generator_of c.args.seed)) c.turn.result c.loop.draws c.turn.new.draws left c.loop.invariant next c.in_ok-push.ensures.items

pub returns : goal.returns
returns c = turns_end c.args.threads c.args.most c.args.turns c.loop.counter c.below-first.result c.new-by_threads.result c.loop.words.items c.push_ends.new.words.items c.push_ends-2.new.words.items (turns_from c.args.threads c.args.most c.args.turns (generator_of c.args.seed)) c.loop.draws (omega (arith, c.loop-test.false)) c.new-by_threads.ensures c.below-first.ensures.drawn c.in_ok-push_ends.ensures c.in_ok-push_ends-2.ensures c.loop.invariant
