use Rattle.std.proofs.Common.{map, refl}
use Rattle.fs_sched_reach.proofs.Joining.{part_more, parts_end}
use Rattle.fs_sched_reach.proofs.writing.push_as_are.Goals as goal

pub loop-line-preserved : goal.loop-line-preserved
loop-line-preserved c =
    part_more (λ lines. map (λ l. l.now) lines) (λ l. l.now) 10 c.args.lines.now c.loop-line.line-index _ _ c.loop-line.text.items c.push_part.new.text.items (λ x ys. refl) c.loop-line-test.true c.loop-line.invariant c.in_ok-push_part.ensures

pub returns : goal.returns
returns c = parts_end (λ lines. map (λ l. l.now) lines) 10 c.args.lines.now c.loop-line.line-index _ c.loop-line.text.items refl c.loop-line-test.false c.loop-line.invariant
