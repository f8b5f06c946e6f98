use Rattle.std.proofs.Common.{map}
use Rattle.std.proofs.lemmas.List.{at_drop_more, at_drop_all}
use Rattle.fs_sched_reach.proofs.Adding.{words_first, words_more, words_stuck, words_end}
use Rattle.fs_sched_reach.proofs.writing.push_words.Goals as goal

pub loop-word-init : goal.loop-word-init
loop-word-init c = words_first c.args.from.now c.args.limits (map (λ w. w.now) c.args.words.now) c.args.text.now.items

pub loop-word-preserved : goal.loop-word-preserved
loop-word-preserved c =
    words_more c.args.from.now c.args.limits (map (λ w. w.now) c.args.words.now) _ _ _ c.args.text.now.items c.loop-word.text.items c.push_word.new.text.items
    (at_drop_more (λ ws. map (λ w. w.now) ws) c.args.words.now c.loop-word.word-index _ c.loop-word-test.true) c.loop-word.invariant c.in_ok-push_word.field-0 c.if-not-branch.false c.in_ok-push_word.ensures

pub returns-then-not-branch : goal.returns-then-not-branch
returns-then-not-branch c =
    words_stuck c.args.from.now c.args.limits (map (λ w. w.now) c.args.words.now) _ _ _ c.args.text.now.items c.loop-word.text.items c.push_word.new.text.items
    (at_drop_more (λ ws. map (λ w. w.now) ws) c.args.words.now c.loop-word.word-index _ c.loop-word-test.true) c.loop-word.invariant c.in_ok-push_word.field-0 c.if-not-branch.true c.in_ok-push_word.ensures

pub returns : goal.returns
returns c =
    words_end c.args.from.now c.args.limits (map (λ w. w.now) c.args.words.now) _ c.args.text.now.items c.loop-word.text.items
    (at_drop_all (λ ws. map (λ w. w.now) ws) c.args.words.now c.loop-word.word-index c.loop-word-test.false) c.loop-word.invariant
