use Rattle.fs_trace.proofs.Wording.{words_start, words_more, words_end}
use Rattle.fs_trace.proofs.script_text.push_words.Goals as goal

pub loop-word-init : goal.loop-word-init
loop-word-init c = words_start c.args.names.now c.args.words.now c.args.text.now.items

pub loop-word-preserved : goal.loop-word-preserved
loop-word-preserved c =
    words_more c.args.names.now c.args.words.now c.loop-word.word-index _ c.loop-word.width c.in_ok-width.width c.args.text.now.items c.loop-word.text.items c.push_word.new.text.items c.loop-word-test.true c.loop-word.invariant c.in_ok-width.ensures

pub returns : goal.returns
returns c = words_end c.args.names.now c.args.words.now c.loop-word.word-index c.loop-word.width c.args.text.now.items c.loop-word.text.items c.loop-word-test.false c.loop-word.invariant
