use Rattle.std.proofs.Common.{ℕ, List, [], ◌∷◌, ◌++◌, map, refl, ◌∙◌, ap}
use Rattle.fs_sched_reach.specs.Words.{plain_word}
use Rattle.fs_sched_reach.proofs.Joining.{part_more, parts_end}
use Rattle.fs_sched_reach.proofs.plain.push_plain_words.Goals as goal

pub loop-word-preserved : goal.loop-word-preserved
loop-word-preserved c =
    part_more (λ words. map plain_word (map (λ w. w.now) words)) (λ w. plain_word w.now) 32 c.args.words.now c.loop-word.word-index _ _ c.loop-word.text.items c.push_part.new.text.items (λ x ys. refl) c.loop-word-test.true c.loop-word.invariant
    (c.in_ok-push_part.ensures ∙ ap (λ (p : List ℕ). c.loop-word.text.items ++ (p ++ 32 ∷ [])) c.plain_word.ensures)

pub returns : goal.returns
returns c = parts_end (λ words. map plain_word (map (λ w. w.now) words)) 32 c.args.words.now c.loop-word.word-index _ c.loop-word.text.items refl c.loop-word-test.false c.loop-word.invariant
