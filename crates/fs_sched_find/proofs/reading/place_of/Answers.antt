use Rattle.std.proofs.Common.{◌≡◌, [], List, ℕ, Bor, false, get_or, sym, ap, ◌∙◌, arith, below_more}
use Rattle.std.proofs.lemmas.List.{get_or-map}
use Rattle.fs_words.proofs.ReadLemmas.{words_in}
use Rattle.fs_sched_find.specs.Reading.{is_same}
use Rattle.fs_sched_find.proofs.Splitting.{place_at, place_nowhere}
use Rattle.fs_sched_find.proofs.reading.place_of.Goals as goal

pub returns-then-is_word-clause-at : goal.returns-then-is_word-clause-at
returns-then-is_word-clause-at c = place_at (is_same c.args.wanted.now) c.args.words.now c.loop-at.at c.loop-at-test.true c.loop-at.invariant (ap (is_same c.args.wanted.now) (get_or-map (λ (w : Bor (List ℕ)). w.now) c.args.words.now c.loop-at.at _ [] c.loop-at-test.true) ∙ sym c.is_word.ensures ∙ c.if-is_word.true)

pub loop-at-preserved : goal.loop-at-preserved
loop-at-preserved c =
    below_more (λ k. is_same c.args.wanted.now (get_or (words_in c.args.words.now) k []) ≡ false) c.loop-at.at c.loop-at.invariant (ap (is_same c.args.wanted.now) (get_or-map (λ (w : Bor (List ℕ)). w.now) c.args.words.now c.loop-at.at _ [] c.loop-at-test.true) ∙ sym c.is_word.ensures ∙ c.if-is_word.false)

pub returns-clause-at : goal.returns-clause-at
returns-clause-at c = place_nowhere (is_same c.args.wanted.now) c.args.words.now (λ k less. c.loop-at.invariant k (omega (arith, less, c.loop-at-test.false)))
