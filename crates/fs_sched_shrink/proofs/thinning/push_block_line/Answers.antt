use Rattle.std.proofs.Common.{◌≡◌, ℕ, List, Bool, Bor, true, false, [], ◌∷◌, ◌++◌, map, drop, sym, ap, ◌∙◌}
use Rattle.fs_words.specs.Lines.{is_passed_over}
use Rattle.fs_words.specs.Reading.{words_of}
use Rattle.fs_words.specs.Words.{Word}
use Rattle.fs_sched_shrink.specs.code.Thinning.{read_words, begins_block, call_kept, blocks_thinned}
use Rattle.fs_sched_shrink.proofs.Blocks.{cut_passed, cut_block, cut_of_call}
use Rattle.fs_sched_shrink.proofs.Lines.{adds}
use Rattle.fs_sched_shrink.proofs.thinning.push_block_line.Goals as goal

pub returns-then-is_passed_over : goal.returns-then-is_passed_over
returns-then-is_passed_over c more other =
    let passed : is_passed_over c.args.line.now ≡ true = sym c.is_passed_over.ensures ∙ c.if-is_passed_over.true in
    adds _ (c.args.line.now ∷ []) _ _ _ (cut_passed c.args.kept.now c.args.line.now more passed) c.in_ok-push_line.ensures

-- the words of a line that was cut
cut_words : (found : List (Bor Word)) (items : List (Bor Word)) (line : List ℕ) → found ≡ items → map (λ (w : Bor Word). w.now) items ≡ read_words (words_of line) → map (λ (w : Bor Word). w.now) found ≡ read_words (words_of line)
cut_words found items line same is = ap (map (λ (w : Bor Word). w.now)) same ∙ is

pub returns-then-begins_block : goal.returns-then-begins_block
returns-then-begins_block c more other =
    let told : is_passed_over c.args.line.now ≡ false = sym c.is_passed_over.ensures ∙ c.if-is_passed_over.false in
    let words = cut_words c.as_slice.result.now c.read_words.new.words.items c.args.line.now c.as_slice.ensures.value c.in_ok-read_words.ensures in
    let begins : begins_block (read_words (words_of c.args.line.now)) ≡ true = ap begins_block (sym words) ∙ sym c.begins_block.ensures ∙ c.if-begins_block.true in
    adds _ (c.args.line.now ∷ []) _ _ _ (cut_block c.args.kept.now c.args.line.now more told other begins) c.in_ok-push_line-2.ensures

pub returns : goal.returns
returns c more other =
    let told : is_passed_over c.args.line.now ≡ false = sym c.is_passed_over.ensures ∙ c.if-is_passed_over.false in
    let words = cut_words c.as_slice.result.now c.read_words.new.words.items c.args.line.now c.as_slice.ensures.value c.in_ok-read_words.ensures in
    let begins : begins_block (read_words (words_of c.args.line.now)) ≡ false = ap begins_block (sym words) ∙ sym c.begins_block.ensures ∙ c.if-begins_block.false in
    let rest : drop 1 c.args.kept.now ≡ c.in_ok-rest.rest.now = sym c.in_ok-rest.ensures.rest in
    adds _ (call_kept c.args.kept.now c.args.line.now) _ _ _
    (cut_of_call c.args.kept.now c.args.line.now more told other begins ∙ ap (λ (r : List Bool). call_kept c.args.kept.now c.args.line.now ++ blocks_thinned r more) rest)
    c.in_ok-rest.ensures.text
