use Rattle.std.proofs.Common.{◌≡◌, ℕ, List, Bool, Bor, true, false, [], ◌∷◌, ◌++◌, map, drop, length, sym, ap, ◌∙◌}
use Rattle.std.specs.List.{flat_map}
use Rattle.fs_words.specs.Lines.{is_passed_over}
use Rattle.fs_words.specs.Reading.{words_of}
use Rattle.fs_words.specs.Words.{Word}
use Rattle.fs_sched_shrink.specs.Kept.{picked}
use Rattle.fs_sched_shrink.specs.code.Thinning.{read_words, line_of, words_thinned, ended}
use Rattle.std.proofs.lemmas.List.{length-map}
use Rattle.fs_sched_shrink.proofs.Words.{thinned_passed, thinned_words}
use Rattle.fs_sched_shrink.proofs.Lines.{adds}
use Rattle.fs_sched_shrink.proofs.thinning.push_schedule_line.Goals as goal

pub returns-then-is_passed_over : goal.returns-then-is_passed_over
returns-then-is_passed_over c more =
    let passed : is_passed_over c.args.line.now ≡ true = sym c.is_passed_over.ensures ∙ c.if-is_passed_over.true in
    adds _ (c.args.line.now ∷ []) _ _ _ (thinned_passed c.args.kept.now c.args.line.now more passed) c.in_ok-push_line.ensures

abbrev texts : List (Bor Word) → List Word
texts words = map (λ (w : Bor Word). w.now) words

-- a line of those words that stay
line_added : (kept rest : List Bool) (line old new : List ℕ) (more : List (List ℕ)) (items found picks left : List (Bor Word)) → is_passed_over line ≡ false → texts items ≡ read_words (words_of line) → found ≡ items → texts picks ≡ picked (texts found) kept → left ≡ picks
    → new ≡ old ++ flat_map ended (line_of (texts left)) → rest ≡ drop (length found) kept → old ++ flat_map ended (words_thinned kept (line ∷ more)) ≡ new ++ flat_map ended (words_thinned rest more)
line_added kept rest line old new more items found picks left told read same picks_are left_is text flags =
    let all : texts found ≡ read_words (words_of line) = ap texts same ∙ read in
    let stay : texts left ≡ picked (read_words (words_of line)) kept = ap texts left_is ∙ picks_are ∙ ap (λ (ws : List Word). picked ws kept) all in
    let texts_found : length (texts found) ≡ length found = length-map found (λ (w : Bor Word). w.now) in
    let many : length found ≡ length (read_words (words_of line)) = sym texts_found ∙ ap (λ (ws : List Word). length ws) all in
    let behind : rest ≡ drop (length (read_words (words_of line))) kept = flags ∙ ap (λ (i : ℕ). drop i kept) many in
    adds (words_thinned kept (line ∷ more)) (line_of (picked (read_words (words_of line)) kept)) (words_thinned rest more) old new
    (thinned_words kept line more told ∙ ap (λ (r : List Bool). line_of (picked (read_words (words_of line)) kept) ++ words_thinned r more) (sym behind))
    (text ∙ ap (λ (ws : List Word). old ++ flat_map ended (line_of ws)) stay)

pub returns : goal.returns
returns c more =
    let told : is_passed_over c.args.line.now ≡ false = sym c.is_passed_over.ensures ∙ c.if-is_passed_over.false in
    line_added c.args.kept.now c.flags_behind.result.now c.args.line.now _ _ more c.read_words.new.words.items _ c.in_ok-left.left.items _ told c.in_ok-read_words.ensures c.as_slice-found.ensures.value c.in_ok-left.ensures c.as_slice.ensures.value c.in_ok-push_words.ensures c.flags_behind.ensures
