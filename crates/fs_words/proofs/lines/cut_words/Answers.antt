use Rattle.std.proofs.Common.{◌≡◌, ◌+◌, ◌-◌, ℕ, Some, None, drop, position, refl, sym, ap, ◌∙◌, subst, arith}
use Rattle.std.proofs.lemmas.List.{drop-drop}
use Rattle.fs_names.proofs.SearchLemmas.{found_place}
use Rattle.fs_words.specs.Lines.{is_space}
use Rattle.fs_words.specs.code.Answers.{Becomes, pushed_word}
use Rattle.fs_words.proofs.ReadLemmas.{piece_pushed, last_piece, words_in, Pieces}
use Rattle.fs_names.proofs.BlockLemmas.{to_end, found_behind}
use Rattle.fs_words.proofs.lines.cut_words.Goals as goal

pub words-preserved : goal.words-preserved
words-preserved c =
    let line = c.args.line.now in
    let start = c.words.start in
    let end = c.in-Some.end in
    let low = c.in-Some.ensures.0.low in
    let high = c.in-Some.ensures.0.high in
    let place : position is_space (drop start line) ≡ Some (end - start) = sym (found_place 32 (drop start line) (Some (end - start)) (found_behind is_space start line (Some end) c.in-Some.ensures)) in
    let sum : start + (end - start + 1) ≡ end + 1 = omega (arith, low) in
    let behind : drop (end + 1) line ≡ drop (end - start + 1) (drop start line) = sym (drop-drop (end - start + 1) start line ∙ ap (λ (n : ℕ). drop n line) sum) in
    record {
      within = omega (arith, high);
      so_far = piece_pushed _ (words_in c.words.words.items) (words_in c.push_word.new.words.items) (drop start line) (drop (end + 1) line) (end - start) _ c.words.invariant.so_far place refl behind c.in_default-push_word.ensures;
    }

pub returns : goal.returns
returns c =
    let line = c.args.line.now in
    let start = c.words.start in
    let front = words_in c.words.words.items in
    let place : position is_space (drop start line) ≡ None = sym (found_place 32 (drop start line) None (found_behind is_space start line None c.in_default.ensures)) in
    let whole = last_piece _ front (drop start line) c.words.invariant.so_far place in
    let P : Pieces → Type 0 = λ given. Becomes c.push_word-2.result (words_in c.push_word-2.new.words.items) given in
    subst P (ap (pushed_word front) (to_end start line) ∙ sym whole) c.push_word-2.ensures
