-- The text of a run, piece by piece.
use Rattle.std.proofs.Common.{◌≡◌, ℕ, List, [], ◌++◌, ap, ◌∙◌, append_assoc}
use Rattle.fs_timeline.specs.declared.entry.Entry.{Entry}
use Rattle.fs_nodes.specs.Graphs.{Graph}
use Rattle.fs_calls.specs.Starts.{Start}
use Rattle.fs_script.specs.Journals.{journal_text}
use Rattle.fs_script.specs.TreeText.{tree_text, AppendsTree}
use Rattle.fs_sched.specs.RunTexts.{number_of, counts_line, end_line, IsRunText}
use Rattle.fs_sched.specs.code.Counts.{AreCounts}
use Rattle.fs_sched.specs.declared.run_texts.Counts.{Counts}
use Rattle.fs_sched.specs.declared.run_texts.EntryKind.TheVariants as kind

-- three words with a number each, and an end
pub three_pushed : (line w1 d1 w2 d2 w3 d3 e a b c new : List ℕ) → a ≡ (line ++ w1) ++ d1 → b ≡ (a ++ w2) ++ d2 → c ≡ (b ++ w3) ++ d3 → new ≡ c ++ e → new ≡ line ++ (w1 ++ (d1 ++ (w2 ++ (d2 ++ (w3 ++ (d3 ++ e))))))
three_pushed line w1 d1 w2 d2 w3 d3 e a b c new p q r s =
    let all : (((((((line ++ w1) ++ d1) ++ w2) ++ d2) ++ w3) ++ d3) ++ e) ≡ line ++ (w1 ++ (d1 ++ (w2 ++ (d2 ++ (w3 ++ (d3 ++ e)))))) = simp append_assoc in
    s ∙ ap (λ (z : List ℕ). z ++ e) (r ∙ ap (λ (z : List ℕ). (z ++ w3) ++ d3) (q ∙ ap (λ (z : List ℕ). (z ++ w2) ++ d2) p)) ∙ all

pub line_kept : (kept before added rest : List ℕ) → kept ≡ before ++ added → before ≡ [] → added ≡ rest → kept ≡ rest
line_kept kept before added rest a b c = a ∙ ap (λ (z : List ℕ). z ++ added) b ∙ c

-- the last line by the counts of the entries is that of the entries
pub counted_line : (counts : Counts) (es : List Entry) → AreCounts counts es → counts_line counts.begun counts.committed counts.returned ≡ end_line es
counted_line counts es are =
    ap (λ n. counts_line n counts.committed counts.returned) are.begun
    ∙ ap (λ n. counts_line (number_of kind.Begin es) n counts.returned) are.committed
    ∙ ap (λ n. counts_line (number_of kind.Begin es) (number_of kind.Commit es) n) are.returned

pub run_text_made : (start : Start) (es : List Entry) (graph : Graph) (journal with_tree line all : List ℕ) → journal ≡ journal_text start es → AppendsTree graph journal with_tree → line ≡ end_line es → all ≡ with_tree ++ line → IsRunText start es graph all
run_text_made start es graph journal with_tree line all j tree l a = (
  tree.0,
  tree.1,
  a ∙ ap (λ (z : List ℕ). z ++ line) tree.2 ∙ append_assoc journal (tree_text tree.0) line
      ∙ ap (λ (z : List ℕ). z ++ (tree_text tree.0 ++ line)) j ∙ ap (λ (z : List ℕ). journal_text start es ++ (tree_text tree.0 ++ z)) l,
)
