use Rattle.std.proofs.Common.{ℕ, List, [], ◌∷◌, ◌++◌, ap, ◌∙◌, append_assoc}
use Rattle.fs_trace.proofs.script_text.with_words.Goals as goal

pub returns-clause-written : goal.returns-clause-written
returns-clause-written c =
    let (texts, are, behind, adds) = c.in_ok-push_words.ensures in
    let head : List ℕ = c.blocks_of.result.now in
    record {
      head = head;
      texts = texts;
      has_head = c.blocks_of.ensures.head;
      are_texts = are;
      behind = behind;
      is = c.in_ok-push.ensures.items ∙ ap (λ (l : List ℕ). l ++ 10 ∷ []) (adds ∙ ap (λ (l : List ℕ). l ++ texts) c.in_ok-text.ensures.items) ∙ append_assoc head texts (10 ∷ []);
    }
