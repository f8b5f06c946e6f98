-- A path that is appended as it is.
use Rattle.std.proofs.Common.{◌≡◌, ℕ, ◌≤◌, ◌++◌, ◌-◌, false, List, length, take, drop, sym, ap, ◌∙◌}
use Rattle.std.specs.List.{list_any}
use Rattle.std.proofs.Math.Seq.{drop-append_seam}
use Rattle.std.proofs.lemmas.List.{drop-append-le}
use Rattle.fs_names.proofs.BlockLemmas.{to_end}
use Rattle.fs_words.specs.Words.{is_escaped, escaped}
use Rattle.fs_words.proofs.EscapeLemmas.{escaped_plain}

-- what stands behind a text
behind : (from : ℕ) (old new more : List ℕ) → from ≡ length old → new ≡ old ++ more → take (length new - from) (drop from new) ≡ more
behind from old new more e n = to_end from new ∙ ap (λ k. drop k new) e ∙ ap (drop (length old)) n ∙ drop-append_seam old more

-- where no byte of it is escaped, it is what is written with escapes
pub plain_added : (start from : ℕ) (old new seen more : List ℕ) → start ≤ length old → from ≡ length old → new ≡ old ++ more → seen ≡ new → list_any is_escaped (take (length seen - from) (drop from seen)) ≡ false
    → drop start new ≡ drop start old ++ escaped more
plain_added start from old new seen more h e n s p =
    let same : escaped more ≡ more = escaped_plain more (sym (ap (list_any is_escaped) (behind from old seen more e (s ∙ n))) ∙ p) in
    ap (drop start) n ∙ drop-append-le start old more h ∙ ap (λ x. drop start old ++ x) (sym same)
