-- Lines that are added one after the other, as the loops do it.
use Rattle.std.proofs.Common.{◌≡◌, ℕ, ◌+◌, ◌<◌, List, [], ◌∷◌, ◌++◌, length, take, get_or, map, Bool, refl, sym, ap, ◌∙◌, subst, append_assoc, append-nil}
use Rattle.std.specs.Prelude.{codes}
use Rattle.std.specs.List.{flat_map}
use Rattle.std.proofs.lemmas.List.{map-append, take_more}
use Rattle.std.proofs.lemmas.Grind.{flat_map-append}
use Rattle.fs_machine.specs.States.{State}
use Rattle.fs_script.specs.TreeText.{tree_text, AppendsTree}
use Rattle.fs_sched.specs.RunTexts.{end_line}
use Rattle.fs_trace_story.specs.Shown.{deed_told, shown, Saying}
use Rattle.fs_trace.specs.Traces.{AreLines, IsTraceText, line_head, thread_line}
use Rattle.fs_trace.specs.code.LineTexts.{AddsLine, AddsLines, HasLines, IsTraceHead, IsTraceStart}
use Rattle.fs_trace.specs.declared.trace_text.TraceLines.{TraceLines}
use Rattle.fs_sched_witness.specs.declared.moments.Moment.{Moment}

-- a trace has no lines where it begins
pub lines_none : (lines : TraceLines) → HasLines lines lines []
lines_none lines = (refl, ([], refl, sym (append-nil lines.text.added)))

-- a line behind the others
lines_behind : (heads : List (List ℕ)) (head lines words : List ℕ) → AreLines heads lines → AreLines (heads ++ head ∷ []) (lines ++ (head ++ (words ++ codes "\n")))
lines_behind [] head lines words e = (words, [], ap (λ (l : List ℕ). l ++ (head ++ (words ++ codes "\n"))) e, refl)
lines_behind (h ∷ heads) head lines words (first, rest, e, are) =
    let line : List ℕ = head ++ (words ++ codes "\n") in (
      first,
      rest ++ line,
      ap (λ (l : List ℕ). l ++ line) e ∙ append_assoc h (first ++ (codes "\n" ++ rest)) line ∙ ap (λ (l : List ℕ). h ++ l) (append_assoc first (codes "\n" ++ rest) line),
      lines_behind heads head rest words are,
    )

pub lines_more : (told : List Saying) (s : Saying) (first old new : List ℕ) → AddsLines (map line_head told) first old → AddsLine (line_head s) old new → AddsLines (map line_head (told ++ s ∷ [])) first new
lines_more told s first old new (lines, are, e) (words, adds) =
    let line : List ℕ = line_head s ++ (words ++ codes "\n") in (
      lines ++ line,
      subst (λ (heads : List (List ℕ)). AreLines heads (lines ++ line)) (sym (map-append line_head told (s ∷ []))) (lines_behind (map line_head told) (line_head s) lines words are),
      adds ∙ ap (λ (l : List ℕ). l ++ line) e ∙ append_assoc first lines line,
    )

-- the lines of the threads, with the next one
pub threads_more : (line : List ℕ → List ℕ) (names : List (List ℕ)) (i : ℕ) (name old now new : List ℕ) → i < length names → name ≡ get_or names i [] → now ≡ old ++ flat_map line (take i names) → new ≡ now ++ line name → new ≡ old ++ flat_map line (take (i + 1) names)
threads_more line names i name old now new less is e adds =
    adds ∙ ap (λ (l : List ℕ). l ++ line name) e ∙ append_assoc old (flat_map line (take i names)) (line name)
    ∙ ap (λ (l : List ℕ). old ++ l)
    (ap (λ (l : List ℕ). flat_map line (take i names) ++ l) (sym (append-nil (line name)))
    ∙ sym (flat_map-append line (take i names) (name ∷ []))
    ∙ ap (λ (x : List ℕ). flat_map line (take i names ++ x ∷ [])) is
    ∙ ap (flat_map line) (sym (take_more names i [] less)))

-- the part of a trace up to its tree
pub head_is : (every : Bool) (names : List (List ℕ)) (ms : List Moment) (start now : TraceLines) (before added left text : List ℕ) → IsTraceStart names start → HasLines start now (map deed_told (shown every ms)) → before ≡ now.text.before → added ≡ now.text.added ++ left
    → text ≡ before ++ added → IsTraceHead every names ms text
head_is every names ms start now before added left text (none, starts) (same, (lines, are, e)) is_before is_added is_text =
    let first : List ℕ = codes "atomfs-trace 2\n" in
    let threads : List ℕ = flat_map thread_line names in (
      lines,
      left,
      are,
      is_text ∙ ap (λ (l : List ℕ). l ++ added) (is_before ∙ same ∙ none) ∙ is_added ∙ ap (λ (l : List ℕ). l ++ left) (e ∙ ap (λ (l : List ℕ). l ++ lines) starts)
          ∙ append_assoc (first ++ threads) lines left ∙ append_assoc first threads (lines ++ left),
    )

-- and the whole
pub trace_is : (every : Bool) (names : List (List ℕ)) (ms : List Moment) (last : State) (head with_tree counts text : List ℕ) → IsTraceHead every names ms head → AppendsTree last.graph head with_tree → counts ≡ end_line last.timeline → text ≡ with_tree ++ counts → IsTraceText every names ms last text
trace_is every names ms last head with_tree counts text (lines, left, are, is_head) (t, spelled, is_tree) is_counts is_text =
    let first : List ℕ = codes "atomfs-trace 2\n" in
    let threads : List ℕ = flat_map thread_line names in
    let tail : List ℕ = tree_text t ++ end_line last.timeline in (
      lines,
      left,
      t,
      are,
      spelled,
      is_text ∙ ap (λ (l : List ℕ). with_tree ++ l) is_counts ∙ ap (λ (l : List ℕ). l ++ end_line last.timeline) is_tree
          ∙ append_assoc head (tree_text t) (end_line last.timeline) ∙ ap (λ (l : List ℕ). l ++ tail) is_head
          ∙ append_assoc first (threads ++ (lines ++ left)) tail
          ∙ ap (λ (l : List ℕ). first ++ l) (append_assoc threads (lines ++ left) tail ∙ ap (λ (l : List ℕ). threads ++ l) (append_assoc lines left tail)),
    )
