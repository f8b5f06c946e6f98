-- Lines that are added one after the other are the lines of the text.
use Rattle.std.proofs.Common.{◌≡◌, ℕ, Bool, true, false, cond, List, [], ◌∷◌, ◌++◌, length, drop, get_or, Result, Ok, Err, refl, sym, ap, subst, ◌∙◌, append_assoc, append-nil, codes}
use Rattle.std.specs.List.{AllByRecursion, flat_map, slice_split, onto_first}
use Rattle.std.specs.Str.{bytes_eq}
use Rattle.std.proofs.lemmas.Grind.{flat_map-append}
use Rattle.std.proofs.lemmas.List.Elements.{All-from_recursion}
use Rattle.std.proofs.lemmas.List.Splits.{slice_split_at}
use Rattle.std.proofs.lemmas.Slice.Eq.{bytes_eq-Decides}
use Rattle.fs_words.specs.Lines.{is_line_feed, is_space, is_empty, is_passed_over, without_last_empty, lines_of, pieces_of, has_empty}
use Rattle.fs_words.specs.Words.{Word}
use Rattle.fs_words.specs.Reading.{words_of}
use Rattle.fs_words.specs.declared.fault.FaultKind.{FaultKind}
use Rattle.fs_words.specs.declared.fault.FaultKind.TheVariants as kind
use Rattle.fs_sched_shrink.specs.Kept.{picked}
use Rattle.fs_sched_shrink.specs.code.Thinning.{read_words, begins_block, line_of, call_kept, words_thinned, blocks_thinned, thinned, ended, AddsLine}
use Rattle.fs_sched_shrink.proofs.Words.{parts_clear, picked_all, thinned_passed, thinned_words, thinned_ended}
use Rattle.fs_sched_shrink.proofs.Blocks.{cut_passed, cut_done, cut_block, cut_of_call, cut_ended}

-- ---- no line feed in a line

abbrev pub IsLine : List ℕ → Type 0
IsLine line = AllByRecursion (λ b. is_line_feed b ≡ false) line

abbrev pub AreLines : List (List ℕ) → Type 0
AreLines lines = AllByRecursion IsLine lines

all_append : {X : Type 0} (P : X → Type 0) (xs ys : List X) → AllByRecursion P xs → AllByRecursion P ys → AllByRecursion P (xs ++ ys)
all_append P [] ys h k = k
all_append P (x ∷ xs) ys h k = (h.0, all_append P xs ys h.1 k)

-- the parts of a line have none
parts_keep : (P : ℕ → Type 0) (p : ℕ → Bool) (xs : List ℕ) → AllByRecursion P xs → AllByRecursion (λ (part : List ℕ). AllByRecursion P part) (slice_split p xs)
parts_keep P p [] h = (tt, tt)
parts_keep P p (x ∷ xs) h = go (p x) (slice_split p xs) (parts_keep P p xs h.1)
  where
    go : (b : Bool) (parts : List (List ℕ)) → AllByRecursion (λ (part : List ℕ). AllByRecursion P part) parts → AllByRecursion (λ (part : List ℕ). AllByRecursion P part) (cond b ([] ∷ parts) (onto_first x parts))
    go true parts k = (tt, k)
    go false [] k = ((h.0, tt), tt)
    go false (part ∷ parts) k = ((h.0, k.0), k.1)

without_keep : (parts : List (List ℕ)) → AreLines parts → AreLines (without_last_empty parts)
without_keep [] h = tt
without_keep (part ∷ []) h = go (is_empty part)
  where
    go : (b : Bool) → AreLines (cond b [] (part ∷ []))
    go true = tt
    go false = (h.0, tt)
without_keep (part ∷ next ∷ more) h = (h.0, without_keep (next ∷ more) h.1)

pub lines_clear : (text : List ℕ) → AreLines (lines_of text)
lines_clear text = without_keep (slice_split is_line_feed text) (parts_clear is_line_feed text)

read_clear : (line : List ℕ) → IsLine line → AllByRecursion IsLine (read_words (words_of line))
read_clear line h = go (has_empty (pieces_of line))
  where
    go : (b : Bool) → AllByRecursion IsLine (read_words (cond {A = Result (List Word) FaultKind} b (Err kind.BadLine) (Ok (pieces_of line))))
    go true = tt
    go false = parts_keep (λ b. is_line_feed b ≡ false) is_space line h

more_clear : (ws : List Word) → AllByRecursion IsLine ws → IsLine (flat_map (λ word. 32 ∷ word) ws)
more_clear [] h = tt
more_clear (w ∷ ws) h = (refl, all_append (λ b. is_line_feed b ≡ false) w (flat_map (λ word. 32 ∷ word) ws) h.0 (more_clear ws h.1))

line_clear : (ws : List Word) → AllByRecursion IsLine ws → AreLines (line_of ws)
line_clear [] h = tt
line_clear (w ∷ ws) h = (all_append (λ b. is_line_feed b ≡ false) w (flat_map (λ word. 32 ∷ word) ws) h.0 (more_clear ws h.1), tt)

words_clear : (ks : List Bool) (lines : List (List ℕ)) → AreLines lines → AreLines (words_thinned ks lines)
words_clear ks [] h = subst AreLines (sym (thinned_ended ks)) tt
words_clear ks (line ∷ more) h =
    let ws : List Word = read_words (words_of line) in
    words_either ks line more h (words_clear ks more h.1) (words_clear (drop (length ws) ks) more h.1) (is_passed_over line) refl
  where
    words_either : (ks : List Bool) (line : List ℕ) (more : List (List ℕ)) → AreLines (line ∷ more) → AreLines (words_thinned ks more) → AreLines (words_thinned (drop (length (read_words (words_of line))) ks) more) → (b : Bool) → is_passed_over line ≡ b → AreLines (words_thinned ks (line ∷ more))
    words_either ks line more h all rest true e = subst AreLines (sym (thinned_passed ks line more e)) (h.0, all)
    words_either ks line more h all rest false e =
        subst AreLines (sym (thinned_words ks line more e)) (all_append IsLine (line_of (picked (read_words (words_of line)) ks)) _ (line_clear (picked (read_words (words_of line)) ks) (picked_all IsLine (read_words (words_of line)) ks (read_clear line h.0))) rest)

call_clear : (ks : List Bool) (line : List ℕ) → IsLine line → AreLines (call_kept ks line)
call_clear ks line h = go (get_or ks 0 false)
  where
    go : (b : Bool) → AreLines (cond b (line ∷ []) [])
    go true = (h, tt)
    go false = tt

blocks_either : (ks : List Bool) (line : List ℕ) (more : List (List ℕ)) → AreLines (line ∷ more) → AreLines (blocks_thinned ks more) → AreLines (blocks_thinned (drop 1 ks) more) → (p h b : Bool) → is_passed_over line ≡ p → bytes_eq line (codes "schedule") ≡ h → begins_block (read_words (words_of line)) ≡ b → AreLines (blocks_thinned ks (line ∷ more))
blocks_either ks line more l all rest true h b e_p e_h e_b = subst AreLines (sym (cut_passed ks line more e_p)) (l.0, all)
blocks_either ks line more l all rest false true b e_p e_h e_b = subst AreLines (sym (cut_done ks line more e_p e_h)) (l.0, words_clear ks more l.1)
blocks_either ks line more l all rest false false true e_p e_h e_b = subst AreLines (sym (cut_block ks line more e_p e_h e_b)) (l.0, all)
blocks_either ks line more l all rest false false false e_p e_h e_b = subst AreLines (sym (cut_of_call ks line more e_p e_h e_b)) (all_append IsLine (call_kept ks line) _ (call_clear ks line l.0) rest)

blocks_clear : (ks : List Bool) (lines : List (List ℕ)) → AreLines lines → AreLines (blocks_thinned ks lines)
blocks_clear ks [] h = subst AreLines (sym (cut_ended ks)) tt
blocks_clear ks (line ∷ more) h = blocks_either ks line more h (blocks_clear ks more h.1) (blocks_clear (drop 1 ks) more h.1) _ _ _ refl refl refl

thinned_clear : (ks : List Bool) (lines : List (List ℕ)) → AreLines lines → AreLines (thinned ks lines)
thinned_clear ks [] h = tt
thinned_clear ks (first ∷ more) h = (h.0, blocks_clear ks more h.1)

-- ---- the lines of what is written

split_ended : (lines : List (List ℕ)) → AreLines lines → slice_split is_line_feed (flat_map ended lines) ≡ lines ++ [] ∷ []
split_ended [] h = refl
split_ended (l ∷ ls) h =
    ap (slice_split is_line_feed) (append_assoc l (10 ∷ []) (flat_map ended ls))
    ∙ slice_split_at is_line_feed l 10 (flat_map ended ls) (All-from_recursion (λ b. is_line_feed b ≡ false) l h.0) refl
    ∙ ap (λ t. l ∷ t) (split_ended ls h.1)

without_added : (lines : List (List ℕ)) → without_last_empty (lines ++ [] ∷ []) ≡ lines
without_added [] = refl
without_added (l ∷ []) = refl
without_added (l ∷ m ∷ ls) = ap (λ t. l ∷ t) (without_added (m ∷ ls))

lines_of_ended : (lines : List (List ℕ)) → AreLines lines → lines_of (flat_map ended lines) ≡ lines
lines_of_ended lines h = ap without_last_empty (split_ended lines h) ∙ without_added lines

pub none_written : (ks : List Bool) (text made : List ℕ) → lines_of text ≡ [] → made ≡ [] → lines_of made ≡ thinned ks (lines_of text)
none_written ks text made none empty = ap lines_of empty ∙ sym (ap (thinned ks) none)

-- the first line, and what was added behind it
pub all_written : (ks : List Bool) (text first rest none head made : List ℕ) → lines_of text ≡ first ∷ lines_of rest → none ≡ [] → head ≡ none ++ flat_map ended (first ∷ []) → made ≡ head ++ flat_map ended (blocks_thinned ks (lines_of rest)) → lines_of made ≡ thinned ks (lines_of text)
all_written ks text first rest none head made is empty begun adds =
    let lines : List (List ℕ) = first ∷ lines_of rest in
    let whole : made ≡ flat_map ended (thinned ks lines) =
    adds ∙ ap (λ (l : List ℕ). l ++ flat_map ended (blocks_thinned ks (lines_of rest))) (begun ∙ ap (λ (l : List ℕ). l ++ flat_map ended (first ∷ [])) empty) ∙ sym (flat_map-append ended (first ∷ []) (blocks_thinned ks (lines_of rest))) in
    ap lines_of whole ∙ lines_of_ended (thinned ks lines) (thinned_clear ks lines (subst AreLines is (lines_clear text))) ∙ ap (thinned ks) (sym is)

-- ---- one line more

pub adds : (lines front rest : List (List ℕ)) (old new : List ℕ) → lines ≡ front ++ rest → new ≡ old ++ flat_map ended front → AddsLine lines rest old new
adds lines front rest old new is e =
    ap (λ (ls : List (List ℕ)). old ++ flat_map ended ls) is ∙ ap (λ (l : List ℕ). old ++ l) (flat_map-append ended front rest)
    ∙ sym (append_assoc old (flat_map ended front) (flat_map ended rest)) ∙ ap (λ (l : List ℕ). l ++ flat_map ended rest) (sym e)

-- one line after the other
pub adds_more : (lines left rest : List (List ℕ)) (first old new : List ℕ) → AddsLine lines left first old → AddsLine left rest old new → AddsLine lines rest first new
adds_more lines left rest first old new h k = h ∙ k

-- all lines
pub adds_all : (lines left rest : List (List ℕ)) (first new : List ℕ) → AddsLine lines left first new → left ≡ rest → rest ≡ [] → new ≡ first ++ flat_map ended lines
adds_all lines left rest first new h e none = sym (h ∙ ap (λ (ls : List (List ℕ)). new ++ flat_map ended ls) (e ∙ none) ∙ append-nil new)

-- the line of the schedule, and all behind it
pub adds_schedule : (kept flags : List Bool) (lines left rest : List (List ℕ)) (line first old new : List ℕ) → AddsLine (blocks_thinned kept lines) (blocks_thinned flags left) first old → left ≡ line ∷ rest → bytes_eq line (codes "schedule") ≡ true → new ≡ old ++ flat_map ended (line ∷ [])
    → new ++ flat_map ended (words_thinned flags rest) ≡ first ++ flat_map ended (blocks_thinned kept lines)
adds_schedule kept flags lines left rest line first old new h e is n =
    let told : is_passed_over line ≡ false = ap is_passed_over ((bytes_eq-Decides line (codes "schedule")).0 is) in
    let cut : blocks_thinned flags left ≡ line ∷ words_thinned flags rest = ap (blocks_thinned flags) e ∙ cut_done flags line rest told is in
    sym (h ∙ adds (blocks_thinned flags left) (line ∷ []) (words_thinned flags rest) old new cut n)
