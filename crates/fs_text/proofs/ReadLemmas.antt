-- What the code's reading of a journal rests on.
use Rattle.std.proofs.Common.{◌≡◌, ℕ, ◌+◌, true, false, List, [], ◌∷◌, ◌++◌, sym, ap, ◌∙◌, append-nil, Ok, Err, Result}
use Rattle.std.proofs.lemmas.Bool.{cond-true, cond-false}
use Rattle.fs_names.specs.declared.limits.Limits.{Limits}
use Rattle.fs_timeline.specs.declared.entry.Entry.{Entry}
use Rattle.fs_words.specs.declared.fault.ScriptFault.{ScriptFault}
use Rattle.fs_words.specs.declared.fault.FaultKind.{FaultKind}
use Rattle.fs_words.specs.declared.fault.FaultKind.TheVariants as kind
use Rattle.fs_words.specs.declared.numbered.Line.{Line}
use Rattle.fs_words.specs.Lines.{is_passed_over}
use Rattle.fs_words.specs.Reading.{◌>>=◌, name_at, at_line}
use Rattle.fs_words.specs.code.Answers.{FailsAs, FailsThere}
use Rattle.fs_words.specs.code.LinesLeft.{LinesLeft, IsNext, AreOver}
use Rattle.fs_words.proofs.ReadLemmas.{with_front, front_twice, PassesOver, next_read, over_read}
use Rattle.fs_text.specs.Journal.{names_at, entry_in_line, entries_from, is_tree_line}

-- ---- entries, one line after the other

passed_over : (limits : Limits) → PassesOver (entries_from limits)
unfolding entries_from
passed_over limits n line more p = cond-true _ _ _ p

step_tree : (limits : Limits) (n : ℕ) (line : List ℕ) (more : List (List ℕ)) → is_passed_over line ≡ false → is_tree_line line ≡ true → entries_from limits n (line ∷ more) ≡ Ok []
unfolding entries_from
step_tree limits n line more p t = cond-false _ _ _ p ∙ cond-true _ _ _ t

step_entry : (limits : Limits) (n : ℕ) (line : List ℕ) (more : List (List ℕ)) (e : Entry) → is_passed_over line ≡ false → is_tree_line line ≡ false → entry_in_line limits line ≡ Ok e → entries_from limits n (line ∷ more) ≡ with_front (e ∷ []) (entries_from limits (n + 1) more)
unfolding entries_from
step_entry limits n line more e p t h = cond-false _ _ _ p ∙ cond-false _ _ _ t ∙ ap (λ r. at_line n r >>= λ x. entries_from limits (n + 1) more >>= λ xs. Ok (x ∷ xs)) h

step_fault : (limits : Limits) (n : ℕ) (line : List ℕ) (more : List (List ℕ)) (k : FaultKind) → is_passed_over line ≡ false → is_tree_line line ≡ false → entry_in_line limits line ≡ Err k → entries_from limits n (line ∷ more) ≡ Err (record { line = n; kind = k })
unfolding entries_from
step_fault limits n line more k p t h = cond-false _ _ _ p ∙ cond-false _ _ _ t ∙ ap (λ r. at_line n r >>= λ x. entries_from limits (n + 1) more >>= λ xs. Ok (x ∷ xs)) h

-- where a text stands after some lines
abbrev pub Reading : Type 0
Reading = Result (List Entry) ScriptFault

-- the lines that are left, from the next one on
turn : (limits : Limits) (whole : Reading) (front : List Entry) (old new : LinesLeft) (line : Line) → whole ≡ with_front front (entries_from limits old.number old.lines) → IsNext old line new → whole ≡ with_front front (entries_from limits line.number (line.text.now ∷ new.lines))
turn limits whole front old new line h next = h ∙ ap (with_front front) (next_read (entries_from limits) (passed_over limits) old new line next)

pub after_tree : (limits : Limits) (whole : Reading) (front : List Entry) (old new : LinesLeft) (line : Line) → whole ≡ with_front front (entries_from limits old.number old.lines) → IsNext old line new → is_tree_line line.text.now ≡ true → whole ≡ Ok front
after_tree limits whole front old new line h next t =
    turn limits whole front old new line h next ∙ ap (with_front front) (step_tree limits line.number line.text.now new.lines next.taken t) ∙ ap Ok (append-nil front)

pub after_entry : (limits : Limits) (whole : Reading) (front : List Entry) (old new : LinesLeft) (line : Line) (e : Entry) → whole ≡ with_front front (entries_from limits old.number old.lines) → IsNext old line new → is_tree_line line.text.now ≡ false → entry_in_line limits line.text.now ≡ Ok e
    → whole ≡ with_front (front ++ e ∷ []) (entries_from limits new.number new.lines)
after_entry limits whole front old new line e h next t given =
    turn limits whole front old new line h next
    ∙ ap (with_front front) (step_entry limits line.number line.text.now new.lines e next.taken t given)
    ∙ front_twice front (e ∷ []) (entries_from limits (line.number + 1) new.lines)
    ∙ ap (λ n. with_front (front ++ e ∷ []) (entries_from limits n new.lines)) (sym next.number)

pub after_fault : (limits : Limits) (whole : Reading) (front : List Entry) (old new : LinesLeft) (line : Line) (k : FaultKind) → whole ≡ with_front front (entries_from limits old.number old.lines) → IsNext old line new → is_tree_line line.text.now ≡ false → FailsAs k (entry_in_line limits line.text.now) → FailsThere line.number k whole
after_fault limits whole front old new line kind.OutOfMemory h next t given = tt
after_fault limits whole front old new line k h next t given =
    turn limits whole front old new line h next ∙ ap (with_front front) (step_fault limits line.number line.text.now new.lines k next.taken t given)

pub after_all : (limits : Limits) (whole : Reading) (front : List Entry) (old new : LinesLeft) → whole ≡ with_front front (entries_from limits old.number old.lines) → AreOver old new → whole ≡ Ok front
unfolding entries_from
after_all limits whole front old new h over = h ∙ ap (with_front front) (over_read (entries_from limits) (passed_over limits) old new over) ∙ ap Ok (append-nil front)

-- ---- names, one word after the other

abbrev pub Names : Type 0
Names = Result (List (List ℕ)) FaultKind

pub after_name : (limits : Limits) (whole : Names) (front : List (List ℕ)) (rest : List (List ℕ)) (word n : List ℕ) (more : List (List ℕ)) → whole ≡ with_front front (names_at limits rest) → rest ≡ word ∷ more → name_at limits word ≡ Ok n → whole ≡ with_front (front ++ n ∷ []) (names_at limits more)
after_name limits whole front rest word n more h cut given =
    h ∙ ap (λ ws. with_front front (names_at limits ws)) cut
    ∙ ap (λ r. with_front front (r >>= λ x. names_at limits more >>= λ xs. Ok (x ∷ xs))) given
    ∙ front_twice front (n ∷ []) (names_at limits more)

pub after_bad_name : (limits : Limits) (whole : Names) (front : List (List ℕ)) (rest : List (List ℕ)) (word : List ℕ) (more : List (List ℕ)) (k : FaultKind) → whole ≡ with_front front (names_at limits rest) → rest ≡ word ∷ more → FailsAs k (name_at limits word) → FailsAs k whole
after_bad_name limits whole front rest word more kind.OutOfMemory h cut given = tt
after_bad_name limits whole front rest word more k h cut given =
    h ∙ ap (λ ws. with_front front (names_at limits ws)) cut ∙ ap (λ r. with_front front (r >>= λ x. names_at limits more >>= λ xs. Ok (x ∷ xs))) given

pub all_names : (limits : Limits) (whole : Names) (front : List (List ℕ)) (rest : List (List ℕ)) → whole ≡ with_front front (names_at limits rest) → rest ≡ [] → whole ≡ Ok front
all_names limits whole front rest h none = h ∙ ap (λ ws. with_front front (names_at limits ws)) none ∙ ap Ok (append-nil front)
