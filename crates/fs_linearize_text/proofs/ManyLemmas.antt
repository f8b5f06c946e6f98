-- Histories one after the other: lines cut into pieces, and what is told of each.
use Rattle.std.proofs.Common.{◌≡◌, ⊎_elim, ℕ, ◌+◌, ◌-◌, ◌≤◌, ◌<◌, Bool, true, false, List, [], ◌∷◌, ◌++◌, map, length, take, drop, Option, Result, Ok, Err, refl, sym, ap, ap₂, ◌∙◌, subst, get_or, suc, arith, add-one}
use Rattle.std.specs.Borrow.{Bor}
use Rattle.std.specs.List.{flat_map}
use Rattle.std.proofs.lemmas.List.{take-map, drop-map, map-append, length-take-le, length-drop, length-map, drop-drop}
use Rattle.std.proofs.lemmas.Grind.{flat_map-append}
use Rattle.std.proofs.Math.Seq.{take-length}
use Rattle.fs_timeline.proofs.TimelineLemmas.{append_nil}
use Rattle.fs_calls.specs.Starts.{Start}
use Rattle.fs_linearize_histories.specs.declared.heard.Heard.{Heard}
use Rattle.fs_linearize.specs.declared.linearizing.Found.{Found}
use Rattle.std.specs.Prelude.{◌≢◌, ◌||◌, is_some, None, Some}
use Rattle.std.specs.Str.{bytes_eq}
use Rattle.std.proofs.lemmas.Bool.{cond-false, false_from_ne_true}
use Rattle.std.proofs.lemmas.Slice.Eq.{bytes_eq-Decides}
use Rattle.fs_names.specs.declared.limits.Limits.{Limits}
use Rattle.fs_names.specs.declared.limits.Limits.TheVariants.{V1, V2, V3}
use Rattle.fs_text.specs.Journal.{journal_header}
use Rattle.fs_words.specs.Lines.{lines_of}
use Rattle.fs_words.specs.Headers.{started_header, announced, is_too_long}
use Rattle.fs_words.proofs.HeaderLemmas.{announced_is}
use Rattle.fs_words.specs.Reading.{◌>>=◌}
use Rattle.fs_words.specs.declared.fault.ScriptFault.{ScriptFault}
use Rattle.fs_words.proofs.ReadLemmas.{words_in, with_front, front_twice, words_from, no_words}
use Rattle.fs_verdict.specs.InputFaults.{IsFaultOf}
use Rattle.fs_verdict.specs.declared.fault.RunFault.{RunFault}
use Rattle.fs_verdict.specs.declared.fault.RunFault.TheVariants.{Input, Read, Write, OutOfMemory, Full, UnderWay}
use Rattle.fs_linearize_dialects.specs.declared.dialect.Row.{Row}
use Rattle.fs_linearize_text.specs.Texts.{history_by}
use Rattle.fs_linearize_text.specs.Many.{is_header, before_pieces, pieces_of, behind, found_line, histories_by, histories_of}
use Rattle.fs_linearize_text.specs.Answers.{outcome_of}
use Rattle.fs_linearize_text.specs.Makes.{Given, IsFoundFor, AreFoundFor}
use Rattle.fs_linearize_text.specs.code.Each.{lines_before, IsFurther, IsFoundIn, IsPieceCut, AddsPiece, AreTold}
use Rattle.fs_linearize_text.specs.code.TooLarge.{IsTooLarge}
use Rattle.fs_linearize_text.specs.code.Laws.{refuses_many}
use Rattle.fs_linearize_text.specs.declared.answer.Outcome.{Outcome}

-- ---- header lines

started_bytes : (limits : Limits) → length (started_header limits) ≡ 16
started_bytes V1 = refl
started_bytes V2 = refl
started_bytes V3 = refl

none_started : (line : List ℕ) → length line ≢ 16 → is_some (announced started_header line) ≡ false
none_started line other = go (announced started_header line) refl
  where
    go : (o : Option Limits) → announced started_header line ≡ o → is_some o ≡ false
    go None e = refl
    go (Some limits) e = let same = ap length (announced_is started_header line limits e) in absurd (omega (arith, other, same, started_bytes limits))

-- a line of another length is none
pub no_header : (line : List ℕ) → length line ≢ 16 → is_header line ≡ false
no_header line other =
    let first : bytes_eq line journal_header ≡ false = false_from_ne_true _ (λ e. let same = ap length ((bytes_eq-Decides line journal_header).0 e) in absurd (omega (arith, other, same))) in
    ap₂ (λ b c. b || c) first (none_started line other)

-- ---- pieces

by_header : (b : Bool) (line next : List ℕ) (lines : List (List ℕ)) → is_header next ≡ b
    → pieces_of (next ∷ lines) ≡ (next ∷ take (lines_before lines) lines) ∷ pieces_of (drop (lines_before lines) lines)
    → pieces_of (line ∷ next ∷ lines) ≡ (line ∷ take (lines_before (next ∷ lines)) (next ∷ lines)) ∷ pieces_of (drop (lines_before (next ∷ lines)) (next ∷ lines))
by_header true line next lines is cut = rw is (ap (before_pieces line) cut ∙ (rw is (ap (λ (ps : List (List (List ℕ))). (line ∷ []) ∷ ps) (sym cut))))
by_header false line next lines is cut = rw is (ap (before_pieces line) cut ∙ (rw is refl))

pub pieces_cut : (line : List ℕ) (lines : List (List ℕ)) → pieces_of (line ∷ lines) ≡ (line ∷ take (lines_before lines) lines) ∷ pieces_of (drop (lines_before lines) lines)
pieces_cut line [] = refl
pieces_cut line (next ∷ lines) = by_header (is_header next) line next lines refl (pieces_cut next lines)

-- ---- faults

pub further_fault : {X : Type 0} (before : ℕ) (given : Result X ScriptFault) (fault told : RunFault) → IsFaultOf given fault → IsFurther before fault told → IsFaultOf (behind before given) told
further_fault before given (Input f) told is far = subst (IsFaultOf (behind before given)) (sym far) (ap (behind before) is)
further_fault before given Read told is far = absurd is
further_fault before given Write told is far = absurd is
further_fault before given OutOfMemory told is far = subst (IsFaultOf (behind before given)) (sym far) tt
further_fault before given Full told is far = absurd is
further_fault before given (UnderWay c) told is far = absurd is

-- the fault of what is read next is that of the whole
pub next_fault : {X Y : Type 0} (given : Result X ScriptFault) (goes : X → Result Y ScriptFault) (fault : RunFault) → IsFaultOf given fault → IsFaultOf (given >>= goes) fault
next_fault given goes (Input f) is = ap (λ r. r >>= goes) is
next_fault given goes Read is = absurd is
next_fault given goes Write is = absurd is
next_fault given goes OutOfMemory is = tt
next_fault given goes Full is = absurd is
next_fault given goes (UnderWay c) is = absurd is

-- ---- each history

-- what came of the histories that were read so far, where the others are left
pub record AreToldFrom (whole left : Given) (limit : ℕ) (outcomes : List Outcome) (text : List ℕ) : Type 0 where
  pub histories : List (Start × List Heard)
  pub found : List Found
  pub read : whole ≡ with_front histories left
  pub true_of : AreFoundFor limit histories found
  pub outcomes_are : outcomes ≡ map outcome_of found
  pub text_is : text ≡ flat_map found_line found

found_more : (limit : ℕ) (hs : List (Start × List Heard)) (fs : List Found) (h : Start × List Heard) (f : Found) → AreFoundFor limit hs fs → IsFoundFor limit h f → AreFoundFor limit (hs ++ h ∷ []) (fs ++ f ∷ [])
found_more limit [] [] h f all one = (one, tt)
found_more limit [] (g ∷ fs) h f all one = absurd all
found_more limit (x ∷ hs) [] h f all one = absurd all
found_more limit (x ∷ hs) (g ∷ fs) h f all one = (all.0, found_more limit hs fs h f all.1 one)

line_more : (fs : List Found) (f : Found) → flat_map found_line (fs ++ f ∷ []) ≡ flat_map found_line fs ++ found_line f
line_more fs f = flat_map-append found_line fs (f ∷ []) ∙ ap (λ (t : List ℕ). flat_map found_line fs ++ t) (append_nil (found_line f))

-- one history more was found
pub told_more : (rows : List Row) (whole : Given) (before limit : ℕ) (piece : List (List ℕ)) (pieces : List (List (List ℕ))) (f : Found) (old new : List Outcome) (text longer : List ℕ)
    → AreToldFrom whole (histories_by rows before (piece ∷ pieces)) limit old text → IsFoundIn (behind before (history_by rows piece)) limit f
    → new ≡ old ++ outcome_of f ∷ [] → longer ≡ text ++ found_line f → AreToldFrom whole (histories_by rows (before + length piece) pieces) limit new longer
told_more rows whole before limit piece pieces f old new text longer t found pushed written = go (behind before (history_by rows piece)) refl found
  where
    rest : Given
    rest = histories_by rows (before + length piece) pieces

    go : (r : Result (Start × List Heard) ScriptFault) → behind before (history_by rows piece) ≡ r → IsFoundIn r limit f → AreToldFrom whole rest limit new longer
    go (Err e) is none = absurd none
    go (Ok h) is one = record {
      histories = t.histories ++ h ∷ [];
      found = t.found ++ f ∷ [];
      read = t.read ∙ ap (λ (r : Result (Start × List Heard) ScriptFault). with_front t.histories (r >>= λ (x : Start × List Heard). rest >>= λ (xs : List (Start × List Heard)). Ok (x ∷ xs))) is ∙ front_twice t.histories (h ∷ []) rest;
      true_of = found_more limit t.histories t.found h f t.true_of one;
      outcomes_are = pushed ∙ ap (λ (os : List Outcome). os ++ outcome_of f ∷ []) t.outcomes_are ∙ sym (map-append outcome_of t.found (f ∷ []));
      text_is = written ∙ ap (λ (xs : List ℕ). xs ++ found_line f) t.text_is ∙ sym (line_more t.found f);
    }

-- the fault of a history is that of the text
pub told_fault : (rows : List Row) (whole : Given) (before limit : ℕ) (piece : List (List ℕ)) (pieces : List (List (List ℕ))) (outcomes : List Outcome) (text : List ℕ) (fault : RunFault)
    → AreToldFrom whole (histories_by rows before (piece ∷ pieces)) limit outcomes text → IsFaultOf (behind before (history_by rows piece)) fault → IsFaultOf whole fault
told_fault rows whole before limit piece pieces outcomes text fault t is =
    let rest : Given = histories_by rows (before + length piece) pieces in
    let goes : Start × List Heard → Given = λ (x : Start × List Heard). rest >>= λ (xs : List (Start × List Heard)). Ok (x ∷ xs) in
    let adds : List (Start × List Heard) → Given = λ (xs : List (Start × List Heard)). Ok (t.histories ++ xs) in
    subst (λ (r : Given). IsFaultOf r fault) (sym t.read) (next_fault (behind before (history_by rows piece) >>= goes) adds fault (next_fault (behind before (history_by rows piece)) goes fault is))

pub told_none : (whole : Given) (limit : ℕ) → AreToldFrom whole whole limit [] []
told_none whole limit = record { histories = []; found = []; read = same whole; true_of = tt; outcomes_are = refl; text_is = refl }
  where
    same : (r : Given) → r ≡ with_front [] r
    same (Ok xs) = refl
    same (Err f) = refl

pub told_all : (whole : Given) (limit : ℕ) (outcomes : List Outcome) (text : List ℕ) → AreToldFrom whole (Ok []) limit outcomes text → AreTold whole limit outcomes text
told_all whole limit outcomes text t = record { histories = t.histories; found = t.found; read = t.read ∙ ap (λ (xs : List (Start × List Heard)). Ok xs) (append_nil t.histories); true_of = t.true_of; outcomes_are = t.outcomes_are; text_is = t.text_is }

-- ---- the lines of a piece

pub words_cut : (line : Bor (List ℕ)) (more : List (Bor (List ℕ))) (k : ℕ) → k ≡ lines_before (words_in more)
    → pieces_of (words_in (line ∷ more)) ≡ words_in (take (k + 1) (line ∷ more)) ∷ pieces_of (words_in (drop (k + 1) (line ∷ more)))
words_cut line more k is =
    rw (add-one k) (
    pieces_cut line.now (words_in more)
    ∙ ap (λ (n : ℕ). (line.now ∷ take n (words_in more)) ∷ pieces_of (drop n (words_in more))) (sym is)
    ∙ ap (λ (xs : List (List ℕ)). (line.now ∷ xs) ∷ pieces_of (drop k (words_in more))) (take-map (λ (w : Bor (List ℕ)). w.now) k more)
    ∙ ap (λ (xs : List (List ℕ)). (line.now ∷ words_in (take k more)) ∷ pieces_of xs) (drop-map (λ (w : Bor (List ℕ)). w.now) k more))

-- ---- the loop over pieces

pub piece_cut : (lines : List (Bor (List ℕ))) (k : ℕ) → 0 < length lines → k ≡ lines_before (words_in (drop 1 lines)) → k ≤ length (drop 1 lines) → IsPieceCut (words_in lines) (words_in (take (k + 1) lines)) (words_in (drop (k + 1) lines))
piece_cut [] k some is few = absurd (omega arith)
piece_cut (line ∷ more) k some is few =
    let taken : length (take (k + 1) (line ∷ more)) ≡ k + 1 = length-take-le (k + 1) (line ∷ more) (omega (arith, few)) in
    let rest : length (drop (k + 1) (line ∷ more)) ≡ length (line ∷ more) - (k + 1) = length-drop (k + 1) (line ∷ more) in
    let one : length (words_in (take (k + 1) (line ∷ more))) ≡ length (take (k + 1) (line ∷ more)) = length-map (take (k + 1) (line ∷ more)) (λ (w : Bor (List ℕ)). w.now) in
    let other : length (words_in (drop (k + 1) (line ∷ more))) ≡ length (drop (k + 1) (line ∷ more)) = length-map (drop (k + 1) (line ∷ more)) (λ (w : Bor (List ℕ)). w.now) in
    let whole : length (words_in (line ∷ more)) ≡ length (line ∷ more) = length-map (line ∷ more) (λ (w : Bor (List ℕ)). w.now) in
    record { pieces = words_cut line more k is; all = omega (arith, one, other, whole, taken, rest, few); some = omega (arith, one, taken) }

-- a piece is found, and the others are left
pub step_told : (rows : List Row) (whole : Given) (at count limit : ℕ) (lines left piece : List (Bor (List ℕ))) (old new : List Outcome) (text longer : List ℕ)
    → left ≡ drop at lines → piece ≡ take count left → count ≤ length left
    → IsPieceCut (words_in left) (words_in (take count left)) (words_in (drop count left))
    → AreToldFrom whole (histories_by rows at (pieces_of (words_in (drop at lines)))) limit old text
    → AddsPiece (behind at (history_by rows (words_in piece))) limit old new text longer
    → AreToldFrom whole (histories_by rows (at + count) (pieces_of (words_in (drop (at + count) lines)))) limit new longer
step_told rows whole at count limit lines left piece old new text longer rest front few cut told added =
    let one : length (words_in piece) ≡ count = length-map piece (λ (w : Bor (List ℕ)). w.now) ∙ ap length front ∙ length-take-le count left few in
    let last : drop count left ≡ drop (at + count) lines = ap (drop count) rest ∙ drop-drop count at lines in
    let pieces : pieces_of (words_in (drop at lines)) ≡ words_in piece ∷ pieces_of (words_in (drop (at + count) lines)) =
    ap (λ (xs : List (Bor (List ℕ))). pieces_of (words_in xs)) (sym rest) ∙ cut.pieces
    ∙ ap (λ (xs : List (Bor (List ℕ))). words_in xs ∷ pieces_of (words_in (drop count left))) (sym front)
    ∙ ap (λ (xs : List (Bor (List ℕ))). words_in piece ∷ pieces_of (words_in xs)) last in
    subst (λ (n : ℕ). AreToldFrom whole (histories_by rows (at + n) (pieces_of (words_in (drop (at + count) lines)))) limit new longer) one
    (told_more rows whole at limit (words_in piece) (pieces_of (words_in (drop (at + count) lines))) added.found old new text longer
    (subst (λ (ps : List (List (List ℕ))). AreToldFrom whole (histories_by rows at ps) limit old text) pieces told) added.true_of added.outcomes added.text_is)

-- a piece has a fault
pub step_fault : (rows : List Row) (whole : Given) (at count limit : ℕ) (lines left piece : List (Bor (List ℕ))) (fault : RunFault) (old : List Outcome) (text : List ℕ)
    → left ≡ drop at lines → piece ≡ take count left
    → IsPieceCut (words_in left) (words_in (take count left)) (words_in (drop count left))
    → AreToldFrom whole (histories_by rows at (pieces_of (words_in (drop at lines)))) limit old text
    → IsFaultOf (behind at (history_by rows (words_in piece))) fault
    → IsFaultOf whole fault
step_fault rows whole at count limit lines left piece fault old text rest front cut told is =
    let pieces : pieces_of (words_in (drop at lines)) ≡ words_in piece ∷ pieces_of (words_in (drop count left)) =
    ap (λ (xs : List (Bor (List ℕ))). pieces_of (words_in xs)) (sym rest) ∙ cut.pieces
    ∙ ap (λ (xs : List (Bor (List ℕ))). words_in xs ∷ pieces_of (words_in (drop count left))) (sym front) in
    told_fault rows whole at limit (words_in piece) (pieces_of (words_in (drop count left))) old text fault
    (subst (λ (ps : List (List (List ℕ))). AreToldFrom whole (histories_by rows at ps) limit old text) pieces told) is

-- no line is left
pub told_end : (rows : List Row) (whole : Given) (at limit : ℕ) (lines : List (Bor (List ℕ))) (outcomes : List Outcome) (text : List ℕ) → length lines ≤ at → AreToldFrom whole (histories_by rows at (pieces_of (words_in (drop at lines)))) limit outcomes text → AreTold whole limit outcomes text
told_end rows whole at limit lines outcomes text past told =
    told_all whole limit outcomes text (subst (λ (ls : List (List ℕ)). AreToldFrom whole (histories_by rows at (pieces_of ls)) limit outcomes text) (no_words lines at past) told)

-- how many lines stand before a header line, counted one by one

front_word : (ws : List (Bor (List ℕ))) (i : ℕ) (line d : Bor (List ℕ)) → i < length ws → get_or ws i d ≡ line → words_in (drop i ws) ≡ line.now ∷ words_in (drop (i + 1) ws)
front_word ws i line d small is = words_from ws i d small ∙ ap (λ (l : Bor (List ℕ)). l.now ∷ words_in (drop (i + 1) ws)) is

pub header_here : (ws : List (Bor (List ℕ))) (i count n : ℕ) (line d : Bor (List ℕ)) → i < length ws → get_or ws i d ≡ line → is_header line.now ≡ true → count + lines_before (words_in (drop i ws)) ≡ n → count ≡ n
header_here ws i count n line d small is head all =
    let none : lines_before (words_in (drop i ws)) ≡ 0 = ap lines_before (front_word ws i line d small is) ∙ (rw head refl) in
    omega (arith, none, all)

pub header_behind : (ws : List (Bor (List ℕ))) (i count n : ℕ) (line d : Bor (List ℕ)) → i < length ws → get_or ws i d ≡ line → is_header line.now ≡ false → count + lines_before (words_in (drop i ws)) ≡ n → (count + 1) + lines_before (words_in (drop (i + 1) ws)) ≡ n
header_behind ws i count n line d small is head all =
    let more : lines_before (words_in (drop i ws)) ≡ suc (lines_before (words_in (drop (i + 1) ws))) = ap lines_before (front_word ws i line d small is) ∙ (rw head refl) in
    omega (arith, more, all)

pub header_nowhere : (ws : List (Bor (List ℕ))) (i count n : ℕ) → length ws ≤ i → count + lines_before (words_in (drop i ws)) ≡ n → count ≡ n
header_nowhere ws i count n past all =
    let none : lines_before (words_in (drop i ws)) ≡ 0 = ap lines_before (no_words ws i past) in
    omega (arith, none, all)

pub found_in : (before limit : ℕ) (given : Result (Start × List Heard) ScriptFault) (h : Start × List Heard) (f : Found) → given ≡ Ok h → IsFoundFor limit h f → IsFoundIn (behind before given) limit f
found_in before limit given h f is one = rw is one

-- ---- the text

pub many_by : (rows : List Row) (text : List ℕ) (lines : List (List ℕ)) → is_too_long text ≡ false → lines ≡ lines_of text → histories_by rows 0 (pieces_of lines) ≡ histories_of rows text
many_by rows text lines short is = ap (λ (ls : List (List ℕ)). histories_by rows 0 (pieces_of ls)) is ∙ sym (cond-false _ _ _ short)

pub many_too_large : (rows : List Row) (text : List ℕ) (fault : RunFault) → IsTooLarge text fault → IsFaultOf (histories_of rows text) fault
many_too_large rows text fault h = ⊎_elim (λ e. rw e tt) (λ p. rw p.1 (refuses_many rows text p.0)) h

pub rest_all : {A : Type 0} (i : ℕ) (xs : List A) → take (length xs - i) (drop i xs) ≡ drop i xs
rest_all i xs = ap (λ (n : ℕ). take n (drop i xs)) (sym (length-drop i xs)) ∙ take-length (drop i xs)

pub within_more : {A : Type 0} (xs : List A) (at count : ℕ) → at ≤ length xs → count ≤ length (take (length xs - at) (drop at xs)) → at + count ≤ length xs
within_more xs at count within most =
    let left : length (take (length xs - at) (drop at xs)) ≡ length xs - at = ap length (rest_all at xs) ∙ length-drop at xs in
    omega (arith, within, most, left)
