-- What is learned of histories, one after the other.
use Rattle.std.proofs.Common.{◌≡◌, ℕ, ◌+◌, ◌≤◌, ◌||◌, Bool, false, List, [], ◌∷◌, ◌++◌, map, length, take, drop, Option, Some, None, Result, Ok, Err, refl, sym, ap, ◌∙◌, subst}
use Rattle.std.specs.Borrow.{Bor}
use Rattle.std.specs.List.{list_any}
use Rattle.std.proofs.lemmas.List.{map-append, length-take-le, length-map, drop-drop}
use Rattle.std.proofs.lemmas.Grind.{flat_map-append}
use Rattle.fs_timeline.proofs.TimelineLemmas.{append_nil}
use Rattle.fs_timeline.proofs.AppendLemmas.{list_any-push}
use Rattle.fs_calls.specs.Starts.{Start}
use Rattle.fs_linearize_histories.specs.declared.heard.Heard.{Heard}
use Rattle.fs_linearize_histories.specs.declared.fault.HistoryFault.{HistoryFault}
use Rattle.fs_linearize_histories.specs.Faults.{history_fault}
use Rattle.fs_timeline.specs.declared.entry.Entry.{Entry}
use Rattle.fs_linearize_histories.specs.Histories.{Explains}
use Rattle.fs_linearize_dialects.specs.Dialects.{widened}
use Rattle.fs_linearize_histories.proofs.FaultLemmas.{faults_are_first}
use Rattle.fs_words.specs.Reading.{◌>>=◌}
use Rattle.fs_words.specs.declared.fault.ScriptFault.{ScriptFault}
use Rattle.fs_words.proofs.ReadLemmas.{words_in, with_front, front_twice, no_words}
use Rattle.fs_verdict.specs.InputFaults.{IsFaultOf}
use Rattle.fs_verdict.specs.declared.fault.RunFault.{RunFault}
use Rattle.fs_linearize_dialects.specs.declared.dialect.Row.{Row}
use Rattle.fs_linearize_dialects.specs.Learning.{learned, AreAmong, is_overlap, is_unexplained}
use Rattle.fs_linearize_dialects.specs.LearnedTables.{proposed}
use Rattle.fs_linearize_dialects.specs.declared.learning.End.{End}
use Rattle.fs_linearize_dialects.specs.declared.learning.End.TheVariants as end
use Rattle.fs_linearize_dialects.proofs.AcceptLemmas.{accepted, among_both}
use Rattle.fs_linearize_dialects.proofs.TableLemmas.{proposed_are_all}
use Rattle.fs_linearize_text.specs.Texts.{history_by}
use Rattle.fs_linearize_text.specs.Many.{pieces_of, behind, histories_by}
use Rattle.fs_linearize_text.specs.Learnings.{lesson_by, lesson, rows_of_lesson, rows_in, overlaps, stays_unexplained, learning_by, written_of, AreAccepted, IsLearning}
use Rattle.fs_linearize_text.specs.code.Each.{IsPieceCut}
use Rattle.fs_linearize_text.specs.code.Learns.{of_piece, ReadsPiece, AreLearned}
use Rattle.fs_linearize_text.specs.declared.learning.Learned.{Learned}
use Rattle.fs_linearize_text.specs.declared.learning.Lessons.{Lessons}
use Rattle.fs_linearize_text.specs.declared.learning.Piece.{Piece}
use Rattle.fs_linearize_text.proofs.ManyLemmas.{next_fault}

abbrev pub Given : Type 0
Given = Result (List (Start × List Heard)) ScriptFault

-- ---- histories that are read

pub piece_read : (before : ℕ) (given : Result (Start × List Heard) ScriptFault) (h : Start × List Heard) → given ≡ Ok h → behind before given ≡ Ok h
piece_read before given h is = ap (behind before) is

pieces_left : (at count : ℕ) (lines left piece : List (Bor (List ℕ))) → left ≡ drop at lines → piece ≡ take count left → IsPieceCut (words_in left) (words_in (take count left)) (words_in (drop count left))
    → pieces_of (words_in (drop at lines)) ≡ words_in piece ∷ pieces_of (words_in (drop (at + count) lines))
pieces_left at count lines left piece rest front cut =
    let last : drop count left ≡ drop (at + count) lines = ap (drop count) rest ∙ drop-drop count at lines in
    ap (λ (xs : List (Bor (List ℕ))). pieces_of (words_in xs)) (sym rest) ∙ cut.pieces
    ∙ ap (λ (xs : List (Bor (List ℕ))). words_in xs ∷ pieces_of (words_in (drop count left))) (sym front)
    ∙ ap (λ (xs : List (Bor (List ℕ))). words_in piece ∷ pieces_of (words_in xs)) last

one_read : (rows : List Row) (at : ℕ) (piece : List (List ℕ)) (pieces : List (List (List ℕ))) (h : Start × List Heard) → behind at (history_by rows piece) ≡ Ok h → histories_by rows at (piece ∷ pieces) ≡ with_front (h ∷ []) (histories_by rows (at + length piece) pieces)
one_read rows at piece pieces h is = ap (λ (r : Result (Start × List Heard) ScriptFault). r >>= λ (x : Start × List Heard). histories_by rows (at + length piece) pieces >>= λ (xs : List (Start × List Heard)). Ok (x ∷ xs)) is

pub read_more : (rows : List Row) (whole : Given) (at count : ℕ) (lines left piece : List (Bor (List ℕ))) (old new : List Piece) (p : Piece) → left ≡ drop at lines → piece ≡ take count left → count ≤ length left
    → IsPieceCut (words_in left) (words_in (take count left)) (words_in (drop count left)) → whole ≡ with_front (map of_piece old) (histories_by rows at (pieces_of (words_in (drop at lines)))) → behind at (history_by rows (words_in piece)) ≡ Ok (of_piece p) → new ≡ old ++ p ∷ []
    → whole ≡ with_front (map of_piece new) (histories_by rows (at + count) (pieces_of (words_in (drop (at + count) lines))))
read_more rows whole at count lines left piece old new p rest front few cut was is pushed =
    let one : length (words_in piece) ≡ count = length-map piece (λ (w : Bor (List ℕ)). w.now) ∙ ap length front ∙ length-take-le count left few in
    let others : Given = histories_by rows (at + count) (pieces_of (words_in (drop (at + count) lines))) in
    was
    ∙ ap (λ (ps : List (List (List ℕ))). with_front (map of_piece old) (histories_by rows at ps)) (pieces_left at count lines left piece rest front cut)
    ∙ ap (with_front (map of_piece old)) (one_read rows at (words_in piece) (pieces_of (words_in (drop (at + count) lines))) (of_piece p) is)
    ∙ ap (λ (n : ℕ). with_front (map of_piece old) (with_front (of_piece p ∷ []) (histories_by rows (at + n) (pieces_of (words_in (drop (at + count) lines)))))) one
    ∙ front_twice (map of_piece old) (of_piece p ∷ []) others
    ∙ ap (λ (xs : List (Start × List Heard)). with_front xs others) (sym (map-append of_piece old (p ∷ [])) ∙ ap (map of_piece) (sym pushed))

pub read_fault : (rows : List Row) (whole : Given) (at count : ℕ) (lines left piece : List (Bor (List ℕ))) (old : List Piece) (fault : RunFault) → left ≡ drop at lines → piece ≡ take count left
    → IsPieceCut (words_in left) (words_in (take count left)) (words_in (drop count left)) → whole ≡ with_front (map of_piece old) (histories_by rows at (pieces_of (words_in (drop at lines)))) → IsFaultOf (behind at (history_by rows (words_in piece))) fault → IsFaultOf whole fault
read_fault rows whole at count lines left piece old fault rest front cut was is =
    let others : Given = histories_by rows (at + length (words_in piece)) (pieces_of (words_in (drop (at + count) lines))) in
    let goes : Start × List Heard → Given = λ (x : Start × List Heard). others >>= λ (xs : List (Start × List Heard)). Ok (x ∷ xs) in
    let adds : List (Start × List Heard) → Given = λ (xs : List (Start × List Heard)). Ok (map of_piece old ++ xs) in
    let so : whole ≡ with_front (map of_piece old) (behind at (history_by rows (words_in piece)) >>= goes) = was ∙ ap (λ (ps : List (List (List ℕ))). with_front (map of_piece old) (histories_by rows at ps)) (pieces_left at count lines left piece rest front cut) in
    subst (λ (r : Given). IsFaultOf r fault) (sym so) (next_fault (behind at (history_by rows (words_in piece)) >>= goes) adds fault (next_fault (behind at (history_by rows (words_in piece))) goes fault is))

pub piece_added : (given : Result (Start × List Heard) ScriptFault) (old new : List Piece) (p : Piece) → given ≡ Ok (of_piece p) → new ≡ old ++ p ∷ [] → ReadsPiece given old new
piece_added given old new p read pushed = record { piece = p; read = read; pushed = pushed }

pub read_none : (whole : Given) → whole ≡ with_front [] whole
read_none (Ok xs) = refl
read_none (Err f) = refl

pub read_all : (rows : List Row) (whole : Given) (at : ℕ) (lines : List (Bor (List ℕ))) (ps : List Piece) → length lines ≤ at → whole ≡ with_front (map of_piece ps) (histories_by rows at (pieces_of (words_in (drop at lines)))) → whole ≡ Ok (map of_piece ps)
read_all rows whole at lines ps past was =
    was ∙ ap (λ (ls : List (List ℕ)). with_front (map of_piece ps) (histories_by rows at (pieces_of ls))) (no_words lines at past) ∙ ap (λ (xs : List (Start × List Heard)). Ok xs) (append_nil (map of_piece ps))

-- ---- one history

pub lesson_whole : (h : Start × List Heard) (rows : List Row) (e : End) → None ≡ history_fault h.1 → (rows, e) ≡ learned h.0 0 h.1 → (rows, e) ≡ lesson h
lesson_whole h rows e none is = is ∙ ap (λ (o : Option (ℕ × HistoryFault)). lesson_by o (learned h.0 0 h.1)) none

pub lesson_fault : (h : Start × List Heard) (place : ℕ) (kind : HistoryFault) → Some (place, kind) ≡ history_fault h.1 → ([], end.Fault place kind) ≡ lesson h
lesson_fault h place kind some = ap (λ (o : Option (ℕ × HistoryFault)). lesson_by o (learned h.0 0 h.1)) some

-- ---- all histories

pub learned_none : (lessons : Lessons) → lessons.rows.items ≡ [] → lessons.overlaps ≡ false → lessons.unexplained ≡ false → AreLearned [] lessons
learned_none lessons rows over un = record { rows = rows; overlaps_is = over; unexplained_is = un }

pub learned_more : (ps : List Piece) (p : Piece) (old new : Lessons) → AreLearned (map of_piece ps) old → new.rows.items ≡ old.rows.items ++ (lesson (of_piece p)).0 → new.overlaps ≡ (old.overlaps || is_overlap (lesson (of_piece p)).1) → new.unexplained ≡ (old.unexplained || is_unexplained (lesson (of_piece p)).1)
    → AreLearned (map of_piece (ps ++ p ∷ [])) new
learned_more ps p old new was rows over un =
    let all : map of_piece (ps ++ p ∷ []) ≡ map of_piece ps ++ of_piece p ∷ [] = map-append of_piece ps (p ∷ []) in
    let hs = map of_piece ps in
    let h = of_piece p in
    record {
      rows = rows ∙ ap (λ (rs : List Row). rs ++ (lesson h).0) was.rows ∙ sym (ap rows_in all ∙ flat_map-append rows_of_lesson hs (h ∷ []) ∙ ap (λ (rs : List Row). rows_in hs ++ rs) (append_nil (rows_of_lesson h)));
      overlaps_is = over ∙ ap (λ (b : Bool). b || overlaps h) was.overlaps_is ∙ sym (ap (list_any overlaps) all ∙ list_any-push overlaps hs h);
      unexplained_is = un ∙ ap (λ (b : Bool). b || stays_unexplained h) was.unexplained_is ∙ sym (ap (list_any stays_unexplained) all ∙ list_any-push stays_unexplained hs h);
    }

ended : (f : ℕ × HistoryFault) → end.Fault f.0 f.1 ≡ end.Whole → ⊥
ended f e = cc

one_accepted : (all : List Row) (h : Start × List Heard) → AreAmong all (lesson h).0 → (lesson h).1 ≡ end.Whole → (es : List Entry) × Explains h.0 (widened all h.1) es
one_accepted all h among whole = go (history_fault h.1) refl
  where
    go : (o : Option (ℕ × HistoryFault)) → history_fault h.1 ≡ o → (es : List Entry) × Explains h.0 (widened all h.1) es
    go (Some f) is = absurd (ended f (sym (ap (λ (o : Option (ℕ × HistoryFault)). (lesson_by o (learned h.0 0 h.1)).1) is) ∙ whole))
    go None is =
        let same : lesson h ≡ learned h.0 0 h.1 = ap (λ (o : Option (ℕ × HistoryFault)). lesson_by o (learned h.0 0 h.1)) is in
        accepted h.0 h.1 (lesson h).0 (lesson h).1 all same whole ((faults_are_first.none h.1).0 is) among

are_accepted : (all : List Row) (hs : List (Start × List Heard)) → AreAmong all (rows_in hs) → AreAccepted all hs
are_accepted all [] among = tt
are_accepted all (h ∷ hs) among =
    let parts = among_both all (lesson h).0 (rows_in hs) among in
    (one_accepted all h parts.0, are_accepted all hs parts.1)

pub learning_made : (hs : List (Start × List Heard)) (lessons : Lessons) (told : Learned) (text : List ℕ) → AreLearned hs lessons → told.outcome ≡ learning_by lessons.overlaps lessons.unexplained → text ≡ written_of lessons.overlaps lessons.rows.items → IsLearning (Ok hs) told text
learning_made hs lessons told text learned outcome written = record {
  histories = hs;
  read = refl;
  outcome = outcome ∙ ap (λ (b : Bool). learning_by b lessons.unexplained) learned.overlaps_is ∙ ap (learning_by (list_any overlaps hs)) learned.unexplained_is;
  text_is = written ∙ ap (λ (b : Bool). written_of b lessons.rows.items) learned.overlaps_is ∙ ap (written_of (list_any overlaps hs)) learned.rows;
  accepted = are_accepted (proposed (rows_in hs)) hs (proposed_are_all (rows_in hs));
}
