-- Words one after the other, and those that prepare a run.
use Rattle.std.proofs.Common.{◌≡◌, ℕ, ◌+◌, ◌<◌, Bool, true, false, cond, List, [], ◌∷◌, ◌++◌, append_assoc, append-nil, length, map, take, drop, get_or, refl, sym, ap, ◌∙◌, subst, inl, inr}
use Rattle.std.specs.List.{filter}
use Rattle.std.proofs.lemmas.List.{take_more, take-append-drop, map-append}
use Rattle.std.proofs.lemmas.List.Elements.{filter-append}
use Rattle.std.proofs.lemmas.Grind.{flat_map-append}
use Rattle.fs_calls.specs.declared.call.Call.{Call}
use Rattle.fs_timeline.specs.declared.entry.Entry.{Entry}
use Rattle.fs_script.specs.declared.script.Word.{Word}
use Rattle.fs_script.specs.declared.script.Word.TheVariants as words
use Rattle.fs_sched_witness.specs.declared.moments.Moment.{Moment}
use Rattle.fs_sched.specs.Gives.{single_words, given_words}
use Rattle.fs_sched.specs.Moments.{word_of, words_of}
use Rattle.fs_sched.specs.Runs.{Stage, Does, Words, StopsAt, StopsInWords}
use Rattle.fs_sched.specs.Schedules.{is_events, ends_drawn, prepared, one_event}
use Rattle.fs_sched.specs.code.Counts.{AreCapped}
use Rattle.fs_sched.specs.code.Done.{HasDone}
use Rattle.fs_sched.specs.code.Notes.{Notes, NotesCut}
use Rattle.fs_sched.specs.code.Stages.{stage_of, IsWhy}
use Rattle.fs_sched.specs.declared.pieces.Pieces.{Pieces}
use Rattle.fs_verdict.specs.declared.fault.RunFault.{RunFault}
use Rattle.fs_sched.proofs.Done.{none_told, why_weaker}
use Rattle.fs_sched.proofs.Noting.{hears_append, moments_append, notes_none, cut_whole, notes_append}
use Rattle.fs_sched.proofs.Telling.{words_append, singles_stay}

-- ---- words one after the other

pub done_none : (lists : List (List Call)) (p : Pieces) → HasDone (Words lists (stage_of p.play) []) p p
done_none lists p = none_told (Words lists (stage_of p.play) []) p p (refl, refl) refl

pub done_append : (lists : List (List Call)) (xs ys : List Word) (old now new : Pieces) → HasDone (Words lists (stage_of old.play) xs) old now → HasDone (Words lists (stage_of now.play) ys) now new → HasDone (Words lists (stage_of old.play) (xs ++ ys)) old new
done_append lists xs ys old now new a b = record {
  told = a.told ++ b.told;
  came = words_append lists (stage_of old.play) (stage_of now.play) (stage_of new.play) xs ys a.told b.told a.came b.came;
  counted = λ before counted. subst (λ (es : List Entry). AreCapped new.told es) (append_assoc before a.told b.told) (b.counted (before ++ a.told) (a.counted before counted));
}

stops_front : (lists : List (List Call)) (xs ys : List Word) (old : Stage) (f : RunFault) → StopsInWords lists old xs f → StopsInWords lists old (xs ++ ys) f
stops_front lists [] ys old f stops = absurd stops
stops_front lists (x ∷ xs) ys old f (inl stops) = inl stops
stops_front lists (x ∷ xs) ys old f (inr (middle, told, does, rest)) = inr (middle, told, does, stops_front lists xs ys middle f rest)

pub stops_behind : (lists : List (List Call)) (xs ys : List Word) (told : List Entry) (old now : Stage) (f : RunFault) → Words lists old xs told now → StopsInWords lists now ys f → StopsInWords lists old (xs ++ ys) f
stops_behind lists [] ys told old now f (same, none) stops = subst (λ (s : Stage). StopsInWords lists s ys f) same stops
stops_behind lists (x ∷ xs) ys told old now f (middle, first, rest, does, after, both) stops = inr (middle, first, does, stops_behind lists xs ys rest middle now f after stops)

-- why a run stops at the first of these words, or at those after them
pub why_front : (lists : List (List Call)) (xs ys : List Word) (old : Stage) (f : RunFault) → IsWhy (StopsInWords lists old xs) f → IsWhy (StopsInWords lists old (xs ++ ys)) f
why_front lists xs ys old f why = why_weaker (StopsInWords lists old xs) (StopsInWords lists old (xs ++ ys)) (λ g stops. stops_front lists xs ys old g stops) f why

pub why_behind : (lists : List (List Call)) (xs ys : List Word) (old now : Pieces) (f : RunFault) → HasDone (Words lists (stage_of old.play) xs) old now → IsWhy (StopsInWords lists (stage_of now.play) ys) f → IsWhy (StopsInWords lists (stage_of old.play) (xs ++ ys)) f
why_behind lists xs ys old now f done why = why_weaker (StopsInWords lists (stage_of now.play) ys) (StopsInWords lists (stage_of old.play) (xs ++ ys)) (λ g stops. stops_behind lists xs ys done.told (stage_of old.play) (stage_of now.play) g done.came stops) f why

-- what is told of some words, then of others that may be cut off
pub cut_behind : {A : Type 0} (told : A → A → List Moment → Type 0) (lists : List (List Call)) (old now new : Stage) (u v w : A) (xs ys : List Word) → Notes told lists old u xs now v → NotesCut told lists now v ys new w → NotesCut told lists old u (xs ++ ys) new w
cut_behind told lists old now new u v w xs ys (ms, a, b, c) (us, d, e, (rest, is, how)) = (
  ms ++ us,
  hears_append told u v w ms us a d,
  moments_append lists old now new ms us c e,
  (rest, ap (λ (l : List Word). l ++ ys) (sym b) ∙ ap (λ (l : List Word). words_of ms ++ l) is ∙ sym (append_assoc (words_of ms) (words_of us) rest) ∙ ap (λ (l : List Word). l ++ rest) (sym (map-append word_of ms us)), how),
)

-- ---- words that prepare a run

pub given_append : (xs ys : List Word) → given_words (xs ++ ys) ≡ given_words xs ++ given_words ys
given_append xs ys = flat_map-append single_words xs ys

pub given_drawn : (xs : List Word) (seats : List ℕ) → given_words (xs ++ map one_event seats) ≡ given_words xs ++ map one_event seats
given_drawn xs seats = given_append xs (map one_event seats) ∙ ap (λ (l : List Word). given_words xs ++ l) (singles_stay seats)

pub prepared_none : (ws : List Word) → ends_drawn ws ≡ false → prepared ws ≡ []
prepared_none ws e = ap (λ (b : Bool). cond b (filter is_events ws) []) e

pub prepared_all : (ws : List Word) → ends_drawn ws ≡ true → prepared ws ≡ filter is_events ws
prepared_all ws e = ap (λ (b : Bool). cond b (filter is_events ws) []) e

-- a word that gives events is chosen, and no other one is
chosen_one : (w : Word) → is_events w ≡ true → filter is_events (w ∷ []) ≡ w ∷ []
chosen_one w e = ap (λ (b : Bool). cond b (w ∷ []) []) e

chosen_none : (w : Word) → is_events w ≡ false → filter is_events (w ∷ []) ≡ []
chosen_none w e = ap (λ (b : Bool). cond b (w ∷ []) []) e

pub notes_chosen : {A : Type 0} (told : A → A → List Moment → Type 0) (lists : List (List Call)) (old new : Stage) (u v x : A) (w : Word) → is_events w ≡ true → Notes told lists old u (single_words w) new v → ((first : A) (ms : List Moment) → told first v ms → told first x ms)
    → Notes told lists old u (given_words (filter is_events (w ∷ []))) new x
notes_chosen told lists old new u v x w e (ms, heard, is, all) kept = subst (λ (l : List Word). Notes told lists old u (given_words l) new x) (sym (chosen_one w e)) (ms, λ first before t. kept first _ (heard first before t), is ∙ sym (append-nil (single_words w)), all)

pub done_chosen : (lists : List (List Call)) (w : Word) (old new : Pieces) → is_events w ≡ true → HasDone (Does lists (stage_of old.play) w) old new → HasDone (Words lists (stage_of old.play) (filter is_events (w ∷ []))) old new
done_chosen lists w old new e h = subst (λ (l : List Word). HasDone (Words lists (stage_of old.play) l) old new) (sym (chosen_one w e)) (record {
  told = h.told;
  came = (stage_of new.play, h.told, [], h.came, (refl, refl), sym (append-nil h.told));
  counted = h.counted;
})

pub why_chosen : (lists : List (List Call)) (w : Word) (s : Stage) (f : RunFault) → is_events w ≡ true → IsWhy (StopsAt lists s w) f → IsWhy (StopsInWords lists s (filter is_events (w ∷ []))) f
why_chosen lists w s f e why = subst (λ (l : List Word). IsWhy (StopsInWords lists s l) f) (sym (chosen_one w e)) (why_weaker (StopsAt lists s w) (StopsInWords lists s (w ∷ [])) (λ g stops. inl stops) f why)

pub notes_unchosen : {A : Type 0} (told : A → A → List Moment → Type 0) (lists : List (List Call)) (s : Stage) (u : A) (w : Word) → is_events w ≡ false → Notes told lists s u (given_words (filter is_events (w ∷ []))) s u
notes_unchosen told lists s u w e = subst (λ (l : List Word). Notes told lists s u (given_words l) s u) (sym (chosen_none w e)) (notes_none told lists s u)

pub done_unchosen : (lists : List (List Call)) (w : Word) (p : Pieces) → is_events w ≡ false → HasDone (Words lists (stage_of p.play) (filter is_events (w ∷ []))) p p
done_unchosen lists w p e = subst (λ (l : List Word). HasDone (Words lists (stage_of p.play) l) p p) (sym (chosen_none w e)) (done_none lists p)

-- the words so far that give events, with the next one
chosen_more : (ws : List Word) (i : ℕ) (d : Word) → i < length ws → filter is_events (take i ws) ++ filter is_events (get_or ws i d ∷ []) ≡ filter is_events (take (i + 1) ws)
chosen_more ws i d less = sym (filter-append is_events (take i ws) (get_or ws i d ∷ [])) ∙ ap (filter is_events) (sym (take_more ws i d less))

pub notes_more_chosen : {A : Type 0} (told : A → A → List Moment → Type 0) (lists : List (List Call)) (old now new : Stage) (u v w : A) (ws : List Word) (i : ℕ) (d : Word) → i < length ws → Notes told lists old u (given_words (filter is_events (take i ws))) now v
    → Notes told lists now v (given_words (filter is_events (get_or ws i d ∷ []))) new w → Notes told lists old u (given_words (filter is_events (take (i + 1) ws))) new w
notes_more_chosen told lists old now new u v w ws i d less before notes =
    subst (λ (l : List Word). Notes told lists old u l new w) (sym (given_append (filter is_events (take i ws)) (filter is_events (get_or ws i d ∷ []))) ∙ ap given_words (chosen_more ws i d less))
    (notes_append told lists old now new u v w (given_words (filter is_events (take i ws))) (given_words (filter is_events (get_or ws i d ∷ []))) before notes)

pub done_more_chosen : (lists : List (List Call)) (ws : List Word) (i : ℕ) (d : Word) (old now new : Pieces) → i < length ws → HasDone (Words lists (stage_of old.play) (filter is_events (take i ws))) old now → HasDone (Words lists (stage_of now.play) (filter is_events (get_or ws i d ∷ []))) now new
    → HasDone (Words lists (stage_of old.play) (filter is_events (take (i + 1) ws))) old new
done_more_chosen lists ws i d old now new less a b =
    subst (λ (l : List Word). HasDone (Words lists (stage_of old.play) l) old new) (chosen_more ws i d less) (done_append lists (filter is_events (take i ws)) (filter is_events (get_or ws i d ∷ [])) old now new a b)

-- all words that give events: those so far, the next one, and the rest
chosen_split : (ws : List Word) (i : ℕ) (d : Word) → i < length ws → filter is_events (take i ws) ++ (filter is_events (get_or ws i d ∷ []) ++ filter is_events (drop (i + 1) ws)) ≡ filter is_events ws
chosen_split ws i d less =
    sym (append_assoc (filter is_events (take i ws)) (filter is_events (get_or ws i d ∷ [])) (filter is_events (drop (i + 1) ws)))
    ∙ ap (λ (l : List Word). l ++ filter is_events (drop (i + 1) ws)) (chosen_more ws i d less)
    ∙ sym (filter-append is_events (take (i + 1) ws) (drop (i + 1) ws))
    ∙ ap (filter is_events) (take-append-drop (i + 1) ws)

pub why_more_chosen : (lists : List (List Call)) (ws : List Word) (i : ℕ) (d : Word) (old now : Pieces) (f : RunFault) → ends_drawn ws ≡ true → i < length ws → HasDone (Words lists (stage_of old.play) (filter is_events (take i ws))) old now
    → IsWhy (StopsInWords lists (stage_of now.play) (filter is_events (get_or ws i d ∷ []))) f → IsWhy (StopsInWords lists (stage_of old.play) (prepared ws)) f
why_more_chosen lists ws i d old now f ends less done why =
    let here : List Word = filter is_events (get_or ws i d ∷ []) in
    let rest : List Word = filter is_events (drop (i + 1) ws) in
    subst (λ (l : List Word). IsWhy (StopsInWords lists (stage_of old.play) l) f) (chosen_split ws i d less ∙ sym (prepared_all ws ends))
    (why_behind lists (filter is_events (take i ws)) (here ++ rest) old now f done (why_front lists here rest (stage_of now.play) f why))

-- ---- words that prepare a run, and events that are drawn after them

pub cut_prepared : {A : Type 0} (told : A → A → List Moment → Type 0) (lists : List (List Call)) (old now new : Stage) (u v w : A) (ws : List Word) (seats : List ℕ) → Notes told lists old u (given_words (prepared ws)) now v → NotesCut told lists now v (map one_event seats) new w
    → NotesCut told lists old u (given_words (prepared ws ++ map one_event seats)) new w
cut_prepared told lists old now new u v w ws seats before notes =
    subst (λ (l : List Word). NotesCut told lists old u l new w) (sym (given_drawn (prepared ws) seats)) (cut_behind told lists old now new u v w (given_words (prepared ws)) (map one_event seats) before notes)

-- the same of turns
pub cut_turns : {A : Type 0} (told : A → A → List Moment → Type 0) (lists : List (List Call)) (old now new : Stage) (u v w : A) (ws vs : List Word) → Notes told lists old u (given_words (prepared ws)) now v → Notes told lists now v (given_words vs) new w
    → NotesCut told lists old u (given_words (prepared ws ++ vs)) new w
cut_turns told lists old now new u v w ws vs before notes =
    subst (λ (l : List Word). NotesCut told lists old u l new w) (sym (given_append (prepared ws) vs))
    (cut_whole told lists old new u w (given_words (prepared ws) ++ given_words vs) (notes_append told lists old now new u v w (given_words (prepared ws)) (given_words vs) before notes))

-- ---- words that give events alone

abbrev pub OnlyEvents : List Word → Type 0
OnlyEvents [] = Unit {0}
OnlyEvents (words.Events seat times ∷ ws) = OnlyEvents ws
OnlyEvents (words.Checkpoint ∷ ws) = ⊥
OnlyEvents (words.Finish ∷ ws) = ⊥
OnlyEvents (words.Drawn ∷ ws) = ⊥

only_append : (xs ys : List Word) → OnlyEvents xs → OnlyEvents ys → OnlyEvents (xs ++ ys)
only_append [] ys a b = b
only_append (words.Events seat times ∷ xs) ys a b = only_append xs ys a b
only_append (words.Checkpoint ∷ xs) ys a b = absurd a
only_append (words.Finish ∷ xs) ys a b = absurd a
only_append (words.Drawn ∷ xs) ys a b = absurd a

only_chosen : (ws : List Word) → OnlyEvents (filter is_events ws)
only_chosen [] = tt
only_chosen (words.Events seat times ∷ ws) = only_chosen ws
only_chosen (words.Checkpoint ∷ ws) = only_chosen ws
only_chosen (words.Finish ∷ ws) = only_chosen ws
only_chosen (words.Drawn ∷ ws) = only_chosen ws

only_one : (seats : List ℕ) → OnlyEvents (map one_event seats)
only_one [] = tt
only_one (seat ∷ seats) = only_one seats

only_prepared : (ws : List Word) → OnlyEvents (prepared ws)
only_prepared ws = go (ends_drawn ws)
  where
    go : (b : Bool) → OnlyEvents (cond b (filter is_events ws) [])
    go true = only_chosen ws
    go false = tt

-- as those of a drawn run are
pub only_behind : (ws vs : List Word) → OnlyEvents vs → OnlyEvents (prepared ws ++ vs)
only_behind ws vs only = only_append (prepared ws) vs (only_prepared ws) only

pub only_drawn : (ws : List Word) (seats : List ℕ) → OnlyEvents (prepared ws ++ map one_event seats)
only_drawn ws seats = only_append (prepared ws) (map one_event seats) (only_prepared ws) (only_one seats)
