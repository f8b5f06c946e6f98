-- A schedule with some of its words is read again.
use Rattle.std.proofs.Common.{◌≡◌, ℕ, zero, suc, ◌+◌, ◌<◌, ◌≤◌, Bool, true, false, cond, ltb, eqb, ◌&&◌, List, [], ◌∷◌, ◌++◌, length, take, drop, get_or, Option, Some, None, Result, Ok, Err, refl, sym, ap, subst, ◌∙◌, position, codes, length-append, append-nil, arith}
use Rattle.std.specs.Prelude.{nat_le, nat_lt}
use Rattle.std.specs.List.{AllByRecursion, slice_split, onto_first}
use Rattle.std.specs.Str.{bytes_eq}
use Rattle.std.proofs.lemmas.Bool.{cond-true, cond-false, and_parts}
use Rattle.std.proofs.lemmas.Bool.Decides.{nat_tests}
use Rattle.std.proofs.lemmas.List.{drop-drop}
use Rattle.std.proofs.lemmas.List.Elements.{All-from_recursion}
use Rattle.std.proofs.lemmas.List.Quantifiers.{position-Some}
use Rattle.std.proofs.lemmas.List.Splits.{slice_split_at, slice_split_none}
use Rattle.std.proofs.lemmas.Slice.Eq.{bytes_eq-Decides}
use Rattle.fs_words.specs.Lines.{is_passed_over, is_space, is_empty, pieces_of, has_empty}
use Rattle.fs_words.specs.Words as words
use Rattle.fs_words.specs.Words.{number_of}
use Rattle.fs_words.specs.Reading.{◌>>=◌, words_of, fault_at, at_line}
use Rattle.fs_words.specs.declared.fault.FaultKind.{FaultKind}
use Rattle.fs_words.specs.declared.fault.FaultKind.TheVariants as kind
use Rattle.fs_calls.specs.declared.call.Call.{Call}
use Rattle.fs_script.specs.Limits.{events_in}
use Rattle.fs_script.specs.Script.{is_lower, is_thread, is_star, seat_named, with_word, events_word, timed_word, has_finish, schedule_word, schedule_line, schedule_from}
use Rattle.fs_script.specs.declared.limits.TheConstants.{EVENT_LIMIT}
use Rattle.fs_script.specs.declared.script.Script.{Script}
use Rattle.fs_script.specs.declared.script.Word.{Word}
use Rattle.fs_script.specs.declared.script.Word.TheVariants.{Events, Finish, Checkpoint, Drawn}
use Rattle.fs_sched_shrink.specs.Kept.{picked}
use Rattle.fs_sched_shrink.specs.code.Thinning.{read_words, spaced, line_of, words_thinned}
use Rattle.fs_sched_shrink.proofs.Picking.{picked_append, unfinished_picked, events_fewer}

-- ---- answers

pub no_ok : {A F : Type 0} (f : F) (x : A) → ◌≡◌ {A = Result A F} (Err f) (Ok x) → ⊥
no_ok f x e = cc

pub ok_same : {A F : Type 0} (x y : A) → ◌≡◌ {A = Result A F} (Ok x) (Ok y) → x ≡ y
ok_same x y e = cc

-- a step that gives something, and the next one
pub step_split : {A B F : Type 0} (r : Result A F) (f : A → Result B F) (u : B) → (r >>= f) ≡ Ok u → (t : A) × (r ≡ Ok t) × (f t ≡ Ok u)
step_split (Ok t) f u e = (t, refl, e)
step_split (Err k) f u e = absurd (no_ok k u e)

pub line_split : {A : Type 0} (n : ℕ) (r : Result A FaultKind) (t : A) → at_line n r ≡ Ok t → r ≡ Ok t
line_split n (Ok x) t e = ap Ok (ok_same x t e)
line_split n (Err k) t e = absurd (no_ok (fault_at n k) t e)

-- ---- names

abbrev pub AreThreads : List (List ℕ) → Type 0
AreThreads names = AllByRecursion (λ name. is_thread name ≡ true) names

lower_shown : (b : ℕ) → is_lower b ≡ true → eqb b 35 ≡ false
lower_shown b e = grind (arith, nat_tests)

thread_shown : (name : List ℕ) → is_thread name ≡ true → is_passed_over name ≡ false
thread_shown [] e = absurd (let z : ◌≡◌ {A = Bool} false true = e in cc)
thread_shown (b ∷ bs) e = lower_shown b (and_parts _ _ e).0

thread_at : (names : List (List ℕ)) (seat : ℕ) → AreThreads names → seat < length names → is_thread (get_or names seat []) ≡ true
thread_at [] seat are less = absurd (omega (arith, less))
thread_at (x ∷ names) zero are less = are.0
thread_at (x ∷ names) (suc seat) are less = thread_at names seat are.1 (omega (arith, less))

-- a word that names a thread is no comment
seat_shown : (names : List (List ℕ)) (name : List ℕ) (seat : ℕ) → AreThreads names → seat_named names name ≡ Some seat → is_passed_over name ≡ false
seat_shown names name seat are e =
    let found = position-Some (bytes_eq name) names seat [] e in
    let same : name ≡ get_or names seat [] = (bytes_eq-Decides name (get_or names seat [])).0 found.1 in
    ap is_passed_over same ∙ thread_shown (get_or names seat []) (thread_at names seat are found.0)

front_shown : (word : List ℕ) (at : ℕ) → is_passed_over (take at word) ≡ false → is_passed_over word ≡ false
front_shown [] zero e = e
front_shown [] (suc at) e = e
front_shown (b ∷ bs) zero e = absurd (let z : ◌≡◌ {A = Bool} true false = e in cc)
front_shown (b ∷ bs) (suc at) e = e

-- ---- a word

-- a word that is read is no comment, and is the same word in each script with these names and no more events
pub record IsAgain (s : Script) (text : words.Word) (t : Script) : Type 0 where
  pub word : Word
  pub is : t ≡ with_word s word
  pub again : (u : Script) → u.names ≡ s.names → has_finish u.words ≡ false → events_in u.words ≤ events_in s.words → schedule_word u text ≡ Ok (with_word u word)
  pub unended : has_finish s.words ≡ false
  pub shown : is_passed_over text ≡ false

within : (n m k : ℕ) → ltb k (n + m) ≡ false → (l : ℕ) → l ≤ n → ltb k (l + m) ≡ false
within n m k e l h = grind (arith, nat_tests)

record AreAgain (s : Script) (seat times : Option ℕ) (t : Script) : Type 0 where
  of : ℕ
  there : seat ≡ Some of
  word : Word
  is : t ≡ with_word s word
  again : (u : Script) → events_in u.words ≤ events_in s.words → events_word u seat times ≡ Ok (with_word u word)

events_again : (s t : Script) (seat times : Option ℕ) → events_word s seat times ≡ Ok t → AreAgain s seat times t
events_again s t None times e = absurd (no_ok kind.BadWord t e)
events_again s t (Some seat) None e = absurd (no_ok kind.BadWord t e)
events_again s t (Some seat) (Some n) e = go (nat_le 1 n && nat_le n EVENT_LIMIT) (nat_lt EVENT_LIMIT (events_in s.words + n)) refl refl
  where
    go : (a b : Bool) → (nat_le 1 n && nat_le n EVENT_LIMIT) ≡ a → nat_lt EVENT_LIMIT (events_in s.words + n) ≡ b → AreAgain s (Some seat) (Some n) t
    go false b f g = absurd (no_ok kind.BadWord t (sym (cond-false _ _ _ f) ∙ e))
    go true true f g = absurd (no_ok kind.TooLarge t (sym (cond-true _ _ _ f ∙ cond-true _ _ _ g) ∙ e))
    go true false f g =
        let read : ◌≡◌ {A = Result Script FaultKind} (Ok (with_word s (Events seat n))) (Ok t) = sym (cond-true _ _ _ f ∙ cond-false _ _ _ g) ∙ e in
        record {
          of = seat;
          there = refl;
          word = Events seat n;
          is = sym (ok_same _ _ read);
          again = λ u few. cond-true _ _ _ f ∙ cond-false _ _ _ (within (events_in s.words) n EVENT_LIMIT g (events_in u.words) few);
        }

-- a word that is no mark
by_star : (s : Script) (word : List ℕ) → has_finish s.words ≡ false → bytes_eq word (codes "finish") ≡ false → bytes_eq word (codes "!checkpoint") ≡ false → bytes_eq word (codes "!drawn") ≡ false → schedule_word s word ≡ timed_word s word (position is_star word)
unfolding schedule_word
by_star s word unended other mark drawn = cond-false _ _ _ unended ∙ cond-false _ _ _ other ∙ cond-false _ _ _ mark ∙ cond-false _ _ _ drawn

by_finish : (s : Script) (word : List ℕ) → has_finish s.words ≡ false → bytes_eq word (codes "finish") ≡ true → schedule_word s word ≡ Ok (with_word s Finish)
unfolding schedule_word
by_finish s word unended other = cond-false _ _ _ unended ∙ cond-true _ _ _ other

by_checkpoint : (s : Script) (word : List ℕ) → has_finish s.words ≡ false → bytes_eq word (codes "finish") ≡ false → bytes_eq word (codes "!checkpoint") ≡ true → schedule_word s word ≡ Ok (with_word s Checkpoint)
unfolding schedule_word
by_checkpoint s word unended other mark = cond-false _ _ _ unended ∙ cond-false _ _ _ other ∙ cond-true _ _ _ mark

by_drawn : (s : Script) (word : List ℕ) → has_finish s.words ≡ false → bytes_eq word (codes "finish") ≡ false → bytes_eq word (codes "!checkpoint") ≡ false → bytes_eq word (codes "!drawn") ≡ true → schedule_word s word ≡ Ok (with_word s Drawn)
unfolding schedule_word
by_drawn s word unended other mark drawn = cond-false _ _ _ unended ∙ cond-false _ _ _ other ∙ cond-false _ _ _ mark ∙ cond-true _ _ _ drawn

behind_finish : (s : Script) (word : List ℕ) → has_finish s.words ≡ true → schedule_word s word ≡ Err kind.BadWord
unfolding schedule_word
behind_finish s word ended = cond-true _ _ _ ended

timed_again : (s t : Script) (text : words.Word) → AreThreads s.names → has_finish s.words ≡ false → bytes_eq text (codes "finish") ≡ false → bytes_eq text (codes "!checkpoint") ≡ false → bytes_eq text (codes "!drawn") ≡ false → (star : Option ℕ) → position is_star text ≡ star → timed_word s text star ≡ Ok t → IsAgain s text t
timed_again s t text are unended other mark drawn None at e =
    let a = events_again s t (seat_named s.names text) (Some 1) e in
    record {
      word = a.word;
      is = a.is;
      again = λ u names unended few. by_star u text unended other mark drawn ∙ ap (timed_word u text) at ∙ ap (λ ns. events_word u (seat_named ns text) (Some 1)) names ∙ a.again u few;
      unended = unended;
      shown = seat_shown s.names text a.of are a.there;
    }
timed_again s t text are unended other mark drawn (Some star) at e =
    let name : List ℕ = take star text in
    let times : Option ℕ = number_of (drop (star + 1) text) in
    let a = events_again s t (seat_named s.names name) times e in
    record {
      word = a.word;
      is = a.is;
      again = λ u names unended few. by_star u text unended other mark drawn ∙ ap (timed_word u text) at ∙ ap (λ ns. events_word u (seat_named ns name) times) names ∙ a.again u few;
      unended = unended;
      shown = front_shown text star (seat_shown s.names name a.of are a.there);
    }

mark_shown : (text mark : List ℕ) → bytes_eq text mark ≡ true → is_passed_over mark ≡ false → is_passed_over text ≡ false
mark_shown text mark e shown = ap is_passed_over ((bytes_eq-Decides text mark).0 e) ∙ shown

pub word_again : (s t : Script) (text : words.Word) → AreThreads s.names → schedule_word s text ≡ Ok t → IsAgain s text t
word_again s t text are e = go (has_finish s.words) (bytes_eq text (codes "finish")) (bytes_eq text (codes "!checkpoint")) (bytes_eq text (codes "!drawn")) refl refl refl refl
  where
    go : (b f m d : Bool) → has_finish s.words ≡ b → bytes_eq text (codes "finish") ≡ f → bytes_eq text (codes "!checkpoint") ≡ m → bytes_eq text (codes "!drawn") ≡ d → IsAgain s text t
    go true f m d unended other mark drawn = absurd (no_ok kind.BadWord t (sym (behind_finish s text unended) ∙ e))
    go false true m d unended other mark drawn =
        record {
          word = Finish;
          is = sym (ok_same _ _ (sym (by_finish s text unended other) ∙ e));
          again = λ u names unended few. by_finish u text unended other;
          unended = unended;
          shown = mark_shown text (codes "finish") other refl;
        }
    go false false true d unended other mark drawn =
        record {
          word = Checkpoint;
          is = sym (ok_same _ _ (sym (by_checkpoint s text unended other mark) ∙ e));
          again = λ u names unended few. by_checkpoint u text unended other mark;
          unended = unended;
          shown = mark_shown text (codes "!checkpoint") mark refl;
        }
    go false false false true unended other mark drawn =
        record {
          word = Drawn;
          is = sym (ok_same _ _ (sym (by_drawn s text unended other mark drawn) ∙ e));
          again = λ u names unended few. by_drawn u text unended other mark drawn;
          unended = unended;
          shown = mark_shown text (codes "!drawn") drawn refl;
        }
    go false false false false unended other mark drawn = timed_again s t text are unended other mark drawn (position is_star text) refl (sym (by_star s text unended other mark drawn) ∙ e)

-- ---- the words of a line

-- a script with these calls, and those of its words that stay
abbrev pub with_words : List Bool → List (List Call) → Script → Script
with_words ks lists s = record s { lists = lists; words = picked s.words ks }

-- a word that can stand on a line of its own
abbrev pub IsShown : words.Word → Type 0
IsShown text = is_passed_over text ≡ false

pub record LineIsAgain (ks : List Bool) (lists : List (List Call)) (s : Script) (texts : List words.Word) (t : Script) : Type 0 where
  pub read : schedule_line (with_words ks lists s) (picked texts (drop (length s.words) ks)) ≡ Ok (with_words ks lists t)
  pub count : length t.words ≡ length s.words + length texts
  pub names : t.names ≡ s.names
  pub lists_stay : t.lists ≡ s.lists
  pub shown : AllByRecursion IsShown texts

-- one word more, which stays or goes
word_more : (ks : List Bool) (lists : List (List Call)) (s : Script) (word : Word) (b : Bool) → get_or (drop (length s.words) ks) 0 false ≡ b
    → with_words ks lists (with_word s word) ≡ record s { lists = lists; words = picked s.words ks ++ cond b (word ∷ []) [] }
word_more ks lists s word b e = ap (λ ws. record s { lists = lists; words = ws }) (picked_append s.words (word ∷ []) ks ∙ ap (λ f. picked s.words ks ++ cond f (word ∷ []) []) e)

line_step : (ks : List Bool) (lists : List (List Call)) (s : Script) (text : words.Word) (texts : List words.Word) (t : Script) → AreThreads s.names → ((m : Script) → AreThreads m.names → schedule_line m texts ≡ Ok t → LineIsAgain ks lists m texts t)
    → (m : Script) × (schedule_word s text ≡ Ok m) × (schedule_line m texts ≡ Ok t) → LineIsAgain ks lists s (text ∷ texts) t
line_step ks lists s text texts t are ih (m, first, behind) =
    record {
      read = either (get_or flags 0 false) refl;
      count = (let n : length t.words ≡ length m.words + length texts = more.count in omega (arith, n, one));
      names = more.names ∙ names;
      lists_stay = more.lists_stay ∙ ap (λ (x : Script). x.lists) a.is;
      shown = (a.shown, more.shown);
    }
  where
    flags : List Bool
    flags = drop (length s.words) ks

    u : Script
    u = with_words ks lists s

    a : IsAgain s text m
    a = word_again s m text are first

    names : m.names ≡ s.names
    names = ap (λ (x : Script). x.names) a.is

    more : LineIsAgain ks lists m texts t
    more = ih m (subst AreThreads (sym names) are) behind

    one : length m.words ≡ length s.words + 1
    one = ap (λ (x : Script). length x.words) a.is ∙ length-append s.words (a.word ∷ [])

    next : drop (length m.words) ks ≡ drop 1 flags
    next = ap (λ n. drop n ks) one ∙ sym (drop-drop 1 (length s.words) ks)

    rest : schedule_line (with_words ks lists m) (picked texts (drop 1 flags)) ≡ Ok (with_words ks lists t)
    rest = ap (λ r. schedule_line (with_words ks lists m) (picked texts r)) (sym next) ∙ more.read

    either : (b : Bool) → get_or flags 0 false ≡ b → schedule_line u (cond (get_or flags 0 false) (text ∷ picked texts (drop 1 flags)) (picked texts (drop 1 flags))) ≡ Ok (with_words ks lists t)
    either true f =
        ap (schedule_line u) (cond-true _ _ _ f)
        ∙ ap (λ r. r >>= λ v. schedule_line v (picked texts (drop 1 flags))) (a.again u refl (unfinished_picked s.words ks a.unended) (events_fewer s.words ks))
        ∙ ap (λ v. schedule_line v (picked texts (drop 1 flags))) (sym (word_more ks lists s a.word true f) ∙ ap (with_words ks lists) (sym a.is))
        ∙ rest
    either false f =
        ap (schedule_line u) (cond-false _ _ _ f)
        ∙ ap (λ v. schedule_line v (picked texts (drop 1 flags))) (ap (λ ws. record s { lists = lists; words = ws }) (sym (append-nil (picked s.words ks))) ∙ sym (word_more ks lists s a.word false f) ∙ ap (with_words ks lists) (sym a.is))
        ∙ rest

pub line_again : (ks : List Bool) (lists : List (List Call)) (s : Script) (texts : List words.Word) (t : Script) → AreThreads s.names → schedule_line s texts ≡ Ok t → LineIsAgain ks lists s texts t
line_again ks lists s [] t are e =
    let same : s ≡ t = ok_same s t e in
    record {
      read = ap (λ x. Ok (with_words ks lists x)) same;
      count = (let n : length t.words ≡ length s.words = ap (λ (x : Script). length x.words) (sym same) in omega (arith, n));
      names = ap (λ (x : Script). x.names) (sym same);
      lists_stay = ap (λ (x : Script). x.lists) (sym same);
      shown = tt;
    }
line_again ks lists s (text ∷ texts) t are e = line_step ks lists s text texts t are (λ m names read. line_again ks lists m texts t names read) (step_split (schedule_word s text) (λ v. schedule_line v texts) t e)

-- ---- a line of words

-- a byte that ends no word
abbrev pub IsClear : List ℕ → Type 0
IsClear text = AllByRecursion (λ b. is_space b ≡ false) text

pub parts_clear : (p : ℕ → Bool) (xs : List ℕ) → AllByRecursion (λ (part : List ℕ). AllByRecursion (λ b. p b ≡ false) part) (slice_split p xs)
parts_clear p [] = (tt, tt)
parts_clear p (x ∷ xs) = go (p x) refl (slice_split p xs) (parts_clear p xs)
  where
    go : (b : Bool) → p x ≡ b → (parts : List (List ℕ)) → AllByRecursion (λ (part : List ℕ). AllByRecursion (λ b. p b ≡ false) part) parts → AllByRecursion (λ (part : List ℕ). AllByRecursion (λ b. p b ≡ false) part) (cond (p x) ([] ∷ parts) (onto_first x parts))
    go true e parts h = subst (AllByRecursion (λ (part : List ℕ). AllByRecursion (λ b. p b ≡ false) part)) (sym (cond-true (p x) ([] ∷ parts) (onto_first x parts) e)) (tt, h)
    go false e [] h = subst (AllByRecursion (λ (part : List ℕ). AllByRecursion (λ b. p b ≡ false) part)) (sym (cond-false (p x) ([] ∷ []) (onto_first x []) e)) ((e, tt), tt)
    go false e (part ∷ parts) h = subst (AllByRecursion (λ (part : List ℕ). AllByRecursion (λ b. p b ≡ false) part)) (sym (cond-false (p x) ([] ∷ part ∷ parts) (onto_first x (part ∷ parts)) e)) ((e, h.0), h.1)

-- what all items are, those that stay are
pub picked_all : {X : Type 0} (P : X → Type 0) (xs : List X) (ks : List Bool) → AllByRecursion P xs → AllByRecursion P (picked xs ks)
picked_all P [] ks h = tt
picked_all P (x ∷ xs) ks h = go (get_or ks 0 false) (picked_all P xs (drop 1 ks) h.1)
  where
    go : (b : Bool) → AllByRecursion P (picked xs (drop 1 ks)) → AllByRecursion P (cond b (x ∷ picked xs (drop 1 ks)) (picked xs (drop 1 ks)))
    go true more = (h.0, more)
    go false more = more

shown_some : (text : List ℕ) → is_passed_over text ≡ false → is_empty text ≡ false
shown_some [] e = absurd (let z : ◌≡◌ {A = Bool} true false = e in cc)
shown_some (b ∷ bs) e = some_bytes (length bs)
  where
    some_bytes : (n : ℕ) → eqb (suc n) 0 ≡ false
    some_bytes n = grind (arith, nat_tests)

pieces_joined : (w : words.Word) (ws : List words.Word) → AllByRecursion IsClear (w ∷ ws) → pieces_of (spaced w ws) ≡ w ∷ ws
pieces_joined w [] h = ap pieces_of (append-nil w) ∙ slice_split_none is_space w (All-from_recursion (λ b. is_space b ≡ false) w h.0)
pieces_joined w (v ∷ ws) h =
    slice_split_at is_space w 32 (spaced v ws) (All-from_recursion (λ b. is_space b ≡ false) w h.0) refl
    ∙ ap (λ t. w ∷ t) (pieces_joined v ws h.1)

none_empty : (ws : List words.Word) → AllByRecursion IsShown ws → has_empty ws ≡ false
none_empty [] h = refl
none_empty (w ∷ ws) h = rw (shown_some w h.0) (none_empty ws h.1)

words_joined : (w : words.Word) (ws : List words.Word) → AllByRecursion IsClear (w ∷ ws) → AllByRecursion IsShown (w ∷ ws) → words_of (spaced w ws) ≡ Ok (w ∷ ws)
words_joined w ws clear shown =
    let cut = pieces_joined w ws clear in
    cond-false _ _ _ (ap has_empty cut ∙ none_empty (w ∷ ws) shown) ∙ ap Ok cut

joined_shown : (w : words.Word) (ws : List words.Word) → is_passed_over w ≡ false → is_passed_over (spaced w ws) ≡ false
joined_shown [] ws e = absurd (let z : ◌≡◌ {A = Bool} true false = e in cc)
joined_shown (b ∷ bs) ws e = e

-- the words of a line that has words
pub line_words : (line : List ℕ) (ws : List words.Word) → words_of line ≡ Ok ws → ws ≡ pieces_of line
line_words line ws e = go (has_empty (pieces_of line)) refl
  where
    go : (b : Bool) → has_empty (pieces_of line) ≡ b → ws ≡ pieces_of line
    go true f = absurd (no_ok kind.BadLine ws (sym (cond-true _ _ _ f) ∙ e))
    go false f = sym (ok_same (pieces_of line) ws (sym (cond-false _ _ _ f) ∙ e))

-- ---- the lines of the schedule

schedule_passed : (n : ℕ) (s : Script) (line : List ℕ) (more : List (List ℕ)) → is_passed_over line ≡ true → schedule_from n s (line ∷ more) ≡ schedule_from (n + 1) s more
unfolding schedule_from
schedule_passed n s line more p = cond-true _ _ _ p

schedule_told : (n : ℕ) (s : Script) (line : List ℕ) (more : List (List ℕ)) → is_passed_over line ≡ false → schedule_from n s (line ∷ more) ≡ (at_line n (words_of line >>= schedule_line s) >>= λ t. schedule_from (n + 1) t more)
unfolding schedule_from
schedule_told n s line more p = cond-false _ _ _ p

schedule_ended : (n : ℕ) (s : Script) → schedule_from n s [] ≡ Ok s
unfolding schedule_from
schedule_ended n s = refl

pub thinned_passed : (ks : List Bool) (line : List ℕ) (more : List (List ℕ)) → is_passed_over line ≡ true → words_thinned ks (line ∷ more) ≡ line ∷ words_thinned ks more
unfolding words_thinned
thinned_passed ks line more p = cond-true _ _ _ p

pub thinned_words : (ks : List Bool) (line : List ℕ) (more : List (List ℕ)) → is_passed_over line ≡ false → words_thinned ks (line ∷ more) ≡ line_of (picked (read_words (words_of line)) ks) ++ words_thinned (drop (length (read_words (words_of line))) ks) more
unfolding words_thinned
thinned_words ks line more p = cond-false _ _ _ p

thinned_told : (ks : List Bool) (line : List ℕ) (more : List (List ℕ)) (ws : List words.Word) → is_passed_over line ≡ false → words_of line ≡ Ok ws → words_thinned ks (line ∷ more) ≡ line_of (picked ws ks) ++ words_thinned (drop (length ws) ks) more
thinned_told ks line more ws p e = thinned_words ks line more p ∙ ap (λ r. line_of (picked (read_words r) ks) ++ words_thinned (drop (length (read_words r)) ks) more) e

pub thinned_ended : (ks : List Bool) → words_thinned ks [] ≡ []
unfolding words_thinned
thinned_ended ks = refl

-- a line of words that were read, or no line where none is left
line_taken : (n : ℕ) (s t : Script) (ws : List words.Word) (more : List (List ℕ)) → AllByRecursion IsClear ws → AllByRecursion IsShown ws → schedule_line s ws ≡ Ok t → (m : ℕ) × (schedule_from n s (line_of ws ++ more) ≡ schedule_from m t more)
line_taken n s t [] more clear shown read = (n, ap (λ x. schedule_from n x more) (ok_same s t read))
line_taken n s t (w ∷ ws) more clear shown read = (
  n + 1,
  schedule_told n s (spaced w ws) more (joined_shown w ws shown.0)
      ∙ ap (λ r. at_line n (r >>= schedule_line s) >>= λ u. schedule_from (n + 1) u more) (words_joined w ws clear shown)
      ∙ ap (λ r. at_line n r >>= λ u. schedule_from (n + 1) u more) read,
)

schedule_step : (ks : List Bool) (lists : List (List Call)) (n k : ℕ) (s script : Script) (line : List ℕ) (more : List (List ℕ)) → AreThreads s.names
    → ((n k : ℕ) (s : Script) → AreThreads s.names → schedule_from n s more ≡ Ok script → (schedule_from k (with_words ks lists s) (words_thinned (drop (length s.words) ks) more) ≡ Ok (with_words ks lists script)) × (script.lists ≡ s.lists))
    → schedule_from n s (line ∷ more) ≡ Ok script → (schedule_from k (with_words ks lists s) (words_thinned (drop (length s.words) ks) (line ∷ more)) ≡ Ok (with_words ks lists script)) × (script.lists ≡ s.lists)
schedule_step ks lists n k s script line more are ih e = go (is_passed_over line) refl
  where
    flags : List Bool
    flags = drop (length s.words) ks

    go : (b : Bool) → is_passed_over line ≡ b → (schedule_from k (with_words ks lists s) (words_thinned (drop (length s.words) ks) (line ∷ more)) ≡ Ok (with_words ks lists script)) × (script.lists ≡ s.lists)
    go true p =
        let rest = ih (n + 1) (k + 1) s are (sym (schedule_passed n s line more p) ∙ e) in
        (ap (schedule_from k (with_words ks lists s)) (thinned_passed flags line more p) ∙ schedule_passed k (with_words ks lists s) line (words_thinned flags more) p ∙ rest.0, rest.1)
    go false p =
        let (t, first, behind) = step_split (at_line n (words_of line >>= schedule_line s)) (λ t. schedule_from (n + 1) t more) script (sym (schedule_told n s line more p) ∙ e) in
        let (ws, is, read) = step_split (words_of line) (schedule_line s) t (line_split n (words_of line >>= schedule_line s) t first) in
        let a : LineIsAgain ks lists s ws t = line_again ks lists s ws t are read in
        let clear : AllByRecursion IsClear ws = subst (AllByRecursion IsClear) (sym (line_words line ws is)) (parts_clear is_space line) in
        let left : List (List ℕ) = words_thinned (drop (length ws) flags) more in
        let (m, taken) = line_taken k (with_words ks lists s) (with_words ks lists t) (picked ws flags) left (picked_all IsClear ws flags clear) (picked_all IsShown ws flags a.shown) a.read in
        let next : drop (length ws) flags ≡ drop (length t.words) ks = drop-drop (length ws) (length s.words) ks ∙ ap (λ i. drop i ks) (sym a.count) in
        let rest = ih (n + 1) m t (subst AreThreads (sym a.names) are) behind in
        (ap (schedule_from k (with_words ks lists s)) (thinned_told flags line more ws p is) ∙ taken ∙ ap (λ f. schedule_from m (with_words ks lists t) (words_thinned f more)) next ∙ rest.0, rest.1 ∙ a.lists_stay)

pub schedule_again : (ks : List Bool) (lists : List (List Call)) (n k : ℕ) (s script : Script) (lines : List (List ℕ)) → AreThreads s.names → schedule_from n s lines ≡ Ok script
    → (schedule_from k (with_words ks lists s) (words_thinned (drop (length s.words) ks) lines) ≡ Ok (with_words ks lists script)) × (script.lists ≡ s.lists)
schedule_again ks lists n k s script [] are e =
    let same : s ≡ script = ok_same s script (sym (schedule_ended n s) ∙ e) in
    (ap (schedule_from k (with_words ks lists s)) (thinned_ended (drop (length s.words) ks)) ∙ schedule_ended k (with_words ks lists s) ∙ ap (λ x. Ok (with_words ks lists x)) same, ap (λ (x : Script). x.lists) (sym same))
schedule_again ks lists n k s script (line ∷ more) are e = schedule_step ks lists n k s script line more are (λ n k s are e. schedule_again ks lists n k s script more are e) e
