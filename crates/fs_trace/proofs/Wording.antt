-- Words and their texts, one after the other, as the loops do it.
use Rattle.std.proofs.Common.{◌≡◌, ℕ, zero, suc, ◌+◌, ◌-◌, ◌<◌, ◌≤◌, List, [], ◌∷◌, ◌++◌, length, drop, get_or, set, replicate, refl, sym, ap, ◌∙◌, subst, append_assoc, append-nil, length-append, arith}
use Rattle.std.proofs.lemmas.List.{at_drop_more, at_drop_all, replicate-append-replicate}
use Rattle.fs_script.specs.declared.script.Word.{Word}
use Rattle.fs_sched.specs.Schedules.{one_event}
use Rattle.fs_sched.specs.Gives.{given_words, single_words}
use Rattle.fs_script.specs.declared.script.Word.TheVariants.{Events, Finish, Checkpoint, Drawn}
use Rattle.fs_trace.specs.Traces.{AreWordTexts, word_text}
use Rattle.fs_trace.specs.declared.script_text.TheConstants.{LINE_WIDTH}
use Rattle.fs_trace.specs.code.WordTexts.{AddsWords, AreTimed, IsBehindLine, IsGapBehind}

-- an event more of a word
pub times_more : (times seat : ℕ) → replicate (times + 1) (one_event seat) ≡ replicate times (one_event seat) ++ one_event seat ∷ []
times_more times seat = sym (replicate-append-replicate times 1 (one_event seat))

-- the last word gives more
last_words : (words : List Word) (k : ℕ) (w more : Word) (given : List Word) → length words ≡ suc k → w ≡ get_or words k w → single_words more ≡ single_words w ++ given → given_words (set words k more) ≡ given_words words ++ given
last_words [] k w more given e is gives = absurd (cc)
last_words (x ∷ []) zero w more given e is gives = append-nil (single_words more) ∙ gives ∙ ap (λ (u : Word). single_words u ++ given) is ∙ ap (λ (l : List Word). l ++ given) (sym (append-nil (single_words x)))
last_words (x ∷ []) (suc k) w more given e is gives = absurd (let z : suc zero ≡ suc (suc k) = e in omega (arith, z))
last_words (x ∷ y ∷ words) zero w more given e is gives = absurd (let z : suc (suc (length words)) ≡ suc zero = e in omega (arith, z))
last_words (x ∷ y ∷ words) (suc k) w more given e is gives =
    let less : length (y ∷ words) ≡ suc k = (let z : suc (length (y ∷ words)) ≡ suc (suc k) = e in omega (arith, z)) in
    ap (λ (l : List Word). single_words x ++ l) (last_words (y ∷ words) k w more given less is gives) ∙ sym (append_assoc (single_words x) (given_words (y ∷ words)) given)

pub last_gives : (words : List Word) (n seat : ℕ) (w more : Word) → n ≡ length words → 0 < n → w ≡ get_or words (n - 1) w → single_words more ≡ single_words w ++ one_event seat ∷ [] → given_words (set words (n - 1) more) ≡ given_words words ++ one_event seat ∷ []
last_gives words n seat w more e some is gives = let len : length words ≡ suc (n - 1) = omega (arith, e, some) in last_words words (n - 1) w more (one_event seat ∷ []) len is gives

-- ---- words that give some

timed_rest : (x : Word) (words : List Word) → AreTimed (x ∷ words) → AreTimed words
timed_rest (Events seat times) words (some, a) = a
timed_rest Checkpoint words a = a
timed_rest Finish words a = absurd a
timed_rest Drawn words a = absurd a

pub timed_append : (xs ys : List Word) → AreTimed xs → AreTimed ys → AreTimed (xs ++ ys)
timed_append [] ys a b = b
timed_append (Events seat times ∷ xs) ys (some, a) b = (some, timed_append xs ys a b)
timed_append (Checkpoint ∷ xs) ys a b = timed_append xs ys a b
timed_append (Finish ∷ xs) ys a b = absurd a
timed_append (Drawn ∷ xs) ys a b = absurd a

pub timed_set : (words : List Word) (k : ℕ) (w : Word) → AreTimed (w ∷ []) → AreTimed words → AreTimed (set words k w)
timed_set [] k w a b = tt
timed_set (x ∷ words) zero w a b = timed_append (w ∷ []) words a (timed_rest x words b)
timed_set (Events seat times ∷ words) (suc k) w a (some, b) = (some, timed_set words k w a b)
timed_set (Checkpoint ∷ words) (suc k) w a b = timed_set words k w a b
timed_set (Finish ∷ words) (suc k) w a b = absurd b
timed_set (Drawn ∷ words) (suc k) w a b = absurd b

-- the texts so far, and those of what is left
pub record AddsWordsOf (names : List (List ℕ)) (all rest : List Word) (width : ℕ) (old now : List ℕ) : Type 0 where
  pub done : List ℕ
  pub is : now ≡ old ++ done
  pub behind : IsBehindLine done
  pub first : done ≡ [] → LINE_WIDTH ≤ width
  pub lead : (more : List ℕ) → AreWordTexts names rest more → AreWordTexts names all (done ++ more)

pub words_start : (names : List (List ℕ)) (all : List Word) (old : List ℕ) → AddsWordsOf names all all LINE_WIDTH old old
words_start names all old = record { done = []; is = sym (append-nil old); behind = tt; first = λ e. omega arith; lead = λ more words. words }

-- what stands behind a line feed stays there
still_behind : (done more : List ℕ) (gap width : ℕ) → IsBehindLine done → (done ≡ [] → LINE_WIDTH ≤ width) → (LINE_WIDTH ≤ width → gap ≡ 10) → IsBehindLine (done ++ gap ∷ more)
still_behind [] more gap width behind first feed = feed (first refl)
still_behind (b ∷ done) more gap width behind first feed = behind

some_done : (done more : List ℕ) (gap : ℕ) → done ++ gap ∷ more ≡ [] → ⊥
some_done done more gap e = let z : length (done ++ gap ∷ more) ≡ 0 = ap length e in let y : length (done ++ gap ∷ more) ≡ length done + suc (length more) = length-append done (gap ∷ more) in omega (arith, z, y)

pub words_more : (names : List (List ℕ)) (words : List Word) (i : ℕ) (d : Word) (width next : ℕ) (old now new : List ℕ) → i < length words → AddsWordsOf names words (drop i words) width old now → (gap : ℕ) × IsGapBehind width gap × (new ≡ now ++ gap ∷ word_text names (get_or words i d)) → AddsWordsOf names words (drop (i + 1) words) next old new
words_more names words i d width next old now new less a (gap, (is_gap, feed), adds) =
    let text : List ℕ = word_text names (get_or words i d) in
    let word : List ℕ = gap ∷ text in
    record {
      done = a.done ++ word;
      is = adds ∙ ap (λ (l : List ℕ). l ++ word) a.is ∙ append_assoc old a.done word;
      behind = still_behind a.done text gap width a.behind a.first feed;
      first = λ e. absurd (some_done a.done text gap e);
      lead = λ more rest.
          let first : AreWordTexts names (get_or words i d ∷ drop (i + 1) words) (word ++ more) = (gap, more, is_gap, refl, rest) in
          let next : AreWordTexts names (drop i words) (word ++ more) = subst (λ (l : List Word). AreWordTexts names l (word ++ more)) (sym (at_drop_more (λ (l : List Word). l) words i d less)) first in
          subst (AreWordTexts names words) (sym (append_assoc a.done word more)) (a.lead (word ++ more) next);
    }

pub words_end : (names : List (List ℕ)) (words : List Word) (i width : ℕ) (old now : List ℕ) → length words ≤ i → AddsWordsOf names words (drop i words) width old now → AddsWords names words old now
words_end names words i width old now past a =
    let none : AreWordTexts names (drop i words) [] = subst (λ (l : List Word). AreWordTexts names l []) (sym (at_drop_all (λ (l : List Word). l) words i past)) refl in
    (a.done, subst (AreWordTexts names words) (append-nil a.done) (a.lead [] none), a.behind, a.is)
