-- Moments that are shown one after the other.
use Rattle.std.proofs.Common.{◌≡◌, ℕ, ◌<◌, ◌==◌, Bool, true, false, List, [], ◌∷◌, ◌++◌, length, get_or, set, map, Option, None, refl, sym, ap, ap₂, ◌∙◌, subst, append_assoc, append-nil}
use Rattle.std.specs.Prelude.{if◌then◌else◌}
use Rattle.std.proofs.lemmas.Bool.{eqb-true, eqb-false}
use Rattle.std.proofs.lemmas.List.{map-append, get_or-set_same, get_or-set_other}
use Rattle.fs_trace_story.specs.Shown.{deed_told, last_wait, number_after, shown, shown_from, shown_one, wait_of, with_moment, Adds, Saying}
use Rattle.fs_trace_story.specs.code.Waiting.{AreWaits, with_moments, number_behind, HasShown}
use Rattle.fs_trace_story.specs.declared.story.Teller.{Teller}
use Rattle.fs_sched_witness.specs.declared.moments.Moment.{Moment}
use Rattle.fs_sched_witness.specs.declared.moments.Told.{Told}

-- one moment more is shown behind the others
pub shown_more : (every : Bool) (before : List Told) (number : ℕ) (ms : List Moment) (m : Moment) → shown_from every before number (ms ++ m ∷ []) ≡ shown_from every before number ms ++ shown_one every (with_moments before ms) (number_behind number ms) m
shown_more every before number [] m = append-nil (shown_one every before number m)
shown_more every before number (x ∷ ms) m =
    ap (λ (l : List (ℕ × Moment)). shown_one every before number x ++ l) (shown_more every (with_moment before x) (number_after number x) ms m)
    ∙ sym (append_assoc (shown_one every before number x) (shown_from every (with_moment before x) (number_after number x) ms) (shown_one every (with_moments (with_moment before x) ms) (number_behind (number_after number x) ms) m))

pub with_more : (before : List Told) (ms : List Moment) (m : Moment) → with_moments before (ms ++ m ∷ []) ≡ with_moment (with_moments before ms) m
with_more before [] m = refl
with_more before (x ∷ ms) m = with_more (with_moment before x) ms m

pub number_more : (number : ℕ) (ms : List Moment) (m : Moment) → number_behind number (ms ++ m ∷ []) ≡ number_after (number_behind number ms) m
number_more number [] m = refl
number_more number (x ∷ ms) m = number_more (number_after number x) ms m

-- a teller that goes on by a moment has shown it too
pub shows_more : {P : Type 0} (has : P → P → List Saying → Type 0) (every : Bool) (start : P) (ms : List Moment) (m : Moment) (old new : Teller P) → HasShown has every start old ms → new.every ≡ old.every → new.number ≡ number_after old.number m
    → ((before : List Told) → AreWaits old.waits before → AreWaits new.waits (with_moment before m)) → ((before : List Told) → AreWaits old.waits before → Adds has old.page (map deed_told (shown_one old.every before old.number m)) new.page) → HasShown has every start new (ms ++ m ∷ [])
shows_more has every start ms m old new shown_so every_is number waits page = record {
  every_is = every_is ∙ shown_so.every_is;
  number = number ∙ ap (λ (n : ℕ). number_after n m) shown_so.number ∙ sym (number_more 1 ms m);
  waits = subst (AreWaits new.waits) (sym (with_more [] ms m)) (waits (with_moments [] ms) shown_so.waits);
  page = subst (has start new.page)
      (ap₂ (λ (b : Bool) (n : ℕ). map deed_told (shown every ms) ++ map deed_told (shown_one b (with_moments [] ms) n m)) shown_so.every_is shown_so.number
      ∙ sym (map-append deed_told (shown_from every [] 1 ms) (shown_one every (with_moments [] ms) (number_behind 1 ms) m))
      ∙ ap (map deed_told) (sym (shown_more every [] 1 ms m)))
      (page (with_moments [] ms) shown_so.waits start (map deed_told (shown every ms)) shown_so.page);
}

-- the wait of one thread is set, and those of the others stay
pub waits_set : (items new : List (Option (ℕ × ℕ))) (t : Told) (before : List Told) → t.seat < length items → ((seat : ℕ) → get_or items seat None ≡ last_wait before seat) → new ≡ set items t.seat (wait_of t.answer) → (seat : ℕ) → get_or new seat None ≡ last_wait (t ∷ before) seat
waits_set items new t before less are is seat = ap (λ (l : List (Option (ℕ × ℕ))). get_or l seat None) is ∙ go (t.seat == seat) refl
  where
    go : (b : Bool) → (t.seat == seat) ≡ b → get_or (set items t.seat (wait_of t.answer)) seat None ≡ (if b then wait_of t.answer else last_wait before seat)
    go true same = let e : t.seat ≡ seat = eqb-true _ _ same in ap (λ (s : ℕ). get_or (set items t.seat (wait_of t.answer)) s None) (sym e) ∙ get_or-set_same items t.seat (wait_of t.answer) None less
    go false other = get_or-set_other items t.seat seat (wait_of t.answer) None (λ e. eqb-false _ _ other (sym e)) ∙ are seat
