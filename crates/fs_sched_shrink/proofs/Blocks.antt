-- A script with some of its calls and words is read again.
use Rattle.std.proofs.Common.{◌≡◌, ℕ, ◌+◌, ◌<◌, ◌≤◌, Bool, true, false, cond, not, List, [], ◌∷◌, ◌++◌, length, drop, get_or, Ok, Err, refl, sym, ap, subst, ◌∙◌, codes, arith}
use Rattle.std.specs.Prelude.{nat_le, ◌==◌}
use Rattle.std.specs.List.{list_any}
use Rattle.std.specs.Str.{bytes_eq}
use Rattle.std.proofs.lemmas.Bool.{cond-true, cond-false}
use Rattle.std.proofs.lemmas.Bool.Decides.{nat_tests}
use Rattle.std.proofs.lemmas.List.{drop-drop}
use Rattle.fs_names.specs.declared.limits.Limits.{Limits}
use Rattle.fs_calls.specs.declared.call.Call.{Call}
use Rattle.fs_words.specs.Headers.{is_too_long}
use Rattle.fs_words.specs.Lines.{is_passed_over, lines_of}
use Rattle.fs_words.specs.Words as words
use Rattle.fs_words.specs.Reading.{◌>>=◌, words_of, fault_at, at_line}
use Rattle.fs_words.specs.declared.fault.FaultKind.TheVariants as kind
use Rattle.fs_text.specs.Calls.{call_of}
use Rattle.fs_script.specs.Limits.{call_limit, calls_in}
use Rattle.fs_script.specs.Script.{is_thread, with_call, with_thread, new_thread, thread_line, new_call, call_line, block_line, schedule_from, blocks_from, nothing_yet, script_of}
use Rattle.fs_script.specs.declared.limits.TheConstants.{THREAD_LIMIT}
use Rattle.fs_script.specs.declared.script.Script.{Script}
use Rattle.fs_script.specs.declared.script.Word.{Word}
use Rattle.fs_script.proofs.HeaderLemmas.{script_in, short_script, lines_read, headed_script, again}
use Rattle.fs_script.proofs.LimitLemmas.{calls_thread, calls_more}
use Rattle.fs_sched_shrink.specs.Kept.{picked, kept_lists, kept_script}
use Rattle.fs_sched_shrink.specs.code.Thinning.{read_words, begins_block, call_kept, words_thinned, blocks_thinned, thinned}
use Rattle.fs_sched_shrink.proofs.Picking.{lists_thread, lists_call, lists_same, lists_fewer}
use Rattle.fs_sched_shrink.proofs.Words.{no_ok, ok_same, step_split, line_split, AreThreads, schedule_again}

-- ---- the head of a block

-- a script with a thread more is that of each script with these names
record ThreadAgain (s : Script) (texts : List words.Word) (t : Script) : Type 0 where
  name : List ℕ
  is : t ≡ with_thread s name
  is_name : is_thread name ≡ true
  again : (u : Script) → u.names ≡ s.names → thread_line u texts ≡ Ok (with_thread u name)

is_true : (b : Bool) → not b ≡ false → b ≡ true
is_true true e = refl
is_true false e = absurd (cc)

new_again : (s t : Script) (name : List ℕ) → new_thread s name ≡ Ok t → ThreadAgain s (name ∷ []) t
new_again s t name e = go (not (is_thread name)) (list_any (bytes_eq name) s.names) (nat_le THREAD_LIMIT (length s.names)) refl refl refl
  where
    go : (a b d : Bool) → not (is_thread name) ≡ a → list_any (bytes_eq name) s.names ≡ b → nat_le THREAD_LIMIT (length s.names) ≡ d → ThreadAgain s (name ∷ []) t
    go true b d f g h = absurd (no_ok kind.BadThread t (sym (cond-true _ _ _ f) ∙ e))
    go false true d f g h = absurd (no_ok kind.ThreadTwice t (sym (cond-false _ _ _ f ∙ cond-true _ _ _ g) ∙ e))
    go false false true f g h = absurd (no_ok kind.TooLarge t (sym (cond-false _ _ _ f ∙ cond-false _ _ _ g ∙ cond-true _ _ _ h) ∙ e))
    go false false false f g h =
        record {
          name = name;
          is = sym (ok_same _ _ (sym (cond-false _ _ _ f ∙ cond-false _ _ _ g ∙ cond-false _ _ _ h) ∙ e));
          is_name = is_true (is_thread name) f;
          again = λ u names. cond-false _ _ _ f ∙ cond-false _ _ _ (ap (list_any (bytes_eq name)) names ∙ g) ∙ cond-false _ _ _ (ap (λ (ns : List (List ℕ)). nat_le THREAD_LIMIT (length ns)) names ∙ h);
        }

thread_again : (s t : Script) (texts : List words.Word) → thread_line s texts ≡ Ok t → ThreadAgain s texts t
thread_again s t [] e = absurd (no_ok kind.BadLine t e)
thread_again s t (name ∷ []) e = new_again s t name e
thread_again s t (name ∷ next ∷ more) e = absurd (no_ok kind.BadLine t e)

-- ---- a call

-- a script with a call more is that of each script with as many threads and no more calls
record CallAgain (s : Script) (texts : List words.Word) (t : Script) : Type 0 where
  call : Call
  is : t ≡ record s { lists = with_call call s.lists }
  some : 0 < length s.lists
  again : (u : Script) → u.limits ≡ s.limits → length u.lists ≡ length s.lists → calls_in u.lists ≤ calls_in s.lists → call_line u texts ≡ Ok (record u { lists = with_call call u.lists })

fewer_room : (n m k : ℕ) → nat_le k n ≡ false → m ≤ n → nat_le k m ≡ false
fewer_room n m k e h = grind (arith, nat_tests)

some_lists : (n : ℕ) → (n == 0) ≡ false → 0 < n
some_lists n e = grind (arith, nat_tests)

call_again : (s t : Script) (texts : List words.Word) → call_line s texts ≡ Ok t → CallAgain s texts t
call_again s t texts e = go (length s.lists == 0) refl
  where
    go : (b : Bool) → (length s.lists == 0) ≡ b → CallAgain s texts t
    go true f = absurd (no_ok kind.BadLine t (sym (cond-true _ _ _ f) ∙ e))
    go false f = by (step_split (call_of s.limits texts) (new_call s) t (sym (cond-false _ _ _ f) ∙ e))
      where
        by : (c : Call) × (call_of s.limits texts ≡ Ok c) × (new_call s c ≡ Ok t) → CallAgain s texts t
        by (c, read, new) = room (nat_le (call_limit s.limits) (calls_in s.lists)) refl
          where
            room : (d : Bool) → nat_le (call_limit s.limits) (calls_in s.lists) ≡ d → CallAgain s texts t
            room true h = absurd (no_ok kind.TooLarge t (sym (cond-true _ _ _ h) ∙ new))
            room false h =
                record {
                  call = c;
                  is = sym (ok_same _ _ (sym (cond-false _ _ _ h) ∙ new));
                  some = some_lists (length s.lists) f;
                  again = λ u limits same few.
                      cond-false _ _ _ (ap (λ n. n == 0) same ∙ f)
                      ∙ ap (λ r. r >>= new_call u) (ap (λ (l : Limits). call_of l texts) limits ∙ read)
                      ∙ cond-false _ _ _ (ap (λ (l : Limits). nat_le (call_limit l) (calls_in u.lists)) limits ∙ fewer_room (calls_in s.lists) (calls_in u.lists) (call_limit s.limits) h few);
                }

-- ---- a line of blocks

line_thread : (s : Script) (texts : List words.Word) → begins_block texts ≡ true → (first : words.Word) × (more : List words.Word) × (texts ≡ first ∷ more) × ((u : Script) → block_line u texts ≡ thread_line u more)
unfolding block_line
line_thread s [] e = absurd (let z : ◌≡◌ {A = Bool} false true = e in cc)
line_thread s (first ∷ more) e = (first, more, refl, λ u. cond-true _ _ _ e)

line_call : (s t : Script) (texts : List words.Word) → begins_block texts ≡ false → block_line s texts ≡ Ok t → (call_line s texts ≡ Ok t) × ((u : Script) → block_line u texts ≡ call_line u texts)
unfolding block_line
line_call s t [] e read = absurd (no_ok kind.BadLine t read)
line_call s t (first ∷ more) e read = (sym (cond-false _ _ _ e) ∙ read, λ u. cond-false _ _ _ e)

-- ---- what stays of a script, one line later

thread_kept : (ks : List Bool) (s : Script) (name : List ℕ) → with_thread (kept_script ks s) name ≡ kept_script ks (with_thread s name)
thread_kept ks s name =
    ap (λ (ls : List (List Call)). record s { names = s.names ++ name ∷ []; lists = ls; words = picked s.words (drop (calls_in s.lists) ks) }) (sym (lists_thread s.lists ks))
    ∙ ap (λ n. record s { names = s.names ++ name ∷ []; lists = kept_lists (s.lists ++ [] ∷ []) ks; words = picked s.words (drop n ks) }) (sym (calls_thread s.lists))

-- before the schedule there are no words
none_picked : (ws : List Word) (ks : List Bool) → ws ≡ [] → picked ws ks ≡ []
none_picked ws ks e = ap (λ (l : List Word). picked l ks) e

call_stays : (ks : List Bool) (s : Script) (c : Call) (b : Bool) → s.words ≡ [] → 0 < length s.lists → get_or (drop (calls_in s.lists) ks) 0 false ≡ b
    → kept_script ks (record s { lists = with_call c s.lists }) ≡ record (kept_script ks s) { lists = cond b (with_call c (kept_lists s.lists ks)) (kept_lists s.lists ks) }
call_stays ks s c b none some f =
    let now : picked s.words (drop (calls_in (with_call c s.lists)) ks) ≡ picked s.words (drop (calls_in s.lists) ks) = none_picked s.words _ none ∙ sym (none_picked s.words _ none) in
    ap (λ (ws : List Word). record s { lists = kept_lists (with_call c s.lists) ks; words = ws }) now
    ∙ ap (λ (ls : List (List Call)). record s { lists = ls; words = picked s.words (drop (calls_in s.lists) ks) })
    (lists_call c s.lists ks some ∙ ap (λ d. cond d (with_call c (kept_lists s.lists ks)) (kept_lists s.lists ks)) f)

-- ---- the lines up to the schedule

blocks_passed : (n : ℕ) (s : Script) (line : List ℕ) (more : List (List ℕ)) → is_passed_over line ≡ true → blocks_from n s (line ∷ more) ≡ blocks_from (n + 1) s more
unfolding blocks_from
blocks_passed n s line more p = cond-true _ _ _ p

blocks_done : (n : ℕ) (s : Script) (line : List ℕ) (more : List (List ℕ)) → is_passed_over line ≡ false → bytes_eq line (codes "schedule") ≡ true → blocks_from n s (line ∷ more) ≡ schedule_from (n + 1) s more
unfolding blocks_from
blocks_done n s line more p h = cond-false _ _ _ p ∙ cond-true _ _ _ h

blocks_told : (n : ℕ) (s : Script) (line : List ℕ) (more : List (List ℕ)) → is_passed_over line ≡ false → bytes_eq line (codes "schedule") ≡ false → blocks_from n s (line ∷ more) ≡ (at_line n (words_of line >>= block_line s) >>= λ t. blocks_from (n + 1) t more)
unfolding blocks_from
blocks_told n s line more p h = cond-false _ _ _ p ∙ cond-false _ _ _ h

blocks_ended : (n : ℕ) (s : Script) → blocks_from n s [] ≡ Err (fault_at n kind.NoSchedule)
unfolding blocks_from
blocks_ended n s = refl

pub cut_passed : (ks : List Bool) (line : List ℕ) (more : List (List ℕ)) → is_passed_over line ≡ true → blocks_thinned ks (line ∷ more) ≡ line ∷ blocks_thinned ks more
unfolding blocks_thinned
cut_passed ks line more p = cond-true _ _ _ p

pub cut_done : (ks : List Bool) (line : List ℕ) (more : List (List ℕ)) → is_passed_over line ≡ false → bytes_eq line (codes "schedule") ≡ true → blocks_thinned ks (line ∷ more) ≡ line ∷ words_thinned ks more
unfolding blocks_thinned
cut_done ks line more p h = cond-false _ _ _ p ∙ cond-true _ _ _ h

pub cut_block : (ks : List Bool) (line : List ℕ) (more : List (List ℕ)) → is_passed_over line ≡ false → bytes_eq line (codes "schedule") ≡ false → begins_block (read_words (words_of line)) ≡ true → blocks_thinned ks (line ∷ more) ≡ line ∷ blocks_thinned ks more
unfolding blocks_thinned
cut_block ks line more p h t = cond-false _ _ _ p ∙ cond-false _ _ _ h ∙ cond-true _ _ _ t

pub cut_of_call : (ks : List Bool) (line : List ℕ) (more : List (List ℕ)) → is_passed_over line ≡ false → bytes_eq line (codes "schedule") ≡ false → begins_block (read_words (words_of line)) ≡ false → blocks_thinned ks (line ∷ more) ≡ call_kept ks line ++ blocks_thinned (drop 1 ks) more
unfolding blocks_thinned
cut_of_call ks line more p h t = cond-false _ _ _ p ∙ cond-false _ _ _ h ∙ cond-false _ _ _ t

pub cut_ended : (ks : List Bool) → blocks_thinned ks [] ≡ []
unfolding blocks_thinned
cut_ended ks = refl

cut_thread : (ks : List Bool) (line : List ℕ) (more : List (List ℕ)) (ws : List words.Word) → is_passed_over line ≡ false → bytes_eq line (codes "schedule") ≡ false → words_of line ≡ Ok ws → begins_block ws ≡ true → blocks_thinned ks (line ∷ more) ≡ line ∷ blocks_thinned ks more
cut_thread ks line more ws p h e t = cut_block ks line more p h (ap (λ r. begins_block (read_words r)) e ∙ t)

cut_call : (ks : List Bool) (line : List ℕ) (more : List (List ℕ)) (ws : List words.Word) → is_passed_over line ≡ false → bytes_eq line (codes "schedule") ≡ false → words_of line ≡ Ok ws → begins_block ws ≡ false → blocks_thinned ks (line ∷ more) ≡ call_kept ks line ++ blocks_thinned (drop 1 ks) more
cut_call ks line more ws p h e t = cut_of_call ks line more p h (ap (λ r. begins_block (read_words r)) e ∙ t)

threads_more : (names : List (List ℕ)) (name : List ℕ) → AreThreads names → is_thread name ≡ true → AreThreads (names ++ name ∷ [])
threads_more [] name are e = (e, tt)
threads_more (x ∷ names) name are e = (are.0, threads_more names name are.1 e)

-- a line is read behind others
line_read : (n : ℕ) (s t : Script) (line : List ℕ) (more : List (List ℕ)) (ws : List words.Word) → is_passed_over line ≡ false → bytes_eq line (codes "schedule") ≡ false → words_of line ≡ Ok ws → block_line s ws ≡ Ok t → blocks_from n s (line ∷ more) ≡ blocks_from (n + 1) t more
line_read n s t line more ws p h e read =
    blocks_told n s line more p h ∙ ap (λ r. at_line n (r >>= block_line s) >>= λ t. blocks_from (n + 1) t more) e ∙ ap (λ r. at_line n r >>= λ t. blocks_from (n + 1) t more) read

abbrev IsReadAgain : List Bool → ℕ → Script → List (List ℕ) → Script → Type 0
IsReadAgain ks k s lines script = blocks_from k (kept_script ks s) (blocks_thinned (drop (calls_in s.lists) ks) lines) ≡ Ok (kept_script ks script)

schedule_read : (ks : List Bool) (n k : ℕ) (s script : Script) (more : List (List ℕ)) → AreThreads s.names → s.words ≡ [] → schedule_from n s more ≡ Ok script → schedule_from k (kept_script ks s) (words_thinned (drop (calls_in s.lists) ks) more) ≡ Ok (kept_script ks script)
schedule_read ks n k s script more are none e =
    let flags : List Bool = drop (calls_in s.lists) ks in
    let again = schedule_again flags (kept_lists s.lists ks) n k s script more are e in
    let first : drop (length s.words) flags ≡ flags = ap (λ (ws : List Word). drop (length ws) flags) none in
    ap (λ f. schedule_from k (kept_script ks s) (words_thinned f more)) (sym first) ∙ again.0
    ∙ ap (λ (ls : List (List Call)). Ok (record script { lists = kept_lists ls ks; words = picked script.words (drop (calls_in ls) ks) })) (sym again.1)

blocks_step : (ks : List Bool) (n k : ℕ) (s script : Script) (line : List ℕ) (more : List (List ℕ)) → AreThreads s.names → s.words ≡ []
    → ((n k : ℕ) (s : Script) → AreThreads s.names → s.words ≡ [] → blocks_from n s more ≡ Ok script → IsReadAgain ks k s more script)
    → blocks_from n s (line ∷ more) ≡ Ok script → IsReadAgain ks k s (line ∷ more) script
blocks_step ks n k s script line more are none ih e = go (is_passed_over line) (bytes_eq line (codes "schedule")) refl refl
  where
    flags : List Bool
    flags = drop (calls_in s.lists) ks

    u : Script
    u = kept_script ks s

    thread : (t : Script) (ws : List words.Word) → is_passed_over line ≡ false → bytes_eq line (codes "schedule") ≡ false → words_of line ≡ Ok ws → block_line s ws ≡ Ok t → blocks_from (n + 1) t more ≡ Ok script → begins_block ws ≡ true → IsReadAgain ks k s (line ∷ more) script
    thread t ws p h is read behind b =
        let (first, rest, cut, by) = line_thread s ws b in
        let a : ThreadAgain s rest t = thread_again s t rest (sym (by s) ∙ read) in
        let names : AreThreads t.names = subst (λ (x : Script). AreThreads x.names) (sym a.is) (threads_more s.names a.name are a.is_name) in
        let none_t : t.words ≡ [] = ap (λ (x : Script). x.words) a.is ∙ none in
        let count : calls_in t.lists ≡ calls_in s.lists = ap (λ (x : Script). calls_in x.lists) a.is ∙ calls_thread s.lists in
        let next : with_thread u a.name ≡ kept_script ks t = thread_kept ks s a.name ∙ ap (kept_script ks) (sym a.is) in
        ap (blocks_from k u) (cut_thread flags line more ws p h is b)
        ∙ line_read k u (with_thread u a.name) line (blocks_thinned flags more) ws p h is (by u ∙ a.again u refl)
        ∙ ap (λ (x : Script). blocks_from (k + 1) x (blocks_thinned flags more)) next
        ∙ ap (λ i. blocks_from (k + 1) (kept_script ks t) (blocks_thinned (drop i ks) more)) (sym count)
        ∙ ih (n + 1) (k + 1) t names none_t behind

    call : (t : Script) (ws : List words.Word) → is_passed_over line ≡ false → bytes_eq line (codes "schedule") ≡ false → words_of line ≡ Ok ws → block_line s ws ≡ Ok t → blocks_from (n + 1) t more ≡ Ok script → begins_block ws ≡ false → IsReadAgain ks k s (line ∷ more) script
    call t ws p h is read behind b = either (get_or flags 0 false) refl
      where
        by : (call_line s ws ≡ Ok t) × ((u : Script) → block_line u ws ≡ call_line u ws)
        by = line_call s t ws b read

        a : CallAgain s ws t
        a = call_again s t ws by.0

        names : AreThreads t.names
        names = subst (λ (x : Script). AreThreads x.names) (sym a.is) are

        none_t : t.words ≡ []
        none_t = ap (λ (x : Script). x.words) a.is ∙ none

        next : drop 1 flags ≡ drop (calls_in t.lists) ks
        next =
            drop-drop 1 (calls_in s.lists) ks
            ∙ ap (λ i. drop i ks) (sym (calls_more a.call s.lists a.some))
            ∙ ap (λ (x : Script). drop (calls_in x.lists) ks) (sym a.is)

        either : (d : Bool) → get_or flags 0 false ≡ d → IsReadAgain ks k s (line ∷ more) script
        either true f =
            let stays = sym (call_stays ks s a.call true none a.some f) ∙ ap (kept_script ks) (sym a.is) in
            ap (blocks_from k u) (cut_call flags line more ws p h is b ∙ ap (λ l. l ++ blocks_thinned (drop 1 flags) more) (cond-true _ _ _ f))
            ∙ line_read k u (record u { lists = with_call a.call u.lists }) line (blocks_thinned (drop 1 flags) more) ws p h is (by.1 u ∙ a.again u refl (lists_same s.lists ks) (lists_fewer s.lists ks))
            ∙ ap (λ (x : Script). blocks_from (k + 1) x (blocks_thinned (drop 1 flags) more)) stays
            ∙ ap (λ r. blocks_from (k + 1) (kept_script ks t) (blocks_thinned r more)) next
            ∙ ih (n + 1) (k + 1) t names none_t behind
        either false f =
            let stays = sym (call_stays ks s a.call false none a.some f) ∙ ap (kept_script ks) (sym a.is) in
            ap (blocks_from k u) (cut_call flags line more ws p h is b ∙ ap (λ l. l ++ blocks_thinned (drop 1 flags) more) (cond-false _ _ _ f))
            ∙ ap (λ (x : Script). blocks_from k x (blocks_thinned (drop 1 flags) more)) stays
            ∙ ap (λ r. blocks_from k (kept_script ks t) (blocks_thinned r more)) next
            ∙ ih (n + 1) k t names none_t behind

    line_first : (t : Script) (ws : List words.Word) → is_passed_over line ≡ false → bytes_eq line (codes "schedule") ≡ false → words_of line ≡ Ok ws → block_line s ws ≡ Ok t → blocks_from (n + 1) t more ≡ Ok script → (b : Bool) → begins_block ws ≡ b → IsReadAgain ks k s (line ∷ more) script
    line_first t ws p h is read behind true b = thread t ws p h is read behind b
    line_first t ws p h is read behind false b = call t ws p h is read behind b

    go : (p h : Bool) → is_passed_over line ≡ p → bytes_eq line (codes "schedule") ≡ h → IsReadAgain ks k s (line ∷ more) script
    go true h e_p e_h =
        ap (blocks_from k u) (cut_passed flags line more e_p) ∙ blocks_passed k u line (blocks_thinned flags more) e_p
        ∙ ih (n + 1) (k + 1) s are none (sym (blocks_passed n s line more e_p) ∙ e)
    go false true e_p e_h =
        ap (blocks_from k u) (cut_done flags line more e_p e_h) ∙ blocks_done k u line (words_thinned flags more) e_p e_h
        ∙ schedule_read ks (n + 1) (k + 1) s script more are none (sym (blocks_done n s line more e_p e_h) ∙ e)
    go false false e_p e_h =
        let (t, first, behind) = step_split (at_line n (words_of line >>= block_line s)) (λ t. blocks_from (n + 1) t more) script (sym (blocks_told n s line more e_p e_h) ∙ e) in
        let (ws, is, read) = step_split (words_of line) (block_line s) t (line_split n (words_of line >>= block_line s) t first) in
        line_first t ws e_p e_h is read behind (begins_block ws) refl

blocks_again : (ks : List Bool) (n k : ℕ) (s script : Script) (lines : List (List ℕ)) → AreThreads s.names → s.words ≡ [] → blocks_from n s lines ≡ Ok script → IsReadAgain ks k s lines script
blocks_again ks n k s script [] are none e = absurd (no_ok (fault_at n kind.NoSchedule) script (sym (blocks_ended n s) ∙ e))
blocks_again ks n k s script (line ∷ more) are none e = blocks_step ks n k s script line more are none (λ n k s are none e. blocks_again ks n k s script more are none e) e

-- ---- the whole text

headed : (ks : List Bool) (lines : List (List ℕ)) (script : Script) → script_in lines ≡ Ok script → script_in (thinned ks lines) ≡ Ok (kept_script ks script)
headed ks [] script is = absurd (no_ok (fault_at 1 kind.BadHeader) script is)
headed ks (first ∷ rest) script is =
    let h = headed_script first rest script is in
    again h.limits first h.announces (blocks_thinned ks rest) ∙ blocks_again ks 2 2 (nothing_yet h.limits) script rest tt refl h.read

-- a text with some lines of a script is read as the script with the calls and words of these
pub thinned_again : (input made : List ℕ) (script : Script) (ks : List Bool) → script_of input ≡ Ok script → lines_of made ≡ thinned ks (lines_of input) → is_too_long made ≡ false → script_of made ≡ Ok (kept_script ks script)
thinned_again input made script ks is lines short =
    short_script made short ∙ ap script_in lines ∙ headed ks (lines_of input) script (lines_read input script is)
