-- Read by a table with the rows that are learned of it, a history is linearizable.
use Rattle.std.proofs.Common.{◌≡◌, ℕ, ◌+◌, ◌≤◌, ◌==◌, suc, zero, Bool, true, false, cond, List, [], ◌∷◌, ◌++◌, map, length, take, drop, slice_get, Option, Some, None, refl, sym, ap, ◌∙◌, subst, ⊎_elim, arith}
use Rattle.std.proofs.lemmas.List.{length-drop, length-map, take_all}
use Rattle.std.proofs.lemmas.Option.{slice_get-map}
use Rattle.std.proofs.lemmas.Bool.{eqb-true, eq-eqb, both_ways, false_from_ne_true, and_parts, or_parts, or_left, or_right, or_cases, cases_Bool}
use Rattle.std.specs.Prelude.{option_map}
use Rattle.std.specs.List.{list_any}
use Rattle.fs_names.specs.Failures.{or_else}
use Rattle.fs_calls.specs.Starts.{Start}
use Rattle.fs_calls.specs.Replies.{number_of}
use Rattle.fs_calls.specs.Outcomes.{reply_at, called}
use Rattle.fs_calls.specs.declared.call.Call.{Call}
use Rattle.fs_calls.specs.declared.errno.Errno.{Errno}
use Rattle.fs_calls.specs.declared.reply.Reply.{Reply}
use Rattle.fs_calls.specs.declared.reply.Reply.TheVariants as answer
use Rattle.fs_timeline.specs.Timeline.{is_begin, is_return, has_begun, has_committed, has_returned, call_of, commits, reply_after, due}
use Rattle.fs_timeline.specs.declared.entry.Entry.{Entry}
use Rattle.fs_timeline.specs.declared.entry.Entry.TheVariants as entry
use Rattle.fs_timeline.proofs.AppendLemmas.{begun_first, list_any-push, is_some-call_of, call_of-push, due-first}
use Rattle.fs_linearize_histories.specs.declared.heard.Heard.{Heard}
use Rattle.fs_linearize_histories.specs.declared.heard.Heard.TheVariants.{Begin, Return}
use Rattle.fs_linearize_histories.specs.declared.heard.Pattern.{Pattern}
use Rattle.fs_linearize_histories.specs.declared.heard.Pattern.TheVariants.{Exactly, OneOf}
use Rattle.fs_linearize_histories.specs.Heard.{Matches, has_error, entry_of, entries}
use Rattle.fs_linearize_histories.specs.Histories.{recorded, AreNextHeard, IsHistory, Explains}
use Rattle.fs_linearize_histories.specs.Configurations.{Configuration, CanCommit}
use Rattle.fs_linearize_histories.specs.Paths.{LeadsTo}
use Rattle.fs_linearize_histories.proofs.HistoryLemmas.{is_some-returned_as, none_from, committed_of_other, passed_call}
use Rattle.fs_linearize_histories.proofs.PathLemmas.{next_at, passed_begun, leads_start, leads_begin, leads_commit, leads_return}
use Rattle.fs_linearize_histories.proofs.PrefixLemmas.{explained_take}
use Rattle.fs_linearize_dialects.specs.Names.{name_of}
use Rattle.fs_linearize_dialects.specs.Dialects.{is_for, ours_for, widened_errors, error_or, widened_pattern, begun_as, named_in, widened_by, widened_entry, widened}
use Rattle.fs_linearize_dialects.specs.declared.call_name.CallName.{CallName}
use Rattle.fs_linearize_dialects.specs.declared.dialect.Row.{Row}
use Rattle.fs_linearize_dialects.proofs.WideLemmas.{widened_matches}
use Rattle.fs_linearize_dialects.specs.Learning.{may_be, rows_for, rows_at, rows_known, goes_on, learned, is_row, AreAmong}
use Rattle.fs_linearize_dialects.specs.declared.learning.End.{End}
use Rattle.fs_linearize_dialects.specs.declared.learning.End.TheVariants.{Whole, At, Overlaps}
use Rattle.fs_linearize_dialects.proofs.LearnLemmas.{may_match, at_drop, drop_more}

-- ---- rows that explain a return

ours_more : (b : Bool) (ours e : Errno) (errors : List Errno) → has_error ours errors ≡ true → has_error ours (cond b (e ∷ errors) errors) ≡ true
ours_more true ours e errors is = or_right _ _ is
ours_more false ours e errors is = is

ours_here : (b : Bool) (ours e : Errno) (errors : List Errno) → b ≡ true → (number_of e == number_of ours) ≡ true → has_error ours (cond b (e ∷ errors) errors) ≡ true
ours_here true ours e errors is same = or_left _ _ same
ours_here false ours e errors is same = absurd (cc)

ours_has : (all : List Row) (name : CallName) (ours theirs : Errno) → list_any (is_row name ours theirs) all ≡ true → has_error ours (ours_for all name theirs) ≡ true
ours_has [] name ours theirs is = is
ours_has (row ∷ all) name ours theirs is = ⊎_elim
    (λ here. let parts = and_parts (is_for name theirs row) (number_of row.ours == number_of ours) here in ours_here (is_for name theirs row) ours row.ours (ours_for all name theirs) parts.0 parts.1)
    (λ later. ours_more (is_for name theirs row) ours row.ours (ours_for all name theirs) (ours_has all name ours theirs later))
    (or_cases (is_row name ours theirs row) (list_any (is_row name ours theirs) all) is)

or_matches : (ours theirs : Errno) (errors : List Errno) → has_error ours errors ≡ true → Matches (error_or theirs errors) (answer.Failed ours)
or_matches ours theirs [] is = absurd (cc)
or_matches ours theirs (e ∷ errors) is = or_right _ _ is

has_before : (e : Errno) (xs ys : List Errno) → has_error e xs ≡ true → has_error e (xs ++ ys) ≡ true
has_before e [] ys is = absurd (cc)
has_before e (x ∷ xs) ys is = ⊎_elim (λ here. or_left _ _ here) (λ later. or_right (number_of x == number_of e) _ (has_before e xs ys later)) (or_cases (number_of x == number_of e) (has_error e xs) is)

rows_are : (rs more : List Row) → Some rs ≡ Some more → more ≡ rs
rows_are rs more e = cc

no_rows : (name : CallName) (ours : Reply) (rs : List Row) → rows_for name ours [] ≡ Some rs → ⊥
no_rows name (answer.Failed e) rs is = cc
no_rows name _ rs is = cc

known_explain : (all : List Row) (name : CallName) (p : Pattern) (ours : Reply) (rs : List Row) → rows_known name ours p ≡ Some rs → AreAmong all rs → Matches (widened_pattern all name p) ours
known_explain all name (Exactly (answer.Failed theirs)) (answer.Failed ours) rs is among =
    or_matches ours theirs (ours_for all name theirs) (ours_has all name ours theirs (subst (AreAmong all) (rows_are _ rs is) among).0)
known_explain all name (OneOf (e ∷ errors)) (answer.Failed ours) rs is among =
    or_right _ _ (has_before ours (ours_for all name e) (widened_errors all name errors) (ours_has all name ours e (subst (AreAmong all) (rows_are _ rs is) among).0))
known_explain all name (OneOf []) ours rs is among = absurd (no_rows name ours rs is)
known_explain _ _ _ _ _ is _ = absurd (cc)

rows_explain : (all : List Row) (name : CallName) (ours : Reply) (p : Pattern) (rs : List Row) → rows_at name ours p ≡ Some rs → AreAmong all rs → Matches (widened_by all (Some name) p) ours
rows_explain all name ours p rs is among = ⊎_elim
    (λ may. widened_matches all (Some name) p ours (may_match p ours may))
    (λ other. known_explain all name p ours rs (sym (ap (λ (b : Bool). cond b (Some []) (rows_known name ours p)) other) ∙ is) among)
    (cases_Bool (may_be p ours))

-- ---- which call a number is

begun_still : (c : ℕ) (es : List Entry) (e : Entry) → has_begun c es ≡ true → has_begun c (es ++ e ∷ []) ≡ true
begun_still c es e is = list_any-push (is_begin c) es e ∙ or_left _ _ is

named_later : (before : List Entry) (g : List Heard) (c : ℕ) → has_begun c before ≡ true → AreNextHeard before g → named_in c g ≡ None
named_later before [] c begun k = refl
named_later before (Begin d seat call ∷ g) c begun k =
    let apart : (c == d) ≡ false = false_from_ne_true _ (λ same. both_ways _ k.0.0 (subst (λ (n : ℕ). has_begun n before ≡ true) (eqb-true c d same) begun)) in
    ap (λ (o : Option CallName). or_else o (begun_as c (Begin d seat call))) (named_later (before ++ entry.Begin d seat call ∷ []) g c (begun_still c before _ begun) k.1) ∙ (rw apart refl)
named_later before (Return d p ∷ g) c begun k =
    ap (λ (o : Option CallName). or_else o None) (named_later (before ++ entry_of (Return d p) ∷ []) g c (begun_still c before _ begun) k.1)

begun_now : (before : List Entry) (c seat : ℕ) (call : Call) → has_begun c (before ++ entry.Begin c seat call ∷ []) ≡ true
begun_now before c seat call = list_any-push (is_begin c) before (entry.Begin c seat call) ∙ or_right _ _ (eq-eqb c c refl)

named_at : (before : List Entry) (h : List Heard) (n c seat : ℕ) (call : Call) → AreNextHeard before h → slice_get h n ≡ Some (Begin c seat call) → named_in c h ≡ Some (name_of call)
named_at before [] n c seat call k is = absurd (cc)
named_at before (y ∷ h) zero c seat call k is = go y (same y is) k
  where
    same : (y : Heard) → Some y ≡ Some (Begin c seat call) → y ≡ Begin c seat call
    same y e = cc

    go : (y : Heard) → y ≡ Begin c seat call → AreNextHeard before (y ∷ h) → named_in c (y ∷ h) ≡ Some (name_of call)
    go y e k =
        let k = subst (λ (z : Heard). AreNextHeard before (z ∷ h)) e k in
        ap (λ (z : Heard). named_in c (z ∷ h)) e
        ∙ ap (λ (o : Option CallName). or_else o (begun_as c (Begin c seat call))) (named_later (before ++ entry.Begin c seat call ∷ []) h c (begun_now before c seat call) k.1)
        ∙ (rw (eq-eqb c c refl) refl)
named_at before (y ∷ h) (suc n) c seat call k is = ap (λ (o : Option CallName). or_else o (begun_as c y)) (named_at (before ++ entry_of y ∷ []) h n c seat call k.1 is)

-- ---- the history as it is read

history_wide : (rows : List Row) (h : List Heard) (before : List Entry) (g : List Heard) → AreNextHeard before g → AreNextHeard before (map (widened_entry rows h) g)
history_wide rows h before [] k = tt
history_wide rows h before (Begin c seat call ∷ g) k = (k.0, history_wide rows h (before ++ entry.Begin c seat call ∷ []) g k.1)
history_wide rows h before (Return c p ∷ g) k = (k.0, history_wide rows h (before ++ entry_of (Return c p) ∷ []) g k.1)

wide_at : (rows : List Row) (h : List Heard) (n : ℕ) (x : Heard) → slice_get h n ≡ Some x → slice_get (widened rows h) n ≡ Some (widened_entry rows h x)
wide_at rows h n x is = slice_get-map (widened_entry rows h) h n ∙ ap (option_map (widened_entry rows h)) is

-- the first that is recorded of a call is what its first return tells
recorded_at : (h : List Heard) (n c : ℕ) (p : Pattern) → has_returned c (entries (take n h)) ≡ false → slice_get h n ≡ Some (Return c p) → recorded c h ≡ Some p
recorded_at [] n c p none is = absurd (cc)
recorded_at (x ∷ h) zero c p none is =
    let same : x ≡ Return c p = some_is x (Return c p) is in
    let here = eq-eqb c c refl in
    rw same (rw here refl)
  where
    some_is : (a b : Heard) → Some a ≡ Some b → a ≡ b
    some_is a b k = cc
recorded_at (x ∷ h) (suc n) c p none is =
    let parts = or_parts (is_return c (entry_of x)) (has_returned c (entries (take n h))) none in
    ap (λ (o : Option Pattern). or_else o (recorded c h)) (none_from _ (is_some-returned_as c x ∙ parts.0)) ∙ recorded_at h n c p parts.1 is

-- ---- one call more

abbrev pub here_at : ℕ → Start → List ℕ → Configuration
here_at n now held = record { at = n; now = now; held = held }

some_same : (p q : Pattern) → Some p ≡ Some q → p ≡ q
some_same p q e = cc

call_more : (rows : List Row) (start now : Start) (h : List Heard) (n c seat : ℕ) (call : Call) (p : Pattern) (es : List Entry) → IsHistory h → slice_get h n ≡ Some (Begin c seat call) → slice_get h (n + 1) ≡ Some (Return c p)
    → Matches (widened_by rows (Some (name_of call)) p) (reply_at now call) → LeadsTo start (widened rows h) es (here_at n now []) → (fs : List Entry) × LeadsTo start (widened rows h) fs (here_at (n + 1 + 1) (called now call) [])
call_more rows start now h n c seat call p es known begins returns fits l =
    let wide = widened rows h in
    let is_history : IsHistory wide = history_wide rows h [] h known in
    let q : Pattern = widened_by rows (named_in c h) p in
    let e = entry.Begin c seat call in
    let begins_wide : slice_get wide n ≡ Some (Begin c seat call) = wide_at rows h n (Begin c seat call) begins in
    let returns_wide : slice_get wide (n + 1) ≡ Some (Return c q) = wide_at rows h (n + 1) (Return c p) returns in
    let first = next_at [] wide n (Begin c seat call) is_history begins_wide in
    let second = next_at [] wide (n + 1) (Return c q) is_history returns_wide in
    let fresh : has_begun c es ≡ false = sym (passed_begun start wide es n c l.explains l.place) ∙ first.0 in
    let l1 = leads_begin start wide es (here_at n now []) c seat call is_history begins_wide l in
    let none : call_of c es ≡ None = none_from (call_of c es) (is_some-call_of c es ∙ fresh) in
    let is : call_of c (es ++ e ∷ []) ≡ Some call = call_of-push c es e ∙ ap (λ (o : Option Call). or_else o (cond (c == c) (Some call) None)) none ∙ ap (λ (b : Bool). cond b (Some call) None) (eq-eqb c c refl) in
    let begun : has_begun c (es ++ e ∷ []) ≡ true = begun_now es c seat call in
    let not_done : has_committed c (es ++ e ∷ []) ≡ false = committed_of_other c es e refl ∙ false_from_ne_true _ (λ done. both_ways _ fresh (begun_first es l.explains.lawful.well_formed c done)) in
    let matches : Matches q (reply_at now call) = subst (λ (o : Option CallName). Matches (widened_by rows o p) (reply_at now call)) (sym (named_at [] h n c seat call known begins)) fits in
    let told : recorded c wide ≡ Some q = recorded_at wide (n + 1) c q second.1 returns_wide in
    let can : CanCommit wide (here_at (n + 1) now []) c call = record {
      begun = passed_call start wide (es ++ e ∷ []) (n + 1) c l1.explains l1.place ∙ is;
      open_still = second.1;
      not_yet = refl;
      fits = λ r so. subst (λ (k : Pattern). Matches k (reply_at now call)) (some_same q r (sym told ∙ so)) matches;
    } in
    let l2 = leads_commit start wide (es ++ e ∷ []) (here_at (n + 1) now []) c call can l1 in
    let answer_due : due start c ((es ++ e ∷ []) ++ entry.Commit c ∷ []) ≡ Some (reply_at now call) =
    due-first start c (es ++ e ∷ []) begun not_done ∙ ap (reply_after start (commits (es ++ e ∷ []))) is ∙ ap (λ (t : Start). Some (reply_at t call)) (sym l1.tree) in
    let l3 = leads_return start wide ((es ++ e ∷ []) ++ entry.Commit c ∷ []) (here_at (n + 1) (called now call) (c ∷ [])) c q (reply_at now call) is_history returns_wide (or_left _ _ (eq-eqb c c refl)) answer_due l2 in
    let fs = ((es ++ e ∷ []) ++ entry.Commit c ∷ []) ++ entry.Return c (reply_at now call) ∷ [] in
    (fs, subst (λ (b : Bool). LeadsTo start wide fs (here_at (n + 1 + 1) (called now call) (cond b [] (c ∷ [])))) (eq-eqb c c refl) l3)

-- ---- all calls

end_of : (rows : List Row) (start : Start) (h : List Heard) (es : List Entry) (x : Configuration) → length h ≤ x.at → LeadsTo start (widened rows h) es x → Explains start (widened rows h) es
end_of rows start h es x all l =
    let wide = widened rows h in
    let long : length wide ≡ length h = length-map h (widened_entry rows h) in
    subst (λ (g : List Heard). Explains start g es) (take_all x.at wide (omega (arith, long, all))) (explained_take start wide es x.at l.explains l.place)

pub among_both : (all xs ys : List Row) → AreAmong all (xs ++ ys) → AreAmong all xs × AreAmong all ys
among_both all [] ys among = (tt, among)
among_both all (x ∷ xs) ys among = let parts = among_both all xs ys among.1 in ((among.0, parts.0), parts.1)

-- what is left of the history is explained, as soon as what is behind the next call is
abbrev pub ExplainsBehind : List Row → Start → List Heard → ℕ → Start → List Heard → Type 0
ExplainsBehind rows start h n now g =
    (es : List Entry) → (learned now n g).1 ≡ Whole → AreAmong rows (learned now n g).0 → LeadsTo start (widened rows h) es (here_at n now []) → (fs : List Entry) × Explains start (widened rows h) fs

ended : (n : ℕ) (r : Reply) → At n r ≡ Whole → ⊥
ended n r e = cc

overlapped : (n : ℕ) → Overlaps n ≡ Whole → ⊥
overlapped n e = cc

by_rows : (rows : List Row) (start now : Start) (h : List Heard) (n c seat : ℕ) (call : Call) (p : Pattern) (g : List Heard) (es : List Entry) (o : Option (List Row)) → IsHistory h → drop n h ≡ Begin c seat call ∷ Return c p ∷ g → ExplainsBehind rows start h (n + 2) (called now call) g
    → rows_at (name_of call) (reply_at now call) p ≡ o → (goes_on o (n + 2) (reply_at now call) (learned (called now call) (n + 2) g)).1 ≡ Whole → AreAmong rows (goes_on o (n + 2) (reply_at now call) (learned (called now call) (n + 2) g)).0
    → LeadsTo start (widened rows h) es (here_at n now []) → (fs : List Entry) × Explains start (widened rows h) fs
by_rows rows start now h n c seat call p g es None known left goes is whole among l = absurd (ended (n + 2) (reply_at now call) whole)
by_rows rows start now h n c seat call p g es (Some rs) known left goes is whole among l =
    let parts = among_both rows rs (learned (called now call) (n + 2) g).0 among in
    let second : drop (n + 1) h ≡ Return c p ∷ g = drop_more h n (Begin c seat call) (Return c p ∷ g) left in
    let on = call_more rows start now h n c seat call p es known (at_drop h n (Begin c seat call) (Return c p ∷ g) left) (at_drop h (n + 1) (Return c p) g second) (rows_explain rows (name_of call) (reply_at now call) p rs is parts.0) l in
    let two : n + 1 + 1 ≡ n + 2 = omega arith in
    goes on.0 whole parts.1 (subst (λ (k : ℕ). LeadsTo start (widened rows h) on.0 (here_at k (called now call) [])) two on.1)

pair_more : (b : Bool) (rows : List Row) (start now : Start) (h : List Heard) (n c d seat : ℕ) (call : Call) (p : Pattern) (g : List Heard) (es : List Entry) → (c == d) ≡ b → IsHistory h → drop n h ≡ Begin c seat call ∷ Return d p ∷ g → ExplainsBehind rows start h (n + 2) (called now call) g
    → (cond b (goes_on (rows_at (name_of call) (reply_at now call) p) (n + 2) (reply_at now call) (learned (called now call) (n + 2) g)) ([], Overlaps (n + 2))).1 ≡ Whole
    → AreAmong rows (cond b (goes_on (rows_at (name_of call) (reply_at now call) p) (n + 2) (reply_at now call) (learned (called now call) (n + 2) g)) ([], Overlaps (n + 2))).0
    → LeadsTo start (widened rows h) es (here_at n now []) → (fs : List Entry) × Explains start (widened rows h) fs
pair_more false rows start now h n c d seat call p g es same known left goes whole among l = absurd (overlapped (n + 2) whole)
pair_more true rows start now h n c d seat call p g es same known left goes whole among l =
    let here : drop n h ≡ Begin c seat call ∷ Return c p ∷ g = left ∙ ap (λ (k : ℕ). Begin c seat call ∷ Return k p ∷ g) (sym (eqb-true c d same)) in
    by_rows rows start now h n c seat call p g es (rows_at (name_of call) (reply_at now call) p) known here goes refl whole among l

all_calls : (rows : List Row) (start now : Start) (h : List Heard) (n : ℕ) (g : List Heard) → IsHistory h → drop n h ≡ g → ExplainsBehind rows start h n now g
all_calls rows start now h n [] known left es whole among l =
    let none : length (drop n h) ≡ 0 = ap length left in
    (es, end_of rows start h es (here_at n now []) (omega (arith, none, length-drop n h)) l)
all_calls rows start now h n (Begin c seat call ∷ []) known left es whole among l =
    let one : length (drop n h) ≡ 1 = ap length left in
    let begins = wide_at rows h n (Begin c seat call) (at_drop h n (Begin c seat call) [] left) in
    let more = leads_begin start (widened rows h) es (here_at n now []) c seat call (history_wide rows h [] h known) begins l in
    (es ++ entry.Begin c seat call ∷ [], end_of rows start h (es ++ entry.Begin c seat call ∷ []) (here_at (n + 1) now []) (omega (arith, one, length-drop n h)) more)
all_calls rows start now h n (Begin c seat call ∷ Begin d other asked ∷ g) known left es whole among l = absurd (overlapped (n + 2) whole)
all_calls rows start now h n (Return c p ∷ g) known left es whole among l = absurd (overlapped (n + 1) whole)
all_calls rows start now h n (Begin c seat call ∷ Return d p ∷ g) known left es whole among l =
    let second : drop (n + 1) h ≡ Return d p ∷ g = drop_more h n (Begin c seat call) (Return d p ∷ g) left in
    let two : n + 1 + 1 ≡ n + 2 = omega arith in
    let rest : drop (n + 2) h ≡ g = subst (λ (k : ℕ). drop k h ≡ g) two (drop_more h (n + 1) (Return d p) g second) in
    pair_more (c == d) rows start now h n c d seat call p g es refl known left (all_calls rows start (called now call) h (n + 2) g known rest) whole among l

pub accepted : (start : Start) (h : List Heard) (rows : List Row) (end : End) (all : List Row) → (rows, end) ≡ learned start 0 h → end ≡ Whole → IsHistory h → AreAmong all rows → (es : List Entry) × Explains start (widened all h) es
accepted start h rows end all is whole known among =
    all_calls all start start h 0 h known refl [] (sym (ap (λ (l : List Row × End). l.1) is) ∙ whole) (subst (λ (l : List Row × End). AreAmong all l.0) is among) (leads_start start (widened all h))
