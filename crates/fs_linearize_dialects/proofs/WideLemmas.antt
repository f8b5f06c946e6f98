-- Histories that are read by a table.
use Rattle.std.proofs.Common.{◌≡◌, ℕ, suc, Bool, true, false, ◌||◌, ◌==◌, List, [], ◌∷◌, ◌++◌, length, map, take, get_or, ◌<◌, ◌+◌, Option, Some, None, Result, Ok, Err, refl, sym, ap, ◌∙◌, subst, ⊎_elim, append_assoc}
use Rattle.std.specs.Prelude.{IfOk}
use Rattle.std.proofs.lemmas.List.{take_more, map-append}
use Rattle.std.proofs.lemmas.Bool.{eq-eqb, or_left, or_right, or_cases}
use Rattle.fs_names.specs.Failures.{or_else}
use Rattle.fs_names.proofs.FailureLemmas.{or_else-assoc}
use Rattle.fs_calls.specs.Starts.{Start}
use Rattle.fs_calls.specs.Replies.{number_of}
use Rattle.fs_calls.specs.declared.errno.Errno.{Errno}
use Rattle.fs_calls.specs.declared.reply.Reply.{Reply}
use Rattle.fs_calls.specs.declared.reply.Reply.TheVariants as answer
use Rattle.fs_timeline.specs.declared.entry.Entry.{Entry}
use Rattle.fs_timeline.specs.declared.entry.Entry.TheVariants as entry
use Rattle.fs_linearizable.specs.Linearizable.{history}
use Rattle.fs_linearize_histories.specs.Heard.{Matches, IsHeardAs, AreHeardIn, has_error, is_one_of}
use Rattle.fs_linearize_histories.specs.Histories.{Explains}
use Rattle.fs_linearize_histories.specs.declared.heard.Heard.{Heard}
use Rattle.fs_linearize_histories.specs.declared.heard.Heard.TheVariants.{Begin, Return}
use Rattle.fs_linearize_histories.specs.declared.heard.Pattern.{Pattern}
use Rattle.fs_linearize_histories.specs.declared.heard.Pattern.TheVariants.{Exactly, AnyError, OneOf, AnyDirectory, Except, Anything}
use Rattle.fs_linearize_dialects.specs.Dialects.{ours_for, widened_errors, error_or, widened_reply, widened_pattern, begun_as, named_in, widened_by, widened_entry, widened}
use Rattle.fs_linearize_dialects.specs.declared.call_name.CallName.{CallName}
use Rattle.fs_linearize_dialects.specs.declared.dialect.Row.{Row}

-- ---- which call a number is

or_else-none : {F : Type 0} (o : Option F) → or_else o None ≡ o
or_else-none None = refl
or_else-none (Some x) = refl

pub named_more : (c : ℕ) (h : List Heard) (x : Heard) → named_in c (h ++ x ∷ []) ≡ or_else (begun_as c x) (named_in c h)
named_more c [] x = sym (or_else-none (begun_as c x))
named_more c (y ∷ h) x = ap (λ o. or_else o (begun_as c y)) (named_more c h x) ∙ sym (or_else-assoc (begun_as c x) (named_in c h) (begun_as c y))

pub named_put : (h : List Heard) (i : ℕ) (x : Heard) (old new : ℕ → Option CallName) → i < length h → x ≡ get_or h i x → ((c : ℕ) → new c ≡ or_else (begun_as c x) (old c)) → ((c : ℕ) → old c ≡ named_in c (take i h)) → (c : ℕ) → new c ≡ named_in c (take (i + 1) h)
named_put h i x old new small is put was c = put c ∙ ap (or_else (begun_as c x)) (was c) ∙ sym (named_more c (take i h) x) ∙ ap (named_in c) (sym (take_more h i x small ∙ ap (λ y. take i h ++ y ∷ []) (sym is)))

-- ---- entry by entry

pub wide_pushed : (rows : List Row) (h ys old new : List Heard) (x wide : Heard) → new ≡ old ++ wide ∷ [] → wide ≡ widened_entry rows h x → old ≡ map (widened_entry rows h) ys → new ≡ map (widened_entry rows h) (ys ++ x ∷ [])
wide_pushed rows h ys old new x wide pushed is was = pushed ∙ ap (λ xs. xs ++ wide ∷ []) was ∙ ap (λ (y : Heard). map (widened_entry rows h) ys ++ y ∷ []) is ∙ sym (map-append (widened_entry rows h) ys (x ∷ []))

-- ---- without rows

no_errors : (name : CallName) (errors : List Errno) → widened_errors [] name errors ≡ errors
no_errors name [] = refl
no_errors name (e ∷ errors) = ap (λ (es : List Errno). e ∷ es) (no_errors name errors)

no_reply : (name : CallName) (r : Reply) → widened_reply [] name r ≡ Exactly r
no_reply name answer.Done = refl
no_reply name (answer.Stat k n) = refl
no_reply name (answer.Names ns) = refl
no_reply name (answer.Bytes bs) = refl
no_reply name (answer.Wrote n) = refl
no_reply name (answer.Failed e) = refl

no_pattern : (name : CallName) (p : Pattern) → widened_pattern [] name p ≡ p
no_pattern name (Exactly r) = no_reply name r
no_pattern name AnyError = refl
no_pattern name (OneOf errors) = ap OneOf (no_errors name errors)
no_pattern name AnyDirectory = refl
no_pattern name (Except replies) = refl
no_pattern name Anything = refl

no_widening : (o : Option CallName) (p : Pattern) → widened_by [] o p ≡ p
no_widening None p = refl
no_widening (Some name) p = no_pattern name p

no_entry : (h : List Heard) (x : Heard) → widened_entry [] h x ≡ x
no_entry h (Begin c seat call) = refl
no_entry h (Return c p) = ap (Return c) (no_widening (named_in c h) p)

no_entries : (h g : List Heard) → map (widened_entry [] h) g ≡ g
no_entries h [] = refl
no_entries h (x ∷ g) = ap (λ (y : Heard). y ∷ map (widened_entry [] h) g) (no_entry h x) ∙ ap (λ (ys : List Heard). x ∷ ys) (no_entries h g)

pub widened_none : (rows : List Row) (h : List Heard) → rows ≡ [] → widened rows h ≡ h
widened_none rows h none = ap (λ (rs : List Row). widened rs h) none ∙ no_entries h h

-- ---- no order is lost

pub has_append : (e : Errno) (xs ys : List Errno) → has_error e ys ≡ true → has_error e (xs ++ ys) ≡ true
has_append e [] ys is = is
has_append e (x ∷ xs) ys is = or_right (number_of x == number_of e) _ (has_append e xs ys is)

has_widened : (rows : List Row) (name : CallName) (e : Errno) (errors : List Errno) → has_error e errors ≡ true → has_error e (widened_errors rows name errors) ≡ true
has_widened rows name e [] is = is
has_widened rows name e (f ∷ errors) is = ⊎_elim
    (λ here. or_left _ _ here)
    (λ later. or_right (number_of f == number_of e) _ (has_append e (ours_for rows name f) (widened_errors rows name errors) (has_widened rows name e errors later)))
    (or_cases (number_of f == number_of e) (has_error e errors) is)

one_of_widened : (rows : List Row) (name : CallName) (r : Reply) (errors : List Errno) → is_one_of r errors ≡ true → is_one_of r (widened_errors rows name errors) ≡ true
one_of_widened rows name (answer.Failed e) errors is = has_widened rows name e errors is
one_of_widened rows name answer.Done errors is = is
one_of_widened rows name (answer.Stat k n) errors is = is
one_of_widened rows name (answer.Names ns) errors is = is
one_of_widened rows name (answer.Bytes bs) errors is = is
one_of_widened rows name (answer.Wrote n) errors is = is

error_matches : (e : Errno) (errors : List Errno) → Matches (error_or e errors) (answer.Failed e)
error_matches e [] = refl
error_matches e (f ∷ errors) = or_left _ _ (eq-eqb (number_of e) (number_of e) refl)

reply_matches : (rows : List Row) (name : CallName) (r : Reply) → Matches (widened_reply rows name r) r
reply_matches rows name answer.Done = refl
reply_matches rows name (answer.Stat k n) = refl
reply_matches rows name (answer.Names ns) = refl
reply_matches rows name (answer.Bytes bs) = refl
reply_matches rows name (answer.Wrote n) = refl
reply_matches rows name (answer.Failed e) = error_matches e (ours_for rows name e)

pattern_matches : (rows : List Row) (name : CallName) (p : Pattern) (r : Reply) → Matches p r → Matches (widened_pattern rows name p) r
pattern_matches rows name (Exactly s) r is = subst (λ (t : Reply). Matches (widened_reply rows name s) t) (sym is) (reply_matches rows name s)
pattern_matches rows name AnyError r is = is
pattern_matches rows name (OneOf errors) r is = one_of_widened rows name r errors is
pattern_matches rows name AnyDirectory r is = is
pattern_matches rows name (Except replies) r is = is
pattern_matches rows name Anything r is = is

pub widened_matches : (rows : List Row) (o : Option CallName) (p : Pattern) (r : Reply) → Matches p r → Matches (widened_by rows o p) r
widened_matches rows None p r is = is
widened_matches rows (Some name) p r is = pattern_matches rows name p r is

heard_wide : (rows : List Row) (h : List Heard) (e : Entry) (x : Heard) → IsHeardAs e x → IsHeardAs e (widened_entry rows h x)
heard_wide rows h (entry.Begin c seat call) x is = ap (widened_entry rows h) is
heard_wide rows h (entry.Commit c) x is = absurd is
heard_wide rows h (entry.Return c r) x is = (widened_by rows (named_in c h) is.0, ap (widened_entry rows h) is.1, widened_matches rows (named_in c h) is.0 r is.2)

heard_in_wide : (rows : List Row) (h : List Heard) (es : List Entry) (g : List Heard) → AreHeardIn es g → AreHeardIn es (map (widened_entry rows h) g)
heard_in_wide rows h [] g is = tt
heard_in_wide rows h (e ∷ es) [] is = is
heard_in_wide rows h (e ∷ es) (x ∷ g) is = (heard_wide rows h e x is.0, heard_in_wide rows h es g is.1)

as_many : (rows : List Row) (h g : List Heard) → length (map (widened_entry rows h) g) ≡ length g
as_many rows h [] = refl
as_many rows h (x ∷ g) = ap (λ (n : ℕ). suc n) (as_many rows h g)

pub widening_keeps : (rows : List Row) (start : Start) (h : List Heard) (es : List Entry) → Explains start h es → Explains start (widened rows h) es
widening_keeps rows start h es x = record { lawful = x.lawful; heard_as = heard_in_wide rows h (history es) h x.heard_as; whole = x.whole ∙ sym (as_many rows h h) }

-- ---- of what is answered

pub if_ok : {T E : Type 0} (r : Result T E) (A B : T → Type 0) → ((t : T) → A t → B t) → IfOk r A → IfOk r B
if_ok (Ok t) A B goes x = goes t x
if_ok (Err e) A B goes x = tt
