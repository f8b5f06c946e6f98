-- How learning goes on, call by call.
use Rattle.std.proofs.Common.{◌≡◌, ℕ, ◌+◌, ◌-◌, ◌≤◌, suc, zero, Bool, true, false, not, cond, List, [], ◌∷◌, ◌++◌, length, take, drop, slice_get, Option, Some, None, refl, sym, ap, ◌∙◌, subst, append_assoc, arith}
use Rattle.std.proofs.lemmas.List.{drop-drop, length-drop}
use Rattle.std.proofs.lemmas.Bool.{eq-eqb, both_ways, false_from_ne_true}
use Rattle.std.proofs.Math.Seq.{take-length}
use Rattle.fs_calls.specs.Starts.{Start}
use Rattle.fs_calls.specs.Replies.{same_reply}
use Rattle.fs_calls.specs.Outcomes.{reply_at, called}
use Rattle.fs_calls.specs.declared.call.Call.{Call}
use Rattle.fs_calls.specs.declared.reply.Reply.{Reply}
use Rattle.fs_timeline.proofs.TimelineLemmas.{append_nil}
use Rattle.fs_timeline.proofs.ReplyLemmas.{same_reply_exact, same_reply_refl}
use Rattle.fs_linearize_histories.specs.declared.heard.Heard.{Heard}
use Rattle.fs_linearize_histories.specs.declared.heard.Heard.TheVariants.{Begin, Return}
use Rattle.fs_linearize_histories.specs.declared.heard.Pattern.{Pattern}
use Rattle.fs_linearize_histories.specs.declared.heard.Pattern.TheVariants.{Exactly, AnyError, OneOf, AnyDirectory, Except, Anything}
use Rattle.fs_linearize_histories.specs.Heard.{Matches}
use Rattle.fs_linearize_dialects.specs.Names.{name_of}
use Rattle.fs_linearize_dialects.specs.declared.dialect.Row.{Row}
use Rattle.fs_linearize_dialects.specs.declared.call_name.CallName.{CallName}
use Rattle.fs_linearize_dialects.specs.Learning.{may_be, rows_at, rows_known, end_at, goes_on, learned}
use Rattle.fs_linearize_dialects.specs.code.Steps.{Adds, IsCallAt, IsNoCallAt}
use Rattle.fs_linearize_dialects.specs.declared.learning.End.{End}
use Rattle.fs_linearize_dialects.specs.declared.learning.End.TheVariants.{At}

-- rows before what is learned later
abbrev pub behind : List Row → List Row × End → List Row × End
behind rows later = (rows ++ later.0, later.1)

-- ---- what may be

pub not_true : (b : Bool) → not b ≡ true → b ≡ false
not_true true h = absurd (cc)
not_true false h = refl

pub may_match : (p : Pattern) (r : Reply) → may_be p r ≡ true → Matches p r
may_match (Exactly known) r is = same_reply_exact r known is
may_match AnyError r is = is
may_match (OneOf errors) r is = is
may_match AnyDirectory r is = is
may_match (Except replies) r is = not_true _ is
may_match Anything r is = tt

pub match_may : (p : Pattern) (r : Reply) → Matches p r → may_be p r ≡ true
match_may (Exactly known) r is = subst (λ (s : Reply). same_reply s known ≡ true) (sym is) (same_reply_refl known)
match_may AnyError r is = is
match_may (OneOf errors) r is = is
match_may AnyDirectory r is = is
match_may (Except replies) r is = ap not is
match_may Anything r is = refl

pub cannot_be : (p : Pattern) (r : Reply) (b : Bool) → (Matches p r → b ≡ true) → b ≡ false → may_be p r ≡ false
cannot_be p r b matches none = false_from_ne_true _ (λ may. both_ways _ none (matches (may_match p r may)))

pub adds_none : (name : CallName) (ours : Reply) (known : Pattern) (rows : List Row) → may_be known ours ≡ true → Adds (rows_at name ours known) rows rows true
adds_none name ours known rows may = subst (λ (t : Bool). Adds (cond t (Some []) (rows_known name ours known)) rows rows true) (sym may) (refl, sym (append_nil rows))

pub rows_else : (name : CallName) (ours : Reply) (known : Pattern) → may_be known ours ≡ false → rows_known name ours known ≡ rows_at name ours known
rows_else name ours known none = sym (ap (λ (t : Bool). cond t (Some []) (rows_known name ours known)) none)

-- ---- parts of a list

pub rest_all : {A : Type 0} (i : ℕ) (xs : List A) → take (length xs - i) (drop i xs) ≡ drop i xs
rest_all i xs = ap (λ (n : ℕ). take n (drop i xs)) (sym (length-drop i xs)) ∙ take-length (drop i xs)

pub at_drop : (h : List Heard) (n : ℕ) (x : Heard) (rest : List Heard) → drop n h ≡ x ∷ rest → slice_get h n ≡ Some x
at_drop [] zero x rest is = absurd (cc)
at_drop [] (suc n) x rest is = absurd (cc)
at_drop (y ∷ h) zero x rest is = same y h is
  where
    same : (y : Heard) (h : List Heard) → y ∷ h ≡ x ∷ rest → Some y ≡ Some x
    same y h e = cc
at_drop (y ∷ h) (suc n) x rest is = at_drop h n x rest is

pub drop_more : (h : List Heard) (n : ℕ) (x : Heard) (rest : List Heard) → drop n h ≡ x ∷ rest → drop (n + 1) h ≡ rest
drop_more h n x rest is = sym (drop-drop 1 n h) ∙ ap (drop 1) is

-- ---- call by call

call_here : (now : Start) (at : ℕ) (h : List Heard) (c seat : ℕ) (call : Call) (known : Pattern) (rest : List Heard) → h ≡ Begin c seat call ∷ Return c known ∷ rest
    → learned now at h ≡ goes_on (rows_at (name_of call) (reply_at now call) known) (at + 2) (reply_at now call) (learned (called now call) (at + 2) rest)
call_here now at h c seat call known rest is = ap (learned now at) is ∙ (rw (eq-eqb c c refl) refl)

rest_here : (h : List Heard) (at : ℕ) (x y : Heard) (rest : List Heard) → drop at h ≡ x ∷ y ∷ rest → rest ≡ drop (at + 2) h
rest_here h at x y rest is = sym (sym (drop-drop 2 at h) ∙ ap (drop 2) is)

pub call_fits : (h : List Heard) (at : ℕ) (call : Call) (known : Pattern) → IsCallAt (take (length h - at) (drop at h)) call known → at ≤ length h → at + 2 ≤ length h
call_fits h at call known found within =
    let is : drop at h ≡ Begin found.0 found.1 call ∷ Return found.0 known ∷ found.2 = sym (rest_all at h) ∙ found.3 in
    let long : length (drop at h) ≡ suc (suc (length found.2)) = ap length is in
    omega (arith, long, length-drop at h, within)

added : (o : Option (List Row)) (at : ℕ) (ours : Reply) (later : List Row × End) (old new : List Row) (whole : List Row × End) → Adds o old new true → behind old (goes_on o at ours later) ≡ whole → behind new later ≡ whole
added (Some rows) at ours later old new whole adds was = ap (λ (xs : List Row). (xs ++ later.0, later.1)) adds.1 ∙ ap (λ (xs : List Row). (xs, later.1)) (append_assoc old rows later.0) ∙ was
added None at ours later old new whole adds was = absurd (cc)

stopped : (o : Option (List Row)) (at : ℕ) (ours : Reply) (later : List Row × End) (old new : List Row) (whole : List Row × End) → Adds o old new false → behind old (goes_on o at ours later) ≡ whole → (new, At at ours) ≡ whole
stopped (Some rows) at ours later old new whole adds was = absurd (cc)
stopped None at ours later old new whole adds was = ap (λ (xs : List Row). (xs, At at ours)) (adds.1 ∙ sym (append_nil old)) ∙ was

pub goes_by : (h : List Heard) (now : Start) (at : ℕ) (call : Call) (known : Pattern) (old new : List Row) (whole : List Row × End) → IsCallAt (take (length h - at) (drop at h)) call known
    → behind old (learned now at (drop at h)) ≡ whole → Adds (rows_at (name_of call) (reply_at now call) known) old new true → behind new (learned (called now call) (at + 2) (drop (at + 2) h)) ≡ whole
goes_by h now at call known old new whole found was adds =
    let is : drop at h ≡ Begin found.0 found.1 call ∷ Return found.0 known ∷ found.2 = sym (rest_all at h) ∙ found.3 in
    let here = call_here now at (drop at h) found.0 found.1 call known found.2 is in
    let on = added (rows_at (name_of call) (reply_at now call) known) (at + 2) (reply_at now call) (learned (called now call) (at + 2) found.2) old new whole adds (ap (behind old) (sym here) ∙ was) in
    ap (λ (g : List Heard). behind new (learned (called now call) (at + 2) g)) (sym (rest_here h at _ _ found.2 is)) ∙ on

pub stops_at : (h : List Heard) (now : Start) (at : ℕ) (call : Call) (known : Pattern) (old new : List Row) (whole : List Row × End) → IsCallAt (take (length h - at) (drop at h)) call known
    → behind old (learned now at (drop at h)) ≡ whole → Adds (rows_at (name_of call) (reply_at now call) known) old new false → (new, At (at + 2) (reply_at now call)) ≡ whole
stops_at h now at call known old new whole found was adds =
    let is : drop at h ≡ Begin found.0 found.1 call ∷ Return found.0 known ∷ found.2 = sym (rest_all at h) ∙ found.3 in
    let here = call_here now at (drop at h) found.0 found.1 call known found.2 is in
    stopped (rows_at (name_of call) (reply_at now call) known) (at + 2) (reply_at now call) (learned (called now call) (at + 2) found.2) old new whole adds (ap (behind old) (sym here) ∙ was)

pub ends_here : (h : List Heard) (now : Start) (at : ℕ) (rows : List Row) (whole : List Row × End) → IsNoCallAt (take (length h - at) (drop at h)) → behind rows (learned now at (drop at h)) ≡ whole
    → (rows, end_at at (take (length h - at) (drop at h))) ≡ whole
ends_here h now at rows whole none was =
    let here : learned now at (drop at h) ≡ ([], end_at at (take (length h - at) (drop at h))) = ap (learned now at) (sym (rest_all at h)) ∙ none now at in
    ap (λ (xs : List Row). (xs, end_at at (take (length h - at) (drop at h)))) (sym (append_nil rows)) ∙ ap (behind rows) (sym here) ∙ was
