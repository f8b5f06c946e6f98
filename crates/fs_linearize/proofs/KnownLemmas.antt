-- What entries tell of calls and of seats, one by one.
use Rattle.std.proofs.Common.{◌≡◌, ℕ, Bool, true, false, not, ◌||◌, ◌==◌, cond, List, [], ◌∷◌, ◌++◌, Option, Some, None, is_some, refl, sym, ap, ◌∙◌, subst, arith}
use Rattle.std.proofs.lemmas.Bool.{eqb-true, eqb-false, eq-eqb, ne_eqb, or_right}
use Rattle.std.specs.Ordering.{is_eq, nat_cmp}
use Rattle.std.specs.BTreeMap.{BTreeMap, get, Updates}
use Rattle.std.specs.List.{list_any}
use Rattle.fs_names.specs.Failures.{or_else}
use Rattle.fs_timeline.specs.Timeline.{is_begin, is_return, has_begun, has_returned, last_on, is_open, is_busy}
use Rattle.fs_timeline.specs.declared.entry.Entry.{Entry}
use Rattle.fs_timeline.specs.declared.entry.Entry.TheVariants as entry
use Rattle.fs_timeline.proofs.AppendLemmas.{or_false, list_any-push, last_on-push}
use Rattle.fs_calls.specs.declared.call.Call.{Call}
use Rattle.fs_calls.specs.declared.reply.Reply.TheVariants as answer
use Rattle.fs_linearize_histories.specs.declared.heard.Heard.{Heard}
use Rattle.fs_linearize_histories.specs.declared.heard.Heard.TheVariants.{Begin, Return}
use Rattle.fs_linearize_histories.specs.declared.heard.Pattern.{Pattern}
use Rattle.fs_linearize_histories.specs.declared.fault.HistoryFault.TheVariants.{BeginTwice, SeatBusy, ReturnUnbegun, ReturnTwice}
use Rattle.fs_linearize_histories.specs.Faults.{heard_fault}
use Rattle.fs_linearize.specs.code.Knowing.{IsKnown, is_left}
use Rattle.fs_linearize.specs.declared.faults.Known.{Known}

same_number : (c q : ℕ) → is_eq (nat_cmp c q) ≡ (c == q)
same_number c q = grind arith

turned : (a b : ℕ) → (a == b) ≡ (b == a)
turned a b = elim (a == b) as (λ t. (a == b) ≡ t → t ≡ (b == a)) [
  | true ↦ λ same. sym (eq-eqb b a (sym (eqb-true a b same)))
  | false ↦ λ apart. sym (ne_eqb b a (λ same. eqb-false a b apart (sym same)))
] refl

-- what a map says of a key, once another was put in
put_in : {X : Type 0} (old new : BTreeMap ℕ X) (n : ℕ) (x : X) (q : ℕ) → Updates nat_cmp old new n (Some x) → get nat_cmp new q ≡ cond (q == n) (Some x) (get nat_cmp old q)
put_in old new n x q u = u.0 q ∙ ap (λ b. cond b (Some x) (get nat_cmp old q)) (same_number n q ∙ turned n q)

marked : (b : Bool) (o : Option Bool) → is_some (cond b (Some true) o) ≡ (is_some o || b)
marked true o = sym (or_right (is_some o) true refl)
marked false o = sym (or_false (is_some o))

-- a test of a number, once it was marked
marked_more : (old new : BTreeMap ℕ Bool) (n : ℕ) (test : ℕ → Entry → Bool) (before : List Entry) (e : Entry) → Updates nat_cmp old new n (Some true) → ((c : ℕ) → test c e ≡ (c == n))
    → ((c : ℕ) → is_some (get nat_cmp old c) ≡ list_any (test c) before) → (c : ℕ) → is_some (get nat_cmp new c) ≡ list_any (test c) (before ++ e ∷ [])
marked_more old new n test before e u is was c =
    ap is_some (put_in old new n true c u) ∙ marked (c == n) (get nat_cmp old c) ∙ ap (λ b. b || (c == n)) (was c) ∙ ap (λ b. list_any (test c) before || b) (sym (is c)) ∙ sym (list_any-push (test c) before e)

unmarked : (old : BTreeMap ℕ Bool) (test : ℕ → Entry → Bool) (before : List Entry) (e : Entry) → ((c : ℕ) → test c e ≡ false)
    → ((c : ℕ) → is_some (get nat_cmp old c) ≡ list_any (test c) before) → (c : ℕ) → is_some (get nat_cmp old c) ≡ list_any (test c) (before ++ e ∷ [])
unmarked old test before e other was c = was c ∙ sym (list_any-push (test c) before e ∙ ap (λ b. list_any (test c) before || b) (other c) ∙ or_false (list_any (test c) before))

pub knows_begin : (before : List Entry) (old new : Known) (c seat : ℕ) (call : Call) → Updates nat_cmp old.begun new.begun c (Some true) → Updates nat_cmp old.last new.last seat (Some c) → new.returned ≡ old.returned
    → IsKnown before old → IsKnown (before ++ entry.Begin c seat call ∷ []) new
knows_begin before old new c seat call begins sits same k = record {
  begun = marked_more old.begun new.begun c is_begin before (entry.Begin c seat call) begins (λ d. refl) k.begun;
  returned = λ d. ap (λ (m : BTreeMap ℕ Bool). is_some (get nat_cmp m d)) same ∙ unmarked old.returned is_return before (entry.Begin c seat call) (λ e. refl) k.returned d;
  last = λ s.
      put_in old.last new.last seat c s sits ∙ ap (cond (s == seat) (Some c)) (k.last s) ∙ sits_on (s == seat) (last_on s before) ∙ sym (last_on-push s before (entry.Begin c seat call));
}
  where
    sits_on : (b : Bool) (o : Option ℕ) → cond b (Some c) o ≡ or_else (cond b (Some c) None) o
    sits_on true o = refl
    sits_on false o = refl

pub knows_return : (before : List Entry) (old new : Known) (c : ℕ) (e : Entry) → e ≡ entry.Return c answer.Done → Updates nat_cmp old.returned new.returned c (Some true) → new.begun ≡ old.begun → new.last ≡ old.last
    → IsKnown before old → IsKnown (before ++ e ∷ []) new
knows_return before old new c e is returns same also k = subst (λ (x : Entry). IsKnown (before ++ x ∷ []) new) (sym is) (record {
  begun = λ d. ap (λ (m : BTreeMap ℕ Bool). is_some (get nat_cmp m d)) same ∙ unmarked old.begun is_begin before (entry.Return c answer.Done) (λ x. refl) k.begun d;
  returned = marked_more old.returned new.returned c is_return before (entry.Return c answer.Done) returns (λ d. refl) k.returned;
  last = λ s. ap (λ (m : BTreeMap ℕ ℕ). get nat_cmp m s) also ∙ k.last s ∙ sym (last_on-push s before (entry.Return c answer.Done));
})

pub busy : (before : List Entry) (k : Known) (s : ℕ) → IsKnown before k → is_left k (get nat_cmp k.last s) ≡ is_busy s before
busy before k s known = ap (is_left k) (known.last s) ∙ left (last_on s before)
  where
    left : (o : Option ℕ) → is_left k o ≡ is_open o before
    left None = refl
    left (Some c) = ap not (known.returned c)

-- ---- what is wrong with an entry

tested : (has : ℕ → List Entry → Bool) (before : List Entry) (c n : ℕ) (t b : Bool) → n ≡ c → t ≡ has n before → t ≡ b → has c before ≡ b
tested has before c n t b same is found = sym (ap (λ k. has k before) same) ∙ sym is ∙ found

pub begun_twice : (before : List Entry) (x : Heard) (c s n : ℕ) (call : Call) (t : Bool) → x ≡ Begin c s call → n ≡ c → t ≡ has_begun n before → t ≡ true → Some BeginTwice ≡ heard_fault before x
begun_twice before x c s n call t is same test found = let begun = tested has_begun before c n t true same test found in rw (is, begun) refl

pub seat_busy : (before : List Entry) (x : Heard) (c s n m : ℕ) (call : Call) (t u : Bool) → x ≡ Begin c s call → n ≡ c → t ≡ has_begun n before → t ≡ false → m ≡ s → u ≡ is_busy m before → u ≡ true → Some SeatBusy ≡ heard_fault before x
seat_busy before x c s n m call t u is same test found same_seat busy_test busy =
    let begun = tested has_begun before c n t false same test found in
    let open_still = tested is_busy before s m u true same_seat busy_test busy in
    rw (is, begun, open_still) refl

pub may_begin : (before : List Entry) (x : Heard) (c s n m : ℕ) (call : Call) (t u : Bool) → x ≡ Begin c s call → n ≡ c → t ≡ has_begun n before → t ≡ false → m ≡ s → u ≡ is_busy m before → u ≡ false → None ≡ heard_fault before x
may_begin before x c s n m call t u is same test found same_seat busy_test busy =
    let begun = tested has_begun before c n t false same test found in
    let open_still = tested is_busy before s m u false same_seat busy_test busy in
    rw (is, begun, open_still) refl

pub return_unbegun : (before : List Entry) (x : Heard) (c n : ℕ) (p : Pattern) (t : Bool) → x ≡ Return c p → n ≡ c → t ≡ has_begun n before → t ≡ false → Some ReturnUnbegun ≡ heard_fault before x
return_unbegun before x c n p t is same test found = let begun = tested has_begun before c n t false same test found in rw (is, begun) refl

pub return_twice : (before : List Entry) (x : Heard) (c n m : ℕ) (p : Pattern) (t u : Bool) → x ≡ Return c p → n ≡ c → t ≡ has_begun n before → t ≡ true → m ≡ c → u ≡ has_returned m before → u ≡ true → Some ReturnTwice ≡ heard_fault before x
return_twice before x c n m p t u is same test found again back_test back =
    let begun = tested has_begun before c n t true same test found in
    let returned = tested has_returned before c m u true again back_test back in
    rw (is, begun, returned) refl

pub may_return : (before : List Entry) (x : Heard) (c n m : ℕ) (p : Pattern) (t u : Bool) → x ≡ Return c p → n ≡ c → t ≡ has_begun n before → t ≡ true → m ≡ c → u ≡ has_returned m before → u ≡ false → None ≡ heard_fault before x
may_return before x c n m p t u is same test found again back_test back =
    let begun = tested has_begun before c n t true same test found in
    let returned = tested has_returned before c m u false again back_test back in
    rw (is, begun, returned) refl
