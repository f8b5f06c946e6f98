-- Parts of a history that are refused for the same reason.
use Rattle.std.proofs.Common.{◌≡◌, ℕ, zero, suc, ◌-◌, ◌<◌, ◌≤◌, Bool, true, false, cond, List, [], ◌∷◌, length, take, get_or, Some, None, refl, sym, ap, ◌∙◌, subst, arith}
use Rattle.std.proofs.lemmas.List.{length-take-le, get_or-take, take_all}
use Rattle.std.proofs.lemmas.Option.{slice_get_within, get_or_from_slice_get, slice_get-get_or}
use Rattle.fs_calls.specs.Starts.{Start}
use Rattle.fs_linearize_histories.specs.declared.heard.Heard.{Heard}
use Rattle.fs_linearize_histories.specs.declared.heard.Heard.TheVariants.{Return}
use Rattle.fs_linearize_histories.specs.Histories.{Explains, HasNoOrder}
use Rattle.fs_linearize_histories.specs.Faults.{history_fault}
use Rattle.fs_linearize_histories.proofs.FaultLemmas.{faults_are_first}
use Rattle.fs_linearize_histories.proofs.PrefixLemmas.{history_take}
use Rattle.fs_linearize.specs.Possible.{ArePossible}
use Rattle.fs_linearize.specs.Results.{IsAnswerFor, IsRefusedAt, fault_in}
use Rattle.fs_linearize.specs.declared.replies.Possible.{Possible}
use Rattle.fs_linearize.specs.declared.linearizing.Found.{Found}
use Rattle.fs_linearize.specs.declared.linearizing.Found.TheVariants as found
use Rattle.fs_linearize_minimal.specs.Reasons.{CouldBeRight, is_same, place_in}
use Rattle.fs_linearize_minimal.specs.Minimal.{IsRefuted}
use Rattle.fs_linearize_minimal.specs.declared.reason.Reason.{Reason}

take_less : {A : Type 0} (m n : ℕ) (xs : List A) → m ≤ n → take m (take n xs) ≡ take m xs
take_less zero n xs less = refl
take_less (suc m) zero xs less = absurd (omega arith)
take_less (suc m) (suc n) [] less = refl
take_less (suc m) (suc n) (x ∷ xs) less = let fewer : m ≤ n = omega (arith, less) in ap (λ ys. x ∷ ys) (take_less m n xs fewer)

some_place : (start : Start) (h : List Heard) (place : ℕ) → HasNoOrder start h place → 0 < place
some_place start h zero refuted = absurd (refuted.front refuted.before.0 refuted.before.1)
some_place start h (suc n) refuted = omega arith

fault_take : (h : List Heard) (n : ℕ) → history_fault h ≡ None → history_fault (take n h) ≡ None
fault_take h n none = (faults_are_first.none (take n h)).1 (history_take h n ((faults_are_first.none h).0 none))

-- the entries up to the first return that nothing explains end with it
pub refused_front : (start : Start) (h : List Heard) (limit place : ℕ) (reason : Reason) (p : Possible) (later : ℕ) → history_fault h ≡ None → IsRefusedAt start h limit place reason.call p later → is_same reason reason.call p ≡ true → (reason.race ≡ true → CouldBeRight start reason.call (take place h)) → IsRefuted start limit reason (take place h)
refused_front start h limit place reason p later none a same race =
    let last : Heard = Return reason.call a.returns.0 in
    let within : place - 1 < length h = slice_get_within h (place - 1) last a.returns.1 in
    let some : 0 < place = some_place start h place a.order in
    let long : length (take place h) ≡ place = length-take-le place h (omega (arith, within, some)) in
    let less : place - 1 < place = omega (arith, some) in
    let front : take (length (take place h) - 1) (take place h) ≡ take (place - 1) h = ap (λ n. take (n - 1) (take place h)) long ∙ take_less (place - 1) place h (omega arith) in
    let whole : take (length (take place h)) (take place h) ≡ take place h = take_all (length (take place h)) (take place h) (omega arith) in
    let at : length (take place h) - 1 < length (take place h) = omega (arith, long, some) in
    let got : get_or (take place h) (length (take place h) - 1) last ≡ last = ap (λ n. get_or (take place h) (n - 1) last) long ∙ get_or-take place h (place - 1) last less ∙ get_or_from_slice_get h (place - 1) last last a.returns.1 in
    record {
      history = fault_take h place none;
      order = record {
        whole = a.order.front;
        front = λ es x. a.order.front es (subst (λ (k : List Heard). Explains start k es) whole x);
        before = (a.order.before.0, subst (λ (k : List Heard). Explains start k a.order.before.0) (sym front) a.order.before.1);
      };
      returns = (a.returns.0, slice_get-get_or (take place h) (length (take place h) - 1) last at ∙ ap Some got);
      replies = (p, subst (λ (k : List Heard). ArePossible start k limit reason.call p) (sym front) a.possible, same);
      race = race;
    }

-- what is found, if it is a refusal for this reason
placed : (b : Bool) (n place : ℕ) → cond b (Some n) None ≡ Some place → (b ≡ true) × (n ≡ place)
placed true n place e = (refl, cc)
placed false n place e = absurd (cc)

same_call : (reason : Reason) (call : ℕ) (p : Possible) → is_same reason call p ≡ true → call ≡ reason.call
same_call reason call p e = grind arith

pub refused_for : (start : Start) (h : List Heard) (limit place : ℕ) (reason : Reason) (f : Found) → IsAnswerFor start h limit f → fault_in f ≡ history_fault h → place_in reason f ≡ Some place → (reason.race ≡ true → CouldBeRight start reason.call (take place h)) → IsRefuted start limit reason (take place h)
refused_for start h limit place reason (found.Lawful journal) answer fault is race = absurd (cc)
refused_for start h limit place reason (found.NoOrder n call p held) answer fault is race =
    let at = placed (is_same reason call p) n place is in
    let named : call ≡ reason.call = same_call reason call p at.0 in
    let there = subst (λ (k : ℕ). IsRefusedAt start h limit k call p held) at.1 answer in
    let known = subst (λ (c : ℕ). IsRefusedAt start h limit place c p held) named there in
    refused_front start h limit place reason p held (sym fault) known (subst (λ (c : ℕ). is_same reason c p ≡ true) named at.0) race
refused_for start h limit place reason (found.Fault n kind) answer fault is race = absurd (cc)
refused_for start h limit place reason (found.Unknown n) answer fault is race = absurd (cc)
