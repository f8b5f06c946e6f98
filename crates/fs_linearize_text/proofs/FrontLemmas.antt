-- The front of a history that no journal explains.
use Rattle.std.proofs.Common.{◌≡◌, ◌≢◌, ℕ, zero, suc, ◌-◌, ◌<◌, ◌≤◌, Bool, true, false, List, [], ◌∷◌, length, take, get_or, Option, Some, None, Result, Ok, Err, refl, sym, ap, ◌∙◌, subst, ⊎_elim, inl, inr, arith}
use Rattle.std.specs.Prelude.{IfOk, IfSome, IfNone}
use Rattle.std.proofs.lemmas.List.{length-take-le, get_or-take}
use Rattle.std.proofs.lemmas.Option.{slice_get_within, get_or_from_slice_get}
use Rattle.fs_calls.specs.Starts.{Start}
use Rattle.fs_timeline.specs.declared.entry.Entry.{Entry}
use Rattle.fs_linearize_histories.specs.declared.heard.Heard.{Heard}
use Rattle.fs_linearize_histories.specs.declared.heard.Heard.TheVariants.{Return}
use Rattle.fs_linearize_histories.specs.declared.heard.Pattern.{Pattern}
use Rattle.fs_linearize_histories.specs.Histories.{Explains, HasNoOrder}
use Rattle.fs_linearize_histories.specs.Faults.{history_fault}
use Rattle.fs_linearize_histories.proofs.FaultLemmas.{explained_are_histories, faults_are_first}
use Rattle.fs_linearize.specs.Limited.{WasLimited}
use Rattle.fs_linearize.specs.Results.{IsAnswerFor, IsReturnAt, IsRefusedAt, fault_in}
use Rattle.fs_linearize.specs.declared.linearizing.Found.{Found}
use Rattle.fs_linearize.specs.declared.replies.Possible.{Possible}
use Rattle.fs_linearize.specs.declared.linearizing.Found.TheVariants as found
use Rattle.fs_words.specs.declared.fault.ScriptFault.{ScriptFault}
use Rattle.fs_linearize_text.specs.Answers.{front_text, outcome_of}
use Rattle.fs_linearize_text.specs.Findings.{IsFoundOf, IsFrontText, IsFrontLimited}
use Rattle.fs_linearize_text.specs.code.Fronts.{IsCutAt, IsFrontBehind, IsNoneBehind, IsFrontOr}
use Rattle.fs_linearize_text.specs.declared.answer.Outcome.TheVariants.{Lawful}

-- ---- a list, cut

take_less : {A : Type 0} (m n : ℕ) (xs : List A) → m ≤ n → take m (take n xs) ≡ take m xs
take_less zero n xs less = refl
take_less (suc m) zero xs less = absurd (omega arith)
take_less (suc m) (suc n) [] less = refl
take_less (suc m) (suc n) (x ∷ xs) less = let fewer : m ≤ n = omega (arith, less) in ap (λ ys. x ∷ ys) (take_less m n xs fewer)

pub cut_made : (h ys before : List Heard) (place n : ℕ) (last : Option Heard) → ys ≡ take place h → n ≡ length ys → before ≡ take (n - 1) ys → ((d : Heard) → 0 < n → last ≡ Some (get_or ys (n - 1) d)) → IsCutAt h place before last
cut_made h ys before place n last front many rest value x some is =
    let within : place - 1 < length h = slice_get_within h (place - 1) x is in
    let long : length (take place h) ≡ place = length-take-le place h (omega (arith, within, some)) in
    let same : n ≡ place = many ∙ ap length front ∙ long in
    let few : place - 1 ≤ place = omega arith in
    let less : place - 1 < place = omega (arith, some) in
    let any : 0 < n = omega (arith, same, some) in (
      rest ∙ ap (λ (k : ℕ). take (k - 1) ys) same ∙ ap (take (place - 1)) front ∙ take_less (place - 1) place h few,
      value x any ∙ ap (λ (k : ℕ). Some (get_or ys (k - 1) x)) same ∙ ap (λ (zs : List Heard). Some (get_or zs (place - 1) x)) front ∙ ap Some (get_or-take place h (place - 1) x less ∙ get_or_from_slice_get h (place - 1) x x is),
    )

-- ---- what explains the entries before a return that nothing explains

limited : (start : Start) (h : List Heard) (limit place : ℕ) (f : Found) → HasNoOrder start h place → outcome_of f ≢ Lawful → IsAnswerFor start (take (place - 1) h) limit f → fault_in f ≡ history_fault (take (place - 1) h) → (end at : ℕ) × WasLimited start (take end (take (place - 1) h)) limit at
limited start h limit place (found.Lawful j) refuted other answer fault = absurd (other refl)
limited start h limit place (found.NoOrder p c q held) refuted other answer fault = absurd (answer.order.whole refuted.before.0 refuted.before.1)
limited start h limit place (found.Fault p k) refuted other answer fault =
    let none : history_fault (take (place - 1) h) ≡ None = (faults_are_first.none (take (place - 1) h)).1 (explained_are_histories start (take (place - 1) h) refuted.before.0 refuted.before.1) in
    absurd (cc)
limited start h limit place (found.Unknown at) refuted other answer fault = (answer.0, at, answer.1)

some_place : (start : Start) (h : List Heard) (place : ℕ) → HasNoOrder start h place → 0 < place
some_place start h zero refuted = absurd (refuted.front refuted.before.0 refuted.before.1)
some_place start h (suc n) refuted = omega arith

pub front_some : (h : Start × List Heard) (limit place call : ℕ) (before : List Heard) (last : Option Heard) (text : List ℕ) → HasNoOrder h.0 h.1 place → IsReturnAt h.1 place call → IsCutAt h.1 place before last → IsFrontBehind h.0 before last text → IsFrontText h place call text
front_some h limit place call before last text refuted at cut front =
    let c = cut (Return call at.0) (some_place h.0 h.1 place refuted) at.1 in
    let told = front call at.0 c.1 in
    (told.0, at.0, at.1, subst (λ (xs : List Heard). Explains h.0 xs told.0) c.0 told.1, told.2)

pub front_none : (h : Start × List Heard) (limit place call : ℕ) (before : List Heard) (last : Option Heard) → HasNoOrder h.0 h.1 place → IsReturnAt h.1 place call → IsCutAt h.1 place before last → IsNoneBehind h.0 before last limit → IsFrontLimited h limit place
front_none h limit place call before last refuted at cut none =
    let c = cut (Return call at.0) (some_place h.0 h.1 place refuted) at.1 in
    let told = none call at.0 c.1 in
    limited h.0 h.1 limit place told.0 refuted told.1
    (subst (λ (xs : List Heard). IsAnswerFor h.0 xs limit told.0) c.0 told.2)
    (told.3 ∙ ap history_fault c.0)

pub front_behind : (start : Start) (before : List Heard) (last : Option Heard) (c : ℕ) (p : Pattern) (j : List Entry) (text : List ℕ) → last ≡ Some (Return c p) → Explains start before j → text ≡ front_text start j c p → IsFrontBehind start before last text
front_behind start before last c p j text is x told d q same =
    let both : Some (Return c p) ≡ Some (Return d q) = sym is ∙ same in
    let one : c ≡ d = cc in
    let other : p ≡ q = cc in
    (j, x, told ∙ ap (λ (n : ℕ). front_text start j n p) one ∙ ap (λ (r : Pattern). front_text start j d r) other)

pub none_behind : (start : Start) (before : List Heard) (last : Option Heard) (limit : ℕ) (f : Found) → outcome_of f ≢ Lawful → IsAnswerFor start before limit f → fault_in f ≡ history_fault before → IsNoneBehind start before last limit
none_behind start before last limit f other answer fault c p is = (f, other, answer, fault)

pub no_return : (start : Start) (before : List Heard) (last : Option Heard) (limit : ℕ) → ((c : ℕ) (p : Pattern) → last ≡ Some (Return c p) → ⊥) → IsNoneBehind start before last limit
no_return start before last limit refuted c p is = absurd (refuted c p is)

-- ---- the text that is told

pub told_plain : (h : Start × List Heard) (limit : ℕ) (front : Bool) (f : Found) (text : List ℕ) → front ≡ false → IsFoundOf h limit false f text → IsFoundOf h limit front f text
told_plain h limit front f text is x = rw is x

pub told_other : (h : Start × List Heard) (limit : ℕ) (front : Bool) (f : Found) (text : List ℕ) → ((place call : ℕ) (p : Possible) (held : ℕ) → f ≡ found.NoOrder place call p held → ⊥) → IsFoundOf h limit false f text → IsFoundOf h limit front f text
told_other h limit front f text refuted x = record {
  answer = x.answer;
  fault = x.fault;
  text_is = record { plain = λ is. x.text_is.plain refl; other = λ is. x.text_is.plain refl; front_is = λ is place call p held same. absurd (refuted place call p held same) };
}

front_same : (h : Start × List Heard) (p c place call m n : ℕ) (some other : Possible) (text : List ℕ) → found.NoOrder place call some m ≡ found.NoOrder p c other n → IsFrontText h place call text → IsFrontText h p c text
front_same h p c place call m n some other text same front = let one : place ≡ p = cc in let two : call ≡ c = cc in subst (λ (k : ℕ). IsFrontText h k c text) one (subst (λ (k : ℕ). IsFrontText h place k text) two front)

limited_same : (h : Start × List Heard) (limit p place call c m n : ℕ) (some other : Possible) → found.NoOrder place call some m ≡ found.NoOrder p c other n → IsFrontLimited h limit place → IsFrontLimited h limit p
limited_same h limit p place call c m n some other same front = let one : place ≡ p = cc in subst (λ (k : ℕ). IsFrontLimited h limit k) one front

pub told_front : (h : Start × List Heard) (limit place call held : ℕ) (some : Possible) (f : Found) (old new : List ℕ) → f ≡ found.NoOrder place call some held → IsFrontText h place call new → IsFoundOf h limit false f old → IsFoundOf h limit true f new
told_front h limit place call held some f old new is front x = record {
  answer = x.answer;
  fault = x.fault;
  text_is = record {
    plain = λ refuted. absurd (cc);
    other = λ refuted. absurd (refuted (ap outcome_of is));
    front_is = λ asked p c other n same. let told : found.NoOrder place call some held ≡ found.NoOrder p c other n = sym is ∙ same in inl (front_same h p c place call held n some other new told front);
  };
}

pub told_limited : (h : Start × List Heard) (limit place call held : ℕ) (some : Possible) (f : Found) (text : List ℕ) → f ≡ found.NoOrder place call some held → IsFrontLimited h limit place → IsFoundOf h limit false f text → IsFoundOf h limit true f text
told_limited h limit place call held some f text is front x = record {
  answer = x.answer;
  fault = x.fault;
  text_is = record {
    plain = λ refuted. absurd (cc);
    other = λ refuted. x.text_is.plain refl;
    front_is = λ asked p c other n same. let told : found.NoOrder place call some held ≡ found.NoOrder p c other n = sym is ∙ same in inr (limited_same h limit p place call c held n some other told front, x.text_is.plain refl);
  };
}

pub front_or_plain : (h : Start × List Heard) (limit place call : ℕ) (plain : List ℕ) → IsFrontLimited h limit place → IsFrontOr h limit place call plain plain
front_or_plain h limit place call plain x = inr (x, refl)

pub front_told : (h : Start × List Heard) (limit place call held : ℕ) (some : Possible) (front : Bool) (f : Found) (plain new : List ℕ) → front ≡ true → f ≡ found.NoOrder place call some held → IsFrontOr h limit place call plain new → IsFoundOf h limit false f plain → IsFoundOf h limit front f new
front_told h limit place call held some front f plain new asked is either x =
    subst (λ (b : Bool). IsFoundOf h limit b f new) (sym asked)
    (⊎_elim (λ told. told_front h limit place call held some f plain new is told x)
    (λ limited. subst (λ (t : List ℕ). IsFoundOf h limit true f t) (sym limited.1) (told_limited h limit place call held some f plain is limited.0 x)) either)

-- ---- of what is answered

if_ok : {T E : Type 0} (r : Result T E) (A B : T → Type 0) → ((t : T) → A t → B t) → IfOk r A → IfOk r B
if_ok (Ok t) A B goes x = goes t x
if_ok (Err e) A B goes x = tt

pub told_front_or : {T E : Type 0} (items : T → List ℕ) (r : Result T E) (h : Start × List Heard) (limit place call held : ℕ) (some : Possible) (front : Bool) (f : Found) (plain : List ℕ) → front ≡ true → f ≡ found.NoOrder place call some held
    → ((c : ℕ) → HasNoOrder h.0 h.1 place → IsReturnAt h.1 place c → IfOk r (λ told. IsFrontOr h limit place c plain (items told)))
    → IsFoundOf h limit false f plain → IfOk r (λ told. IsFoundOf h limit front f (items told))
told_front_or items r h limit place call held some front f plain asked is gives x =
    let both : IsRefusedAt h.0 h.1 limit place call some held = subst (λ (g : Found). IsAnswerFor h.0 h.1 limit g) is x.answer in
    if_ok r (λ told. IsFrontOr h limit place call plain (items told)) (λ told. IsFoundOf h limit front f (items told))
    (λ told either. front_told h limit place call held some front f plain (items told) asked is either x) (gives call both.order both.returns)

if_none : {T : Type 0} (told : Option T) (A B : Type 0) → (A → B) → IfNone told A → IfNone told B
if_none None A B goes x = goes x
if_none (Some t) A B goes x = tt

pub none_known : {T : Type 0} (told : Option T) (given : Result (Start × List Heard) ScriptFault) (read : Start × List Heard) (before : List Heard) (last : Option Heard) (limit place : ℕ) → given ≡ Ok read → IsCutAt read.1 place before last → IfNone told (IsNoneBehind read.0 before last limit)
    → (h : Start × List Heard) → given ≡ Ok h → (call : ℕ) → HasNoOrder h.0 h.1 place → IsReturnAt h.1 place call → IfNone told (IsFrontLimited h limit place)
none_known told given read before last limit place was cut none h is call refuted at =
    let two : Ok read ≡ Ok h = sym was ∙ is in
    let one : read ≡ h = cc in
    let cut_h : IsCutAt h.1 place before last = subst (λ (x : Start × List Heard). IsCutAt x.1 place before last) one cut in
    let none_h : IfNone told (IsNoneBehind h.0 before last limit) = subst (λ (x : Start × List Heard). IfNone told (IsNoneBehind x.0 before last limit)) one none in
    if_none told (IsNoneBehind h.0 before last limit) (IsFrontLimited h limit place) (λ x. front_none h limit place call before last refuted at cut_h x) none_h

if_some : {T : Type 0} (told : Option T) (A B : T → Type 0) → ((t : T) → A t → B t) → IfSome told A → IfSome told B
if_some None A B goes x = tt
if_some (Some t) A B goes x = goes t x

pub some_known : {T : Type 0} (told : Option T) (items : T → List ℕ) (given : Result (Start × List Heard) ScriptFault) (read : Start × List Heard) (before : List Heard) (last : Option Heard) (limit place : ℕ) → given ≡ Ok read → IsCutAt read.1 place before last
    → IfSome told (λ t. IsFrontBehind read.0 before last (items t)) → (h : Start × List Heard) → given ≡ Ok h → (call : ℕ) → HasNoOrder h.0 h.1 place → IsReturnAt h.1 place call → IfSome told (λ t. IsFrontText h place call (items t))
some_known told items given read before last limit place was cut some h is call refuted at =
    let two : Ok read ≡ Ok h = sym was ∙ is in
    let one : read ≡ h = cc in
    let cut_h : IsCutAt h.1 place before last = subst (λ (x : Start × List Heard). IsCutAt x.1 place before last) one cut in
    let some_h : IfSome told (λ t. IsFrontBehind h.0 before last (items t)) = subst (λ (x : Start × List Heard). IfSome told (λ t. IsFrontBehind x.0 before last (items t))) one some in
    if_some told (λ t. IsFrontBehind h.0 before last (items t)) (λ t. IsFrontText h place call (items t)) (λ t x. front_some h limit place call before last (items t) refuted at cut_h x) some_h

pub some_of : {T : Type 0} (o : Option T) (t : T) (P : T → Type 0) → o ≡ Some t → IfSome o P → P t
some_of o t P is x = subst (λ p. IfSome p P) is x

pub none_of : {T : Type 0} (o : Option T) (P : Type 0) → o ≡ None → IfNone o P → P
none_of o P is x = subst (λ p. IfNone p P) is x
