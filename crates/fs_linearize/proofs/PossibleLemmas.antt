-- What a call could have replied.
use Rattle.std.proofs.Common.{Vec, Global, ◌≡◌, ℕ, ◌+◌, ◌-◌, ◌<◌, Bool, true, false, ◌||◌, List, [], ◌∷◌, ◌++◌, length, take, get_or, Option, Some, refl, sym, ap, ◌∙◌, subst, ⊎_elim, inl, inr, arith}
use Rattle.std.proofs.lemmas.Bool.{or_cases, or_parts, both_ways, cases_Bool, false_from_ne_true}
use Rattle.std.proofs.lemmas.List.{length-append}
use Rattle.std.proofs.lemmas.Option.{slice_get_within, get_or_from_slice_get}
use Rattle.fs_calls.specs.Starts.{Start}
use Rattle.fs_calls.specs.Replies.{same_reply}
use Rattle.fs_calls.specs.declared.reply.Reply.{Reply}
use Rattle.fs_timeline.specs.Timeline.{has_committed, due}
use Rattle.fs_timeline.specs.declared.entry.Entry.{Entry}
use Rattle.fs_timeline.proofs.AppendLemmas.{committed_first}
use Rattle.fs_timeline.proofs.ReplyLemmas.{same_reply_exact, same_reply_refl}
use Rattle.fs_linearize_histories.specs.declared.heard.Heard.{Heard}
use Rattle.fs_linearize_histories.specs.declared.heard.Heard.TheVariants.{Return}
use Rattle.fs_linearize_histories.specs.declared.heard.Pattern.{Pattern}
use Rattle.fs_linearize_histories.specs.declared.heard.Pattern.TheVariants.{Exactly, Except}
use Rattle.fs_linearize_histories.specs.Heard.{Matches, is_among}
use Rattle.fs_linearize_histories.specs.Histories.{IsHistory, Explains, CouldReply}
use Rattle.fs_linearize_histories.proofs.HistoryLemmas.{take_step}
use Rattle.fs_linearize_histories.proofs.PrefixLemmas.{history_take, returned_otherwise, answers_last, answers_due}
use Rattle.fs_linearize.specs.Possible.{AreDifferent, ArePossible}
use Rattle.fs_linearize.specs.Results.{IsReturnAt}
use Rattle.fs_linearize_configurations.specs.code.Ways.{GoesBy}
use Rattle.fs_linearize.specs.code.Searched.{IsSearched}
use Rattle.fs_linearize.specs.code.Replies.{IsAnother}
use Rattle.fs_linearize.specs.declared.search.Searched.{Searched}
use Rattle.fs_linearize.specs.declared.search.Searched.TheVariants.{Ends}
use Rattle.fs_linearize_configurations.specs.declared.steps.Step.{Step}
use Rattle.fs_linearize.specs.declared.replies.Another.{Another}
use Rattle.fs_linearize.specs.declared.replies.Possible.{Possible}
use Rattle.fs_linearize.specs.declared.replies.TheConstants.{MOST_REPLIES}
use Rattle.fs_linearize.specs.declared.replies.Another.TheVariants.{Is, No, Limited}

-- ---- one reply

-- what was searched, by what came of it
pub ends_by : (start : Start) (h : List Heard) (limit : ℕ) (found : Searched) (steps : Vec Step Global) → IsSearched start h limit found → found ≡ Ends steps → (es : List Entry) × Explains start h es × GoesBy h steps.items es
ends_by start h limit found steps x is = subst (IsSearched start h limit) is x

-- the reply that is due on a way is another
pub is_another : (start : Start) (asked g : List Heard) (c : ℕ) (p : Pattern) (limit : ℕ) (es : List Entry) (reply : Option Reply) (r : Reply) → IsHistory asked → Explains start asked es → (has_committed c es ≡ true → reply ≡ due start c es) → reply ≡ Some r
    → asked ≡ g ++ Return c p ∷ [] → IsAnother start g c p limit (Is r)
is_another start asked g c p limit es reply r known x told some is =
    let y : Explains start (g ++ Return c p ∷ []) es = subst (λ (xs : List Heard). Explains start xs es) is x in
    let last = answers_last start g c p es y in
    let done : has_committed c es ≡ true = committed_first es x.lawful.well_formed c last.returned in
    let both : Some r ≡ Some last.reply = sym some ∙ told done ∙ answers_due start g c p es (subst IsHistory is known) y in
    let same : last.reply ≡ r = cc in
    subst (λ (s : Reply). IsAnother start g c p limit (Is s)) same (last.matches, (es, last.otherwise (Exactly last.reply) refl))

-- a reply is due there
pub some_due : (start : Start) (asked g : List Heard) (c : ℕ) (p : Pattern) (es : List Entry) (reply : Option Reply) → IsHistory asked → Explains start asked es → (has_committed c es ≡ true → reply ≡ due start c es) → asked ≡ g ++ Return c p ∷ []
    → (r : Reply) × (reply ≡ Some r)
some_due start asked g c p es reply known x told is =
    let y : Explains start (g ++ Return c p ∷ []) es = subst (λ (xs : List Heard). Explains start xs es) is x in
    let last = answers_last start g c p es y in
    let done : has_committed c es ≡ true = committed_first es x.lawful.well_formed c last.returned in
    (last.reply, told done ∙ answers_due start g c p es (subst IsHistory is known) y)

-- ---- replies

same_either_way : (r s : Reply) → same_reply r s ≡ false → same_reply s r ≡ false
same_either_way r s apart = false_from_ne_true (same_reply s r) (λ same. both_ways (same_reply r s) apart (subst (λ (t : Reply). same_reply r t ≡ true) (sym (same_reply_exact s r same)) (same_reply_refl r)))

among_push : (r s : Reply) (replies : List Reply) → is_among r (replies ++ s ∷ []) ≡ (is_among r replies || same_reply s r)
among_push r s [] = or_nothing (same_reply s r)
  where
    or_nothing : (b : Bool) → (b || false) ≡ b
    or_nothing true = refl
    or_nothing false = refl
among_push r s (t ∷ replies) = ap (λ b. same_reply t r || b) (among_push r s replies) ∙ assoc (same_reply t r) (is_among r replies) (same_reply s r)
  where
    assoc : (a b c : Bool) → (a || (b || c)) ≡ ((a || b) || c)
    assoc true b c = refl
    assoc false b c = refl

different_push : (replies : List Reply) (r : Reply) → is_among r replies ≡ false → AreDifferent replies → AreDifferent (replies ++ r ∷ [])
different_push [] r none so = (refl, tt)
different_push (s ∷ replies) r none so =
    let parts = or_parts (same_reply s r) (is_among r replies) none in
    let later : is_among s (replies ++ r ∷ []) ≡ false = among_push s r replies ∙ ap (λ b. b || same_reply r s) so.0 ∙ same_either_way s r parts.0 in
    (later, different_push replies r parts.1 so.1)

-- these are replies that the call could have, each once
pub record AreSome (start : Start) (before : List Heard) (c : ℕ) (replies : List Reply) : Type 0 where
  pub each : (r : Reply) → is_among r replies ≡ true → CouldReply start before c r
  pub once : AreDifferent replies

pub some_none : (start : Start) (before : List Heard) (c : ℕ) → AreSome start before c []
some_none start before c = record { each = λ r there. absurd (cc); once = tt }

pub some_push : (start : Start) (before : List Heard) (c : ℕ) (replies : List Reply) (r : Reply) → is_among r replies ≡ false → CouldReply start before c r → AreSome start before c replies → AreSome start before c (replies ++ r ∷ [])
some_push start before c replies r none could so = record {
  each = λ s there. ⊎_elim
      (λ was. so.each s was)
      (λ same. subst (λ (t : Reply). CouldReply start before c t) (same_reply_exact r s same) could)
      (or_cases (is_among s replies) (same_reply r s) (sym (among_push s r replies) ∙ there));
  once = different_push replies r none so.once;
}

-- where no other is possible these are all
pub all_among : (start : Start) (before : List Heard) (c limit : ℕ) (p : Pattern) (replies : List Reply) → ((s : Reply) → is_among s replies ≡ false → Matches p s) → IsAnother start before c p limit No → (r : Reply) → CouldReply start before c r → is_among r replies ≡ true
all_among start before c limit p replies others none r could =
    ⊎_elim
    (λ there. there)
    (λ apart.
    let last = answers_last start before c (Exactly r) could.0 could.1 in
    let same : r ≡ last.reply = sym last.matches in
    absurd (none could.0 (last.otherwise p (subst (Matches p) same (others r apart)))))
    (cases_Bool (is_among r replies))

-- ---- where the asking ends

pub ends_all : (start : Start) (before entries : List Heard) (limit c : ℕ) (known : Pattern) (found : Another) (replies : List Reply) (p : Possible) → entries ≡ before → AreSome start before c replies → known ≡ Except p.replies → replies ≡ p.replies.items
    → IsAnother start entries c known limit found → found ≡ No → p.all ≡ true → ArePossible start before limit c p
ends_all start before entries limit c known found replies p same so asked are is end all =
    let some : AreSome start before c p.replies.items = subst (AreSome start before c) are so in
    let none : IsAnother start before c (Except p.replies) limit No = subst (λ (xs : List Heard). IsAnother start xs c (Except p.replies) limit No) same (subst (λ (k : Pattern). IsAnother start entries c k limit No) asked (subst (IsAnother start entries c known limit) end is)) in
    record {
      each = some.each;
      once = some.once;
      all = λ yes. all_among start before c limit (Except p.replies) p.replies.items (λ s apart. apart) none;
      more = λ not_all. absurd (both_ways p.all not_all all);
    }

pub ends_limited : (start : Start) (before entries : List Heard) (limit c : ℕ) (known : Pattern) (found : Another) (replies : List Reply) (p : Possible) → entries ≡ before → AreSome start before c replies → known ≡ Except p.replies → replies ≡ p.replies.items
    → IsAnother start entries c known limit found → found ≡ Limited → p.all ≡ false → ArePossible start before limit c p
ends_limited start before entries limit c known found replies p same so asked are is limited all =
    let some : AreSome start before c p.replies.items = subst (AreSome start before c) are so in
    let cut : IsAnother start before c (Except p.replies) limit Limited = subst (λ (xs : List Heard). IsAnother start xs c (Except p.replies) limit Limited) same (subst (λ (k : Pattern). IsAnother start entries c k limit Limited) asked (subst (IsAnother start entries c known limit) limited is)) in
    record { each = some.each; once = some.once; all = λ yes. absurd (both_ways p.all all yes); more = λ not_all. inr cut }

pub ends_more : (start : Start) (before entries : List Heard) (limit c : ℕ) (known : Pattern) (found : Another) (replies : List Reply) (r : Reply) (p : Possible) → entries ≡ before → AreSome start before c replies → known ≡ Except p.replies → replies ≡ p.replies.items
    → IsAnother start entries c known limit found → found ≡ Is r → p.all ≡ false → length replies ≡ MOST_REPLIES → ArePossible start before limit c p
ends_more start before entries limit c known found replies r p same so asked are is one all long =
    let some : AreSome start before c p.replies.items = subst (AreSome start before c) are so in
    let other : IsAnother start before c (Except p.replies) limit (Is r) = subst (λ (xs : List Heard). IsAnother start xs c (Except p.replies) limit (Is r)) same (subst (λ (k : Pattern). IsAnother start entries c k limit (Is r)) asked (subst (IsAnother start entries c known limit) one is)) in
    record { each = some.each; once = some.once; all = λ yes. absurd (both_ways p.all all yes); more = λ not_all. inl (sym (ap length are) ∙ long, (r, other.1, other.0)) }

pub goes_on : (start : Start) (before entries : List Heard) (limit c : ℕ) (known : Pattern) (found : Another) (replies : List Reply) (r : Reply) → entries ≡ before → AreSome start before c replies → ((s : Reply) → Matches known s → is_among s replies ≡ false)
    → IsAnother start entries c known limit found → found ≡ Is r → AreSome start before c (replies ++ r ∷ [])
goes_on start before entries limit c known found replies r same so others is one =
    let other : IsAnother start before c known limit (Is r) = subst (λ (xs : List Heard). IsAnother start xs c known limit (Is r)) same (subst (IsAnother start entries c known limit) one is) in
    some_push start before c replies r (others r other.0) other.1 so

pub goes_on_by : (start : Start) (before entries : List Heard) (limit c n : ℕ) (known : Pattern) (found : Another) (old mid new : List Reply) (r : Reply) → entries ≡ before → AreSome start before c old → ((s : Reply) → Matches known s → is_among s old ≡ false)
    → IsAnother start entries c known limit found → found ≡ Is r → mid ≡ old → new ≡ mid ++ r ∷ [] → length old ≡ n → AreSome start before c new × (length new ≡ n + 1)
goes_on_by start before entries limit c n known found old mid new r same so others is one kept pushed long =
    let whole : new ≡ old ++ r ∷ [] = pushed ∙ ap (λ xs. xs ++ r ∷ []) kept in
    let more = ap length whole ∙ length-append old (r ∷ []) in
    (subst (AreSome start before c) (sym whole) (goes_on start before entries limit c known found old r same so others is one), omega (arith, more, long))

-- ---- the history that is asked

take_front : (g k : List Heard) → take (length g) (g ++ k) ≡ g
take_front [] k = refl
take_front (y ∷ g) k = ap (λ ys. y ∷ ys) (take_front g k)

get_end : (g : List Heard) (x d : Heard) → get_or (g ++ x ∷ []) (length g) d ≡ x
get_end [] x d = refl
get_end (y ∷ g) x d = get_end g x d

-- the last entry leaves
pub popped : (ys g rest : List Heard) (x : Heard) (n : ℕ) (last : Option Heard) → ys ≡ g ++ x ∷ [] → n ≡ length ys → rest ≡ take (n - 1) ys → ((d : Heard) → 0 < n → last ≡ Some (get_or ys (n - 1) d)) → (rest ≡ g) × (last ≡ Some x)
popped ys g rest x n last is many left value =
    let one : n ≡ length g + 1 = many ∙ ap length is ∙ length-append g (x ∷ []) in
    let front : n - 1 ≡ length g = omega (arith, one) in
    let some : 0 < n = omega (arith, one) in (
      left ∙ ap (λ k. take k ys) front ∙ ap (take (length g)) is ∙ take_front g (x ∷ []),
      value x some ∙ ap (λ k. Some (get_or ys k x)) front ∙ ap (λ (zs : List Heard). Some (get_or zs (length g) x)) is ∙ ap Some (get_end g x x),
    )

pub asked_history : (h : List Heard) (place c : ℕ) → 0 < place → IsHistory h → IsReturnAt h place c → (p : Pattern) → IsHistory (take (place - 1) h ++ Return c p ∷ [])
asked_history h place c some known returns p =
    let n = place - 1 in
    let x = Return c returns.0 in
    let more : take (n + 1) h ≡ take n h ++ x ∷ [] = take_step h n x (slice_get_within h n x returns.1) (sym (get_or_from_slice_get h n x x returns.1)) in
    returned_otherwise [] (take n h) c returns.0 p (subst IsHistory more (history_take h (n + 1) known))
