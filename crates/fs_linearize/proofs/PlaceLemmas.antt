-- Where the first return is that nothing explains.
use Rattle.std.proofs.Common.{◌≡◌, ℕ, ◌+◌, ◌-◌, ◌^◌, ◌<◌, ◌≤◌, zero, suc, List, [], ◌∷◌, ◌++◌, length, take, slice_get, Some, refl, sym, ◌∙◌, subst, arith}
use Rattle.std.proofs.Math.Nat.{min-le_right, pow-le-pow_left, pow-le-pow_right}
use Rattle.std.proofs.lemmas.List.{length-take, take_all}
use Rattle.fs_calls.specs.Starts.{Start}
use Rattle.fs_calls.specs.declared.call.Call.{Call}
use Rattle.fs_timeline.specs.declared.entry.Entry.{Entry}
use Rattle.fs_timeline.specs.declared.entry.Entry.TheVariants.{Begin}
use Rattle.fs_linearize_histories.specs.declared.heard.Heard.{Heard}
use Rattle.fs_linearize_histories.specs.declared.heard.Heard.TheVariants as heard
use Rattle.fs_linearize_histories.specs.Histories.{IsHistory, Explains, HasNoOrder, HasNoFront}
use Rattle.fs_linearize_histories.proofs.LinearizableLemmas.{explained_are_linearizable}
use Rattle.fs_linearize_histories.proofs.NumberingLemmas.{configurations_are_few}
use Rattle.fs_linearize_histories.proofs.PrefixLemmas.{explained_take, begun_explained}
use Rattle.fs_linearize.specs.Limited.{WasLimited}
use Rattle.fs_linearize.specs.Possible.{ArePossible}
use Rattle.fs_linearize.specs.Results.{IsReturnAt}
use Rattle.fs_linearize.specs.code.Searched.{IsSearched, IsPlace, IsRefused}
use Rattle.fs_linearize.specs.declared.replies.Possible.{Possible}
use Rattle.fs_linearize.specs.declared.linearizing.Found.TheVariants.{NoOrder, Unknown}
use Rattle.fs_linearize.specs.declared.first_return.Place.{Place}
use Rattle.fs_linearize.specs.declared.first_return.Place.TheVariants as place
use Rattle.fs_linearize.specs.declared.search.Searched.{Searched}
use Rattle.fs_linearize.specs.declared.search.Searched.TheVariants as search

-- between a place up to which a history is explained and one up to which it is not
pub record Narrows (start : Start) (h : List Heard) (low high : ℕ) : Type 0 where
  pub explained : (es : List Entry) × Explains start (take low h) es
  pub refuted : (es : List Entry) → Explains start (take high h) es → ⊥
  pub apart : low < high
  pub within : high ≤ length h
  pub whole : (es : List Entry) → Explains start h es → ⊥

pub narrows_first : (start : Start) (h : List Heard) (held : ℕ) → HasNoFront start h held → Narrows start h (held - 1) (length h)
narrows_first start h held x =
    let before = x.before.2 in
    let within = x.within in
    record {
      explained = (x.before.0, explained_take start h x.before.0 (held - 1) x.before.1 (omega (arith, before)));
      refuted = λ es k. x.whole es (subst (λ (xs : List Heard). Explains start xs es) (take_all (length h) h (omega arith)) k);
      apart = omega (arith, before, within);
      within = omega arith;
      whole = x.whole;
    }

pub narrows_up : (start : Start) (h : List Heard) (low middle high : ℕ) → Narrows start h low high → middle < high → (es : List Entry) × Explains start (take middle h) es → Narrows start h middle high
narrows_up start h low middle high x small way = record { explained = way; refuted = x.refuted; apart = small; within = x.within; whole = x.whole }

pub narrows_down : (start : Start) (h : List Heard) (low middle high : ℕ) → Narrows start h low high → low < middle → middle < high → ((es : List Entry) → Explains start (take middle h) es → ⊥) → Narrows start h low middle
narrows_down start h low middle high x large small none = let within = x.within in record { explained = x.explained; refuted = none; apart = large; within = omega (arith, small, within); whole = x.whole }

-- where they are side by side, the upper one is the first place
pub narrowed : (start : Start) (h : List Heard) (low high : ℕ) → Narrows start h low high → high ≤ low + 1 → HasNoOrder start h high
narrowed start h low high x near =
    let apart = x.apart in
    let same : low ≡ high - 1 = omega (arith, apart, near) in
    record { whole = x.whole; front = x.refuted; before = subst (λ n. (es : List Entry) × Explains start (take n h) es) same x.explained }

pub some_place : (start : Start) (h : List Heard) (place : ℕ) → HasNoOrder start h place → 0 < place
some_place start h zero x = absurd (x.front x.before.0 x.before.1)
some_place start h (suc n) x = omega arith

-- the entry there is no begin
pub never_begin : (start : Start) (h : List Heard) (place c seat : ℕ) (call : Call) → IsHistory h → HasNoOrder start h place → slice_get h (place - 1) ≡ Some (heard.Begin c seat call) → ⊥
never_begin start h place c seat call known x is =
    let some = some_place start h place x in
    let next : place - 1 + 1 ≡ place = omega (arith, some) in
    x.front (x.before.0 ++ Begin c seat call ∷ []) (subst (λ n. Explains start (take n h) (x.before.0 ++ Begin c seat call ∷ [])) next (begun_explained start h x.before.0 (place - 1) c seat call known is x.before.1))

-- ---- what is said of a history that no timeline explains

pub refused_at : (start : Start) (h before : List Heard) (limit place call held : ℕ) (possible : Possible) → HasNoOrder start h place → IsReturnAt h place call → ArePossible start before limit call possible → before ≡ take (place - 1) h → HasNoFront start h held
    → IsRefused start h limit (NoOrder place call possible held)
refused_at start h before limit place call held possible order returns replies front later = record {
  answer = record { order = order; returns = returns; possible = subst (λ (xs : List Heard). ArePossible start xs limit call possible) front replies; held = later };
  linearizable = λ g. let way = (explained_are_linearizable start h).1 g in order.whole way.0 way.1;
  fault = refl;
  known = tt;
}

-- so many configurations that differ are more than a part of the history has
pub limited_above : (start : Start) (h : List Heard) (limit place : ℕ) → (end : ℕ) × WasLimited start (take end h) limit place → limit ≤ (length h + 1) ^ (length h + 1)
limited_above start h limit place cut =
    let few = configurations_are_few start (take cut.0 h) cut.1.made cut.1.apart cut.1.led in
    let part : length (take cut.0 h) ≤ length h = let short = length-take cut.0 h in let least = min-le_right cut.0 (length h) in omega (arith, short, least) in
    let more : length (take cut.0 h) + 1 ≤ length h + 1 = omega (arith, part) in
    let some : 0 < length h + 1 = omega arith in
    let base = pow-le-pow_left more (length (take cut.0 h) + 1) in
    let exponent = pow-le-pow_right some more in
    let many = cut.1.many in
    omega (arith, many, few, base, exponent)

pub refused_limited : (start : Start) (h : List Heard) (limit place : ℕ) → (end : ℕ) × WasLimited start (take end h) limit place → IsRefused start h limit (Unknown place)
refused_limited start h limit place cut = record { answer = cut; linearizable = tt; fault = refl; known = limited_above start h limit place cut }

pub stopped_at : (start : Start) (h k : List Heard) (limit place c : ℕ) (found : Searched) → k ≡ h → IsSearched start k limit found → found ≡ search.NoOrder place c → HasNoFront start h place
stopped_at start h k limit place c found same x is =
    let y : IsSearched start k limit (search.NoOrder place c) = subst (IsSearched start k limit) is x in
    subst (λ (xs : List Heard). HasNoFront start xs place) same y.0

pub place_at : (start : Start) (h k : List Heard) (limit n c : ℕ) (found : Place) → k ≡ h → IsPlace start k limit found → found ≡ place.First n c → HasNoOrder start h n × IsReturnAt h n c
place_at start h k limit n c found same x is =
    let y : IsPlace start k limit (place.First n c) = subst (IsPlace start k limit) is x in
    subst (λ (xs : List Heard). HasNoOrder start xs n × IsReturnAt xs n c) same y

pub limited_at : (start : Start) (h k : List Heard) (limit n : ℕ) (found : Place) → k ≡ h → IsPlace start k limit found → found ≡ place.Limited n → (end : ℕ) × WasLimited start (take end h) limit n
limited_at start h k limit n found same x is =
    let y : IsPlace start k limit (place.Limited n) = subst (IsPlace start k limit) is x in
    subst (λ (xs : List Heard). (end : ℕ) × WasLimited start (take end xs) limit n) same y

pub cut_whole : (start : Start) (h k : List Heard) (limit n : ℕ) (found : Searched) → k ≡ h → IsSearched start k limit found → found ≡ search.Limited n → (end : ℕ) × WasLimited start (take end h) limit n
cut_whole start h k limit n found same x is =
    let y : IsSearched start k limit (search.Limited n) = subst (IsSearched start k limit) is x in
    (length h, subst (λ (xs : List Heard). WasLimited start xs limit n) (same ∙ sym (take_all (length h) h (omega arith))) y)
