-- Where a call that returns has committed in no configuration of a layer, and where in some.
use Rattle.std.proofs.Common.{◌≡◌, ℕ, suc, ◌+◌, ◌<◌, true, false, List, [], ◌∷◌, length, slice_get, Some, refl, sym, subst, ⊎_elim, arith}
use Rattle.std.specs.List.{Contains}
use Rattle.std.proofs.lemmas.Bool.{both_ways, or_parts, or_cases}
use Rattle.std.proofs.lemmas.List.Elements.{Contains-append_left, Contains-append_cases, Contains-push_cases}
use Rattle.fs_calls.specs.Starts.{Start}
use Rattle.fs_linearize_histories.specs.declared.heard.Heard.{Heard}
use Rattle.fs_linearize_histories.specs.declared.heard.Heard.TheVariants.{Begin, Return}
use Rattle.fs_linearize_histories.specs.Histories.{HasNoFront}
use Rattle.fs_linearize_histories.specs.Configurations.{Configuration, is_in}
use Rattle.fs_linearize_histories.specs.Early.{SettlesIn}
use Rattle.fs_linearize_configurations.specs.code.Stopping.{is_held, Returns, CanPass}
use Rattle.fs_linearize_configurations.specs.code.Searching.{WidensFor, HasPassed, PassesAll}
use Rattle.fs_linearize_configurations.specs.code.Ways.{configurations}
use Rattle.fs_linearize_configurations.specs.declared.reached.Reached.{Reached}
use Rattle.fs_linearize_configurations.specs.declared.steps.Link.{Link}
use Rattle.fs_linearize_configurations.specs.declared.under_way.UnderWay.{UnderWay}
use Rattle.fs_linearize.proofs.FindingLemmas.{Stands, no_order}
use Rattle.fs_linearize_configurations.proofs.SearchLemmas.{none_there}
use Rattle.fs_linearize_configurations.proofs.WayLemmas.{keeps_same, contains_way}

-- ---- whether a call has committed in a configuration

not_held_at : (c : ℕ) (layer : List Reached) (r : Reached) → Contains layer r → is_held c layer ≡ false → is_in c r.configuration.held ≡ false
not_held_at c [] r there none = absurd (let small = there.1 in omega (arith, small))
not_held_at c (s ∷ layer) r there none =
    let parts = or_parts (is_in c s.configuration.held) (is_held c layer) none in
    ⊎_elim
    (λ first. subst (λ (z : Reached). is_in c z.configuration.held ≡ false) (only s r first) parts.0)
    (λ later. not_held_at c layer r later parts.1)
    (Contains-append_cases (s ∷ []) layer r there)
  where
    only : (a b : Reached) → Contains (a ∷ []) b → a ≡ b
    only a b one = ⊎_elim (λ none_here. none_there b none_here) (λ same. same) (Contains-push_cases [] a b one)

held_at : (c : ℕ) (layer : List Reached) → is_held c layer ≡ true → (r : Reached) × Contains layer r × (is_in c r.configuration.held ≡ true)
held_at c [] some = absurd (cc)
held_at c (s ∷ layer) some = ⊎_elim
    (λ here. (s, (0, omega arith, refl), here))
    (λ later. let found = held_at c layer later in (found.0, (suc found.1.0, (let small = found.1.1 in omega (arith, small)), found.1.2), found.2))
    (or_cases (is_in c s.configuration.held) (is_held c layer) some)

-- ---- where the search ends

pub no_order_here : (start : Start) (h : List Heard) (limit place c : ℕ) (e : Heard) (us : List UnderWay) (links mid : List Link) (layer wide : List Reached) (most : ℕ) (gone : List Configuration)
    → slice_get h place ≡ Some e → Returns e c → is_held c wide ≡ false → Stands start h limit place us links layer most gone → WidensFor h e place us links mid layer wide true most → HasNoFront start h (place + 1)
no_order_here start h limit place c e us links mid layer wide most gone here returns none s w =
    let passes : PassesAll h e place mid mid wide [] = record {
      there = λ r k. absurd (let small = k.1 in omega (arith, small));
      keeps = keeps_same mid;
      led = λ first all r k. absurd (let small = k.1 in omega (arith, small));
      passed = λ r there. subst (λ (x : Heard). HasPassed h x r.configuration []) (sym returns.1) (λ held. absurd (both_ways _ (not_held_at c wide r there none) held));
    } in
    no_order start h limit place e us links mid mid layer wide [] most gone here s w passes refl

-- ---- where it goes on

settled_some : (h : List Heard) (behind : List Reached) (x : Configuration) → SettlesIn h (configurations behind) x → 0 < length behind
settled_some h behind x settles = let way = contains_way behind settles.0 settles.3 in let small = way.1.1 in omega (arith, small)

-- behind an entry that passes some configuration there is one
pub passes_some : (start : Start) (h : List Heard) (limit place : ℕ) (e : Heard) (us : List UnderWay) (links mid new : List Link) (layer wide behind : List Reached) (most : ℕ) (gone : List Configuration)
    → CanPass e wide → Stands start h limit place us links layer most gone → WidensFor h e place us links mid layer wide true most → PassesAll h e place mid new wide behind → 0 < length behind
passes_some start h limit place (Begin c seat call) us links mid new layer wide behind most gone can s w p =
    let r = s.some.0 in
    let there : Contains wide r = subst (λ (rs : List Reached). Contains rs r) (sym w.widens.is) (Contains-append_left layer w.widens.more r s.some.1) in
    settled_some h behind _ (p.passed r there)
passes_some start h limit place (Return c pattern) us links mid new layer wide behind most gone can s w p =
    let found = held_at c wide can in
    settled_some h behind _ (p.passed found.0 found.1 found.2)
