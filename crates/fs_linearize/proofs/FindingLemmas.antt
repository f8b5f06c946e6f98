-- The search from layer to layer.
use Rattle.std.proofs.Common.{◌≡◌, ℕ, ◌+◌, ◌-◌, ◌<◌, ◌≤◌, Bool, true, false, get_or, List, [], ◌∷◌, ◌++◌, length, length-append, reverse, slice_get, Option, Some, None, refl, sym, ap, ◌∙◌, subst, ⊎_elim, arith, append-nil, take, drop, length-drop}
use Rattle.std.specs.List.{Contains}
use Rattle.std.proofs.lemmas.List.{length-map, map-append, take_all}
use Rattle.std.proofs.lemmas.List.Elements.{Contains-append_left, Contains-append_right, Contains-append_cases, Contains-push_cases}
use Rattle.std.proofs.lemmas.Option.{slice_get_within, slice_get-get_or}
use Rattle.fs_calls.specs.Tree.{IsTree}
use Rattle.fs_calls.specs.Starts.{Start, start_tree}
use Rattle.fs_timeline.specs.declared.entry.Entry.{Entry}
use Rattle.fs_linearizable.specs.Linearizable.{history}
use Rattle.fs_linearize_histories.specs.declared.heard.Heard.{Heard}
use Rattle.fs_linearize_histories.specs.declared.heard.Heard.TheVariants.{Begin, Return}
use Rattle.fs_linearize_histories.specs.Histories.{Explains, ExplainsFront, HasNoFront}
use Rattle.fs_linearize_histories.specs.Configurations.{Configuration, at_start, passed, returned, committed, FollowedBy, IsFollowed}
use Rattle.fs_linearize_histories.specs.Early.{SettlesIn}
use Rattle.fs_linearize_histories.specs.Paths.{LeadsTo}
use Rattle.fs_linearize_histories.specs.Laws.{IsClosed}
use Rattle.fs_linearize_histories.proofs.Reaching.{closed_set_reaches, closed_set_refutes}
use Rattle.fs_linearize_histories.specs.Apart.{AreApart}
use Rattle.fs_linearize.specs.Limited.{WasLimited}
use Rattle.fs_linearize_configurations.specs.code.Calls.{AreEach, AreUnderWay}
use Rattle.fs_linearize_configurations.specs.code.Ways.{GoesBy, GoesBack, IsLed, AllLed, configurations}
use Rattle.fs_linearize_configurations.specs.code.Searching.{AllAt, IsReady, WidensFor, HasPassed, PassesAll, IsFirst}
use Rattle.fs_linearize_configurations.specs.declared.reached.Reached.{Reached}
use Rattle.fs_linearize_configurations.specs.declared.steps.Link.{Link}
use Rattle.fs_linearize_configurations.specs.declared.steps.Step.{Step}
use Rattle.fs_linearize_configurations.specs.declared.under_way.UnderWay.{UnderWay}
use Rattle.fs_linearize_configurations.proofs.CallLemmas.{can_now, none_under_way}
use Rattle.fs_linearize_configurations.proofs.LayerLemmas.{apart_append}
use Rattle.fs_linearize_configurations.proofs.NearLemmas.{near_numbers, near_found, is_near, led_tree}
use Rattle.fs_linearize_configurations.proofs.SearchLemmas.{none_there}
use Rattle.fs_linearize_configurations.proofs.WayLemmas.{led_start, contains_configuration, contains_way}

-- ---- sets of configurations

Within : List Configuration → List Configuration → Type 0
Within xs ys = (x : Configuration) → Contains xs x → Contains ys x

settles_within : (h : List Heard) (xs ys : List Configuration) (x : Configuration) → Within xs ys → SettlesIn h xs x → SettlesIn h ys x
unfolding Within
settles_within h xs ys x all s = (s.0, s.1, s.2, all s.0 s.3)

followed_still : (h : List Heard) (S T : Configuration → Type 0) (x : Configuration) (o : Option Heard) → ((y : Configuration) → S y → T y) → FollowedBy h S x o → FollowedBy h T x o
followed_still h S T x None f k = tt
followed_still h S T x (Some (Begin c seat call)) f k = f _ k
followed_still h S T x (Some (Return c p)) f k = (λ held. f _ (k.0 held), λ not_held. let t = k.1 not_held in (t.0, t.1, λ d call inside can. f _ (t.2 d call inside can)))

followed_within : (h : List Heard) (xs ys : List Configuration) (x : Configuration) → Within xs ys → IsFollowed h (SettlesIn h xs) x → IsFollowed h (SettlesIn h ys) x
followed_within h xs ys x all k = followed_still h (SettlesIn h xs) (SettlesIn h ys) x (slice_get h x.at) (λ y s. settles_within h xs ys y all s) k

-- ---- where the search stands

-- before the entry of a place: all that went by was followed, and what comes next stands in the layer; what went by is in no memory
pub record Stands (start : Start) (h : List Heard) (limit place : ℕ) (us : List UnderWay) (links : List Link) (layer : List Reached) (most : ℕ) (gone : List Configuration) : Type 0 where
  pub tree : IsTree (start_tree start)
  pub calls : AreUnderWay h place us
  pub starts : SettlesIn h (gone ++ configurations layer) (at_start start)
  pub followed : (x : Configuration) → Contains gone x → IsFollowed h (SettlesIn h (gone ++ configurations layer)) x
  pub before : (x : Configuration) → Contains gone x → x.at < place
  pub apart : AreApart gone
  pub made : (x : Configuration) → Contains gone x → (es : List Entry) × LeadsTo start h es x
  pub there : AllAt place layer
  pub led : AllLed start h links layer
  pub many : limit ≤ most + length gone
  pub some : (r : Reached) × Contains layer r

pub stands_first : (start : Start) (h : List Heard) (limit : ℕ) (us : List UnderWay) (links : List Link) (layer : List Reached) → IsTree (start_tree start) → us ≡ [] → IsFirst start layer → Stands start h limit 0 us links layer limit []
stands_first start h limit us links layer tree none first =
    let r = first.0 in
    let mine : Contains layer r = subst (λ (rs : List Reached). Contains rs r) (sym first.1) (0, omega arith, refl) in
    let one : (s : Reached) → Contains layer s → r ≡ s = λ s there. only r s (subst (λ (rs : List Reached). Contains rs s) first.1 there) in
    record {
      tree = tree;
      calls = none_under_way h us none;
      starts = (at_start start, [], refl, subst (Contains (configurations layer)) first.2 (contains_configuration layer r mine));
      followed = λ x k. absurd (let small = k.1 in omega (arith, small));
      before = λ x k. absurd (let small = k.1 in omega (arith, small));
      apart = tt;
      made = λ x k. absurd (let small = k.1 in omega (arith, small));
      there = λ s k. subst (λ (z : Reached). z.configuration.at ≡ 0) (one s k) (ap (λ z. z.at) first.2);
      led = λ s k. subst (IsLed start h links) (one s k) (led_start start h links r first.2 first.3);
      many = omega arith;
      some = (r, mine);
    }
  where
    only : (a b : Reached) → Contains (a ∷ []) b → a ≡ b
    only a b there = ⊎_elim (λ none. none_there b none) (λ same. same) (Contains-push_cases [] a b there)

-- what went by and what stands before an entry are apart
apart_on : (place : ℕ) (gone : List Configuration) (wide : List Reached) → ((x : Configuration) → Contains gone x → x.at < place) → AllAt place wide → AreApart gone → AreApart (configurations wide) → AreApart (gone ++ configurations wide)
apart_on place gone wide before there apart once = apart_append gone (configurations wide) apart once (λ x was now.
    let way = contains_way wide x now in
    let at : x.at ≡ place = subst (λ (z : Configuration). z.at ≡ place) way.2 (there way.0 way.1) in
    let small = before x was in
    omega (arith, at, small))

-- ---- what follows a layer

-- a configuration that is ready, and has passed, is followed
followed_on : (h : List Heard) (e : Heard) (x : Configuration) (us : List UnderWay) (layer behind : List Reached) (S : Configuration → Type 0) → IsTree (start_tree x.now) → AreUnderWay h x.at us → ((y : Configuration) → SettlesIn h (configurations layer) y → S y)
    → ((y : Configuration) → SettlesIn h (configurations behind) y → S y) → IsReady h e x us layer → HasPassed h e x behind → FollowedBy h S x (Some e)
followed_on h (Begin c seat call) x us layer behind S tree calls here next ready passes = next (passed x) passes
followed_on h (Return c p) x us layer behind S tree calls here next ready passes = (
  λ held. next (returned x c) (passes held),
  λ not_held.
      let t = ready not_held in (
        near_numbers c t.near,
        is_near h x c t.siblings us t.near tree calls t.room t.are,
        λ d call inside can.
            let found = near_found h x.at c d t.siblings us t.near call calls t.are inside can.begun can.open_still in
            let now = can_now h x found.0 d call (calls.each found.0 (t.are.some found.0 found.1)) found.2 can in
            subst S now.1 (here (committed x found.0.number found.0.call.now) (t.each found.0 found.1 now.0)),
      ),
)

-- the set behind an entry
pub record Closes (start : Start) (h : List Heard) (place : ℕ) (gone : List Configuration) (behind : List Reached) : Type 0 where
  pub starts : SettlesIn h (gone ++ configurations behind) (at_start start)
  pub followed : (x : Configuration) → Contains gone x → IsFollowed h (SettlesIn h (gone ++ configurations behind)) x
  pub before : (x : Configuration) → Contains gone x → x.at < place
  pub made : (x : Configuration) → Contains gone x → (es : List Entry) × LeadsTo start h es x

closes : (start : Start) (h : List Heard) (limit place : ℕ) (e : Heard) (us : List UnderWay) (links mid new : List Link) (layer wide behind : List Reached) (most : ℕ) (gone : List Configuration)
    → slice_get h place ≡ Some e → Stands start h limit place us links layer most gone → WidensFor h e place us links mid layer wide true most → PassesAll h e place mid new wide behind → Closes start h (place + 1) (gone ++ configurations wide) behind
unfolding Within
closes start h limit place e us links mid new layer wide behind most gone here s w p =
    let last = gone ++ configurations layer in
    let mine = gone ++ configurations wide in
    let all = mine ++ configurations behind in
    let wider : configurations wide ≡ configurations layer ++ configurations w.widens.more = ap configurations w.widens.is ∙ map-append (λ (r : Reached). r.configuration) layer w.widens.more in
    let in_wide : Within (configurations wide) all = λ x k. Contains-append_left mine (configurations behind) x (Contains-append_right gone (configurations wide) x k) in
    let in_behind : Within (configurations behind) all = λ x k. Contains-append_right mine (configurations behind) x k in
    let in_last : Within last all = λ x k. ⊎_elim
    (λ was. Contains-append_left mine (configurations behind) x (Contains-append_left gone (configurations wide) x was))
    (λ now. in_wide x (subst (λ xs. Contains xs x) (sym wider) (Contains-append_left (configurations layer) (configurations w.widens.more) x now)))
    (Contains-append_cases gone (configurations layer) x k) in
    let place_of : (x : Configuration) → Contains (configurations wide) x → x.at ≡ place = λ x k. let way = contains_way wide x k in subst (λ (z : Configuration). z.at ≡ place) way.2 (w.widens.there way.0 way.1) in
    record {
      starts = settles_within h last all (at_start start) in_last s.starts;
      followed = λ x k. ⊎_elim
          (λ was. followed_within h last all x in_last (s.followed x was))
          (λ now.
          let at = place_of x now in
          let way = contains_way wide x now in
          let l = w.widens.led start s.led way.0 way.1 in
          let tree = subst (λ (z : Configuration). IsTree (start_tree z.now)) way.2 (led_tree start h l.es way.0.configuration s.tree l.leads) in
          subst (FollowedBy h (SettlesIn h all) x) (sym (ap (slice_get h) at ∙ here))
          (followed_on h e x us wide behind (SettlesIn h all) tree (subst (λ n. AreUnderWay h n us) (sym at) s.calls) (λ y k. settles_within h (configurations wide) all y in_wide k) (λ y k. settles_within h (configurations behind) all y in_behind k)
          (w.ready refl x now) (subst (λ (z : Configuration). HasPassed h e z behind) way.2 (p.passed way.0 way.1))))
          (Contains-append_cases gone (configurations wide) x k);
      before = λ x k. ⊎_elim
          (λ was. let at = s.before x was in omega (arith, at))
          (λ now. let at = place_of x now in omega (arith, at))
          (Contains-append_cases gone (configurations wide) x k);
      made = λ x k. ⊎_elim
          (λ was. s.made x was)
          (λ now. let way = contains_way wide x now in let l = w.widens.led start s.led way.0 way.1 in (l.es, subst (LeadsTo start h l.es) way.2 l.leads))
          (Contains-append_cases gone (configurations wide) x k);
    }

pub stands_on : (start : Start) (h : List Heard) (limit place : ℕ) (e : Heard) (us vs : List UnderWay) (links mid new : List Link) (layer wide behind : List Reached) (most left : ℕ) (gone : List Configuration)
    → slice_get h place ≡ Some e → Stands start h limit place us links layer most gone → WidensFor h e place us links mid layer wide true most → PassesAll h e place mid new wide behind → AreUnderWay h (place + 1) vs
    → most ≤ left + length wide → 0 < length behind → AreApart (configurations wide) → Stands start h limit (place + 1) vs new behind left (gone ++ configurations wide)
stands_on start h limit place e us vs links mid new layer wide behind most left gone here s w p calls room some once =
    let k = closes start h limit place e us links mid new layer wide behind most gone here s w p in
    let long = length-append gone (configurations wide) in
    let many = length-map wide (λ (r : Reached). r.configuration) in
    let before = s.many in
    record {
      tree = s.tree;
      calls = calls;
      starts = k.starts;
      followed = k.followed;
      before = k.before;
      apart = apart_on place gone wide s.before w.widens.there s.apart once;
      made = k.made;
      there = p.there;
      led = p.led start (w.widens.led start s.led);
      many = omega (arith, long, many, before, room);
      some = first behind some;
    }
  where
    first : (xs : List Reached) → 0 < length xs → (r : Reached) × Contains xs r
    first [] none = absurd (omega (arith, none))
    first (r ∷ xs) more = (r, (0, omega arith, refl))

-- what the code says of a layer
pub widened : (start : Start) (h : List Heard) (limit place : ℕ) (e : Heard) (us vs : List UnderWay) (links mid : List Link) (layer wide : List Reached) (most : ℕ) (gone : List Configuration) (whole b : Bool)
    → vs ≡ us → whole ≡ b → Stands start h limit place us links layer most gone → ((at : ℕ) → AllAt at layer → AreEach h at vs → WidensFor h e at vs links mid layer wide whole most) → WidensFor h e place us links mid layer wide b most
widened start h limit place e us vs links mid layer wide most gone whole b same is s widens =
    subst (λ t. WidensFor h e place us links mid layer wide t most) is
    (subst (λ (ws : List UnderWay). WidensFor h e place ws links mid layer wide whole most) same (widens place s.there (subst (λ (ws : List UnderWay). AreEach h place ws) (sym same) s.calls.each)))

pub here_at : (h : List Heard) (i : ℕ) (x : Heard) → i < length h → x ≡ get_or h i x → slice_get h i ≡ Some x
here_at h i x small is = slice_get-get_or h i x small ∙ ap (λ y. Some y) (sym is)

pub rest_at : (h : List Heard) (i : ℕ) → take (length h - i) (drop i h) ≡ drop i h
rest_at h i = take_all (length h - i) (drop i h) (omega (arith, length-drop i h))

pub never_none : (layer : List Reached) → (r : Reached) × Contains layer r → slice_get layer 0 ≡ None → ⊥
never_none [] some none = none_there some.0 some.1
never_none (r ∷ layer) some none = absurd (cc)

-- ---- where it ends

-- a front that ends before the place is explained
before_place : (start : Start) (h : List Heard) (limit place : ℕ) (us : List UnderWay) (links : List Link) (layer : List Reached) (most : ℕ) (gone : List Configuration) → Stands start h limit place us links layer most gone
    → (es : List Entry) × ExplainsFront start h es × (length (history es) + 1 ≡ place + 1)
before_place start h limit place us links layer most gone s =
    let l = s.led s.some.0 s.some.1 in
    (l.es, l.leads.explains, ap (λ n. n + 1) (sym l.leads.place ∙ s.there s.some.0 s.some.1))

pub was_limited : (start : Start) (h : List Heard) (limit place : ℕ) (e : Heard) (us : List UnderWay) (links mid : List Link) (layer wide : List Reached) (most : ℕ) (gone : List Configuration)
    → Stands start h limit place us links layer most gone → WidensFor h e place us links mid layer wide false most → AreApart (configurations wide) → WasLimited start h limit (place + 1)
was_limited start h limit place e us links mid layer wide most gone s w once =
    let long = length-append gone (configurations wide) in
    let many = length-map wide (λ (r : Reached). r.configuration) in
    let enough = s.many in
    let more = w.many refl in
    record {
      made = gone ++ configurations wide;
      apart = apart_on place gone wide s.before w.widens.there s.apart once;
      many = omega (arith, long, many, enough, more);
      led = λ x k. ⊎_elim
          (λ was. s.made x was)
          (λ now. let way = contains_way wide x now in let l = w.widens.led start s.led way.0 way.1 in (l.es, subst (LeadsTo start h l.es) way.2 l.leads))
          (Contains-append_cases gone (configurations wide) x k);
      before = before_place start h limit place us links layer most gone s;
    }

pub no_order : (start : Start) (h : List Heard) (limit place : ℕ) (e : Heard) (us : List UnderWay) (links mid new : List Link) (layer wide behind : List Reached) (most : ℕ) (gone : List Configuration)
    → slice_get h place ≡ Some e → Stands start h limit place us links layer most gone → WidensFor h e place us links mid layer wide true most → PassesAll h e place mid new wide behind → behind ≡ [] → HasNoFront start h (place + 1)
no_order start h limit place e us links mid new layer wide behind most gone here s w p none =
    let k = closes start h limit place e us links mid new layer wide behind most gone here s w p in
    let set = gone ++ configurations wide in
    let whole : set ++ configurations behind ≡ set = ap (λ (rs : List Reached). set ++ configurations rs) none ∙ append-nil set in
    let closed : IsClosed start h set = record {
      starts = subst (λ xs. SettlesIn h xs (at_start start)) whole k.starts;
      followed = λ x there. subst (λ xs. IsFollowed h (SettlesIn h xs) x) whole (k.followed x there);
    } in
    let short = slice_get_within h place e here in
    record {
      within = omega (arith, short);
      whole = closed_set_refutes start h set closed (λ x there. let at = k.before x there in omega (arith, at, short));
      front = λ es x. let found = closed_set_reaches start h es set closed x in let at = k.before found.0 found.1 in omega (arith, at, found.2);
      before = before_place start h limit place us links layer most gone s;
    }

-- what leads to the end explains the history
pub explains_led : (start : Start) (h : List Heard) (links : List Link) (r : Reached) (steps : List Step) → IsLed start h links r → r.configuration.at ≡ length h → ((ss : List Step) → GoesBack links (length h) r.last ss → steps ≡ reverse ss)
    → (es : List Entry) × Explains start h es × GoesBy h steps es
explains_led start h links r steps l at read =
    let front = l.leads.explains in
    let end = l.leads.place in
    let is : steps ≡ reverse l.steps = read l.steps (subst (λ n. GoesBack links n r.last l.steps) at l.back) in
    (l.es, record { lawful = front.lawful; heard_as = front.heard_as; whole = omega (arith, end, at) }, subst (λ (ss : List Step). GoesBy h ss l.es) (sym is) l.goes)

pub explains_at_end : (start : Start) (h : List Heard) (limit place : ℕ) (us : List UnderWay) (links : List Link) (layer : List Reached) (most : ℕ) (gone : List Configuration) (r : Reached) (steps : List Step)
    → Stands start h limit place us links layer most gone → place ≡ length h → Contains layer r → ((ss : List Step) → GoesBack links (length h) r.last ss → steps ≡ reverse ss) → (es : List Entry) × Explains start h es × GoesBy h steps es
explains_at_end start h limit place us links layer most gone r steps s past there read = explains_led start h links r steps (s.led r there) (s.there r there ∙ past) read
