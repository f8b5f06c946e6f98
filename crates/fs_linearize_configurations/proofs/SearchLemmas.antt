-- What is added to a layer, and that each that is added is led to.
use Rattle.std.proofs.Common.{◌≡◌, ℕ, zero, suc, ◌+◌, ◌<◌, ◌≤◌, Bool, true, false, not, List, [], ◌∷◌, ◌++◌, length, length-append, take, get_or, slice_get, Some, refl, sym, ap, ◌∙◌, subst, ⊎_elim, arith, append_assoc, append-nil, ◌⊎◌, inl, inr}
use Rattle.std.specs.List.{Contains}
use Rattle.std.proofs.lemmas.List.{take_more, take-append-le, take_all, get_or-map, length-map, map-append}
use Rattle.std.proofs.lemmas.List.Elements.{Contains-append_left, Contains-append_cases, Contains-push, Contains-push_cases}
use Rattle.std.proofs.lemmas.Bool.{both_ways}
use Rattle.std.proofs.lemmas.Option.{slice_get_within, get_or_from_slice_get}
use Rattle.fs_calls.specs.Starts.{Start, start_tree}
use Rattle.fs_calls.specs.declared.call.Call.{Call}
use Rattle.fs_linearize_histories.specs.declared.heard.Heard.{Heard}
use Rattle.fs_linearize_histories.specs.declared.heard.Heard.TheVariants.{Begin, Return}
use Rattle.fs_linearize_histories.specs.declared.heard.Pattern.{Pattern}
use Rattle.fs_linearize_histories.specs.Histories.{IsHistory}
use Rattle.fs_linearize_histories.specs.Meeting.{HasRoom}
use Rattle.fs_linearize_histories.specs.Configurations.{Configuration, at_start, is_in, placed, passed, returned, committed, CanCommit}
use Rattle.fs_linearize_histories.specs.Early.{SettlesBy, Settles, SettlesIn}
use Rattle.fs_linearize_configurations.specs.code.Calls.{IsUnderWay, AreEach, AreNear, CanCommitNow, CanCommitQuietly}
use Rattle.fs_linearize_configurations.specs.code.Ways.{IsLedBy, IsLed, AllLed, Keeps, configurations}
use Rattle.fs_linearize_configurations.specs.code.Searching.{SettlesTo, AddsIfNew, AllAt, Grows, Adds, IsTried, AddsCommit, AddsCommits, AreTried, Follows, Widens, WidensBefore, WidensFor, HasPassed, waits, Becomes, PassesTo, Passes, PassesAll, IsFirst}
use Rattle.fs_linearize_configurations.specs.declared.reached.Reached.{Reached}
use Rattle.fs_linearize_configurations.specs.declared.steps.Link.{Link}
use Rattle.fs_linearize_configurations.specs.declared.under_way.UnderWay.{UnderWay}
use Rattle.fs_linearize_configurations.proofs.CallLemmas.{now_can, quietly_early, quietly_same}
use Rattle.fs_linearize_configurations.proofs.CodeLemmas.{settles_more, settles_none, settles_on}
use Rattle.fs_linearize_configurations.proofs.WayLemmas.{keeps_same, keeps_on, keeps_push, led_commit, led_begin, led_return, contains_configuration, contains_way}

led_at : (start : Start) (h : List Heard) (links : List Link) (s : Reached) (x : Configuration) (last : ℕ) → s.configuration ≡ x → s.last ≡ last → IsLedBy start h links x last → IsLed start h links s
led_at start h links s x last is end l = subst (λ z. IsLedBy start h links z s.last) (sym is) (subst (λ n. IsLedBy start h links x n) (sym end) l)

-- ---- calls that commit early

-- calls that commit pass no entry
pub settles_at : (h : List Heard) (x y : Configuration) (qs : List (ℕ × Call)) → SettlesBy h x qs y → y.at ≡ x.at
settles_at h x y [] s = ap (λ z. z.at) (sym s)
settles_at h x y (q ∷ qs) s = settles_at h (committed x q.0 q.1) y qs s.1

pub settles_same : (h : List Heard) (links : List Link) (r : Reached) → SettlesTo h links links r r
settles_same h links r = record { settles = settles_none h r.configuration; keeps = keeps_same links; led = λ start l. l }

pub settles_then : (h : List Heard) (a b c : List Link) (r s t : Reached) → SettlesTo h a b r s → SettlesTo h b c s t → SettlesTo h a c r t
settles_then h a b c r s t e f = record {
  settles = settles_on h r.configuration s.configuration t.configuration e.settles f.settles;
  keeps = keeps_on a b c e.keeps f.keeps;
  led = λ start l. f.led start (e.led start l);
}

pub same_place : (h : List Heard) (old new : List Link) (r s : Reached) → SettlesTo h old new r s → s.configuration.at ≡ r.configuration.at
same_place h old new r s k = settles_at h r.configuration s.configuration k.settles.0 k.settles.1

-- what is led to where a commit was pushed
led_made : (start : Start) (h : List Heard) (old new : List Link) (r s : Reached) (link : Link) (c : ℕ) (call : Call) → new ≡ old ++ link ∷ [] → link.number ≡ c → link.at ≡ r.configuration.at → link.before ≡ r.last → s.last ≡ length new
    → s.configuration ≡ committed r.configuration c call → CanCommit h r.configuration c call → IsLed start h old r → IsLed start h new s
led_made start h old new r s link c call pushed number place before last is can l =
    let x = r.configuration in
    let on = led_commit start h old new x r.last link call pushed place before (subst (λ n. CanCommit h x n call) (sym number) can) l in
    led_at start h new s (committed x c call) (length new) is last (subst (λ n. IsLedBy start h new (committed x n call) (length new)) number on)

pub settles_one : (h : List Heard) (old new : List Link) (r s : Reached) (u : UnderWay) (link : Link) → new ≡ old ++ link ∷ [] → link.number ≡ u.number → link.at ≡ r.configuration.at → link.before ≡ r.last → s.last ≡ length new
    → s.configuration ≡ record r.configuration { held = placed u.number r.configuration.held } → CanCommitQuietly r.configuration u → IsUnderWay h r.configuration.at u → SettlesTo h old new r s
settles_one h old new r s u link pushed number place before last is quiet way =
    let x = r.configuration in
    let early = quietly_early h x u way quiet in
    let made : s.configuration ≡ committed x u.number u.call.now = is ∙ sym (quietly_same x u quiet) in
    record {
      settles = settles_more h x x s.configuration u.number (settles_none h x) (u.call.now, early, made);
      keeps = keeps_push old new link pushed;
      led = λ start l. led_made start h old new r s link u.number u.call.now pushed number place before last made early.can l;
    }

-- ---- growing

pub none_there : {P : Type 0} (r : Reached) → Contains [] r → P
none_there r k = let small = k.1 in absurd (omega (arith, small))

grows_none : (h : List Heard) (at : ℕ) (r : Reached) (old new : List Link) (layer : List Reached) → Keeps old new → Grows h at r old new layer layer
grows_none h at r old new layer keeps = record { more = []; is = sym (append-nil layer); there = λ s none. none_there s none; keeps = keeps; led = λ start l s none. none_there s none }

grows_one : (h : List Heard) (at : ℕ) (r s : Reached) (old new : List Link) (before behind : List Reached) → behind ≡ before ++ s ∷ [] → s.configuration.at ≡ at → Keeps old new → ((start : Start) → IsLed start h old r → IsLed start h new s) → Grows h at r old new before behind
grows_one h at r s old new before behind is place keeps led = record {
  more = s ∷ [];
  is = is;
  there = λ t there. subst (λ (z : Reached). z.configuration.at ≡ at) (one s t there) place;
  keeps = keeps;
  led = λ start l t there. subst (IsLed start h new) (one s t there) (led start l);
}
  where
    one : (a b : Reached) → Contains (a ∷ []) b → a ≡ b
    one a b there = ⊎_elim (λ none. none_there b none) (λ same. same) (Contains-push_cases [] a b there)

grows_on : (h : List Heard) (at : ℕ) (r : Reached) (a b c : List Link) (x y z : List Reached) → Grows h at r a b x y → Grows h at r b c y z → Grows h at r a c x z
grows_on h at r a b c x y z e f = record {
  more = e.more ++ f.more;
  is = f.is ∙ ap (λ rs. rs ++ f.more) e.is ∙ append_assoc x e.more f.more;
  there = λ s there. ⊎_elim (λ was. e.there s was) (λ now. f.there s now) (Contains-append_cases e.more f.more s there);
  keeps = keeps_on a b c e.keeps f.keeps;
  led = λ start l s there. ⊎_elim (λ was. f.keeps start h s.configuration s.last (e.led start l s was)) (λ now. f.led start (e.keeps start h r.configuration r.last l) s now) (Contains-append_cases e.more f.more s there);
}

-- what goes on from a configuration that is led
grows_from : (h : List Heard) (at : ℕ) (r s : Reached) (a b c : List Link) (x y : List Reached) → Keeps a b → ((start : Start) → IsLed start h a r → IsLed start h b s) → Grows h at s b c x y → Grows h at r a c x y
grows_from h at r s a b c x y keeps on g = record { more = g.more; is = g.is; there = g.there; keeps = keeps_on a b c keeps g.keeps; led = λ start l. g.led start (on start l) }

pub settles_still : (h : List Heard) (x : Configuration) (old more new : List Reached) → new ≡ old ++ more → SettlesIn h (configurations old) x → SettlesIn h (configurations new) x
settles_still h x old more new is s =
    (s.0, s.1, s.2, subst (λ xs. Contains xs s.0) (sym (ap configurations is ∙ map-append (λ (r : Reached). r.configuration) old more)) (Contains-append_left (configurations old) (configurations more) s.0 s.3))

-- ---- what a configuration settles to

adds_seen : (h : List Heard) (r s : Reached) (old new : List Link) (layer : List Reached) → SettlesTo h old new r s → Contains (configurations layer) s.configuration → Adds h r old new layer layer
adds_seen h r s old new layer k there = record { grows = grows_none h r.configuration.at r old new layer k.keeps; settles = (s.configuration, k.settles.0, k.settles.1, there) }

adds_new : (h : List Heard) (r s : Reached) (old new : List Link) (before behind : List Reached) → SettlesTo h old new r s → behind ≡ before ++ s ∷ [] → Adds h r old new before behind
adds_new h r s old new before behind k is = record {
  grows = grows_one h r.configuration.at r s old new before behind is (same_place h old new r s k) k.keeps k.led;
  settles = (s.configuration, k.settles.0, k.settles.1, contains_configuration behind s (subst (λ (rs : List Reached). Contains rs s) (sym is) (Contains-push before s)));
}

pub adds_if_new : (h : List Heard) (r s : Reached) (old new : List Link) (before behind : List Reached) → SettlesTo h old new r s → AddsIfNew s before behind → Adds h r old new before behind
adds_if_new h r s old new before behind k added = ⊎_elim
    (λ seen. subst (λ (rs : List Reached). Adds h r old new before rs) (sym seen.1) (adds_seen h r s old new before k seen.0))
    (λ is. adds_new h r s old new before behind k is)
    added

-- ---- calls that commit

pub adds_commit : (h : List Heard) (r s : Reached) (u : UnderWay) (link : Link) (old mid new : List Link) (before behind : List Reached) → mid ≡ old ++ link ∷ [] → link.number ≡ u.number → link.at ≡ r.configuration.at → link.before ≡ r.last → s.last ≡ length mid
    → CanCommitNow r.configuration u × (s.configuration ≡ committed r.configuration u.number u.call.now) → IsUnderWay h r.configuration.at u → Adds h s mid new before behind → AddsCommit h r u old new before behind
adds_commit h r s u link old mid new before behind pushed number place first last can way a =
    let at : s.configuration.at ≡ r.configuration.at = ap (λ z. z.at) can.1 in
    record {
      grows = grows_from h r.configuration.at r s old mid new before behind (keeps_push old mid link pushed)
          (λ start l. led_made start h old mid r s link u.number u.call.now pushed number place first last can.1 (now_can h r.configuration u way can.0) l)
          (subst (λ n. Grows h n s mid new before behind) at a.grows);
      tried = λ again. subst (SettlesIn h (configurations behind)) can.1 a.settles;
    }

-- what comes of the commit is there already
pub adds_commit_seen : (h : List Heard) (r : Reached) (u : UnderWay) (x : Configuration) (links : List Link) (layer : List Reached) → CanCommitNow r.configuration u × (x ≡ committed r.configuration u.number u.call.now) → Contains (configurations layer) x
    → AddsCommit h r u links links layer layer
adds_commit_seen h r u x links layer can there = record {
  grows = grows_none h r.configuration.at r links links layer (keeps_same links);
  tried = λ again. subst (SettlesIn h (configurations layer)) can.1 (x, [], refl, there);
}

pub adds_no_commit : (h : List Heard) (r : Reached) (u : UnderWay) (links : List Link) (layer : List Reached) → (CanCommitNow r.configuration u → ⊥) → AddsCommit h r u links links layer layer
adds_no_commit h r u links layer never = record { grows = grows_none h r.configuration.at r links links layer (keeps_same links); tried = λ can. absurd (never can) }

tried_still : (h : List Heard) (x : Configuration) (u : UnderWay) (old more new : List Reached) → new ≡ old ++ more → IsTried h x u old → IsTried h x u new
tried_still h x u old more new is tried can = settles_still h (committed x u.number u.call.now) old more new is (tried can)

near_still : (h : List Heard) (c : ℕ) (x : Configuration) (us : List UnderWay) (old more new : List Reached) → new ≡ old ++ more → AreTried h c x us old → AreTried h c x us new
near_still h c x us old more new is tried not_held =
    let t = tried not_held in
    record { siblings = t.siblings; room = t.room; near = t.near; are = t.are; each = λ u there. tried_still h x u old more new is (t.each u there) }

pub adds_none : (h : List Heard) (r : Reached) (links : List Link) (layer : List Reached) → AddsCommits h r [] links links layer layer
adds_none h r links layer = record { grows = grows_none h r.configuration.at r links links layer (keeps_same links); each = λ u there. absurd (let small = there.1 in omega (arith, small)) }

pub adds_one_more : (h : List Heard) (r : Reached) (us : List UnderWay) (i : ℕ) (u : UnderWay) (a b c : List Link) (x y z : List Reached) → i < length us → u ≡ get_or us i u
    → AddsCommits h r (take i us) a b x y → AddsCommit h r u b c y z → AddsCommits h r (take (i + 1) us) a c x z
adds_one_more h r us i u a b c x y z small is so_far one = record {
  grows = grows_on h r.configuration.at r a b c x y z so_far.grows one.grows;
  each = λ v there. ⊎_elim
      (λ was. tried_still h r.configuration v y one.grows.more z one.grows.is (so_far.each v was))
      (λ here. subst (λ (w : UnderWay). IsTried h r.configuration w z) here one.tried)
      (Contains-push_cases (take i us) u v (subst (λ (ws : List UnderWay). Contains ws v) (take_more us i u small ∙ ap (λ (w : UnderWay). take i us ++ w ∷ []) (sym is)) there));
}

pub adds_all : (h : List Heard) (r : Reached) (us : List UnderWay) (i : ℕ) (a b : List Link) (x y : List Reached) → length us ≤ i → AddsCommits h r (take i us) a b x y → AddsCommits h r us a b x y
adds_all h r us i a b x y past k = subst (λ (ws : List UnderWay). AddsCommits h r ws a b x y) (take_all i us past) k

-- ---- a layer before the return of a call

pub follows_held : (h : List Heard) (c : ℕ) (r : Reached) (us : List UnderWay) (links : List Link) (layer : List Reached) → is_in c r.configuration.held ≡ true → Follows h c r us links links layer layer
follows_held h c r us links layer held = record { grows = grows_none h r.configuration.at r links links layer (keeps_same links); tried = λ not_held. absurd (both_ways _ not_held held) }

pub follows_commits : (h : List Heard) (c : ℕ) (siblings : Bool) (r : Reached) (us near : List UnderWay) (a b : List Link) (x y : List Reached) → AreNear c siblings us near → (siblings ≡ false → HasRoom r.configuration.now.limits (length us) (start_tree r.configuration.now)) → AddsCommits h r near a b x y
    → Follows h c r us a b x y
follows_commits h c siblings r us near a b x y are room k = record { grows = k.grows; tried = λ not_held. record { siblings = siblings; room = room; near = near; are = are; each = k.each } }

abbrev reached_by : Configuration → ℕ → Reached
reached_by x last = record { configuration = x; last = last }

same_reached : (r s : Reached) → r.configuration ≡ s.configuration → r.last ≡ s.last → r ≡ s
same_reached r s one other = ap (λ x. reached_by x r.last) one ∙ ap (reached_by s.configuration) other

got : (layer : List Reached) (i : ℕ) (r s : Reached) → slice_get layer i ≡ Some r → s ≡ get_or layer i s → s ≡ r
got layer i r s is here = here ∙ get_or_from_slice_get layer i r s is

pub follows_past : (h : List Heard) (c : ℕ) (r : Reached) (us : List UnderWay) (links : List Link) (layer : List Reached) (i : ℕ) → slice_get layer i ≡ Some r → length layer ≤ i → Follows h c r us links links layer layer
follows_past h c r us links layer i is past = let small = slice_get_within layer i r is in absurd (omega (arith, small, past))

pub follows_held_at : (h : List Heard) (c : ℕ) (r s : Reached) (us : List UnderWay) (links : List Link) (layer : List Reached) (i : ℕ) → slice_get layer i ≡ Some r → s ≡ get_or layer i s → is_in c s.configuration.held ≡ true → Follows h c r us links links layer layer
follows_held_at h c r s us links layer i is here held = follows_held h c r us links layer (subst (λ (w : Reached). is_in c w.configuration.held ≡ true) (got layer i r s is here) held)

pub follows_commits_at : (h : List Heard) (c : ℕ) (siblings : Bool) (r s t : Reached) (us near : List UnderWay) (a b : List Link) (x y : List Reached) (i : ℕ) → slice_get x i ≡ Some r → s ≡ get_or x i s → t.configuration ≡ s.configuration → t.last ≡ s.last
    → AreEach h r.configuration.at us → AreNear c siblings us near → (siblings ≡ false → HasRoom t.configuration.now.limits (length us) (start_tree t.configuration.now)) → (AreEach h t.configuration.at us → AreEach h t.configuration.at near → AddsCommits h t near a b x y) → Follows h c r us a b x y
follows_commits_at h c siblings r s t us near a b x y i is here same last each are room adds =
    let one : t ≡ r = same_reached t s same last ∙ got x i r s is here in
    let mine = subst (λ (w : Reached). AreEach h w.configuration.at us) (sym one) each in
    follows_commits h c siblings r us near a b x y are (subst (λ (w : Reached). siblings ≡ false → HasRoom w.configuration.now.limits (length us) (start_tree w.configuration.now)) one room)
    (subst (λ (w : Reached). AddsCommits h w near a b x y) one (adds mine (λ u there. mine u (are.some u there))))

pub contains_got : {A : Type 0} (xs : List A) (i : ℕ) (x : A) → Some x ≡ slice_get xs i → Contains xs x
contains_got xs i x is = (i, slice_get_within xs i x (sym is), get_or_from_slice_get xs i x x (sym is))

pub none_left : (xs : List Reached) → length xs ≡ 0 → xs ≡ []
none_left [] k = refl
none_left (r ∷ xs) k = absurd (omega (arith, k))

-- the first of a layer are followed
pub record WidensUpTo (h : List Heard) (c at : ℕ) (us : List UnderWay) (i : ℕ) (old new : List Link) (before behind : List Reached) : Type 0 where
  pub within : i ≤ length behind
  pub widens : Widens h at old new before behind
  pub tried : (x : Configuration) → Contains (take i (configurations behind)) x → AreTried h c x us behind

pub widens_same : (h : List Heard) (at : ℕ) (links : List Link) (layer : List Reached) → AllAt at layer → Widens h at links links layer layer
widens_same h at links layer there = record { more = []; is = sym (append-nil layer); there = there; keeps = keeps_same links; led = λ start all. all }

pub widens_none : (h : List Heard) (c at : ℕ) (us : List UnderWay) (links : List Link) (layer : List Reached) → AllAt at layer → WidensUpTo h c at us 0 links links layer layer
widens_none h c at us links layer there = record { within = omega arith; widens = widens_same h at links layer there; tried = λ x none. absurd (let small = none.1 in omega (arith, small)) }

some_at : (xs : List Reached) (i : ℕ) → i < length xs → (r : Reached) × (slice_get xs i ≡ Some r)
some_at [] i small = absurd (omega (arith, small))
some_at (r ∷ xs) zero small = (r, refl)
some_at (r ∷ xs) (suc i) small = some_at xs i (omega (arith, small))

fronts_more : (y more z : List Reached) (i : ℕ) (r : Reached) → i < length y → r ≡ get_or y i r → z ≡ y ++ more → take (i + 1) (configurations z) ≡ take i (configurations y) ++ r.configuration ∷ []
fronts_more y more z i r small is grown =
    let many = length-map y (λ (s : Reached). s.configuration) in
    let small_too : i < length (configurations y) = omega (arith, small, many) in
    let here : get_or (configurations y) i r.configuration ≡ r.configuration = get_or-map (λ (s : Reached). s.configuration) y i r r.configuration small ∙ ap (λ (s : Reached). s.configuration) (sym is) in
    ap (take (i + 1)) (ap configurations grown ∙ map-append (λ (s : Reached). s.configuration) y more)
    ∙ take-append-le (i + 1) (configurations y) (configurations more) (omega (arith, small_too))
    ∙ take_more (configurations y) i r.configuration small_too ∙ ap (λ x. take i (configurations y) ++ x ∷ []) here

pub widens_one_more : (h : List Heard) (c at : ℕ) (us : List UnderWay) (i : ℕ) (a b d : List Link) (x y z : List Reached) → i < length y → AreEach h at us
    → ((g : List Heard) (r : Reached) → slice_get y i ≡ Some r → AreEach g r.configuration.at us → Follows g c r us b d y z) → WidensUpTo h c at us i a b x y → WidensUpTo h c at us (i + 1) a d x z
widens_one_more h c at us i a b d x y z small each follows so_far =
    let r = some_at y i small in
    let place : r.0.configuration.at ≡ at = so_far.widens.there r.0 (i, small, get_or_from_slice_get y i r.0 r.0 r.1) in
    let f = follows h r.0 r.1 (subst (λ n. AreEach h n us) (sym place) each) in
    let long = ap length f.grows.is ∙ length-append y f.grows.more in
    let fronts : take (i + 1) (configurations z) ≡ take i (configurations y) ++ r.0.configuration ∷ [] = fronts_more y f.grows.more z i r.0 small (sym (get_or_from_slice_get y i r.0 r.0 r.1)) f.grows.is in
    record {
      within = omega (arith, long, small);
      widens = record {
        more = so_far.widens.more ++ f.grows.more;
        is = f.grows.is ∙ ap (λ rs. rs ++ f.grows.more) so_far.widens.is ∙ append_assoc x so_far.widens.more f.grows.more;
        there = λ s there. ⊎_elim (λ was. so_far.widens.there s was) (λ now. f.grows.there s now ∙ place) (Contains-append_cases y f.grows.more s (subst (λ (rs : List Reached). Contains rs s) f.grows.is there));
        keeps = keeps_on a b d so_far.widens.keeps f.grows.keeps;
        led = λ start all s there.
            let were = so_far.widens.led start all in
            ⊎_elim
            (λ was. f.grows.keeps start h s.configuration s.last (were s was))
            (λ now. f.grows.led start (were r.0 (i, small, get_or_from_slice_get y i r.0 r.0 r.1)) s now)
            (Contains-append_cases y f.grows.more s (subst (λ (rs : List Reached). Contains rs s) f.grows.is there));
      };
      tried = λ w there. ⊎_elim
          (λ was. near_still h c w us y f.grows.more z f.grows.is (so_far.tried w was))
          (λ here. subst (λ v. AreTried h c v us z) here f.tried)
          (Contains-push_cases (take i (configurations y)) r.0.configuration w (subst (λ ws. Contains ws w) fronts there));
    }

-- the first of a layer have committed a call
pub hold_none : (c : ℕ) (layer : List Reached) → (r : Reached) → Contains (take 0 layer) r → is_in c r.configuration.held ≡ true
hold_none c layer r none = none_there r none

pub hold_more : (c : ℕ) (layer : List Reached) (i : ℕ) (s : Reached) → i < length layer → s ≡ get_or layer i s → is_in c s.configuration.held ≡ true → ((r : Reached) → Contains (take i layer) r → is_in c r.configuration.held ≡ true)
    → (r : Reached) → Contains (take (i + 1) layer) r → is_in c r.configuration.held ≡ true
hold_more c layer i s small is held so_far r there = ⊎_elim
    (λ was. so_far r was)
    (λ here. subst (λ (w : Reached). is_in c w.configuration.held ≡ true) here held)
    (Contains-push_cases (take i layer) s r (subst (λ (rs : List Reached). Contains rs r) (take_more layer i s small ∙ ap (λ (w : Reached). take i layer ++ w ∷ []) (sym is)) there))

pub hold_all : (c : ℕ) (layer : List Reached) (i : ℕ) → length layer ≤ i → ((r : Reached) → Contains (take i layer) r → is_in c r.configuration.held ≡ true) → (r : Reached) → Contains layer r → is_in c r.configuration.held ≡ true
hold_all c layer i past all = subst (λ (rs : List Reached). (r : Reached) → Contains rs r → is_in c r.configuration.held ≡ true) (take_all i layer past) all

-- a layer that has committed the call stays
pub widens_held : (h : List Heard) (c at : ℕ) (us : List UnderWay) (most : ℕ) (whole : Bool) (links : List Link) (layer : List Reached) → ((r : Reached) → Contains layer r → is_in c r.configuration.held ≡ true) → (whole ≡ false → most ≤ length layer)
    → AllAt at layer → WidensBefore h c at us links links layer layer whole most
widens_held h c at us most whole links layer held many there = record {
  widens = widens_same h at links layer there;
  tried = λ yes x k not_held.
      let way = contains_way layer x k in
      absurd (both_ways _ not_held (subst (λ (y : Configuration). is_in c y.held ≡ true) way.2 (held way.0 way.1)));
  many = many;
}

pub widens_whole : (h : List Heard) (c at : ℕ) (us : List UnderWay) (i most : ℕ) (a b : List Link) (x y : List Reached) → length y ≤ i → WidensUpTo h c at us i a b x y → WidensBefore h c at us a b x y true most
widens_whole h c at us i most a b x y past k =
    let many = length-map y (λ (s : Reached). s.configuration) in
    record {
      widens = k.widens;
      tried = λ yes w there. k.tried w (subst (λ ws. Contains ws w) (sym (take_all i (configurations y) (omega (arith, many, past)))) there);
      many = λ no. absurd (cc);
    }

pub widens_limited : (h : List Heard) (c at : ℕ) (us : List UnderWay) (i most : ℕ) (a b : List Link) (x y : List Reached) → most ≤ i → WidensUpTo h c at us i a b x y → WidensBefore h c at us a b x y false most
widens_limited h c at us i most a b x y past k = let within = k.within in record { widens = k.widens; tried = λ no. absurd (cc); many = λ yes. omega (arith, past, within) }

pub widens_return : (h : List Heard) (c at : ℕ) (p : Pattern) (us : List UnderWay) (a b : List Link) (x y : List Reached) (whole : Bool) (most : ℕ) → WidensBefore h c at us a b x y whole most → WidensFor h (Return c p) at us a b x y whole most
widens_return h c at p us a b x y whole most k = record { widens = k.widens; ready = k.tried; many = k.many }

pub widens_begin : (h : List Heard) (c seat at : ℕ) (call : Call) (us : List UnderWay) (most : ℕ) (whole : Bool) (links : List Link) (layer : List Reached) → (whole ≡ false → most ≤ length layer) → AllAt at layer → WidensFor h (Begin c seat call) at us links links layer layer whole most
widens_begin h c seat at call us most whole links layer many there = record { widens = widens_same h at links layer there; ready = λ yes x k. tt; many = many }

-- the layer before the first entry
pub first_added : (start : Start) (r : Reached) (layer : List Reached) → r.configuration ≡ at_start start → r.last ≡ 0 → AddsIfNew r [] layer → IsFirst start layer
first_added start r layer first none added = ⊎_elim (λ seen. absurd (let small = seen.0.1 in omega (arith, small))) (λ is. (r, is, first, none)) added

-- ---- a layer that passes an entry

pub passes_to_begin : (h : List Heard) (c seat : ℕ) (call : Call) (r s t : Reached) (old new : List Link) → IsHistory h → slice_get h r.configuration.at ≡ Some (Begin c seat call) → s.configuration ≡ passed r.configuration → s.last ≡ r.last → SettlesTo h old new s t
    → PassesTo h (Begin c seat call) r old new t
passes_to_begin h c seat call r s t old new history here is last k =
    let x = r.configuration in
    record {
      place = same_place h old new s t k ∙ ap (λ z. z.at) is;
      keeps = k.keeps;
      led = λ start l. k.led start (led_at start h old s (passed x) r.last is last (led_begin start h old x r.last c seat call history here l));
      becomes = subst (λ z. Settles h z t.configuration) is k.settles;
    }

pub passes_to_return : (h : List Heard) (c : ℕ) (p : Pattern) (r s : Reached) (links : List Link) → IsHistory h → slice_get h r.configuration.at ≡ Some (Return c p) → waits r.configuration (Return c p) ≡ false → s.configuration ≡ returned r.configuration c → s.last ≡ r.last
    → PassesTo h (Return c p) r links links s
passes_to_return h c p r s links history here goes is last =
    let x = r.configuration in
    record {
      place = ap (λ z. z.at) is;
      keeps = keeps_same links;
      led = λ start l. led_at start h links s (returned x c) r.last is last (led_return start h links x r.last c p history here (held (is_in c x.held) goes) l);
      becomes = is;
    }
  where
    held : (b : Bool) → not b ≡ false → b ≡ true
    held true is_not = refl
    held false is_not = absurd (cc)

has_passed : (h : List Heard) (e : Heard) (x y : Configuration) (layer : List Reached) → Becomes h e x y → Contains (configurations layer) y → HasPassed h e x layer
has_passed h (Begin c seat call) x y layer to there = (y, to.0, to.1, there)
has_passed h (Return c p) x y layer to there = λ held. (returned x c, [], refl, subst (Contains (configurations layer)) to there)

pub passes_if_new : (h : List Heard) (e : Heard) (r s : Reached) (old new : List Link) (before behind : List Reached) → PassesTo h e r old new s → AddsIfNew s before behind → Passes h e r old new before behind
passes_if_new h e r s old new before behind p added = ⊎_elim
    (λ seen. subst (λ (rs : List Reached). Passes h e r old new before rs) (sym seen.1) (record { grows = grows_none h (r.configuration.at + 1) r old new before p.keeps; passed = has_passed h e r.configuration s.configuration before p.becomes seen.0 }))
    (λ is. record {
      grows = grows_one h (r.configuration.at + 1) r s old new before behind is p.place p.keeps p.led;
      passed = has_passed h e r.configuration s.configuration behind p.becomes (contains_configuration behind s (subst (λ (rs : List Reached). Contains rs s) (sym is) (Contains-push before s)));
    })
    added

pub passes_not : (h : List Heard) (e : Heard) (r : Reached) (links : List Link) (layer : List Reached) → waits r.configuration e ≡ true → Passes h e r links links layer layer
passes_not h (Begin c seat call) r links layer stops = absurd (cc)
passes_not h (Return c p) r links layer stops = record { grows = grows_none h (r.configuration.at + 1) r links links layer (keeps_same links); passed = λ held. absurd (both_ways _ (not_held (is_in c r.configuration.held) stops) held) }
  where
    not_held : (b : Bool) → not b ≡ true → b ≡ false
    not_held true is_not = absurd (cc)
    not_held false is_not = refl

-- those that are left of a layer, and those that passed
pub record PassesUpTo (h : List Heard) (e : Heard) (at : ℕ) (old new : List Link) (all rest behind : List Reached) : Type 0 where
  pub there : AllAt (at + 1) behind
  pub keeps : Keeps old new
  pub led : (start : Start) → AllLed start h old all → AllLed start h new behind
  pub some : (r : Reached) → Contains rest r → Contains all r
  pub passed : (r : Reached) → Contains all r → Contains rest r ⊎ HasPassed h e r.configuration behind

pub passes_none : (h : List Heard) (e : Heard) (at : ℕ) (links : List Link) (layer behind : List Reached) → behind ≡ [] → PassesUpTo h e at links links layer layer behind
passes_none h e at links layer behind none = subst (λ (rs : List Reached). PassesUpTo h e at links links layer layer rs) (sym none) (record {
  there = λ r k. none_there r k;
  keeps = keeps_same links;
  led = λ start all r k. none_there r k;
  some = λ r k. k;
  passed = λ r k. inl k;
})

has_passed_still : (h : List Heard) (e : Heard) (x : Configuration) (old more new : List Reached) → new ≡ old ++ more → HasPassed h e x old → HasPassed h e x new
has_passed_still h (Begin c seat call) x old more new is k = settles_still h (passed x) old more new is k
has_passed_still h (Return c p) x old more new is k = λ held. settles_still h (returned x c) old more new is (k held)

pub passes_one_more : (h : List Heard) (e : Heard) (at : ℕ) (r : Reached) (a b d : List Link) (all left rest y z : List Reached) → left ≡ rest ++ r ∷ [] → AllAt at all
    → (r.configuration.at ≡ at → Passes h e r b d y z) → PassesUpTo h e at a b all left y → PassesUpTo h e at a d all rest z
passes_one_more h e at r a b d all left rest y z popped there passes so_far =
    let mine : Contains all r = so_far.some r (subst (λ (rs : List Reached). Contains rs r) (sym popped) (Contains-push rest r)) in
    let p = passes (there r mine) in
    let one_more : r.configuration.at + 1 ≡ at + 1 = ap (λ n. n + 1) (there r mine) in
    record {
      there = λ s k. ⊎_elim (λ was. so_far.there s was) (λ now. p.grows.there s now ∙ one_more) (Contains-append_cases y p.grows.more s (subst (λ (rs : List Reached). Contains rs s) p.grows.is k));
      keeps = keeps_on a b d so_far.keeps p.grows.keeps;
      led = λ start led s k. ⊎_elim
          (λ was. p.grows.keeps start h s.configuration s.last (so_far.led start led s was))
          (λ now. p.grows.led start (so_far.keeps start h r.configuration r.last (led r mine)) s now)
          (Contains-append_cases y p.grows.more s (subst (λ (rs : List Reached). Contains rs s) p.grows.is k));
      some = λ s k. so_far.some s (subst (λ (rs : List Reached). Contains rs s) (sym popped) (Contains-append_left rest (r ∷ []) s k));
      passed = λ s k. ⊎_elim
          (λ waits. ⊎_elim (λ still. inl still) (λ here. inr (subst (λ (w : Reached). HasPassed h e w.configuration z) here p.passed)) (Contains-push_cases rest r s (subst (λ (rs : List Reached). Contains rs s) popped waits)))
          (λ done. inr (has_passed_still h e s.configuration y p.grows.more z p.grows.is done))
          (so_far.passed s k);
    }

pub passes_all : (h : List Heard) (e : Heard) (at : ℕ) (a b : List Link) (all rest behind : List Reached) → rest ≡ [] → PassesUpTo h e at a b all rest behind → PassesAll h e at a b all behind
passes_all h e at a b all rest behind none k = record {
  there = k.there;
  keeps = k.keeps;
  led = k.led;
  passed = λ r there. ⊎_elim (λ left. none_there r (subst (λ (rs : List Reached). Contains rs r) none left)) (λ done. done) (k.passed r there);
}
