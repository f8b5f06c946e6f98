-- Steps played along a history.
use Rattle.std.proofs.Common.{◌≡◌, ◌+◌, ◌-◌, ◌<◌, ◌≤◌, ℕ, nat_eq, true, Vec, Global, List, [], ◌∷◌, ◌++◌, length, take, drop, get_or, slice_get, Option, Some, IfSome, refl, sym, ap, ◌∙◌, subst, arith}
use Rattle.std.specs.List.{Contains}
use Rattle.std.proofs.lemmas.Bool.{eqb-true}
use Rattle.std.proofs.lemmas.List.{take_more, take_all, length-drop}
use Rattle.std.proofs.lemmas.Option.{slice_get-get_or}
use Rattle.fs_calls.specs.Starts.{Start}
use Rattle.fs_timeline.specs.declared.entry.Entry.{Entry}
use Rattle.fs_timeline.specs.declared.entry.Entry.TheVariants.{Begin, Commit, Return}
use Rattle.fs_linearizable.specs.Linearizable.{history}
use Rattle.fs_linearizable.proofs.LawfulLemmas.{history-append}
use Rattle.fs_linearize_histories.specs.declared.heard.Heard.{Heard}
use Rattle.fs_linearize_histories.specs.declared.heard.Heard.TheVariants as heard
use Rattle.fs_linearize_histories.specs.Heard.{IsHeardAs, AreHeardIn}
use Rattle.fs_linearize_histories.specs.Histories.{IsHistory, Explains}
use Rattle.fs_linearize_histories.specs.Configurations.{Configuration, at_start, committed, passed, returned}
use Rattle.fs_linearize_histories.specs.Paths.{LeadsTo}
use Rattle.fs_linearize_histories.proofs.PathLemmas.{leads_start, leads_begin, leads_commit, leads_return, due_held}
use Rattle.fs_linearize_configurations.specs.code.Calls.{AreUnderWay, CanCommitNow}
use Rattle.fs_linearize_configurations.specs.code.Ways.{GoesBy}
use Rattle.fs_linearize_configurations.specs.code.Walking.{reached_by, HoldsAfter, IsWalked}
use Rattle.fs_linearize_configurations.specs.declared.steps.Step.{Step}
use Rattle.fs_linearize_configurations.specs.declared.steps.Step.TheVariants.{Passes, Commits}
use Rattle.fs_linearize_configurations.specs.declared.under_way.UnderWay.{UnderWay}
use Rattle.fs_linearize_configurations.specs.declared.walking.Walk.{Walk}
use Rattle.fs_linearize_configurations.proofs.CallLemmas.{now_can, none_under_way}
use Rattle.fs_linearize_configurations.proofs.WayLemmas.{goes_commit, goes_pass, last_heard}

-- before the first entry
pub walked_first : (start : Start) (h : List Heard) (ss : List Step) (w : Walk) → w.tree ≡ start → w.held.items ≡ [] → w.calls.items ≡ [] → w.at ≡ 0 → IsWalked start h (take 0 ss) w
walked_first start h ss w tree held none zero =
    let first : reached_by w ≡ at_start start =
    ap (λ n. record (reached_by w) { at = n }) zero
    ∙ ap (λ t. record { at = 0; now = t; held = w.held.items }) tree
    ∙ ap (λ ns. record { at = 0; now = start; held = ns }) held in
    record {
      es = [];
      leads = subst (LeadsTo start h []) (sym first) (leads_start start h);
      goes = refl;
      calls = subst (λ n. AreUnderWay h n w.calls.items) (sym zero) (none_under_way h w.calls.items none);
    }

-- a call under way commits
pub walked_commit : (start : Start) (h : List Heard) (ss : List Step) (v w : Walk) (u : UnderWay) (c : ℕ) → Contains v.calls.items u → u.number ≡ c → CanCommitNow (reached_by v) u → reached_by w ≡ committed (reached_by v) u.number u.call.now → w.calls.items ≡ v.calls.items
    → IsWalked start h ss v → IsWalked start h (ss ++ Commits c ∷ []) w
walked_commit start h ss v w u c there number can is same k =
    let done = now_can h (reached_by v) u (k.calls.each u there) can in
    record {
      es = k.es ++ Commit u.number ∷ [];
      leads = subst (LeadsTo start h (k.es ++ Commit u.number ∷ [])) (sym is) (leads_commit start h k.es (reached_by v) u.number u.call.now done k.leads);
      goes = subst (λ n. GoesBy h (ss ++ Commits n ∷ []) (k.es ++ Commit u.number ∷ [])) number (goes_commit h ss k.es u.number k.goes);
      calls = subst (λ n. AreUnderWay h n w.calls.items) (sym (ap (λ (x : Configuration). x.at) is)) (subst (AreUnderWay h v.at) (sym same) k.calls);
    }

-- the next entry passes
pub walked_pass : (start : Start) (h : List Heard) (ss : List Step) (v w : Walk) (e : Heard) → IsHistory h → slice_get h v.at ≡ Some e → HoldsAfter e v.held.items w.held.items → w.at ≡ v.at + 1 → w.tree ≡ v.tree → AreUnderWay h (v.at + 1) w.calls.items
    → IsWalked start h ss v → IsWalked start h (ss ++ Passes ∷ []) w
walked_pass start h ss v w (heard.Begin c seat call) ordered is held place tree calls k =
    let x = reached_by v in
    let e = Begin c seat call in
    let next : reached_by w ≡ passed x =
    ap (λ n. record (reached_by w) { at = n }) place
    ∙ ap (λ t. record { at = v.at + 1; now = t; held = w.held.items }) tree
    ∙ ap (λ ns. record { at = v.at + 1; now = v.tree; held = ns }) held in
    record {
      es = k.es ++ e ∷ [];
      leads = subst (LeadsTo start h (k.es ++ e ∷ [])) (sym next) (leads_begin start h k.es x c seat call ordered is k.leads);
      goes = goes_pass h ss k.es (heard.Begin c seat call) e k.goes (ap (slice_get h) (sym k.leads.place) ∙ is) refl;
      calls = subst (λ n. AreUnderWay h n w.calls.items) (sym place) calls;
    }
walked_pass start h ss v w (heard.Return c p) ordered is held place tree calls k =
    let x = reached_by v in
    let reply = due_held start h k.es x c held.0 k.leads in
    let e = Return c reply.0 in
    let on = leads_return start h k.es x c p reply.0 ordered is held.0 reply.1 k.leads in
    let at = ap (slice_get h) (sym k.leads.place) ∙ is in
    let heard_last = last_heard (history k.es) h e (heard.Return c p) (subst (λ (xs : List Entry). AreHeardIn xs h) (history-append k.es (e ∷ [])) on.explains.heard_as) at in
    let next : reached_by w ≡ returned x c =
    ap (λ n. record (reached_by w) { at = n }) place
    ∙ ap (λ t. record { at = v.at + 1; now = t; held = w.held.items }) tree
    ∙ ap (λ ns. record { at = v.at + 1; now = v.tree; held = ns }) held.1 in
    record {
      es = k.es ++ e ∷ [];
      leads = subst (LeadsTo start h (k.es ++ e ∷ [])) (sym next) on;
      goes = goes_pass h ss k.es (heard.Return c p) e k.goes at heard_last;
      calls = subst (λ n. AreUnderWay h n w.calls.items) (sym place) calls;
    }

-- what is found, where something is
pub entry_there : (h : List Heard) (place : ℕ) (e : Heard) → place < length h → e ≡ get_or h place e → slice_get h place ≡ Some e
entry_there h place e small is = slice_get-get_or h place e small ∙ ap Some (sym is)

pub rest_there : (h : List Heard) (place : ℕ) → take (length h - place) (drop place h) ≡ drop place h
rest_there h place = let long = length-drop place h in take_all (length h - place) (drop place h) (omega (arith, long))

pub held_some : (e : Heard) (held : List ℕ) (after : Vec ℕ Global) (o : Option (Vec ℕ Global)) → o ≡ Some after → IfSome o (λ v. HoldsAfter e held v.items) → HoldsAfter e held after.items
held_some e held after o is k = subst (λ (p : Option (Vec ℕ Global)). IfSome p (λ v. HoldsAfter e held v.items)) is k

-- one step more of those along which a walk goes
pub walked_on : (start : Start) (h : List Heard) (ss : List Step) (i : ℕ) (s : Step) (v w : Walk) (o : Option Walk) → IsHistory h → i < length ss → o ≡ Some w
    → IfSome o (λ to. (from : Start) (some : List Step) → IsHistory h → IsWalked from h some v → IsWalked from h (some ++ get_or ss i s ∷ []) to) → IsWalked start h (take i ss) v → IsWalked start h (take (i + 1) ss) w
walked_on start h ss i s v w o history small is on k =
    let next = subst (λ (p : Option Walk). IfSome p (λ to. (from : Start) (some : List Step) → IsHistory h → IsWalked from h some v → IsWalked from h (some ++ get_or ss i s ∷ []) to)) is on start (take i ss) history k in
    subst (λ (some : List Step). IsWalked start h some w) (sym (take_more ss i s small)) next

-- what has passed all entries explains the history
pub walked_all : (start : Start) (h : List Heard) (ss : List Step) (i : ℕ) (w : Walk) → length ss ≤ i → nat_eq w.at (length h) ≡ true → IsWalked start h (take i ss) w → (es : List Entry) × Explains start h es × GoesBy h ss es
walked_all start h ss i w past at k =
    let front = k.leads.explains in
    let end = k.leads.place in
    let whole : w.at ≡ length h = eqb-true w.at (length h) at in
    (k.es, record { lawful = front.lawful; heard_as = front.heard_as; whole = omega (arith, end, whole) }, subst (λ (some : List Step). GoesBy h some k.es) (take_all i ss past) k.goes)
