-- Timelines that go by steps, and what leads to a configuration.
use Rattle.std.proofs.Common.{◌≡◌, true, ℕ, zero, suc, ◌<◌, ◌≤◌, ◌+◌, ◌-◌, List, [], ◌∷◌, ◌++◌, length, length-append, reverse, get_or, slice_get, Some, refl, sym, ap, ◌∙◌, subst, arith, append_assoc, append-nil}
use Rattle.std.specs.List.{Contains}
use Rattle.std.proofs.lemmas.List.{get_or-map, length-map, reverse-append}
use Rattle.std.proofs.lemmas.Option.{slice_get_within}
use Rattle.fs_calls.proofs.ListLemmas.{slice_get-front, slice_get-seam}
use Rattle.fs_calls.specs.Starts.{Start}
use Rattle.fs_calls.specs.declared.call.Call.{Call}
use Rattle.fs_timeline.specs.declared.entry.Entry.{Entry}
use Rattle.fs_timeline.specs.declared.entry.Entry.TheVariants.{Begin, Commit, Return}
use Rattle.fs_linearizable.specs.Linearizable.{history}
use Rattle.fs_linearizable.proofs.LawfulLemmas.{history-append}
use Rattle.fs_linearize_histories.specs.declared.heard.Heard.{Heard}
use Rattle.fs_linearize_histories.specs.declared.heard.Heard.TheVariants as heard
use Rattle.fs_linearize_histories.specs.declared.heard.Pattern.{Pattern}
use Rattle.fs_linearize_histories.specs.Heard.{IsHeardAs, AreHeardIn}
use Rattle.fs_linearize_histories.specs.Histories.{IsHistory}
use Rattle.fs_linearize_histories.specs.Configurations.{Configuration, at_start, is_in, passed, returned, committed, CanCommit}
use Rattle.fs_linearize_histories.proofs.PathLemmas.{leads_start, leads_begin, leads_commit, leads_return, due_held}
use Rattle.fs_linearize_configurations.specs.code.Ways.{GoesBy, IsLast, GoesBack, IsLedBy, IsLed, Keeps, configurations}
use Rattle.fs_linearize_configurations.specs.declared.reached.Reached.{Reached}
use Rattle.fs_linearize_configurations.specs.declared.steps.Link.{Link}
use Rattle.fs_linearize_configurations.specs.declared.steps.Step.{Step}
use Rattle.fs_linearize_configurations.specs.declared.steps.Step.TheVariants.{Passes, Commits}

-- ---- one step more

pub goes_commit : (h : List Heard) (ss : List Step) (es : List Entry) (c : ℕ) → GoesBy h ss es → GoesBy h (ss ++ Commits c ∷ []) (es ++ Commit c ∷ [])
goes_commit h [] es c g = subst (λ (xs : List Entry). GoesBy h (Commits c ∷ []) (xs ++ Commit c ∷ [])) (sym g) (refl, refl)
goes_commit h (Commits d ∷ ss) [] c g = absurd g
goes_commit h (Commits d ∷ ss) (e ∷ es) c g = (g.0, goes_commit h ss es c g.1)
goes_commit h (Passes ∷ ss) [] c g = absurd g
goes_commit [] (Passes ∷ ss) (e ∷ es) c g = absurd g
goes_commit (x ∷ h) (Passes ∷ ss) (e ∷ es) c g = (g.0, goes_commit h ss es c g.1)

some_heard : (a b : Heard) → Some a ≡ Some b → a ≡ b
some_heard a b same = cc

goes_first : (h : List Heard) (x : Heard) (e : Entry) → slice_get h 0 ≡ Some x → IsHeardAs e x → GoesBy h (Passes ∷ []) (e ∷ [])
goes_first [] x e at k = absurd (cc)
goes_first (y ∷ h) x e at k = (subst (IsHeardAs e) (sym (some_heard y x at)) k, refl)

passed_one : (y : Heard) (f : Entry) (h : List Heard) (es : List Entry) (x : Heard) → IsHeardAs f y → slice_get (y ∷ h) (length (history (f ∷ es))) ≡ Some x → slice_get h (length (history es)) ≡ Some x
passed_one y (Begin c seat call) h es x k at = at
passed_one y (Commit c) h es x k at = absurd k
passed_one y (Return c r) h es x k at = at

pub goes_pass : (h : List Heard) (ss : List Step) (es : List Entry) (x : Heard) (e : Entry) → GoesBy h ss es → slice_get h (length (history es)) ≡ Some x → IsHeardAs e x → GoesBy h (ss ++ Passes ∷ []) (es ++ e ∷ [])
goes_pass h [] es x e g at k = subst (λ (xs : List Entry). slice_get h (length (history xs)) ≡ Some x → GoesBy h (Passes ∷ []) (xs ++ e ∷ [])) (sym g) (λ first. goes_first h x e first k) at
goes_pass h (Commits d ∷ ss) [] x e g at k = absurd g
goes_pass h (Commits d ∷ ss) (f ∷ es) x e g at k = (g.0, goes_pass h ss es x e g.1 (subst (λ (y : Entry). slice_get h (length (history (y ∷ es))) ≡ Some x) g.0 at) k)
goes_pass h (Passes ∷ ss) [] x e g at k = absurd g
goes_pass [] (Passes ∷ ss) (f ∷ es) x e g at k = absurd g
goes_pass (y ∷ h) (Passes ∷ ss) (f ∷ es) x e g at k = (g.0, goes_pass h ss es x e g.1 (passed_one y f h es x g.0 at) k)

-- ---- the way back

last_kept : (old more : List Link) (at last : ℕ) (link : Link) → IsLast old at last link → IsLast (old ++ more) at last link
last_kept old more at last link k = record {
  some = k.some;
  is = slice_get-front old more (last - 1) (slice_get_within old (last - 1) link k.is) ∙ k.is;
  place = k.place;
  earlier = k.earlier;
}

back_kept : (old more : List Link) (at last : ℕ) (ss : List Step) → GoesBack old at last ss → GoesBack (old ++ more) at last ss
back_kept old more at last [] k = k
back_kept old more at last (Passes ∷ ss) k = (k.0, k.1, back_kept old more k.0 last ss k.2)
back_kept old more at last (Commits c ∷ ss) k = (k.0, last_kept old more at last k.0 k.1, k.2, back_kept old more at k.0.before ss k.3)

pub keeps_same : (links : List Link) → Keeps links links
keeps_same links start h x last l = l

pub keeps_on : (a b c : List Link) → Keeps a b → Keeps b c → Keeps a c
keeps_on a b c e f start h x last l = f start h x last (e start h x last l)

pub keeps_push : (old new : List Link) (link : Link) → new ≡ old ++ link ∷ [] → Keeps old new
keeps_push old new link is start h x last l =
    subst (λ (ls : List Link). IsLedBy start h ls x last) (sym is)
    (record { es = l.es; steps = l.steps; leads = l.leads; back = back_kept old (link ∷ []) x.at last l.steps l.back; goes = l.goes })

-- the last commit of a way is in the list
within : (links : List Link) (at last : ℕ) (ss : List Step) → GoesBack links at last ss → last ≤ length links
within links at last [] k = let none = k.1 in omega (arith, none)
within links at last (Passes ∷ ss) k = within links k.0 last ss k.2
within links at last (Commits c ∷ ss) k = let small = slice_get_within links (last - 1) k.0 k.1.is in omega (arith, small)

some_link : (a b : Link) → Some a ≡ Some b → a ≡ b
some_link a b same = cc

-- it is not ahead of the place of the way
not_ahead : (links : List Link) (at last : ℕ) (ss : List Step) (link : Link) → GoesBack links at last ss → 0 < last → slice_get links (last - 1) ≡ Some link → link.at ≤ at
not_ahead links at last [] link k some is = let none = k.1 in absurd (omega (arith, none, some))
not_ahead links at last (Passes ∷ ss) link k some is = let before = not_ahead links k.0 last ss link k.2 some is in let more = k.1 in omega (arith, before, more)
not_ahead links at last (Commits c ∷ ss) link k some is =
    let same : k.0 ≡ link = some_link k.0 link (sym k.1.is ∙ is) in
    let place : link.at ≡ at = ap (λ (l : Link). l.at) (sym same) ∙ k.1.place in
    omega (arith, place)

pub goes_back_none : (links : List Link) (at last : ℕ) → at ≡ 0 → ((link : Link) → IsLast links at last link → ⊥) → (ss : List Step) → GoesBack links at last ss → ss ≡ []
goes_back_none links at last zeros none [] k = refl
goes_back_none links at last zeros none (Passes ∷ ss) k = let more = k.1 in absurd (omega (arith, more, zeros))
goes_back_none links at last zeros none (Commits c ∷ ss) k = absurd (none k.0 k.1)

pub goes_back_commit : (links : List Link) (at last : ℕ) (link : Link) → IsLast links at last link → (ss : List Step) → GoesBack links at last ss → (rest : List Step) × (ss ≡ Commits link.number ∷ rest) × GoesBack links at link.before rest
goes_back_commit links at last link is [] k = let none = k.1 in let some = is.some in absurd (omega (arith, none, some))
goes_back_commit links at last link is (Passes ∷ ss) k =
    let before = not_ahead links k.0 last ss link k.2 is.some is.is in
    let more = k.1 in
    let place = is.place in
    absurd (omega (arith, before, more, place))
goes_back_commit links at last link is (Commits c ∷ ss) k =
    let same : k.0 ≡ link = some_link k.0 link (sym k.1.is ∙ is.is) in
    let number : c ≡ link.number = sym k.2 ∙ ap (λ (l : Link). l.number) same in
    (ss, ap (λ n. Commits n ∷ ss) number, subst (λ n. GoesBack links at n ss) (ap (λ (l : Link). l.before) same) k.3)

pub goes_back_pass : (links : List Link) (at last before : ℕ) → before + 1 ≡ at → ((link : Link) → IsLast links at last link → ⊥) → (ss : List Step) → GoesBack links at last ss → (rest : List Step) × (ss ≡ Passes ∷ rest) × GoesBack links before last rest
goes_back_pass links at last before one none [] k = let zeros = k.0 in absurd (omega (arith, zeros, one))
goes_back_pass links at last before one none (Passes ∷ ss) k =
    let same : k.0 ≡ before = let more = k.1 in omega (arith, more, one) in
    (ss, refl, subst (λ n. GoesBack links n last ss) same k.2)
goes_back_pass links at last before one none (Commits c ∷ ss) k = absurd (none k.0 k.1)

-- the way that is read so far, and what is left of it
pub read_more : (links : List Link) (at last at2 last2 : ℕ) (old new ss : List Step) (s : Step) → new ≡ old ++ s ∷ []
    → ((rest : List Step) → GoesBack links at last rest → (left : List Step) × (rest ≡ s ∷ left) × GoesBack links at2 last2 left)
    → ((rest : List Step) × (ss ≡ old ++ rest) × GoesBack links at last rest) → (rest : List Step) × (ss ≡ new ++ rest) × GoesBack links at2 last2 rest
read_more links at last at2 last2 old new ss s pushed split k =
    let more = split k.0 k.2 in
    (more.0, k.1 ∙ ap (λ xs. old ++ xs) more.1 ∙ sym (append_assoc old (s ∷ []) more.0) ∙ ap (λ xs. xs ++ more.0) (sym pushed), more.2)

pub read_all : (links : List Link) (at last : ℕ) (read ss : List Step) → ((rest : List Step) → GoesBack links at last rest → rest ≡ [])
    → ((rest : List Step) × (ss ≡ read ++ rest) × GoesBack links at last rest) → read ≡ ss
read_all links at last read ss none k = sym (k.1 ∙ ap (λ xs. read ++ xs) (none k.0 k.2) ∙ append-nil read)

-- ---- what leads to a configuration

last_first : (s : Step) (ss : List Step) → reverse (s ∷ ss) ≡ reverse ss ++ s ∷ []
last_first s ss = reverse-append (s ∷ []) ss

pub led_start : (start : Start) (h : List Heard) (links : List Link) (r : Reached) → r.configuration ≡ at_start start → r.last ≡ 0 → IsLed start h links r
led_start start h links r first none =
    subst (λ x. IsLedBy start h links x r.last) (sym first)
    (subst (λ n. IsLedBy start h links (at_start start) n) (sym none) (record { es = []; steps = []; leads = leads_start start h; back = (refl, refl); goes = refl }))

-- a commit is pushed behind those of a way
pub led_commit : (start : Start) (h : List Heard) (old new : List Link) (x : Configuration) (last : ℕ) (link : Link) (call : Call) → new ≡ old ++ link ∷ [] → link.at ≡ x.at → link.before ≡ last → CanCommit h x link.number call → IsLedBy start h old x last
    → IsLedBy start h new (committed x link.number call) (length new)
led_commit start h old new x last link call pushed place before can l =
    let long : length new ≡ length old + 1 = ap length pushed ∙ length-append old (link ∷ []) in
    let small = within old x.at last l.steps l.back in
    let there : length new - 1 ≡ length old = omega (arith, long) in
    record {
      es = l.es ++ Commit link.number ∷ [];
      steps = Commits link.number ∷ l.steps;
      leads = leads_commit start h l.es x link.number call can l.leads;
      back = (
        link,
        record {
          some = omega (arith, long);
          is = ap (λ (ls : List Link). slice_get ls (length new - 1)) pushed ∙ ap (slice_get (old ++ link ∷ [])) there ∙ slice_get-seam old link;
          place = place;
          earlier = omega (arith, long, small, before);
        },
        refl,
        subst (λ (ls : List Link). GoesBack ls x.at link.before l.steps) (sym pushed) (subst (λ n. GoesBack (old ++ link ∷ []) x.at n l.steps) (sym before) (back_kept old (link ∷ []) x.at last l.steps l.back)),
      );
      goes = subst (λ (ss : List Step). GoesBy h ss (l.es ++ Commit link.number ∷ [])) (sym (last_first (Commits link.number) l.steps)) (goes_commit h (reverse l.steps) l.es link.number l.goes);
    }

pub led_begin : (start : Start) (h : List Heard) (links : List Link) (x : Configuration) (last c seat : ℕ) (call : Call) → IsHistory h → slice_get h x.at ≡ Some (heard.Begin c seat call) → IsLedBy start h links x last → IsLedBy start h links (passed x) last
led_begin start h links x last c seat call history is l =
    let on = goes_pass h (reverse l.steps) l.es (heard.Begin c seat call) (Begin c seat call) l.goes (ap (slice_get h) (sym l.leads.place) ∙ is) refl in
    record {
      es = l.es ++ Begin c seat call ∷ [];
      steps = Passes ∷ l.steps;
      leads = leads_begin start h l.es x c seat call history is l.leads;
      back = (x.at, refl, l.back);
      goes = subst (λ (ss : List Step). GoesBy h ss (l.es ++ Begin c seat call ∷ [])) (sym (last_first Passes l.steps)) on;
    }

pub last_heard : (es : List Entry) (g : List Heard) (e : Entry) (x : Heard) → AreHeardIn (es ++ e ∷ []) g → slice_get g (length es) ≡ Some x → IsHeardAs e x
last_heard [] [] e x k at = absurd k
last_heard [] (y ∷ g) e x k at = subst (IsHeardAs e) (some_heard y x at) k.0
last_heard (f ∷ es) [] e x k at = absurd k
last_heard (f ∷ es) (y ∷ g) e x k at = last_heard es g e x k.1 at

pub led_return : (start : Start) (h : List Heard) (links : List Link) (x : Configuration) (last c : ℕ) (p : Pattern) → IsHistory h → slice_get h x.at ≡ Some (heard.Return c p) → is_in c x.held ≡ true → IsLedBy start h links x last
    → IsLedBy start h links (returned x c) last
led_return start h links x last c p ordered is held l =
    let reply = due_held start h l.es x c held l.leads in
    let e = Return c reply.0 in
    let on = leads_return start h l.es x c p reply.0 ordered is held reply.1 l.leads in
    let at = ap (slice_get h) (sym l.leads.place) ∙ is in
    let heard_last = last_heard (history l.es) h e (heard.Return c p) (subst (λ (xs : List Entry). AreHeardIn xs h) (history-append l.es (e ∷ [])) on.explains.heard_as) at in
    record {
      es = l.es ++ e ∷ [];
      steps = Passes ∷ l.steps;
      leads = on;
      back = (x.at, refl, l.back);
      goes = subst (λ (ss : List Step). GoesBy h ss (l.es ++ e ∷ [])) (sym (last_first Passes l.steps)) (goes_pass h (reverse l.steps) l.es (heard.Return c p) e l.goes at heard_last);
    }

-- ---- configurations of what was reached

pub contains_configuration : (seen : List Reached) (r : Reached) → Contains seen r → Contains (configurations seen) r.configuration
contains_configuration seen r k =
    let many = length-map seen (λ (s : Reached). s.configuration) in
    (k.0, omega (arith, many, k.1), get_or-map (λ (s : Reached). s.configuration) seen k.0 r r.configuration k.1 ∙ ap (λ (s : Reached). s.configuration) k.2)

contains_at : (seen : List Reached) (x : Configuration) (i : ℕ) → i < length (configurations seen) → get_or (configurations seen) i x ≡ x → (r : Reached) × Contains seen r × (r.configuration ≡ x)
contains_at [] x i small is = absurd (omega (arith, small))
contains_at (r ∷ seen) x zero small is = (r, (0, omega arith, refl), is)
contains_at (r ∷ seen) x (suc i) small is =
    let found = contains_at seen x i (omega (arith, small)) is in
    (found.0, (suc found.1.0, omega (arith, found.1.1), found.1.2), found.2)

pub contains_way : (seen : List Reached) (x : Configuration) → Contains (configurations seen) x → (r : Reached) × Contains seen r × (r.configuration ≡ x)
contains_way seen x k = contains_at seen x k.0 k.1 k.2
