-- How many events threads have alone, and turns that are drawn.
use Rattle.std.proofs.Common.{◌≡◌, ℕ, suc, ◌+◌, ◌*◌, ◌-◌, ◌%◌, ◌<◌, ◌≤◌, min, max, List, [], ◌∷◌, ◌++◌, length, map, take, get_or, sum_by, refl, sym, ap, ap₂, ◌∙◌, append-nil, append_assoc, arith}
use Rattle.std.proofs.lemmas.List.{map-append, take_more}
use Rattle.std.proofs.lemmas.List.Sums.{sum_by-append}
use Rattle.std.specs.List.{range_with_len}
use Rattle.fs_calls.specs.Forms.{Form, AtNode, AtEntry, AtPair}
use Rattle.fs_calls.specs.declared.call.Call.{Call}
use Rattle.rand_pcg.specs.Lcg.{Lcg}
use Rattle.rand_pcg.specs.Pcg.{pcg32}
use Rattle.fs_script.specs.declared.script.Word.{Word}
use Rattle.fs_script.specs.declared.script.Word.TheVariants.{Events}
use Rattle.fs_sched.specs.Schedules.{events_of, events_of_call, events_of_all, most_events, to_their_ends, turns_from}
use Rattle.fs_sched.specs.declared.schedule.TheConstants.{DRAW_LIMIT}
use Rattle.fs_sched.proofs.SeedLemmas.{range_last}

-- ---- how many events

pub few_events : (f : Form) → events_of f ≤ 7 + 4 * DRAW_LIMIT
few_events (AtNode c p) = omega arith
few_events (AtEntry c p) = omega arith
few_events (AtPair c p q) = omega arith

-- a sum up to a limit, with one more part
capped : (limit before sum more : ℕ) → before ≡ min limit sum → min (before + more) limit ≡ min limit (sum + more)
capped limit before sum more h = grind arith

pub events_more : (calls : List Call) (i events more : ℕ) (call : Call) → i < length calls → call ≡ get_or calls i call → events ≡ events_of_all (take i calls) → more ≡ events_of_call call
    → min (events + more) DRAW_LIMIT ≡ events_of_all (take (i + 1) calls)
events_more calls i events more call less is e m =
    let one : sum_by events_of_call (call ∷ []) ≡ events_of_call call = omega arith in
    let next : sum_by events_of_call (take (i + 1) calls) ≡ sum_by events_of_call (take i calls) + events_of_call call =
    ap (sum_by events_of_call) (take_more calls i call less) ∙ sum_by-append events_of_call (take i calls) (get_or calls i call ∷ [])
    ∙ ap (λ n. sum_by events_of_call (take i calls) + n) (ap (λ (c : Call). sum_by events_of_call (c ∷ [])) (sym is) ∙ one) in
    capped DRAW_LIMIT events (sum_by events_of_call (take i calls)) more e ∙ ap (min DRAW_LIMIT) (ap (λ n. sum_by events_of_call (take i calls) + n) m ∙ sym next)

most_append : (lists : List (List Call)) (calls : List Call) → most_events (lists ++ calls ∷ []) ≡ max (most_events lists) (events_of_all calls)
most_append [] calls = omega arith
most_append (first ∷ lists) calls = let h : most_events (lists ++ calls ∷ []) ≡ max (most_events lists) (events_of_all calls) = most_append lists calls in omega (arith, h)

-- the most of threads, with one more
pub most_more : {V : Type 0} (f : V → List Call) (xs : List V) (i most more : ℕ) (item : V) → i < length xs → item ≡ get_or xs i item → most ≡ most_events (map f (take i xs)) → more ≡ events_of_all (f item)
    → max most more ≡ most_events (map f (take (i + 1) xs))
most_more f xs i most more item less is e m =
    let next : map f (take (i + 1) xs) ≡ map f (take i xs) ++ f item ∷ [] =
    ap (map f) (take_more xs i item less) ∙ map-append f (take i xs) (get_or xs i item ∷ []) ∙ ap (λ (x : _). map f (take i xs) ++ f x ∷ []) (sym is) in
    ap₂ max e m ∙ sym (most_append (map f (take i xs)) (f item)) ∙ ap most_events (sym next)

-- ---- turns

-- the words so far, from the generator that was on: those that are left come behind them
pub turns_more : (threads most turns left : ℕ) (words more all : List Word) (word : Word) (g h : Lcg) → left ≡ turns + 1 → words ++ turns_from threads most left g ≡ all → turns_from threads most (turns + 1) g ≡ word ∷ turns_from threads most turns h → more ≡ words ++ word ∷ []
    → more ++ turns_from threads most turns h ≡ all
turns_more threads most turns left words more all word g h is so next pushed =
    ap (λ (l : List Word). l ++ turns_from threads most turns h) pushed
    ∙ append_assoc words (word ∷ []) (turns_from threads most turns h)
    ∙ ap (λ (l : List Word). words ++ l) (sym next)
    ∙ ap (λ (k : ℕ). words ++ turns_from threads most k g) (sym is)
    ∙ so

-- one turn: two words are drawn
pub one_turn : (threads most turns seat events : ℕ) (g middle h : Lcg) → seat ≡ (pcg32 g).0 % threads → middle ≡ (pcg32 g).1 → events ≡ (pcg32 middle).0 % most → h ≡ (pcg32 middle).1
    → turns_from threads most (turns + 1) g ≡ Events seat (1 + events) ∷ turns_from threads most turns h
unfolding turns_from
one_turn threads most turns seat events g middle h s m e n =
    let on : turns + 1 ≡ suc turns = omega arith in
    ap (λ (k : ℕ). turns_from threads most k g) on
    ∙ ap₂ (λ (w : Word) (l : List Word). w ∷ l)
    (ap₂ (λ (x y : ℕ). Events x (1 + y)) (sym s) (ap (λ (d : Lcg). (pcg32 d).0 % most) (sym m) ∙ sym e))
    (ap (turns_from threads most turns) (ap (λ (d : Lcg). (pcg32 d).1) (sym m) ∙ sym n))

-- behind the last turn all go to their ends
pub no_turns : (threads most : ℕ) (g : Lcg) → turns_from threads most 0 g ≡ to_their_ends threads most ((pcg32 g).0 % threads)
unfolding turns_from
no_turns threads most g = refl

pub turns_end : (threads most turns counter first by : ℕ) (words middle new all : List Word) (g : Lcg) → turns ≤ counter → by ≡ threads → first ≡ (pcg32 g).0 % by → middle ≡ words ++ map (λ seat. Events seat most) (range_with_len first (threads - first))
    → new ≡ middle ++ map (λ seat. Events seat most) (range_with_len 0 (first - 0)) → words ++ turns_from threads most (turns - counter) g ≡ all → new ≡ all
turns_end threads most turns counter first by words middle new all g over is drawn some pushed so =
    let none : turns - counter ≡ 0 = omega (arith, over) in
    let low : first - 0 ≡ first = omega arith in
    let ends : ℕ → Word = λ seat. Events seat most in
    let both : new ≡ words ++ to_their_ends threads most first =
    pushed ∙ ap₂ (λ (l : List Word) (k : ℕ). l ++ map ends (range_with_len 0 k)) some low
    ∙ append_assoc words (map ends (range_with_len first (threads - first))) (map ends (range_with_len 0 first))
    ∙ ap (λ (l : List Word). words ++ l) (sym (map-append ends (range_with_len first (threads - first)) (range_with_len 0 first))) in
    both ∙ ap (λ (l : List Word). words ++ l) (ap (to_their_ends threads most) (drawn ∙ ap (λ (n : ℕ). (pcg32 g).0 % n) is) ∙ sym (no_turns threads most g) ∙ ap (λ (k : ℕ). turns_from threads most k g) (sym none)) ∙ so

-- ---- to their ends

-- the words of so many threads, with the next one
pub ends_more : (first seat most : ℕ) (old words more : List Word) → first ≤ seat → words ≡ old ++ map (λ seat. Events seat most) (range_with_len first (seat - first)) → more ≡ words ++ Events seat most ∷ []
    → more ≡ old ++ map (λ seat. Events seat most) (range_with_len first ((seat + 1) - first))
ends_more first seat most old words more least so pushed =
    let ends : ℕ → Word = λ seat. Events seat most in
    let on : (seat + 1) - first ≡ suc (seat - first) = omega (arith, least) in
    let here : first + (seat - first) ≡ seat = omega (arith, least) in
    let all : map ends (range_with_len first ((seat + 1) - first)) ≡ map ends (range_with_len first (seat - first)) ++ ends seat ∷ [] =
    ap (λ (k : ℕ). map ends (range_with_len first k)) on ∙ ap (map ends) (range_last first (seat - first)) ∙ map-append ends (range_with_len first (seat - first)) ((first + (seat - first)) ∷ []) ∙ ap (λ (k : ℕ). map ends (range_with_len first (seat - first)) ++ ends k ∷ []) here in
    pushed ∙ ap (λ (l : List Word). l ++ ends seat ∷ []) so ∙ append_assoc old (map ends (range_with_len first (seat - first))) (ends seat ∷ []) ∙ ap (λ (l : List Word). old ++ l) (sym all)

pub no_ends : (first most : ℕ) (old : List Word) → old ≡ old ++ map (λ seat. Events seat most) (range_with_len first (first - first))
no_ends first most old = let none : first - first ≡ 0 = omega arith in sym (ap (λ (k : ℕ). old ++ map (λ seat. Events seat most) (range_with_len first k)) none ∙ append-nil old)

pub ends_all : (first end seat most : ℕ) (old words : List Word) → seat ≡ end → words ≡ old ++ map (λ seat. Events seat most) (range_with_len first (seat - first)) → words ≡ old ++ map (λ seat. Events seat most) (range_with_len first (end - first))
ends_all first end seat most old words is so = so ∙ ap (λ (k : ℕ). old ++ map (λ seat. Events seat most) (range_with_len first (k - first))) is
