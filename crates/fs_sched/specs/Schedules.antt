-- The order of events by each schedule.
use Rattle.std.specs.Prelude.{ℕ, zero, suc, ◌+◌, ◌-◌, ◌*◌, ◌%◌, min, max, Bool, true, false, List, [], ◌∷◌, ◌++◌, length, map, get_or, if◌then◌else◌}
use Rattle.std.specs.List.{list_any, filter, range_with_len, sum_by}
use Rattle.rand_core.specs.Pcg32Seed.{pcg32_seed}
use Rattle.rand_core.specs.Steps.{first_words}
use Rattle.rand_pcg.specs.Lcg.{Lcg}
use Rattle.rand_pcg.specs.Pcg.{pcg32, pcg32_of_seed}
use Rattle.fs_calls.specs.Forms.{Form, AtNode, AtEntry, AtPair, form}
use Rattle.fs_calls.specs.declared.call.Call.{Call}
use Rattle.fs_names.specs.declared.limits.Limits.TheVariants.{V1}
use Rattle.fs_script.specs.declared.script.Word.{Word}
use Rattle.fs_script.specs.declared.script.Word.TheVariants.{Events, Checkpoint, Finish, Drawn}
use Rattle.fs_sched.specs.declared.schedule.Schedule.{Schedule}
use Rattle.fs_sched.specs.declared.schedule.Schedule.TheVariants.{Given, RoundRobin, Seeded, Priorities}
use Rattle.fs_sched.specs.declared.policy.Policy.{Policy}
use Rattle.fs_sched.specs.declared.policy.Policy.TheVariants as policy
use Rattle.fs_sched.specs.declared.schedule.TheConstants.{DRAW_LIMIT}

-- whether rounds to the end follow a word
abbrev pub is_finish : Word → Bool
is_finish (Events seat times) = false
is_finish Checkpoint = false
is_finish Finish = true
is_finish Drawn = true

-- whether a word leaves what comes after it to the schedule of a run
abbrev pub is_drawn : Word → Bool
is_drawn (Events seat times) = false
is_drawn Checkpoint = false
is_drawn Finish = false
is_drawn Drawn = true

-- whether a word gives events of a thread
abbrev pub is_events : Word → Bool
is_events (Events seat times) = true
is_events Checkpoint = false
is_events Finish = false
is_events Drawn = false

-- whether the last word is `!drawn`
abbrev pub ends_drawn : List Word → Bool
ends_drawn words = is_drawn (get_or words (length words - 1) Finish)

-- the words that prepare a run: those that give events, if the last word is `!drawn`; else none
abbrev pub prepared : List Word → List Word
prepared words = if ends_drawn words then filter is_events words else []

-- the generator that is made of a number
abbrev pub generator_of : ℕ → Lcg
generator_of n = pcg32_of_seed (pcg32_seed 16 n)

-- the thread that a drawn word names
abbrev pub seat_of : ℕ → ℕ → ℕ
seat_of threads word = word % threads

-- the seats of the first k words from a generator on
unfoldable pub seats_from : ℕ → ℕ → Lcg → List ℕ
seats_from threads k g = map (seat_of threads) (first_words pcg32 k g)

-- the first k seats that are drawn from a number
abbrev pub drawn_seats : ℕ → ℕ → ℕ → List ℕ
drawn_seats n threads k = seats_from threads k (generator_of n)

-- one event of a thread, as a word
abbrev pub one_event : ℕ → Word
one_event seat = Events seat 1

-- ---- turns by priorities

-- how many events a call has if no other thread is there, at most: its begin, its return and what it does between, and two for each node that it walks
abbrev pub events_of : Form → ℕ
events_of (AtNode c p) = 5 + 2 * min DRAW_LIMIT (length p)
events_of (AtEntry c p) = 5 + 2 * min DRAW_LIMIT (length p)
events_of (AtPair c p q) = 7 + 2 * (min DRAW_LIMIT (length p) + min DRAW_LIMIT (length q))

abbrev pub events_of_call : Call → ℕ
events_of_call call = events_of (form V1 call)

-- the same of the calls of a thread, up to the most draws
abbrev pub events_of_all : List Call → ℕ
events_of_all calls = min DRAW_LIMIT (sum_by events_of_call calls)

-- and of the thread that has most; at least one
abbrev pub most_events : List (List Call) → ℕ
most_events [] = 1
most_events (calls ∷ lists) = max (events_of_all calls) (most_events lists)

-- each thread goes to its end, one after the other, from one on round about
abbrev pub to_their_ends : ℕ → ℕ → ℕ → List Word
to_their_ends threads most first = map (λ seat. Events seat most) (range_with_len first (threads - first) ++ range_with_len 0 first)

-- so many turns: two words of the generator draw each, one the thread and one how many events it has; then all go to their ends, from a drawn one on
unfoldable pub turns_from : ℕ → ℕ → ℕ → Lcg → List Word
turns_from threads most zero g = to_their_ends threads most ((pcg32 g).0 % threads)
turns_from threads most (suc turns) g = Events ((pcg32 g).0 % threads) (1 + (pcg32 (pcg32 g).1).0 % most) ∷ turns_from threads most turns (pcg32 (pcg32 g).1).1

-- the turns by priorities of a depth that are drawn from a number: one less than the depth
abbrev pub turns_by : List (List Call) → ℕ → ℕ → List Word
turns_by [] depth n = []
turns_by (calls ∷ lists) depth n = turns_from (length (calls ∷ lists)) (most_events (calls ∷ lists)) (depth - 1) (generator_of n)

-- ---- words

-- the words before rounds to the end: those of the script, or those that prepare the run, then an event of each thread that is drawn, or the turns that are
abbrev pub words_by : Schedule → List Word → List (List Call) → List Word
words_by Given words lists = words
words_by RoundRobin words lists = prepared words
words_by (Seeded n) words lists = prepared words ++ map one_event (drawn_seats n (length lists) DRAW_LIMIT)
words_by (Priorities depth n) words lists = prepared words ++ turns_by lists depth n

-- whether rounds to the end follow
abbrev pub goes_on : Schedule → List Word → Bool
goes_on Given words = list_any is_finish words
goes_on RoundRobin words = true
goes_on (Seeded n) words = true
goes_on (Priorities depth n) words = true

-- the schedule that is drawn from a number by a policy
abbrev pub schedule_by : Policy → ℕ → Schedule
schedule_by policy.Uniform n = Seeded n
schedule_by (policy.Priorities depth) n = Priorities depth n
