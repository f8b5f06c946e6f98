-- What a begin rests on and leaves.
use Rattle.std.proofs.Common.{◌≡◌, ℕ, ◌+◌, ◌-◌, ◌^◌, ◌<◌, ◌≤◌, Bool, true, false, cond, eqb, List, [], ◌∷◌, ◌++◌, Option, Some, None, length, get_or, refl, sym, ap, ◌∙◌, arith, subst}
use Rattle.std.specs.Prelude.{slice_get, slice_set, IsSome, IfSome, is_some, Ok, Err}
use mathlib.Core.Path.{fun_ext}
use Rattle.std.proofs.lemmas.Option.{slice_get_within, slice_get_read}
use Rattle.fs_names.specs.Limits.{in_blocks}
use Rattle.fs_names.specs.declared.limits.Limits.{Limits}
use Rattle.fs_names.specs.declared.limits.Limits.TheVariants.{V1}
use Rattle.fs_names.specs.declared.limits.TheConstants.{NODE_LIMIT}
use Rattle.fs_names.specs.Shapes.{Shape, Dir, File, is_there, has_entries}
use Rattle.fs_calls.specs.Starts.{Start}
use Rattle.fs_calls.specs.Forms.{form, Form, AtNode, AtEntry, AtPair, new_shape, reserves, reserved_by, EntryCall, Mkdir, Mknod, Unlink, Rmdir}
use Rattle.fs_calls.specs.declared.call.Call.{Call}
use Rattle.fs_nodes.specs.Graphs.{Graph, IsGraph, set_at, reserved_in, released_in}
use Rattle.fs_nodes.specs.Stores.{Places}
use Rattle.fs_nodes.specs.Seen.{seen}
use Rattle.fs_nodes.specs.Stores.{graph_of}
use Rattle.fs_locks.specs.Holding.{Holding, holder, room}
use Rattle.fs_locks.specs.declared.word.TheConstants.{CALL_LIMIT}
use Rattle.fs_timeline.specs.declared.entry.Entry.{Entry}
use Rattle.fs_timeline.specs.declared.entry.Entry.TheVariants.{Begin, Commit, Return}
use Rattle.fs_machine.specs.Leaving.{unreserved}
use Rattle.fs_machine.specs.OpValues.{OpValue, new_value, record_of, BegunAs, IsSpare, SpareIf}
use Rattle.fs_timeline.specs.Timeline.{begins, TimelineValue}
use Rattle.fs_machine.specs.States.{IsStart, fresh, began, Reserves, Begins, Run, Starting, Beginning}
use Rattle.fs_machine.specs.declared.answers.Refusal.TheVariants.{SeatBusy}
use Rattle.fs_laws.proofs.states.Agreement.{not_begun}
use Rattle.fs_laws.proofs.states.Headline.{run_keeps}
use Rattle.fs_laws.proofs.graphs.Walks.{eqb_refl, eqb_true}
use Rattle.fs_core.specs.Events.{HasRoom}
use Rattle.fs_core_seats.specs.declared.seat.Running.{Running}
use Rattle.fs_core.specs.CoreValues.{CoreValue, state_of}
use Rattle.fs_core_seats.specs.Seats.{number_on, number_of, records}
use Rattle.fs_core_seats.specs.code.Searches.{AreBelow}
use Rattle.fs_core_seats.specs.code.Owed.{walking, walking_at, owed_at, owed}
use Rattle.fs_core.specs.code.Rooms.{IsKept}
use Rattle.fs_core_seats.proofs.SeatLemmas.{records_begun, records_more, numbers_set, numbers_more, number_read, owed_set, owed_more, walking_set, walking_more}
use Rattle.fs_core.proofs.Keeping.{keep_begun, keep_more, keep_none}
use Rattle.fs_core.proofs.States.{same_state, begins_more, commits_begin}

-- each call that has begun has its entry
pub few_begins : (es : List Entry) → begins es ≤ length es
few_begins [] = omega arith
few_begins (Begin n seat call ∷ es) = let l : begins es ≤ length es = few_begins es in omega (arith, l)
few_begins (Commit n ∷ es) = let l : begins es ≤ length es = few_begins es in omega (arith, l)
few_begins (Return n r ∷ es) = let l : begins es ≤ length es = few_begins es in omega (arith, l)

-- and with places for more in a vector, one call more can hold a node
pub number_fits : (old new : TimelineValue) (places begun : ℕ) → begun ≡ begins old.entries → new ≡ record old { reserved = places } → length new.entries + new.reserved < 2 ^ 63 → begun + 1 < CALL_LIMIT
number_fits old new places begun counted is few =
    let l : begins old.entries ≤ length old.entries = few_begins old.entries in
    let same : length new.entries ≡ length old.entries = ap (λ (t : TimelineValue). length t.entries) is in
    omega (arith, l, same, few, counted)

-- a number that a begin has reserved is below the limit
pub reserved_below : (graph new : Graph) (limit : ℕ) (limits : Limits) (call : Call) (w : OpValue) → limit ≤ NODE_LIMIT → BegunAs graph limit limits call (reserved_by call) w new → IfSome w.reserved (λ n. n < NODE_LIMIT)
reserved_below graph new limit limits call w most b = go (reserved_by call) b
  where
    go : (o : Option Shape) → BegunAs graph limit limits call o w new → IfSome w.reserved (λ n. n < NODE_LIMIT)
    go None (is_w, is_new) = subst (λ (r : Option ℕ). IfSome r (λ n. n < NODE_LIMIT)) (sym (ap (λ (x : OpValue). x.reserved) is_w)) tt
    go (Some shape) (m, less, free, is_w, is_new) = subst (λ (r : Option ℕ). IfSome r (λ n. n < NODE_LIMIT)) (sym (ap (λ (x : OpValue). x.reserved) is_w)) (omega (arith, less, most))

-- a kind's node is empty
new_empty : (c : EntryCall) (shape : Shape) → new_shape c ≡ Some shape → has_entries (Some shape) ≡ false
new_empty (Mkdir most) shape e = let z : Dir [] ≡ shape = cc in ap (λ (s : Shape). has_entries (Some s)) (sym z)
new_empty (Mknod most) shape e = let z : File [] ≡ shape = cc in ap (λ (s : Shape). has_entries (Some s)) (sym z)
new_empty Unlink shape e = cc
new_empty Rmdir shape e = cc

reserves_empty : (f : Form) (shape : Shape) → reserves f ≡ Some shape → has_entries (Some shape) ≡ false
reserves_empty (AtNode c p) shape e = cc
reserves_empty (AtEntry c []) shape e = cc
reserves_empty (AtEntry c (x ∷ p)) shape e = new_empty c shape e
reserves_empty (AtPair c p q) shape e = cc

set_here : {A : Type 0} (n : ℕ) (v : A) (f : ℕ → A) → set_at n v f n ≡ v
set_here n v f = ap (λ (b : Bool). cond b v (f n)) (eqb_refl n)

-- a number that was not in use is spare where a call reserved it
spare_new : (graph : Graph) (n : ℕ) (shape : Shape) → IsGraph graph → graph.shape n ≡ None → has_entries (Some shape) ≡ false → IsSpare (reserved_in n shape graph) n
spare_new graph n shape is free bare = record {
  used = ap is_there (set_here n (Some shape) graph.shape);
  unlinked = λ dir name e. (let s : (s : Shape) × (graph.shape n ≡ Some s) = is.to_used dir n name e in let z : ◌≡◌ {A = Option Shape} None (Some s.0) = sym free ∙ s.1 in cc);
  not_root = λ e. (let z : ◌≡◌ {A = Option Shape} None (Some (Dir is.root.0)) = sym free ∙ ap graph.shape e ∙ is.root.1 in cc);
  empty = ap has_entries (set_here n (Some shape) graph.shape) ∙ bare;
}

-- and its release undoes that
unreserve : (graph : Graph) (n : ℕ) (shape : Shape) → graph.shape n ≡ None → released_in n (reserved_in n shape graph) ≡ graph
unreserve graph n shape free = ap (λ (f : ℕ → Option Shape). with_shapes f) (fun_ext (λ m. go m (eqb m n) refl))
  where
    with_shapes : (ℕ → Option Shape) → Graph
    with_shapes f = record { child = graph.child; shape = f }

    go : (m : ℕ) (b : Bool) → eqb m n ≡ b → cond b None (cond b (Some shape) (graph.shape m)) ≡ graph.shape m
    go m true e = sym free ∙ ap graph.shape (sym (eqb_true m n e))
    go m false e = refl

pub cancel_spare : (graph new : Graph) (limit : ℕ) (limits : Limits) (call : Call) (w : OpValue) → IsGraph graph → BegunAs graph limit limits call (reserved_by call) w new → SpareIf new w.reserved
cancel_spare graph new limit limits call w is b = go (reserved_by call) refl b
  where
    go : (o : Option Shape) → reserved_by call ≡ o → BegunAs graph limit limits call o w new → SpareIf new w.reserved
    go None e (is_w, is_new) n f = let z : ◌≡◌ {A = Option ℕ} None (Some n) = ap (λ (x : OpValue). x.reserved) (sym is_w) ∙ f in cc
    go (Some shape) e (m, less, free, is_w, is_new) n f =
        let z : ◌≡◌ {A = Option ℕ} (Some m) (Some n) = ap (λ (x : OpValue). x.reserved) (sym is_w) ∙ f in
        let y : m ≡ n = cc in
        subst (IsSpare new) y (subst (λ (g : Graph). IsSpare g m) (sym is_new) (spare_new graph m shape is free (reserves_empty (form V1 call) shape e)))

pub cancel_start : (graph new : Graph) (limit : ℕ) (limits : Limits) (call : Call) (w : OpValue) → BegunAs graph limit limits call (reserved_by call) w new → w.holdings ≡ None
cancel_start graph new limit limits call w b = go (reserved_by call) b
  where
    go : (o : Option Shape) → BegunAs graph limit limits call o w new → w.holdings ≡ None
    go None (is_w, is_new) = ap (λ (x : OpValue). x.holdings) is_w
    go (Some shape) (m, less, free, is_w, is_new) = ap (λ (x : OpValue). x.holdings) is_w

pub cancel_graph : (graph new last : Graph) (limit : ℕ) (limits : Limits) (call : Call) (w : OpValue) → BegunAs graph limit limits call (reserved_by call) w new → last ≡ unreserved w.reserved new → last ≡ graph
cancel_graph graph new last limit limits call w b e = go (reserved_by call) b
  where
    go : (o : Option Shape) → BegunAs graph limit limits call o w new → last ≡ graph
    go None (is_w, is_new) = e ∙ ap (λ (x : OpValue). unreserved x.reserved new) is_w ∙ is_new
    go (Some shape) (m, less, free, is_w, is_new) = e ∙ ap (λ (x : OpValue). unreserved x.reserved new) is_w ∙ ap (released_in m) is_new ∙ unreserve graph m shape free

-- the count of refusals is no part of what is kept
pub counted : (m : CoreValue) (b k p refusals : ℕ) → IsKept m b k p → IsKept (record m { refusals = refusals }) b k p
counted m b k p refusals kept = record {
  run = kept.run;
  limited = kept.limited;
  form = kept.form;
  limits = kept.limits;
  roomy = kept.roomy;
  begun_is = kept.begun_is;
  few = kept.few;
  commits_is = kept.commits_is;
  within = kept.within;
  owed_is = kept.owed_is;
}

-- a begin that is refused
pub refused_same : (m : CoreValue) (b k p : ℕ) → IsKept m b k p → (st : Places) (hs : Holding) → graph_of st ≡ graph_of m.store → (seen st).limit ≡ (seen m.store).limit → (seen st).in_blocks ≡ (seen m.store).in_blocks → holder hs ≡ holder m.holding → room m.holding ≤ room hs
    → (state_of (record m { store = st; holding = hs }) ≡ state_of m) × IsKept (record m { store = st; holding = hs }) b k p
refused_same m b k p kept st hs graph limit blocks is_hs more = (
  same,
  record {
    run = subst Run (sym same) kept.run;
    limited = omega (arith, limit, kept.limited);
    form = blocks ∙ kept.form;
    limits = kept.limits;
    roomy = λ n s e. (let less : n < room m.holding = kept.roomy n s (ap (λ (g : Graph). g.shape n) (sym graph) ∙ e) in omega (arith, less, more));
    begun_is = kept.begun_is;
    few = kept.few;
    commits_is = kept.commits_is;
    within = kept.within;
    owed_is = kept.owed_is;
  },
)
  where
    same : state_of (record m { store = st; holding = hs }) ≡ state_of m
    same = same_state _ _ _ _ _ _ _ _ _ _ _ _ limit graph is_hs refl refl

pub seat_busy_step : (m : CoreValue) (seat : ℕ) (call : Call) (slot : Option Running) → seat < length m.seats → slot ≡ get_or m.seats seat slot → IsSome slot → Begins (state_of m) seat call (Err SeatBusy) (state_of m)
seat_busy_step m seat call slot within read some = go slot refl some
  where
    go : (o : Option Running) → slot ≡ o → IsSome o → Begins (state_of m) seat call (Err SeatBusy) (state_of m)
    go None e h = cc
    go (Some r) e h = (r.call, number_read m.seats seat slot (slice_get_read m.seats _ seat slot refl within read) ∙ ap number_of e, refl)

pub free_seat : (m : CoreValue) (seat : ℕ) (slot : Option Running) → seat < length m.seats → slot ≡ get_or m.seats seat slot → slot ≡ None → slice_get m.seats seat ≡ Some None
free_seat m seat slot within read is = slice_get_read m.seats _ seat slot refl within read ∙ ap (λ (o : Option Running). Some o) is

-- a call that begins
begun_roomy : (m : CoreValue) (b k p : ℕ) → IsKept m b k p → (call : Call) (st : Places) (hs : Holding) (w : OpValue) (o : Option Shape) → BegunAs (graph_of m.store) (seen m.store).limit m.start.limits call o w (graph_of st) → HasRoom w.reserved hs → room m.holding ≤ room hs → AreBelow (graph_of st) (room hs)
begun_roomy m b k p kept call st hs w None (is_w, is_new) has more n s e = let less : n < room m.holding = kept.roomy n s (ap (λ (g : Graph). g.shape n) (sym is_new) ∙ e) in omega (arith, less, more)
begun_roomy m b k p kept call st hs w (Some shape) (c, below, free, is_w, is_new) has more n s e = go (eqb n c) refl (ap (λ (g : Graph). g.shape n) (sym is_new) ∙ e)
  where
    go : (t : Bool) → eqb n c ≡ t → cond t (Some shape) ((graph_of m.store).shape n) ≡ Some s → n < room hs
    go true f g = subst (λ (x : ℕ). x < room hs) (sym (eqb_true n c f)) (has c (ap (λ (x : OpValue). x.reserved) is_w))
    go false f g = let less : n < room m.holding = kept.roomy n s g in omega (arith, less, more)

pub begun_kept : (m : CoreValue) (b k p seat : ℕ) (call : Call) → IsKept m b k p → slice_get m.seats seat ≡ Some None
    → (st : Places) (hs : Holding) (w : OpValue) (number : ℕ) (copy : Call) (slot : Option Running) → BegunAs (graph_of m.store) (seen m.store).limit m.start.limits call (reserved_by call) w (graph_of st) → (seen st).limit ≡ (seen m.store).limit → (seen st).in_blocks ≡ (seen m.store).in_blocks
    → holder hs ≡ holder m.holding → room m.holding ≤ room hs → HasRoom w.reserved hs → number ≡ b + 1 → number < CALL_LIMIT → copy ≡ call → slot ≡ Some (record { call = number; place = None; op = w })
    → Begins (state_of m) seat call (Ok number) (state_of (record m { store = st; holding = hs; seats = slice_set m.seats seat slot; timeline = m.timeline ++ Begin number seat copy ∷ [] })) × IsKept (record m { store = st; holding = hs; seats = slice_set m.seats seat slot; timeline = m.timeline ++ Begin number seat copy ∷ [] }) number k (p + 3 - 1)
begun_kept m b k p seat call kept free st hs w number copy slot begun limit blocks is_hs more has is_number few is_copy is = (
  step,
  record {
    run = Beginning seat call (Ok number) _ kept.run step;
    limited = omega (arith, limit, kept.limited);
    form = blocks ∙ kept.form;
    limits = keep_begun m.start.limits m.seats seat (record { call = number; place = None; op = w }) slot kept.limits free is (by_limits (reserved_by call) begun);
    roomy = begun_roomy m b k p kept call st hs w (reserved_by call) begun has more;
    begun_is = is_number ∙ ap (λ (n : ℕ). n + 1) kept.begun_is ∙ sym (begins_more m.timeline number seat copy);
    few = few;
    commits_is = kept.commits_is ∙ sym (commits_begin m.timeline number seat copy);
    within = omega (arith, walking_set m.seats seat None slot free, after.1, kept.within, is_number);
    owed_is = omega (arith, owed_set m.seats seat None slot free, after.0, kept.owed_is);
  },
)
  where
    M : CoreValue
    M = record m { store = st; holding = hs; seats = slice_set m.seats seat slot; timeline = m.timeline ++ Begin number seat copy ∷ [] }

    fresh : (o : Option Shape) → BegunAs (graph_of m.store) (seen m.store).limit m.start.limits call o w (graph_of st) → w.reply ≡ None
    fresh None (is_w, is_new) = ap (λ (x : OpValue). x.reply) is_w
    fresh (Some shape) (c, below, unused, is_w, is_new) = ap (λ (x : OpValue). x.reply) is_w

    by_limits : (o : Option Shape) → BegunAs (graph_of m.store) (seen m.store).limit m.start.limits call o w (graph_of st) → w.limits ≡ m.start.limits
    by_limits None (is_w, is_new) = ap (λ (x : OpValue). x.limits) is_w
    by_limits (Some shape) (c, below, unused, is_w, is_new) = ap (λ (x : OpValue). x.limits) is_w

    after : (owed_at slot ≡ 2) × (walking_at slot ≡ 1)
    after = (
      ap owed_at is ∙ ap (λ (q : Option Rattle.fs_calls.specs.declared.reply.Reply.Reply). owed_at (Some (record { call = number; place = None; op = record w { reply = q } }))) (fresh (reserved_by call) begun),
      ap walking_at is ∙ ap (λ (q : Option Rattle.fs_calls.specs.declared.reply.Reply.Reply). walking_at (Some (record { call = number; place = None; op = record w { reply = q } }))) (fresh (reserved_by call) begun),
    )

    counted : number ≡ begins m.timeline + 1
    counted = is_number ∙ ap (λ (n : ℕ). n + 1) kept.begun_is

    none : records m.seats number ≡ None
    none = not_begun (state_of m) (run_keeps (state_of m) kept.run) number (omega (arith, counted))

    same : (reserved : Option ℕ) (graph : Graph) → w ≡ new_value m.start.limits call reserved → graph_of st ≡ graph → state_of M ≡ began (state_of m) seat call number reserved graph
    same reserved graph is_w is_graph =
        ap (λ (c : Call). state_of (record M { timeline = m.timeline ++ Begin number seat c ∷ [] })) is_copy
        ∙ same_state _ _ _ _ _ _ _ _ _ _ _ _ limit is_graph is_hs
        (records_begun m.seats seat (record { call = number; place = None; op = w }) slot free is none ∙ ap (λ (x : OpValue). Rattle.fs_nodes.specs.Graphs.set_at number (Some (record_of seat None x)) (records m.seats)) is_w)
        (numbers_set m.seats seat slot (Some (record { call = number; place = None; op = w })) (slice_get_within m.seats seat None free) is)

    reserve : (o : Option Shape) → BegunAs (graph_of m.store) (seen m.store).limit m.start.limits call o w (graph_of st) → Reserves (state_of m) seat call number o (state_of M)
    reserve None (is_w, is_new) = same None (graph_of m.store) is_w is_new
    reserve (Some shape) (c, below, unused, is_w, is_new) = (c, below, unused, same (Some c) (reserved_in c shape (graph_of m.store)) is_w is_new)

    step : Begins (state_of m) seat call (Ok number) (state_of M)
    step = (number_read m.seats seat None free, counted, reserve (reserved_by call) begun)

-- a seat more
pub seat_kept : (m : CoreValue) (b k p : ℕ) → IsKept m b k p → (seats : List (Option Running)) → seats ≡ m.seats ++ None ∷ [] → (state_of (record m { seats = seats }) ≡ state_of m) × IsKept (record m { seats = seats }) b k p
seat_kept m b k p kept seats is = (
  same,
  record {
    run = subst Run (sym same) kept.run;
    limited = kept.limited;
    form = kept.form;
    limits = keep_more m.start.limits m.seats seats kept.limits is;
    roomy = kept.roomy;
    begun_is = kept.begun_is;
    few = kept.few;
    commits_is = kept.commits_is;
    within = subst (λ (n : ℕ). k + n ≤ b) (sym (ap walking is ∙ walking_more m.seats)) kept.within;
    owed_is = subst (λ (n : ℕ). n ≤ p) (sym (ap owed is ∙ owed_more m.seats)) kept.owed_is;
  },
)
  where
    same : state_of (record m { seats = seats }) ≡ state_of m
    same = same_state _ _ _ _ _ _ _ _ _ _ _ _ refl refl refl (ap records is ∙ records_more m.seats) (ap number_on is ∙ numbers_more m.seats)

-- a new core
pub start_kept : (start : Start) (st : Places) (hs : Holding) → IsStart (seen st).limit start (graph_of st) → (seen st).limit ≤ NODE_LIMIT → (seen st).in_blocks ≡ in_blocks start.limits → holder hs ≡ (λ n. None) → AreBelow (graph_of st) (room hs)
    → (state_of (record { start = start; store = st; holding = hs; seats = []; timeline = []; refusals = 0 }) ≡ fresh (seen st).limit start (graph_of st)) × IsKept (record { start = start; store = st; holding = hs; seats = []; timeline = []; refusals = 0 }) 0 0 0
start_kept start st hs is most blocks is_hs below = (
  same,
  record {
    run = subst Run (sym same) (Starting (seen st).limit start (graph_of st) is);
    limited = most;
    form = blocks;
    limits = keep_none start.limits;
    roomy = below;
    begun_is = refl;
    few = omega arith;
    commits_is = refl;
    within = omega arith;
    owed_is = omega arith;
  },
)
  where
    same : state_of (record { start = start; store = st; holding = hs; seats = []; timeline = []; refusals = 0 }) ≡ fresh (seen st).limit start (graph_of st)
    same = same_state _ _ _ _ _ _ _ _ _ _ _ _ refl refl is_hs refl (fun_ext (λ n. refl))

-- the same by the seat's number, and by the counter
pub begun_by : (m : CoreValue) (b k p at seat : ℕ) (call : Call) → IsKept m b k p → at ≡ seat → (old : Option Running) → seat < length m.seats → old ≡ get_or m.seats at old → old ≡ None
    → (st : Places) (hs : Holding) (w : OpValue) (number last : ℕ) (copy : Call) (slot : Option Running) → BegunAs (graph_of m.store) (seen m.store).limit m.start.limits call (reserved_by call) w (graph_of st) → (seen st).limit ≡ (seen m.store).limit → (seen st).in_blocks ≡ (seen m.store).in_blocks
    → holder hs ≡ holder m.holding → room m.holding ≤ room hs → HasRoom w.reserved hs → number ≡ last → last ≡ b + 1 → last < CALL_LIMIT → copy ≡ call → slot ≡ Some (record { call = number; place = None; op = w })
    → Begins (state_of m) seat call (Ok number) (state_of (record m { store = st; holding = hs; seats = slice_set m.seats at slot; timeline = m.timeline ++ Begin number seat copy ∷ [] })) × IsKept (record m { store = st; holding = hs; seats = slice_set m.seats at slot; timeline = m.timeline ++ Begin number seat copy ∷ [] }) last k (p + 3 - 1)
begun_by m b k p at seat call kept e old within read is_free st hs w number last copy slot begun limit blocks is_hs more has is_last is_number few is_copy is =
    subst (λ (s : ℕ). Begins (state_of m) s call (Ok number) (state_of (record m { store = st; holding = hs; seats = slice_set m.seats at slot; timeline = m.timeline ++ Begin number s copy ∷ [] })) × IsKept (record m { store = st; holding = hs; seats = slice_set m.seats at slot; timeline = m.timeline ++ Begin number s copy ∷ [] }) last k (p + 3 - 1)) e
    (subst (λ (l : ℕ). Begins (state_of m) at call (Ok number) (state_of (record m { store = st; holding = hs; seats = slice_set m.seats at slot; timeline = m.timeline ++ Begin number at copy ∷ [] })) × IsKept (record m { store = st; holding = hs; seats = slice_set m.seats at slot; timeline = m.timeline ++ Begin number at copy ∷ [] }) l k (p + 3 - 1)) is_last
    (begun_kept m b k p at call kept (free_seat m at old (subst (λ (s : ℕ). s < length m.seats) (sym e) within) read is_free) st hs w number copy slot begun limit blocks is_hs more has (is_last ∙ is_number) (subst (λ (n : ℕ). n < CALL_LIMIT) (sym is_last) few) is_copy is))

pub busy_by : (m : CoreValue) (begun commits places : ℕ) → IsKept m begun commits places → (at seat : ℕ) (call : Call) (slot : Option Running) (b : Bool) → at ≡ seat → seat < length m.seats → slot ≡ get_or m.seats at slot → b ≡ is_some slot → b ≡ true → Begins (state_of m) seat call (Err SeatBusy) (state_of m)
busy_by m begun commits places kept at seat call slot b e within read some yes_some = subst (λ (s : ℕ). Begins (state_of m) s call (Err SeatBusy) (state_of m)) e (seat_busy_step m at call slot (subst (λ (s : ℕ). s < length m.seats) (sym e) within) read (sym some ∙ yes_some))

pub none_by_test : {A : Type 0} (slot : Option A) (b : Bool) → b ≡ is_some slot → b ≡ false → slot ≡ None
none_by_test None b e f = refl
none_by_test (Some r) b e f = cc
