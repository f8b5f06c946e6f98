-- Calls that hold nothing yet go for the root, and what is noted of them stays true.
use Rattle.std.proofs.Common.{◌≡◌, ℕ, zero, suc, ◌<◌, Bool, true, false, eqb, List, [], ◌∷◌, ◌++◌, Option, Some, None, length, get_or, length-set, refl, sym, ap, ◌∙◌, subst}
use Rattle.std.specs.Prelude.{slice_get, slice_set}
use Rattle.std.proofs.lemmas.Option.{slice_get_within, slice_get_read}
use Rattle.fs_calls.proofs.ListLemmas.{slice_get-set_same, slice_get-set_other}
use Rattle.fs_calls.specs.Forms.{by_paths}
use Rattle.fs_names.specs.Shapes.{Shape}
use Rattle.fs_names.specs.declared.limits.Limits.{Limits}
use Rattle.fs_calls.specs.declared.call.Call.{Call}
use Rattle.fs_calls.specs.declared.errno.Errno.{Errno}
use Rattle.fs_calls.specs.declared.reply.Reply.{Reply}
use Rattle.fs_nodes.specs.Graphs.{Graph}
use Rattle.fs_nodes.specs.Stores.{graph_of}
use Rattle.fs_machine.specs.Moves.{next_by}
use Rattle.fs_machine.specs.Records.{Holdings, Record}
use Rattle.fs_machine.specs.declared.moves.Move.{Move}
use Rattle.fs_machine.specs.declared.moves.Move.TheVariants.{Take as Takes, LetGo as Leaves, Finish as Finishes, Return as Ends}
use Rattle.fs_machine.specs.OpValues.{OpValue, phase_of, record_of, next_of, BegunAs}
use Rattle.fs_machine.specs.declared.moves.Moved.{Moved}
use Rattle.fs_laws.proofs.graphs.Walks.{eqb_refl, eqb_true}
use Rattle.fs_core_seats.proofs.SeatLemmas.{length_more}
use Rattle.fs_core_seats.specs.declared.seat.Running.{Running}
use Rattle.fs_core.specs.CoreValues.{CoreValue}
use Rattle.fs_core.specs.code.Helping.{Helps}
use Rattle.fs_core.specs.code.Seats.{MovesOn}
use Rattle.fs_core_seats.specs.code.Changes.{placed}
use Rattle.fs_core.specs.code.Starting.{IsStarting, AreStarting}

-- what it does next, by its parts
start_by : (graph : Graph) (op : Record) (e : Option Errno) (r : Option Reply) (h : Option Holdings) → e ≡ None → r ≡ None → h ≡ None → next_by graph op e (phase_of None r) h ≡ Takes 0
start_by graph op (Some e) r h d f g = cc
start_by graph op None (Some r) h d f g = cc
start_by graph op None None (Some st) d f g = cc
start_by graph op None None None d f g = refl

start_next : (graph : Graph) (running : Running) (call : ℕ) → IsStarting running call → next_of graph running.op ≡ Takes 0
start_next graph running call s = start_by graph (record_of 0 None running.op) (by_paths running.op.call) running.op.reply running.op.holdings s.undecided s.unfinished s.nothing

-- the call that is noted for a seat takes the root next
pub starts : (m : CoreValue) (starting : List (Option ℕ)) (seat call : ℕ) → AreStarting starting m.seats → slice_get starting seat ≡ Some (Some call) → MovesOn m seat call (Takes 0)
starts m starting seat call a e =
    let x : (running : Running) × (slice_get m.seats seat ≡ Some (Some running)) × IsStarting running call = a.on_seat seat call e in
    record { running = x.0; on = x.1; number = x.2.number; next = start_next (graph_of m.store) x.0 call x.2 }

-- who makes another move is not noted
moves_otherwise : (m : CoreValue) (starting : List (Option ℕ)) (seat call : ℕ) (move : Move) → AreStarting starting m.seats → MovesOn m seat call move → (move ≡ Takes 0 → ⊥) → (c : ℕ) → slice_get starting seat ≡ Some (Some c) → ⊥
moves_otherwise m starting seat call move a x other c e =
    let s : MovesOn m seat c (Takes 0) = starts m starting seat c a e in
    let z : ◌≡◌ {A = Option (Option Running)} (Some (Some s.running)) (Some (Some x.running)) = sym s.on ∙ x.on in
    let y : s.running ≡ x.running = cc in
    other (sym x.next ∙ ap (λ (r : Running). next_of (graph_of m.store) r.op) (sym y) ∙ s.next)

-- other moves are no take of the root
pub leaves_otherwise : (n : ℕ) → Leaves n ≡ Takes 0 → ⊥
leaves_otherwise n e = cc

pub finishes_otherwise : (moved : Moved) → Finishes moved ≡ Takes 0 → ⊥
finishes_otherwise moved e = cc

pub ends_otherwise : Ends ≡ Takes 0 → ⊥
ends_otherwise e = cc

pub apart : (i j : ℕ) → eqb i j ≡ false → i ≡ j → ⊥
apart i j f e = let z : true ≡ false = sym (eqb_refl i) ∙ ap (λ (n : ℕ). eqb i n) e ∙ f in cc

-- what is on one seat changes
changed : (starting : List (Option ℕ)) (seats : List (Option Running)) (seat : ℕ) (new : Option Running) → AreStarting starting seats
    → ((c : ℕ) → slice_get starting seat ≡ Some (Some c) → (r : Running) × (slice_get (slice_set seats seat new) seat ≡ Some (Some r)) × IsStarting r c)
    → AreStarting starting (slice_set seats seat new)
changed starting seats seat new a here = record { places = a.places ∙ sym (length-set seats seat new); on_seat = λ i c e. go i c (eqb i seat) refl e }
  where
    go : (i c : ℕ) (b : Bool) → eqb i seat ≡ b → slice_get starting i ≡ Some (Some c) → (r : Running) × (slice_get (slice_set seats seat new) i ≡ Some (Some r)) × IsStarting r c
    go i c true f e = subst (λ (k : ℕ). (r : Running) × (slice_get (slice_set seats seat new) k ≡ Some (Some r)) × IsStarting r c) (sym (eqb_true i seat f)) (here c (ap (slice_get starting) (sym (eqb_true i seat f)) ∙ e))
    go i c false f e =
        let x : (r : Running) × (slice_get seats i ≡ Some (Some r)) × IsStarting r c = a.on_seat i c e in
        (x.0, slice_get-set_other seats seat i new (apart i seat f) ∙ x.1, x.2)

-- after a move of the call on a seat that is no take of the root
pub starting_moved : (m : CoreValue) (starting : List (Option ℕ)) (seat call : ℕ) (move : Move) (new : Option Running) → AreStarting starting m.seats → MovesOn m seat call move → (move ≡ Takes 0 → ⊥) → AreStarting starting (slice_set m.seats seat new)
starting_moved m starting seat call move new a x other = changed starting m.seats seat new a (λ c e. absurd (moves_otherwise m starting seat call move a x other c e))

-- after a help: the call on a seat gets its place
starting_placed : (starting : List (Option ℕ)) (seats : List (Option Running)) (seat place : ℕ) (old new : Option Running) → AreStarting starting seats → slice_get seats seat ≡ Some old → seat < length seats → new ≡ placed old place → AreStarting starting (slice_set seats seat new)
starting_placed starting seats seat place old new a on within is = changed starting seats seat new a here
  where
    by : (c : ℕ) (r : Running) (o : Option Running) → slice_get seats seat ≡ Some (Some r) → slice_get seats seat ≡ Some o → IsStarting r c → new ≡ placed o place → (q : Running) × (new ≡ Some q) × IsStarting q c
    by c r None e f s g = cc
    by c r (Some q) e f s g =
        let z : ◌≡◌ {A = Option (Option Running)} (Some (Some r)) (Some (Some q)) = sym e ∙ f in
        let y : r ≡ q = cc in
        let t : IsStarting q c = subst (λ (x : Running). IsStarting x c) y s in
        (record q { place = Some place }, g, record { number = t.number; unfinished = t.unfinished; nothing = t.nothing; undecided = t.undecided })

    here : (c : ℕ) → slice_get starting seat ≡ Some (Some c) → (r : Running) × (slice_get (slice_set seats seat new) seat ≡ Some (Some r)) × IsStarting r c
    here c e =
        let x : (r : Running) × (slice_get seats seat ≡ Some (Some r)) × IsStarting r c = a.on_seat seat c e in
        let y : (q : Running) × (new ≡ Some q) × IsStarting q c = by c x.0 old x.1 on x.2 is in
        (y.0, slice_get-set_same seats seat new within ∙ ap (λ (o : Option Running). Some o) y.1, y.2)

-- the same of whom a call helps
pub starting_helped : (m : CoreValue) (moved : Moved) (starting : List (Option ℕ)) (seat place : ℕ) (old new : Option Running) → Helps m moved seat → AreStarting starting m.seats → old ≡ get_or m.seats seat old → new ≡ placed old place → AreStarting starting (slice_set m.seats seat new)
starting_helped m moved starting seat place old new h a read is =
    let within : seat < length m.seats = slice_get_within m.seats seat (Some h.running) h.on in
    starting_placed starting m.seats seat place old new a (slice_get_read m.seats _ seat old refl within read) within is

-- a seat gets another call, and what is noted for it is another one too
pub starting_set : (starting : List (Option ℕ)) (seats : List (Option Running)) (seat : ℕ) (noted : Option ℕ) (new : Option Running) → AreStarting starting seats → seat < length seats
    → ((c : ℕ) → noted ≡ Some c → (r : Running) × (new ≡ Some r) × IsStarting r c) → AreStarting (slice_set starting seat noted) (slice_set seats seat new)
starting_set starting seats seat noted new a within here = record { places = length-set starting seat noted ∙ a.places ∙ sym (length-set seats seat new); on_seat = λ i c e. go i c (eqb i seat) refl e }
  where
    there : seat < length starting
    there = subst (λ (n : ℕ). seat < n) (sym a.places) within

    at_seat : (c : ℕ) → slice_get (slice_set starting seat noted) seat ≡ Some (Some c) → (r : Running) × (slice_get (slice_set seats seat new) seat ≡ Some (Some r)) × IsStarting r c
    at_seat c e =
        let z : ◌≡◌ {A = Option (Option ℕ)} (Some noted) (Some (Some c)) = sym (slice_get-set_same starting seat noted there) ∙ e in
        let y : (r : Running) × (new ≡ Some r) × IsStarting r c = here c (cc) in
        (y.0, slice_get-set_same seats seat new within ∙ ap (λ (o : Option Running). Some o) y.1, y.2)

    go : (i c : ℕ) (b : Bool) → eqb i seat ≡ b → slice_get (slice_set starting seat noted) i ≡ Some (Some c) → (r : Running) × (slice_get (slice_set seats seat new) i ≡ Some (Some r)) × IsStarting r c
    go i c true f e = subst (λ (k : ℕ). (r : Running) × (slice_get (slice_set seats seat new) k ≡ Some (Some r)) × IsStarting r c) (sym (eqb_true i seat f)) (at_seat c (ap (slice_get (slice_set starting seat noted)) (sym (eqb_true i seat f)) ∙ e))
    go i c false f e =
        let x : (r : Running) × (slice_get seats i ≡ Some (Some r)) × IsStarting r c = a.on_seat i c (sym (slice_get-set_other starting seat i noted (apart i seat f)) ∙ e) in
        (x.0, slice_get-set_other seats seat i new (apart i seat f) ∙ x.1, x.2)

-- the same where none is noted any more
pub starting_left : (starting : List (Option ℕ)) (seats : List (Option Running)) (seat : ℕ) (noted : Option ℕ) (new : Option Running) → AreStarting starting seats → seat < length seats → noted ≡ None → AreStarting (slice_set starting seat noted) (slice_set seats seat new)
starting_left starting seats seat noted new a within none = starting_set starting seats seat noted new a within (λ c e. absurd (differ c (sym none ∙ e)))
  where
    differ : (c : ℕ) → ◌≡◌ {A = Option ℕ} None (Some c) → ⊥
    differ c e = cc

-- one seat more
get_front : {A : Type 0} (xs ys : List A) (i : ℕ) (v : A) → slice_get xs i ≡ Some v → slice_get (xs ++ ys) i ≡ Some v
get_front [] ys i v e = cc
get_front (x ∷ xs) ys zero v e = e
get_front (x ∷ xs) ys (suc i) v e = get_front xs ys i v e

get_noted : (xs : List (Option ℕ)) (i c : ℕ) → slice_get (xs ++ None ∷ []) i ≡ Some (Some c) → slice_get xs i ≡ Some (Some c)
get_noted [] zero c e = cc
get_noted [] (suc i) c e = cc
get_noted (x ∷ xs) zero c e = e
get_noted (x ∷ xs) (suc i) c e = get_noted xs i c e

pub starting_more : (starting noted : List (Option ℕ)) (seats more : List (Option Running)) → AreStarting starting seats → noted ≡ starting ++ None ∷ [] → more ≡ seats ++ None ∷ [] → AreStarting noted more
starting_more starting noted seats more a e f = record { places = length_more starting noted seats more None None e f a.places; on_seat = λ i c h. go i c (ap (λ (l : List (Option ℕ)). slice_get l i) (sym e) ∙ h) }
  where
    go : (i c : ℕ) → slice_get (starting ++ None ∷ []) i ≡ Some (Some c) → (r : Running) × (slice_get more i ≡ Some (Some r)) × IsStarting r c
    go i c h =
        let x : (r : Running) × (slice_get seats i ≡ Some (Some r)) × IsStarting r c = a.on_seat i c (get_noted starting i c h) in
        (x.0, ap (λ (l : List (Option Running)). slice_get l i) f ∙ get_front seats (None ∷ []) i (Some x.0) x.1, x.2)

pub none_starts : AreStarting [] []
none_starts = record { places = refl; on_seat = λ i c e. absurd (nothing i c e) }
  where
    nothing : (i c : ℕ) → ◌≡◌ {A = Option (Option ℕ)} (slice_get [] i) (Some (Some c)) → ⊥
    nothing zero c e = cc
    nothing (suc i) c e = cc

-- a call that begins
pub starting_begun : (graph after : Graph) (limit : ℕ) (limits : Limits) (call : Call) (shape : Option Shape) (work : OpValue) → BegunAs graph limit limits call shape work after
    → (starting : List (Option ℕ)) (seats : List (Option Running)) (at number : ℕ) (noted : Option ℕ) (new : Option Running) → AreStarting starting seats → at < length seats
    → ((c : ℕ) → noted ≡ Some c → (c ≡ number) × (by_paths work.call ≡ None)) → new ≡ Some (record { call = number; place = None; op = work }) → AreStarting (slice_set starting at noted) (slice_set seats at new)
starting_begun graph after limit limits call shape work begun starting seats at number noted new a within told is =
    starting_set starting seats at noted new a within
    (λ c e. (
      record { call = number; place = None; op = work },
      is,
      record { number = sym (told c e).0; unfinished = (fresh shape begun).0; nothing = (fresh shape begun).1; undecided = (told c e).1 },
    ))
  where
    fresh : (o : Option Shape) → BegunAs graph limit limits call o work after → (work.reply ≡ None) × (work.holdings ≡ None)
    fresh None (is_work, is_after) = (ap (λ (x : OpValue). x.reply) is_work, ap (λ (x : OpValue). x.holdings) is_work)
    fresh (Some s) (n, below, unused, is_work, is_after) = (ap (λ (x : OpValue). x.reply) is_work, ap (λ (x : OpValue). x.holdings) is_work)
