-- Ways up from the positions of walking calls: what they meet, and which calls are lowest by them.
use Rattle.std.proofs.Common.{◌≡◌, ℕ, zero, suc, ◌+◌, ◌<◌, ◌≤◌, Bool, true, false, eqb, List, [], ◌∷◌, ◌++◌, Option, Some, None, length, length-append, get_or, refl, sym, ap, ◌∙◌, arith, subst, set, ◌⊎◌, inl, inr}
use Rattle.std.specs.Prelude.{slice_get, IsTrue, ◌↔◌}
use Rattle.std.specs.Option.{option_flatten}
use Rattle.std.proofs.lemmas.Option.{slice_get_within, slice_get_cases}
use Rattle.fs_names.specs.Keys.{Key}
use Rattle.fs_calls.proofs.ListLemmas.{slice_get-set_same, slice_get-set_other}
use Rattle.fs_nodes.specs.Graphs.{Graph, Children, at, then_at, numbers, IsGraph, IsReached}
use Rattle.fs_nodes.specs.Stores.{Places}
use Rattle.fs_nodes.specs.Stores.{graph_of, child, IsUnlinked, IsParent}
use Rattle.fs_machine.specs.States.{IsMoved}
use Rattle.fs_machine.specs.declared.moves.Moved.{Moved}
use Rattle.fs_laws.proofs.graphs.Walks.{eqb_true, at_from}
use Rattle.fs_locks.specs.Holding.{Holding}
use Rattle.fs_core_seats.specs.declared.seat.Running.{Running}
use Rattle.fs_core_seats.specs.declared.helping.Way.{Way}
use Rattle.fs_core_seats.specs.code.Orders.{IsListed, AreListed}
use Rattle.fs_core_seats.specs.code.Searches.{position_of, position_on, StandsIf, MeetsIf, IsAbove, IsBelowMoved, IsNearest, IsNearestIf, IsWay, AreWays, IsMet, IsUnmet, IsUnder, IsUnderMoved, IsAlone, IsLowestOn, CanSearch}
use Rattle.fs_core_seats.proofs.Below.{deep_up, reaches_parent, top_alone}

-- the walking call at a position
pub walks_on : (seats : List (Option Running)) (seat n : ℕ) → position_on seats seat ≡ Some n → (r : Running) × (slice_get seats seat ≡ Some (Some r)) × (position_of (Some r) ≡ Some n)
walks_on seats seat n e = go (slice_get seats seat) refl e
  where
    go : (o : Option (Option Running)) → slice_get seats seat ≡ o → position_of (option_flatten o) ≡ Some n → (r : Running) × (slice_get seats seat ≡ Some (Some r)) × (position_of (Some r) ≡ Some n)
    go None f g = cc
    go (Some None) f g = cc
    go (Some (Some r)) f g = (r, f, g)

pub position_within : (seats : List (Option Running)) (seat n : ℕ) → position_on seats seat ≡ Some n → seat < length seats
position_within seats seat n e = let w : (r : Running) × (slice_get seats seat ≡ Some (Some r)) × (position_of (Some r) ≡ Some n) = walks_on seats seat n e in slice_get_within seats seat (Some w.0) w.1

pub position_read : (seats : List (Option Running)) (seat : ℕ) (slot : Option Running) → slice_get seats seat ≡ Some slot → position_on seats seat ≡ position_of slot
position_read seats seat slot e = ap (λ (o : Option (Option Running)). position_of (option_flatten o)) e

same_position : (seats : List (Option Running)) (seat n m : ℕ) → position_on seats seat ≡ Some n → position_on seats seat ≡ Some m → n ≡ m
same_position seats seat n m e f = let z : ◌≡◌ {A = Option ℕ} (Some n) (Some m) = sym e ∙ f in cc

-- and whether it is below a node
pub under_on : (children : Children) (seats : List (Option Running)) (s seat n : ℕ) → position_on seats seat ≡ Some n → IsReached children s n → IsUnder children seats s seat
under_on children seats s seat n e r =
    let w : (r : Running) × (slice_get seats seat ≡ Some (Some r)) × (position_of (Some r) ≡ Some n) = walks_on seats seat n e in
    record { running = w.0; node = n; on = w.1; position = w.2; reached = r }

pub on_under : (children : Children) (seats : List (Option Running)) (s seat : ℕ) → (u : IsUnder children seats s seat) → position_on seats seat ≡ Some u.node
on_under children seats s seat u = position_read seats seat (Some u.running) u.on ∙ u.position

pub on_under_moved : (children : Children) (seats : List (Option Running)) (moved : Moved) (seat : ℕ) → (u : IsUnderMoved children seats moved seat) → position_on seats seat ≡ Some u.node
on_under_moved children seats moved seat u = position_read seats seat (Some u.running) u.on ∙ u.position

-- what a way up has met before it looks at a node: while there is nobody, who is above the position is above the node
abbrev pub Passed : Children → List (Option Running) → ℕ → ℕ → ℕ → Option ℕ → Type 0
Passed children seats seat position above None = (j m : ℕ) → (seat ≡ j → ⊥) → position_on seats j ≡ Some m → IsReached children m position → IsReached children m above
Passed children seats seat position above (Some k) = IsAbove children seats seat position k

-- and once it has looked: strictly above
abbrev pub Looked : Children → List (Option Running) → ℕ → ℕ → ℕ → Option ℕ → Type 0
Looked children seats seat position above None = (j m : ℕ) → (seat ≡ j → ⊥) → position_on seats j ≡ Some m → IsReached children m position → IsReached children m above × (above ≡ m → ⊥)
Looked children seats seat position above (Some k) = IsAbove children seats seat position k

-- how far a way up has come: it has passed a node that would be moved, or each that is above the position is still ahead
pub record WayUp (graph : Graph) (seats : List (Option Running)) (bound : ℕ) (moved : Moved) (seat position above i : ℕ) (met : Option ℕ) (below : Bool) : Type 0 where
  pub deep : (key : Key) × (numbers graph key ≡ Some above) × (length key + i < bound)
  pub from : IsReached graph.child above position
  pub passed : Passed graph.child seats seat position above met
  pub found : IsTrue below → IsBelowMoved graph.child moved position
  pub ahead : (s : ℕ) → IsMoved moved s → IsReached graph.child s position → IsTrue below ⊎ IsReached graph.child s above

pub way_start : (graph : Graph) (seats : List (Option Running)) (bound : ℕ) (moved : Moved) (seat position : ℕ) (key : Key) → numbers graph key ≡ Some position → length key < bound → WayUp graph seats bound moved seat position position 0 None false
way_start graph seats bound moved seat position key e h = record { deep = (key, e, omega (arith, h)); from = ([], refl); passed = λ j m d f r. r; found = λ e. cc; ahead = λ s m r. inr r }

-- it looks whether a node would be moved
pub way_found : (children : Children) (moved : Moved) (position above : ℕ) (below result : Bool) → IsReached children above position → (IsTrue below → IsBelowMoved children moved position) → IsTrue result ↔ (IsTrue below ⊎ IsMoved moved above) → IsTrue result → IsBelowMoved children moved position
way_found children moved position above below result from found is e = go (is.0 e)
  where
    go : IsTrue below ⊎ IsMoved moved above → IsBelowMoved children moved position
    go (inl b) = found b
    go (inr m) = (above, m, from)

pub way_ahead : (children : Children) (moved : Moved) (position above : ℕ) (below result : Bool) → ((s : ℕ) → IsMoved moved s → IsReached children s position → IsTrue below ⊎ IsReached children s above) → IsTrue result ↔ (IsTrue below ⊎ IsMoved moved above)
    → (s : ℕ) → IsMoved moved s → IsReached children s position → IsTrue result ⊎ (IsReached children s above × (above ≡ s → ⊥))
way_ahead children moved position above below result ahead is s m r = go (ahead s m r) result refl
  where
    no_true : (b : Bool) → b ≡ false → IsTrue b → ⊥
    no_true b e t = cc

    go : IsTrue below ⊎ IsReached children s above → (b : Bool) → result ≡ b → IsTrue result ⊎ (IsReached children s above × (above ≡ s → ⊥))
    go (inl b) t e = inl (is.1 (inl b))
    go (inr q) true e = inl e
    go (inr q) false e = inr (q, λ z. no_true result e (is.1 (inr (subst (IsMoved moved) (sym z) m))))

pub way_looked : (children : Children) (seats : List (Option Running)) (seat position above : ℕ) (met result : Option ℕ) → IsReached children above position → Passed children seats seat position above met → MeetsIf seats above seat met result → Looked children seats seat position above result
way_looked children seats seat position above None None from p h = λ j m d e r. (p j m d e r, λ z. h j d (subst (λ (n : ℕ). position_on seats j ≡ Some n) (sym z) e))
way_looked children seats seat position above None (Some k) from p h = (above, h.0, h.1, from, p)
way_looked children seats seat position above (Some k) result from p h = subst (Looked children seats seat position above) (sym h) p

pub way_more : (graph : Graph) → IsGraph graph → (seats : List (Option Running)) (bound : ℕ) (moved : Moved) (seat position above i : ℕ) (met result : Option ℕ) (below here : Bool) (p : ℕ) → WayUp graph seats bound moved seat position above i met below → Looked graph.child seats seat position above result
    → IsTrue here ↔ (IsTrue below ⊎ IsMoved moved above) → IsParent graph.child above p → WayUp graph seats bound moved seat position p (i + 1) result here
way_more graph is seats bound moved seat position above i met result below here p w looked here_is (y, f) = record {
  deep = deep_up graph is bound above i p w.deep.0 w.deep.1 w.deep.2 (y, f);
  from = (y ∷ w.from.0, ap (λ (o : Option ℕ). then_at o (λ m. at graph.child m w.from.0)) f ∙ w.from.1);
  passed = go result looked;
  found = way_found graph.child moved position above below here w.from w.found here_is;
  ahead = λ s m r. on s (way_ahead graph.child moved position above below here w.ahead here_is s m r);
}
  where
    on : (s : ℕ) → IsTrue here ⊎ (IsReached graph.child s above × (above ≡ s → ⊥)) → IsTrue here ⊎ IsReached graph.child s p
    on s (inl t) = inl t
    on s (inr (r, apart)) = inr (reaches_parent graph is s p above y f apart r)

    go : (o : Option ℕ) → Looked graph.child seats seat position above o → Passed graph.child seats seat position p o
    go None h = λ j m d e r. reaches_parent graph is m p above y f (h j m d e r).1 (h j m d e r).0
    go (Some k) h = h

-- where it ends, at a node that no entry names
pub way_top : (graph : Graph) (seats : List (Option Running)) (seat position above : ℕ) (result : Option ℕ) → IsUnlinked graph.child above → Looked graph.child seats seat position above result → IsNearest graph.child seats seat position result
way_top graph seats seat position above None loose h = λ j m d e r. top_alone graph m above (h j m d e r).1 loose (h j m d e r).0
way_top graph seats seat position above (Some k) loose h = h

-- and whether it has passed a node that would be moved
pub way_below : (graph : Graph) (moved : Moved) (position above : ℕ) (below here : Bool) → IsReached graph.child above position → (IsTrue below → IsBelowMoved graph.child moved position) → ((s : ℕ) → IsMoved moved s → IsReached graph.child s position → IsTrue below ⊎ IsReached graph.child s above)
    → IsTrue here ↔ (IsTrue below ⊎ IsMoved moved above) → IsUnlinked graph.child above → IsTrue here ↔ IsBelowMoved graph.child moved position
way_below graph moved position above below here from found ahead here_is loose = (way_found graph.child moved position above below here from found here_is, λ (s, m, r). go s (way_ahead graph.child moved position above below here ahead here_is s m r))
  where
    go : (s : ℕ) → IsTrue here ⊎ (IsReached graph.child s above × (above ≡ s → ⊥)) → IsTrue here
    go s (inl t) = t
    go s (inr (r, apart)) = absurd (top_alone graph s above apart loose r)

-- the way of a seat
way_at : (ways : List Way) (j : ℕ) → j < length ways → (way : Way) × (slice_get ways j ≡ Some way)
way_at ways j less = go ((slice_get_cases ways j).1)
  where
    go : ((x : Way) × (j < length ways) × (slice_get ways j ≡ Some x) × (get_or ways j x ≡ x)) ⊎ ((length ways ≤ j) × (slice_get ways j ≡ None)) → (way : Way) × (slice_get ways j ≡ Some way)
    go (inl (x, h, e, f)) = (x, e)
    go (inr (h, e)) = absurd (omega (arith, h, less))

-- the nearest call by the way of a seat
nearest_of : (children : Children) (seats : List (Option Running)) (moved : Moved) (j position : ℕ) (way : Way) → IsWay children seats moved j way → position_on seats j ≡ Some position → IsNearest children seats j position way.above
nearest_of children seats moved j position way w e = subst (λ (o : Option ℕ). IsNearestIf children seats j o way.above) e w.above

-- a node that leads to another one has the shorter key
shorter : (graph : Graph) → IsGraph graph → (key front : Key) (position n : ℕ) → numbers graph key ≡ Some position → numbers graph front ≡ Some n → (n ≡ position → ⊥) → IsReached graph.child n position → length front < length key
shorter graph is key front position n e f apart ([], g) = let z : n ≡ position = cc in absurd (apart z)
shorter graph is key front position n e f apart (x ∷ v, g) =
    let i : key ≡ front ++ x ∷ v = is.one_key key (front ++ x ∷ v) position e (at_from graph.child 0 n front (x ∷ v) f ∙ g) in
    let l : length key ≡ length front + length (x ∷ v) = ap length i ∙ length-append front (x ∷ v) in
    let m : length (x ∷ v) ≡ length v + 1 = omega arith in
    omega (arith, l, m)

-- the seat of a walking call is listed
listed_on : (seats : List (Option Running)) (listed : List ℕ) (seat n : ℕ) → AreListed seats listed → position_on seats seat ≡ Some n → IsListed listed seat
listed_on seats listed seat n all e = let w : (r : Running) × (slice_get seats seat ≡ Some (Some r)) × (position_of (Some r) ≡ Some n) = walks_on seats seat n e in all.each seat w.0 w.1

-- where no listed seat has a walking call at a node, none has
pub none_at : (seats : List (Option Running)) (listed : List ℕ) (node seat n : ℕ) → AreListed seats listed → n ≡ length listed → ((k : ℕ) → k < n → (seat ≡ get_or listed k 0 → ⊥) → position_on seats (get_or listed k 0) ≡ Some node → ⊥) → StandsIf seats node seat None
none_at seats listed node seat n all same h j differs e = go (listed_on seats listed j node all e)
  where
    go : IsListed listed j → ⊥
    go (k, inside, at) = h k (omega (arith, inside, same)) (λ z. differs (z ∙ at)) (ap (position_on seats) at ∙ e)

-- the way of a listed seat
way_is : (children : Children) (seats : List (Option Running)) (moved : Moved) (listed : List ℕ) (ways : List Way) (seat : ℕ) (way : Way) → AreWays children seats moved listed (length listed) ways → IsListed listed seat → slice_get ways seat ≡ Some way → IsWay children seats moved seat way
way_is children seats moved listed ways seat way ways_are (k, inside, at) on = subst (λ (j : ℕ). IsWay children seats moved j way) at (ways_are k way inside (ap (slice_get ways) at ∙ on))

-- another walking call below a node, by the key of its position
record Lower (graph : Graph) (seats : List (Option Running)) (k n : ℕ) (key : Key) : Type 0 where
  seat : ℕ
  position : ℕ
  differs : k ≡ seat → ⊥
  on : position_on seats seat ≡ Some position
  reached : IsReached graph.child n position
  rooted : numbers graph key ≡ Some position

-- below a walking call that no way meets: the nearest call above another one that is below it is below it too, and nearer
nearer : (store : Places) (holding : Holding) (seats : List (Option Running)) (listed : List ℕ) (ways : List Way) (moved : Moved) (k n : ℕ) → CanSearch store holding seats listed → length ways ≡ length seats → AreWays (child store) seats moved listed (length listed) ways
    → position_on seats k ≡ Some n → (IsMet listed ways k → ⊥) → (key : Key) → Lower (graph_of store) seats k n key → (front : Key) × (length front < length key) × Lower (graph_of store) seats k n front
nearer store holding seats listed ways moved k n can same ways_are at_k unmet key l = by way.0.above refl (nearest_of (child store) seats moved l.seat l.position way.0 (way_is (child store) seats moved listed ways l.seat way.0 ways_are (listed_on seats listed l.seat l.position can.all l.on) way.1) l.on)
  where
    within : l.seat < length seats
    within = position_within seats l.seat l.position l.on

    way : (way : Way) × (slice_get ways l.seat ≡ Some way)
    way = way_at ways l.seat (omega (arith, within, same))

    by : (o : Option ℕ) → way.0.above ≡ o → IsNearest (child store) seats l.seat l.position o → (front : Key) × (length front < length key) × Lower (graph_of store) seats k n front
    by None e h = absurd (h k n (λ z. l.differs (sym z)) at_k l.reached)
    by (Some i) e h =
        let root : (front : Key) × (numbers (graph_of store) front ≡ Some h.0) = can.rooted i h.0 h.2 in
        let less : length root.0 < length key = shorter (graph_of store) can.graph key root.0 l.position h.0 l.rooted root.1 (λ z. h.1 (can.apart l.seat i l.position l.on (h.2 ∙ ap (λ (x : ℕ). Some x) z))) h.3 in (
          root.0,
          less,
          record {
            seat = i;
            position = h.0;
            differs = λ z. unmet (record { other = l.seat; way = way.0; listed_is = listed_on seats listed l.seat l.position can.all l.on; on = way.1; above = e ∙ ap (λ (x : ℕ). Some x) (sym z) });
            on = h.2;
            reached = h.4 k n (λ z. l.differs (sym z)) at_k l.reached;
            rooted = root.1;
          },
        )

-- so there is no other one below it
pub unmet_alone : (store : Places) (holding : Holding) (seats : List (Option Running)) (listed : List ℕ) (ways : List Way) (moved : Moved) (k n : ℕ) → CanSearch store holding seats listed → length ways ≡ length seats → AreWays (child store) seats moved listed (length listed) ways
    → position_on seats k ≡ Some n → (IsMet listed ways k → ⊥) → IsAlone (child store) seats n k
unmet_alone store holding seats listed ways moved k n can same ways_are at_k unmet other differs u =
    let on : position_on seats other ≡ Some u.node = on_under (child store) seats n other u in
    let root : (key : Key) × (numbers (graph_of store) key ≡ Some u.node) = can.rooted other u.node on in
    go (length root.0) root.0 (omega arith) (record { seat = other; position = u.node; differs = differs; on = on; reached = u.reached; rooted = root.1 })
  where
    go : (fuel : ℕ) (key : Key) → length key ≤ fuel → Lower (graph_of store) seats k n key → ⊥
    go zero key enough l =
        let x : (front : Key) × (length front < length key) × Lower (graph_of store) seats k n front = nearer store holding seats listed ways moved k n can same ways_are at_k unmet key l in absurd (omega (arith, x.1, enough))
    go (suc fuel) key enough l =
        let x : (front : Key) × (length front < length key) × Lower (graph_of store) seats k n front = nearer store holding seats listed ways moved k n can same ways_are at_k unmet key l in go fuel x.0 (omega (arith, x.1, enough)) x.2

-- the lowest calls are those that are below a node that would be moved and that no way meets
pub unmet_lowest : (store : Places) (holding : Holding) (seats : List (Option Running)) (listed : List ℕ) (ways : List Way) (moved : Moved) (k : ℕ) → CanSearch store holding seats listed → length ways ≡ length seats → AreWays (child store) seats moved listed (length listed) ways → IsListed listed k → IsUnmet listed ways k → IsLowestOn (child store) seats moved k
unmet_lowest store holding seats listed ways moved k can same ways_are at u =
    let under : IsUnderMoved (child store) seats moved k = (way_is (child store) seats moved listed ways k u.way ways_are at u.on).below.0 u.below in
    record { under = under; alone = unmet_alone store holding seats listed ways moved k under.node can same ways_are (on_under_moved (child store) seats moved k under) u.unmet }

pub lowest_unmet : (children : Children) (seats : List (Option Running)) (listed : List ℕ) (ways : List Way) (moved : Moved) (k : ℕ) → AreListed seats listed → length ways ≡ length seats → AreWays children seats moved listed (length listed) ways → IsLowestOn children seats moved k → IsUnmet listed ways k
lowest_unmet children seats listed ways moved k all same ways_are l = record { way = w.0; on = w.1; below = (way_is children seats moved listed ways k w.0 ways_are (all.each k l.under.running l.under.on) w.1).below.1 l.under; unmet = unmet }
  where
    less : k < length seats
    less = slice_get_within seats k (Some l.under.running) l.under.on

    w : (way : Way) × (slice_get ways k ≡ Some way)
    w = way_at ways k (omega (arith, less, same))

    unmet : IsMet listed ways k → ⊥
    unmet m = by (position_on seats m.other) refl
      where
        is : IsWay children seats moved m.other m.way
        is = way_is children seats moved listed ways m.other m.way ways_are m.listed_is m.on

        by : (o : Option ℕ) → position_on seats m.other ≡ o → ⊥
        by None e = let z : None ≡ Some k = sym (subst (λ (o : Option ℕ). IsNearestIf children seats m.other o m.way.above) e is.above) ∙ m.above in cc
        by (Some position) e =
            let h : IsAbove children seats m.other position k = subst (IsNearest children seats m.other position) m.above (nearest_of children seats moved m.other position m.way is e) in
            let n : h.0 ≡ l.under.node = same_position seats k h.0 l.under.node h.2 (on_under_moved children seats moved k l.under) in
            l.alone m.other (λ z. h.1 (sym z)) (under_on children seats l.under.node m.other position e (subst (λ (x : ℕ). IsReached children x position) n h.3))

-- one way more
pub ways_more : (children : Children) (seats : List (Option Running)) (moved : Moved) (listed : List ℕ) (i : ℕ) (ways after : List Way) (way : Way) → get_or listed i 0 < length ways → after ≡ set ways (get_or listed i 0) way → IsWay children seats moved (get_or listed i 0) way → AreWays children seats moved listed i ways → AreWays children seats moved listed (i + 1) after
ways_more children seats moved listed i ways after way within is w h k found less on = go (eqb (get_or listed k 0) (get_or listed i 0)) refl
  where
    go : (b : Bool) → eqb (get_or listed k 0) (get_or listed i 0) ≡ b → IsWay children seats moved (get_or listed k 0) found
    go true e =
        let same : get_or listed k 0 ≡ get_or listed i 0 = eqb_true (get_or listed k 0) (get_or listed i 0) e in
        let z : ◌≡◌ {A = Option Way} (Some way) (Some found) = sym (slice_get-set_same ways (get_or listed i 0) way within) ∙ ap (λ (xs : List Way). slice_get xs (get_or listed i 0)) (sym is) ∙ ap (slice_get after) (sym same) ∙ on in
        let y : way ≡ found = cc in
        subst (λ (x : ℕ). IsWay children seats moved x found) (sym same) (subst (IsWay children seats moved (get_or listed i 0)) y w)
    go false e =
        let differ : get_or listed k 0 ≡ get_or listed i 0 → ⊥ = λ z. (let y : eqb (get_or listed k 0) (get_or listed i 0) ≡ true = grind arith in cc) in
        let apart : k ≡ i → ⊥ = λ z. differ (ap (λ (n : ℕ). get_or listed n 0) z) in
        h k found (omega (arith, less, apart)) (sym (slice_get-set_other ways (get_or listed i 0) (get_or listed k 0) way differ) ∙ ap (λ (xs : List Way). slice_get xs (get_or listed k 0)) (sym is) ∙ on)
