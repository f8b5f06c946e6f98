-- Carrying out a placed call keeps what every state keeps.
use Rattle.std.proofs.Common.{◌≡◌, ℕ, ◌<◌, List, [], ◌∷◌, ◌++◌, Option, Some, None, refl, sym, ap, ap₂, ◌∙◌, arith, subst, ◌⊎◌, inl, inr}
use Rattle.fs_names.specs.Keys.{Key, after_prefix}
use Rattle.fs_names.specs.Shapes.{Shape}
use Rattle.fs_names.specs.declared.limits.Limits.{Limits}
use Rattle.fs_laws.specs.Changes.{Rekeying, Stay, MoveTo, Swap, Change, reply}
use Rattle.fs_calls.specs.Forms.{Form, under, Fits, by_text, by_paths}
use Rattle.fs_laws.specs.Maps.{Map, swapped_by}
use Rattle.fs_calls.specs.declared.errno.Errno.{Errno}
use Rattle.fs_calls.specs.declared.reply.Reply.{Reply}
use Rattle.fs_calls.proofs.FormLemmas.{by_text_any}
use Rattle.fs_calls.specs.Graphs.{Graph, numbers, graph_shapes, set_at}
use Rattle.fs_machine.specs.Finishes.{Effect, effect_at, effect_of, finish}
use Rattle.fs_machine.specs.Moves.{next_on}
use Rattle.fs_machine.specs.declared.moves.Move.TheVariants.{Finish as Finishes}
use Rattle.fs_machine.specs.declared.moves.Moved.{Moved}
use Rattle.fs_machine.specs.Records.{Phase, Walking, Placed, Finished, Record, Records, Holdings}
use Rattle.fs_laws.specs.JournalViews.{start, view_after}
use Rattle.fs_laws.specs.Invariants.{remaining_of, spots, IsPlaced, AllLater, InOrder, HasSpare, IsIn, Own, Invariant, StepKeeps, Tied, limits_of}
use Rattle.fs_laws.specs.Placed.{InPlace, rekey, rekey_by, rekey_move, rekey_all}
use Rattle.fs_laws.specs.Settled.{settle, settle_replies}
use Rattle.fs_laws.specs.CallFacts.{IsAfter, CallFacts}
use Rattle.fs_machine.specs.Leaving.{finished_op}
use Rattle.fs_machine.specs.States.{State, carrying}
use Rattle.fs_machine.specs.declared.answers.Stepped.TheVariants.{CarriedOut}
use Rattle.fs_laws.proofs.trees.Prefixes.{prefix_deeper}
use Rattle.fs_laws.proofs.calls.Located.{change_under, moves_under, fits_under}
use Rattle.fs_laws.proofs.helping.SettledThroughHelp.{Carried, carried}
use Rattle.fs_laws.proofs.helping.SettledThroughRename.{in_place_of, two_calls}
use Rattle.fs_laws.proofs.journal.ViewAndMachine.{phased, tied_carry}
use Rattle.fs_laws.proofs.graphs.Alterations.{Altered, Reached}
use Rattle.fs_laws.proofs.finish.Changes.{Finisher}
use Rattle.fs_laws.proofs.calls.OwnRecord.{own_other, own_finished}
use Rattle.fs_laws.proofs.events.JustFinished.{Closing, ended, ends_keep}
use Rattle.fs_laws.proofs.events.Commit.{Ready, By_text, By_holdings, ready, Facts, facts, passes_list, spots_rekey, order_without, placed_in}

-- a list parted at a number
pub record Split (c : ℕ) (order : List ℕ) : Type 0 where
  pub front : List ℕ
  pub back : List ℕ
  pub is : order ≡ front ++ c ∷ back

pub split_at : (c : ℕ) (order : List ℕ) → IsIn c order → Split c order
split_at c [] i = absurd i
split_at c (d ∷ ds) (inl e) = record { front = []; back = ds; is = ap (λ (x : ℕ). x ∷ ds) (sym e) }
split_at c (d ∷ ds) (inr i) = let s : Split c ds = split_at c ds i in record { front = d ∷ s.front; back = s.back; is = ap (λ (x : List ℕ). d ∷ x) s.is }

in_parts : (d c : ℕ) (front back : List ℕ) → IsIn d (front ++ c ∷ back) → IsIn d front ⊎ (d ≡ c) ⊎ IsIn d back
in_parts d c [] back (inl e) = inr (inl e)
in_parts d c [] back (inr i) = inr (inr i)
in_parts d c (x ∷ front) back (inl e) = inl (inl e)
in_parts d c (x ∷ front) back (inr i) = go (in_parts d c front back i)
  where
    go : IsIn d front ⊎ (d ≡ c) ⊎ IsIn d back → IsIn d (x ∷ front) ⊎ (d ≡ c) ⊎ IsIn d back
    go (inl j) = inl (inr j)
    go (inr (inl j)) = inr (inl j)
    go (inr (inr j)) = inr (inr j)

in_front : (d : ℕ) (front back : List ℕ) → IsIn d front → IsIn d (front ++ back)
in_front d [] back i = absurd i
in_front d (x ∷ front) back (inl e) = inl e
in_front d (x ∷ front) back (inr i) = inr (in_front d front back i)

in_back : (d : ℕ) (front back : List ℕ) → IsIn d back → IsIn d (front ++ back)
in_back d [] back i = i
in_back d (x ∷ front) back i = inr (in_back d front back i)

in_joined : (d : ℕ) (front back : List ℕ) → IsIn d (front ++ back) → IsIn d front ⊎ IsIn d back
in_joined d [] back i = inr i
in_joined d (x ∷ front) back (inl e) = inl (inl e)
in_joined d (x ∷ front) back (inr i) = go (in_joined d front back i)
  where
    go : IsIn d front ⊎ IsIn d back → IsIn d (x ∷ front) ⊎ IsIn d back
    go (inl j) = inl (inr j)
    go (inr j) = inr j

-- a placed call has one place
same_place : (ops : Records) (d : ℕ) (p q : IsPlaced ops d) → p.place ≡ q.place
same_place ops d p q =
    let a : ◌≡◌ {A = Option Record} (Some p.op) (Some q.op) = sym p.is ∙ q.is in
    let b : p.op ≡ q.op = cc in
    let e : ◌≡◌ {A = Phase} (Placed p.place) (Placed q.place) = sym p.phase ∙ ap (λ (o : Record). o.phase) b ∙ q.phase in
    cc

later_in : (ops : Records) (i : ℕ) (cs : List ℕ) → AllLater ops i cs → (d : ℕ) (p : IsPlaced ops d) → IsIn d cs → i < p.place
later_in ops i [] l d p j = absurd j
later_in ops i (c ∷ cs) l d p (inl e) = subst (λ (x : ℕ). (y : IsPlaced ops x) → i < y.place) (sym e) (λ y. l.0 y) p
later_in ops i (c ∷ cs) l d p (inr j) = later_in ops i cs l.1 d p j

front_less : (ops : Records) (c : ℕ) (front back : List ℕ) → InOrder ops (front ++ c ∷ back) → (pc : IsPlaced ops c) (d : ℕ) (p : IsPlaced ops d) → IsIn d front → p.place < pc.place
front_less ops c [] back o pc d p i = absurd i
front_less ops c (x ∷ front) back o pc d p (inl e) =
    let l : o.0.place < pc.place = later_in ops o.0.place (front ++ c ∷ back) o.1 c pc (in_back c front (c ∷ back) (inl refl)) in
    let q : IsPlaced ops d = subst (IsPlaced ops) (sym e) o.0 in
    let s : p.place ≡ (subst (IsPlaced ops) (sym e) o.0).place = same_place ops d p (subst (IsPlaced ops) (sym e) o.0) in
    first d e p
  where
    first : (y : ℕ) → y ≡ x → (z : IsPlaced ops y) → z.place < pc.place
    first y e z = subst (λ (w : ℕ). (v : IsPlaced ops w) → v.place < pc.place) (sym e) (λ v. subst (λ (n : ℕ). n < pc.place) (same_place ops x o.0 v) (later_in ops o.0.place (front ++ c ∷ back) o.1 c pc (in_back c front (c ∷ back) (inl refl)))) z
front_less ops c (x ∷ front) back o pc d p (inr i) = front_less ops c front back o.2 pc d p i

back_more : (ops : Records) (c : ℕ) (front back : List ℕ) → InOrder ops (front ++ c ∷ back) → (pc : IsPlaced ops c) (d : ℕ) (p : IsPlaced ops d) → IsIn d back → pc.place < p.place
back_more ops c [] back o pc d p i = subst (λ (n : ℕ). n < p.place) (same_place ops c o.0 pc) (later_in ops o.0.place back o.1 d p i)
back_more ops c (x ∷ front) back o pc d p i = back_more ops c front back o.2 pc d p i

-- parts of an order
order_front : (ops : Records) (front back : List ℕ) → InOrder ops (front ++ back) → InOrder ops front
order_front ops [] back o = tt
order_front ops (x ∷ front) back o = (o.0, part front o.1, order_front ops front back o.2)
  where
    part : (front : List ℕ) → AllLater ops o.0.place (front ++ back) → AllLater ops o.0.place front
    part [] l = tt
    part (y ∷ front) l = (l.0, part front l.1)

order_back : (ops : Records) (front back : List ℕ) → InOrder ops (front ++ back) → InOrder ops back
order_back ops [] back o = o
order_back ops (x ∷ front) back o = order_back ops front back o.2

order_drop : (ops : Records) (c : ℕ) (front back : List ℕ) → InOrder ops (front ++ c ∷ back) → InOrder ops (front ++ back)
order_drop ops c [] back o = o.2
order_drop ops c (x ∷ front) back o = (o.0, drop front o.1, order_drop ops c front back o.2)
  where
    drop : (front : List ℕ) → AllLater ops o.0.place (front ++ c ∷ back) → AllLater ops o.0.place (front ++ back)
    drop [] l = l.1
    drop (y ∷ front) l = (l.0, drop front l.1)

spots_append : (ops : Records) (key : ℕ → Key) (xs ys : List ℕ) → spots ops key (xs ++ ys) ≡ spots ops key xs ++ spots ops key ys
spots_append ops key [] ys = refl
spots_append ops key (x ∷ xs) ys = ap (λ (ps : List (Key × Form)). (key x, remaining_of (ops x)) ∷ ps) (spots_append ops key xs ys)

-- a change below k leaves the keys that do not begin with k
rekey_off : (k : Key) (x : Change) (kd : Key) → after_prefix k kd ≡ None → rekey (change_under k x) kd ≡ kd
rekey_off k x kd off = go x.moves
  where
    go : (m : Rekeying) → rekey_move (moves_under k m) kd ≡ kd
    go Stay = refl
    go (MoveTo s t) = ap (rekey_by (k ++ t) kd) (prefix_deeper k s kd off)
    go (Swap s t) = ap₂ (swapped_by (k ++ s) (k ++ t) kd) (prefix_deeper k s kd off) (prefix_deeper k t kd off)

spots_off : (ops : Records) (key : ℕ → Key) (ch : Change) (cs : List ℕ) → ((d : ℕ) → IsIn d cs → rekey ch (key d) ≡ key d) → spots ops (λ d. rekey ch (key d)) cs ≡ spots ops key cs
spots_off ops key ch [] h = refl
spots_off ops key ch (d ∷ cs) h = ap₂ (λ (k : Key) (ps : List (Key × Form)). (k, remaining_of (ops d)) ∷ ps) (h d (inl refl)) (spots_off ops key ch cs (λ e i. h e (inr i)))

-- a call that stands is not decided by its paths
pub text_nowhere : (limits : Limits) (graph : Graph) (op : Record) (e : Errno) → Own limits graph op → Fits op.remaining → by_paths op.call ≡ Some e → ⊥
text_nowhere limits graph op e own fits text = let z : ◌≡◌ {A = Option Errno} (Some e) None = sym text ∙ sym (by_text_any limits op.call) ∙ ap by_text (sym own.parts) ∙ fits_under op.walked op.remaining fits in cc

carry_in_place : (old : State) (inv : Invariant old) (c : ℕ) (op : Record) (i : ℕ) (st : Holdings) (o : Moved) (front back : List ℕ) → inv.order ≡ front ++ c ∷ back → old.ops c ≡ Some op → op.phase ≡ Placed i → by_paths op.call ≡ None → op.holdings ≡ Some st → next_on old.graph op.remaining st ≡ Finishes o
    → Invariant (carrying old c op)
carry_in_place old inv c op i st o front back order_is is pl text on n =
    subst (λ (m : Effect). Invariant (ended old c op m old.timeline)) (sym made_is) (ends_keep old inv c op (effect_at old.graph op.remaining st op.reserved) old.timeline made_ends)
  where
    own : Own (limits_of old) old.graph op
    own = inv.own c op is

    unfinished : (r : Reply) → op.phase ≡ Finished r → ⊥
    unfinished r e = let z : ◌≡◌ {A = Phase} (Placed i) (Finished r) = sym pl ∙ e in cc

    pc : IsPlaced old.ops c
    pc = record { op = op; holdings = st; place = i; is = is; on = on; phase = pl }

    ordered : InOrder old.ops (front ++ c ∷ back)
    ordered = subst (InOrder old.ops) order_is inv.in_order

    -- another placed call has another place
    places : (d : ℕ) (q : Record) (a b : ℕ) → (c ≡ d → ⊥) → old.ops d ≡ Some q → q.phase ≡ Placed a → op.phase ≡ Placed b → a ≡ b → ⊥
    places d q a b differs e g h same = go (in_parts d c front back (subst (IsIn d) order_is (inv.all_placed d q a e g).1))
      where
        pd : IsPlaced old.ops d
        pd = record { op = q; holdings = ((inv.own d q e).placed a g).0; place = a; is = e; on = ((inv.own d q e).placed a g).1; phase = g }

        b_is : i ≡ b
        b_is = let z : ◌≡◌ {A = Phase} (Placed i) (Placed b) = sym pl ∙ h in cc

        go : IsIn d front ⊎ (d ≡ c) ⊎ IsIn d back → ⊥
        go (inl j) = let l : a < i = front_less old.ops c front back ordered pc d pd j in let z : i ≡ b = b_is in omega (arith, l, z, same)
        go (inr (inl j)) = differs (sym j)
        go (inr (inr j)) = let l : i < a = back_more old.ops c front back ordered pc d pd j in let z : i ≡ b = b_is in omega (arith, l, z, same)

    f : Finisher old.graph old.ops inv.key c op st o
    f = record {
      is_graph = inv.is_graph;
      kept = inv.kept;
      is = is;
      on = on;
      unfinished = inr (i, pl);
      well = own.well st on;
      victim = own.victim unfinished st on;
      single = own.single st on;
      number = own.number unfinished text;
      next = n;
      none_below = λ p s d q other r j is_q on_q walks there. (let z : ◌≡◌ {A = Phase} (Placed i) Walking = sym pl ∙ p in cc);
      places = places;
    }

    facts_of : Facts old.graph old.ops inv.key c op st
    facts_of = facts old.graph old.ops inv.key c op st o f

    made_is : finish old.graph op ≡ effect_at old.graph op.remaining st op.reserved
    made_is = ap₂ (effect_of old.graph op) text on

    new_is : Altered old.graph (effect_at old.graph op.remaining st op.reserved).graph facts_of.does.linked st
    new_is = facts_of.does.altered

    new_kept : CallFacts (numbers (effect_at old.graph op.remaining st op.reserved).graph) old.ops (λ d. rekey facts_of.ch (inv.key d))
    new_kept = facts_of.does.kept

    ordered_front : InOrder old.ops front
    ordered_front = order_front old.ops front (c ∷ back) ordered

    differs_front : (d : ℕ) (p : IsPlaced old.ops d) → IsIn d front → c ≡ d → ⊥
    differs_front d p j e = two_calls old.ops d c p pc (front_less old.ops c front back ordered pc d p j) (sym e)

    differs_back : (d : ℕ) (p : IsPlaced old.ops d) → IsIn d back → c ≡ d → ⊥
    differs_back d p j e = two_calls old.ops c d pc p (back_more old.ops c front back ordered pc d p j) e

    all : Carried (graph_shapes old.graph) (spots old.ops inv.key front) (spots old.ops inv.key back) (inv.key c) op.remaining facts_of.ch
    all =
        carried (graph_shapes old.graph) (spots old.ops inv.key front) (spots old.ops inv.key back) (inv.key c) op.remaining facts_of.ch facts_of.out facts_of.fits
        (in_place_of old.graph inv.is_graph old.ops inv.key inv.kept front ordered_front)
        (passes_list old.graph old.ops inv.key c op st facts_of front ordered_front (λ d p j. (differs_front d p j, subst (λ (z : Phase). IsAfter (Placed p.place) z) (sym pl) (front_less old.ops c front back ordered pc d p j))))
        (subst (λ (t : Map Shape). InPlace t (rekey_all facts_of.ch (spots old.ops inv.key front))) facts_of.tree_is
        (subst (InPlace (graph_shapes (effect_at old.graph op.remaining st op.reserved).graph)) (spots_rekey old.ops inv.key facts_of.ch front)
        (in_place_of (effect_at old.graph op.remaining st op.reserved).graph new_is.is_graph old.ops (λ d. rekey facts_of.ch (inv.key d)) facts_of.does.kept front ordered_front)))

    back_is : spots old.ops (λ d. rekey facts_of.ch (inv.key d)) back ≡ spots old.ops inv.key back
    back_is = spots_off old.ops inv.key facts_of.ch back still
      where
        still : (d : ℕ) → IsIn d back → rekey facts_of.ch (inv.key d) ≡ inv.key d
        still d j =
            let p : IsPlaced old.ops d = placed_in old.ops d back (order_back old.ops front (c ∷ back) ordered).2 j in
            let off : after_prefix (inv.key c) (inv.key d) ≡ None =
            (inv.kept.pairs c d op p.op st p.holdings (differs_back d p j) is p.is on p.on).after (subst (λ (z : Phase). IsAfter z p.op.phase) (sym pl) (subst (λ (z : Phase). IsAfter (Placed i) z) (sym p.phase) (back_more old.ops c front back ordered pc d p j))) in
            ap (λ (x : Change). rekey x (inv.key d)) facts_of.is_under.1 ∙ rekey_off (inv.key c) facts_of.is_under.0 (inv.key d) off

    whole : spots old.ops inv.key (front ++ c ∷ back) ≡ spots old.ops inv.key front ++ (inv.key c, op.remaining) ∷ spots old.ops inv.key back
    whole = spots_append old.ops inv.key front (c ∷ back) ∙ ap (λ (r : Form). spots old.ops inv.key front ++ (inv.key c, r) ∷ spots old.ops inv.key back) (ap remaining_of is)

    new_spots : spots old.ops (λ d. rekey facts_of.ch (inv.key d)) (front ++ back) ≡ rekey_all facts_of.ch (spots old.ops inv.key front) ++ spots old.ops inv.key back
    new_spots = spots_append old.ops (λ d. rekey facts_of.ch (inv.key d)) front back ∙ ap₂ (λ (a b : List (Key × Form)). a ++ b) (spots_rekey old.ops inv.key facts_of.ch front) back_is

    tied : Tied (graph_shapes (effect_at old.graph op.remaining st op.reserved).graph) (set_at c (Some (phased op (Finished (reply (graph_shapes old.graph) (under (inv.key c) op.remaining)), (effect_at old.graph op.remaining st op.reserved).reserved, (effect_at old.graph op.remaining st op.reserved).removed))) old.ops) (λ d. rekey facts_of.ch (inv.key d)) (front ++ back) (view_after (start old.start) old.timeline)
    tied = tied_carry (effect_at old.graph op.remaining st op.reserved).reserved (effect_at old.graph op.remaining st op.reserved).removed (graph_shapes old.graph) (graph_shapes (effect_at old.graph op.remaining st op.reserved).graph) old.ops inv.key (λ d. rekey facts_of.ch (inv.key d)) front back (view_after (start old.start) old.timeline) c op i
        (subst (λ (x : List ℕ). Tied (graph_shapes old.graph) old.ops inv.key x (view_after (start old.start) old.timeline)) order_is inv.tied) is pl
        (ap₂ settle facts_of.tree_is new_spots ∙ all.tree_is ∙ sym (ap (settle (graph_shapes old.graph)) whole))
        all.same_reply
        (ap₂ settle_replies facts_of.tree_is (spots_rekey old.ops inv.key facts_of.ch front) ∙ all.front_replies)
        (ap₂ settle_replies (ap₂ settle facts_of.tree_is (spots_rekey old.ops inv.key facts_of.ch front)) back_is ∙ all.back_replies)

    others : (d : ℕ) → IsIn d (front ++ back) → d ≡ c → ⊥
    others d j e = go (in_joined d front back j)
      where
        p : IsPlaced old.ops d
        p = placed_in old.ops d (front ++ back) (order_drop old.ops c front back ordered) j

        go : IsIn d front ⊎ IsIn d back → ⊥
        go (inl k) = differs_front d p k (sym e)
        go (inr k) = differs_back d p k (sym e)

    made_ends : Closing old inv c op (effect_at old.graph op.remaining st op.reserved) old.timeline
    made_ends = record {
      is = is;
      key = λ d. rekey facts_of.ch (inv.key d);
      order = front ++ back;
      is_graph = new_is.is_graph;
      kept = new_kept;
      in_order = order_without old.ops c (Some (finished_op op (effect_at old.graph op.remaining st op.reserved))) (front ++ back) others (order_drop old.ops c front back ordered);
      all_placed = λ d q j m e g. ((inv.all_placed d q j e g).0, joined d m (in_parts d c front back (subst (IsIn d) order_is (inv.all_placed d q j e g).1)));
      lawful = inv.lawful;
      tied = subst (λ (r : Reply). Tied (graph_shapes (effect_at old.graph op.remaining st op.reserved).graph) (set_at c (Some (phased op (Finished r, (effect_at old.graph op.remaining st op.reserved).reserved, (effect_at old.graph op.remaining st op.reserved).removed))) old.ops) (λ d. rekey facts_of.ch (inv.key d)) (front ++ back) (view_after (start old.start) old.timeline)) (sym facts_of.reply_is) tied;
      own = own_finished old.graph (effect_at old.graph op.remaining st op.reserved) facts_of.does.linked st (rekey facts_of.ch (inv.key c)) op inv.is_graph new_is own on (new_kept.each c op st is on).located (λ m j. (facts_of.does.links m j).1) facts_of.does.reserved facts_of.does.removed;
      own_other = λ d q m e.
          own_other old.graph (effect_at old.graph op.remaining st op.reserved).graph facts_of.does.linked st (rekey facts_of.ch (inv.key d)) q new_is (inv.own d q e)
          (λ other g. ((new_kept.each d q other e g).located, (inv.kept.pairs d c q op other st m e is g on).apart))
          (λ k j h. inv.apart c d k op q (λ z. m (sym z)) is e (inl (facts_of.does.links k j).0) h);
      spares = spares;
      shapes = new_is.shapes;
      calls = record { call = λ d. refl; seat_of = λ d. refl; back = λ d. refl; busy = λ seat. refl };
      begun = refl;
    }
      where
        joined : (d : ℕ) → (d ≡ c → ⊥) → IsIn d front ⊎ (d ≡ c) ⊎ IsIn d back → IsIn d (front ++ back)
        joined d m (inl j) = in_front d front back j
        joined d m (inr (inl j)) = absurd (m j)
        joined d m (inr (inr j)) = in_back d front back j

        spares : (k : ℕ) → HasSpare (finished_op op (effect_at old.graph op.remaining st op.reserved)) k → HasSpare op k ⊎ Reached old.graph k
        spares k (inl j) = inl (inl (facts_of.does.reserved k j))
        spares k (inr j) = inr (facts_of.does.removed k j).2

pub keeps_carried : StepKeeps CarriedOut
keeps_carried old new seat inv (c, op, s, i, moves, pl, same) = subst Invariant (sym same) (go (ready old.graph op s moves.2))
  where
    parts : Split c inv.order
    parts = split_at c inv.order (inv.all_placed c op i moves.1 pl).1

    go : Ready old.graph op s → Invariant (carrying old c op)
    go (By_text e text) = let p : (st : Holdings) × (op.holdings ≡ Some st) = (inv.own c op moves.1).placed i pl in absurd (text_nowhere (limits_of old) old.graph op e (inv.own c op moves.1) (inv.kept.each c op p.0 moves.1 p.1).fits text)
    go (By_holdings st text on n) = carry_in_place old inv c op i st s parts.front parts.back parts.is moves.1 pl text on n
