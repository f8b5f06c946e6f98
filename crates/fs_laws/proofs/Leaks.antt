-- Over every run the numbers in use are those that are reached, reserved or removed.
use Rattle.std.proofs.Common.{◌≡◌, ℕ, ◌+◌, Bool, true, false, eqb, List, [], ◌∷◌, ◌++◌, Option, Some, None, refl, sym, ap, ap₂, ◌∙◌, subst, ◌⊎◌, inl, inr, arith, Ok, Err}
use Rattle.fs_names.specs.Keys.{Key}
use Rattle.fs_names.specs.Shapes.{Shape}
use Rattle.fs_calls.specs.Starts.{Start}
use Rattle.fs_calls.specs.Forms.{reserved_by}
use Rattle.fs_calls.specs.declared.call.Call.{Call}
use Rattle.fs_calls.specs.declared.errno.Errno.{Errno}
use Rattle.fs_calls.specs.declared.reply.Reply.{Reply}
use Rattle.fs_calls.specs.Graphs.{Graph, numbers, set_at, reserved_in}
use Rattle.fs_machine.specs.Finishes.{Effect, effect_of, effect_at, finish}
use Rattle.fs_machine.specs.Leaving.{is_removed, releasing, cleared, let_go, finished_op, unreserved}
use Rattle.fs_machine.specs.Moves.{next, target, took_by, took}
use Rattle.fs_machine.specs.declared.moves.Move.TheVariants.{Take as Takes, Finish as Finishes}
use Rattle.fs_machine.specs.Records.{Holdings, Phase, Walking, Placed, Finished, Record, Records, head_on, Dest}
use Rattle.fs_timeline.specs.Timeline.{begins, commit_count}
use Rattle.fs_laws.specs.Invariants.{HasSpare, IsUnfinished, Own, Invariant, limits_of}
use Rattle.fs_machine.specs.States.{State, fresh, IsStart, Run, Starting, Beginning, Stepping, Begun, Begins, Reserves, began, new_op, Step, taking, letting_go, helping, carrying, committing, returning}
use Rattle.fs_machine.specs.declared.answers.Refusal.TheVariants.{SeatBusy, Full, OutOfMemory}
use Rattle.fs_machine.specs.declared.answers.Stepped.{Stepped}
use Rattle.fs_machine.specs.declared.answers.Stepped.TheVariants.{Idle, Took, Busy, LetGo, Helped, Committed, CarriedOut, Returned}
use Rattle.fs_machine.specs.declared.moves.Moved.{Moved}
use Rattle.fs_laws.specs.CallFacts.{Located, Keeps}
use Rattle.fs_laws.proofs.graphs.Walks.{at_child, eqb_refl, eqb_true}
use Rattle.fs_laws.proofs.events.OneCallChanged.{Place, Here, Else, place}
use Rattle.fs_laws.proofs.events.Help.{upd_here, upd_else}
use Rattle.fs_laws.proofs.events.Commit.{Ready, By_text, By_holdings, ready}
use Rattle.fs_laws.proofs.events.Take.{TakesFrom, From_nowhere, From_holdings, takes_from}
use Rattle.fs_laws.proofs.calls.Takes.{Entry, Of_head, Replaced, Take, Walk, There, takes_by}
use Rattle.fs_laws.proofs.events.Return.{ends_nowhere}
use Rattle.fs_laws.proofs.states.Headline.{run_keeps}
use Rattle.fs_laws.proofs.states.Agreement.{run_accounts, not_begun}
use Rattle.fs_laws.proofs.finish.Limits.{finish_resizes, own_limited}
use Rattle.fs_laws.proofs.calls.OwnRecord.{reached_used}
use Rattle.fs_laws.specs.Numbers.{IsInUse, IsReached, IsSpared, IsRemovedBy, NumbersAreKept}
use Rattle.fs_laws.proofs.Reaching.{Stays, stays}
use Rattle.fs_laws.proofs.calls.NodesHeld.{none_some}

-- what is carried from state to state
record NumberFacts (s : State) : Type 0 where
  no_leak : (n : ℕ) (shape : Shape) → s.graph.shape n ≡ Some shape → IsReached s.graph n ⊎ IsSpared s n
  held : (n c : ℕ) → s.holder n ≡ Some c → IsReached s.graph n ⊎ IsRemovedBy s n c

same_op : (a b : Record) → ◌≡◌ {A = Option Record} (Some a) (Some b) → a ≡ b
same_op a b e = cc

same_number : (a b : ℕ) → ◌≡◌ {A = Option ℕ} (Some a) (Some b) → a ≡ b
same_number a b e = cc

-- ---- one call's record changes

-- its reserved and removed numbers, but for the number n, stay noted
abbrev SparesBut : Record → Record → ℕ → Type 0
SparesBut op v n = ((m : ℕ) → (m ≡ n → ⊥) → op.reserved ≡ Some m → v.reserved ≡ Some m) × ((m : ℕ) → (m ≡ n → ⊥) → op.removed ≡ Some m → v.removed ≡ Some m)

abbrev Spares : Record → Record → Type 0
Spares op v = (v.reserved ≡ op.reserved) × (v.removed ≡ op.removed)

has_still : (op v : Record) (m : ℕ) → Spares op v → HasSpare op m → HasSpare v m
has_still op v m (a, b) (inl e) = inl (a ∙ e)
has_still op v m (a, b) (inr e) = inr (b ∙ e)

has_but : (op v : Record) (m n : ℕ) → (m ≡ n → ⊥) → SparesBut op v n → HasSpare op m → HasSpare v m
has_but op v m n differs (a, b) (inl e) = inl (a m differs e)
has_but op v m n differs (a, b) (inr e) = inr (b m differs e)

-- a spared number in the new records
spared_by : (old new : State) (c : ℕ) (op v : Record) (m : ℕ) → old.ops c ≡ Some op → new.ops ≡ set_at c (Some v) old.ops → (HasSpare op m → HasSpare v m) → IsSpared old m → IsSpared new m
spared_by old new c op v m is ops has (d, q, q_is, spare) = go (place c (Some v) old.ops d)
  where
    go : Place (Option Record) c (Some v) old.ops d → IsSpared new m
    go (Here i j) = (d, v, ap (λ (f : Records). f d) ops ∙ j, has (subst (λ (o : Record). HasSpare o m) (same_op q op (sym q_is ∙ ap old.ops i ∙ is)) spare))
    go (Else n j) = (d, q, ap (λ (f : Records). f d) ops ∙ j ∙ q_is, spare)

removed_by : (old new : State) (c : ℕ) (op v : Record) (m d : ℕ) → old.ops c ≡ Some op → new.ops ≡ set_at c (Some v) old.ops → (op.removed ≡ Some m → v.removed ≡ Some m) → IsRemovedBy old m d → IsRemovedBy new m d
removed_by old new c op v m d is ops has (q, q_is, gone) = go (place c (Some v) old.ops d)
  where
    go : Place (Option Record) c (Some v) old.ops d → IsRemovedBy new m d
    go (Here i j) = (v, ap (λ (f : Records). f d) ops ∙ j, has (ap (λ (o : Record). o.removed) (sym (same_op q op (sym q_is ∙ ap old.ops i ∙ is))) ∙ gone))
    go (Else n j) = (q, ap (λ (f : Records). f d) ops ∙ j ∙ q_is, gone)

either_by : {A B C D : Type 0} → (A → C) → (B → D) → A ⊎ B → C ⊎ D
either_by f g (inl a) = inl (f a)
either_by f g (inr b) = inr (g b)

-- graph and holders stay, and what the call has reserved and removed
kept_still : (old new : State) (c : ℕ) (op v : Record) → old.ops c ≡ Some op → new.ops ≡ set_at c (Some v) old.ops → Spares op v → new.graph ≡ old.graph → new.holder ≡ old.holder → NumberFacts old → NumberFacts new
kept_still old new c op v is ops spares graph holder k = record {
  no_leak = λ n s e. either_by (λ r. subst (λ (g : Graph). IsReached g n) (sym graph) r) (spared_by old new c op v n is ops (has_still op v n spares)) (k.no_leak n s (ap (λ (g : Graph). g.shape n) (sym graph) ∙ e));
  held = λ n d e. either_by (λ r. subst (λ (g : Graph). IsReached g n) (sym graph) r) (removed_by old new c op v n d is ops (λ f. spares.1 ∙ f)) (k.held n d (ap (λ (f : ℕ → Option ℕ). f n) (sym holder) ∙ e));
}

-- ---- a take

took_spares : (op : Record) (o : Option Holdings) (l : Key) (n : ℕ) → Spares op (took_by op o l n)
took_spares op None l n = (refl, refl)
took_spares op (Some st) [] n = (refl, refl)
took_spares op (Some st) (x ∷ l) n = (refl, refl)

-- an entry of a reached node leads to a reached one
child_reached : (graph : Graph) (k : Key) (d n : ℕ) (x : List ℕ) → numbers graph k ≡ Some d → graph.child d x ≡ Some n → IsReached graph n
child_reached graph k d n x e f = (k ++ x ∷ [], at_child graph.child 0 d k x e ∙ f)

take_reached : (graph : Graph) (k : Key) (op : Record) (n : ℕ) (st : Holdings) → Located (numbers graph) k st → Take graph op n st → IsReached graph n
take_reached graph k op n st loc (Walk x l a b e t) = child_reached graph k st.node n x loc.here e
take_reached graph k op n st loc (There (Entry c p a b e v) d t) = child_reached graph k st.node n _ loc.here e
take_reached graph k op n st loc (There (Of_head side c p q x l a b turn f e) d t) = child_reached graph _ (head_on side st).node n x (loc.head side) e
take_reached graph k op n st loc (There (Replaced most p q a b there h w e v) d t) = child_reached graph _ st.dest.node n _ (loc.head Dest) e

taken_reached : (s : State) → Invariant s → (c : ℕ) (op : Record) (n : ℕ) → s.ops c ≡ Some op → next s.graph op ≡ Takes n → IsReached s.graph n
taken_reached s inv c op n is m = go (takes_from s.graph op n m).0
  where
    go : TakesFrom s.graph op n → IsReached s.graph n
    go (From_nowhere text off z) = ([], ap (λ (x : ℕ). Some x) z)
    go (From_holdings st on t) = take_reached s.graph (inv.key c) op n st (inv.kept.each c op st is on).located (takes_by s.graph op n st on t)

kept_took : (s : State) → Invariant s → (c : ℕ) (op : Record) (n : ℕ) → s.ops c ≡ Some op → next s.graph op ≡ Takes n → NumberFacts s → NumberFacts (taking s c op n)
kept_took s inv c op n is m k = record {
  no_leak = λ x shape e. either_by (λ r. r) (spared_by s (taking s c op n) c op (took op n) x is refl (has_still op (took op n) x (took_spares op op.holdings (target op.remaining) n))) (k.no_leak x shape e);
  held = λ x d e. held x d e (place n (Some c) s.holder x);
}
  where
    held : (x d : ℕ) → set_at n (Some c) s.holder x ≡ Some d → Place (Option ℕ) n (Some c) s.holder x → IsReached s.graph x ⊎ IsRemovedBy (taking s c op n) x d
    held x d e (Here i j) = inl (subst (IsReached s.graph) (sym i) (taken_reached s inv c op n is m))
    held x d e (Else h j) = either_by (λ r. r) (removed_by s (taking s c op n) c op (took op n) x d is refl (λ f. (took_spares op op.holdings (target op.remaining) n).1 ∙ f)) (k.held x d (sym j ∙ e))

-- ---- a let go

releasing_children : (b : Bool) (n : ℕ) (graph : Graph) (x : ℕ) → IsReached graph x → IsReached (releasing b n graph) x
releasing_children true n graph x r = r
releasing_children false n graph x r = r

differs_false : (m n : ℕ) → (m ≡ n → ⊥) → eqb m n ≡ false
differs_false m n h = go (eqb m n) refl
  where
    go : (b : Bool) → eqb m n ≡ b → b ≡ false
    go true e = absurd (h (eqb_true m n e))
    go false e = refl

still_removed : (op : Record) (n m : ℕ) → (m ≡ n → ⊥) → op.removed ≡ Some m → (let_go op n).removed ≡ Some m
still_removed op n m h e = ap (λ (o : Option ℕ). cleared (is_removed o n) o) e ∙ ap (λ (b : Bool). cleared b (Some m)) (differs_false m n h)

kept_let_go : (s : State) (c : ℕ) (op : Record) (n : ℕ) → s.ops c ≡ Some op → NumberFacts s → NumberFacts (letting_go s c op n)
kept_let_go s c op n is k = record {
  no_leak = λ x shape e. by x shape (is_removed op.removed n) refl e;
  held = λ x d e. held x d e (place n None s.holder x);
}
  where
    new : State
    new = letting_go s c op n

    reached : (x : ℕ) → IsReached s.graph x → IsReached (letting_go s c op n).graph x
    reached x r = releasing_children (is_removed op.removed n) n s.graph x r

    held : (x d : ℕ) → set_at n None s.holder x ≡ Some d → Place (Option ℕ) n None s.holder x → IsReached (letting_go s c op n).graph x ⊎ IsRemovedBy (letting_go s c op n) x d
    held x d e (Here i j) = absurd (none_some (set_at n None s.holder x) d j e)
    held x d e (Else h j) = either_by (reached x) (removed_by s (letting_go s c op n) c op (let_go op n) x d is refl (still_removed op n x h)) (k.held x d (sym j ∙ e))

    -- nothing is released
    as_removed : (x : ℕ) → is_removed op.removed n ≡ false → op.removed ≡ Some x → (let_go op n).removed ≡ Some x
    as_removed x f e = ap (λ (b : Bool). cleared b op.removed) f ∙ e

    has : (x : ℕ) → is_removed op.removed n ≡ false → HasSpare op x → HasSpare (let_go op n) x
    has x f (inl e) = inl e
    has x f (inr e) = inr (as_removed x f e)

    away : (x : ℕ) → (x ≡ n → ⊥) → HasSpare op x → HasSpare (let_go op n) x
    away x h (inl e) = inl e
    away x h (inr e) = inr (still_removed op n x h e)

    at_other : (x : ℕ) (shape : Shape) → set_at n None s.graph.shape x ≡ Some shape → Place (Option Shape) n None s.graph.shape x → IsReached (letting_go s c op n).graph x ⊎ IsSpared (letting_go s c op n) x
    at_other x shape e (Here i j) = absurd (none_some (set_at n None s.graph.shape x) shape j e)
    at_other x shape e (Else h j) = either_by (reached x) (spared_by s (letting_go s c op n) c op (let_go op n) x is refl (away x h)) (k.no_leak x shape (sym j ∙ e))

    by : (x : ℕ) (shape : Shape) (b : Bool) → is_removed op.removed n ≡ b → (releasing (is_removed op.removed n) n s.graph).shape x ≡ Some shape → IsReached (letting_go s c op n).graph x ⊎ IsSpared (letting_go s c op n) x
    by x shape true i e = at_other x shape (ap (λ (b : Bool). (releasing b n s.graph).shape x) (sym i) ∙ e) (place n None s.graph.shape x)
    by x shape false i e = either_by (reached x) (spared_by s (letting_go s c op n) c op (let_go op n) x is refl (has x i)) (k.no_leak x shape (ap (λ (b : Bool). (releasing b n s.graph).shape x) (sym i) ∙ e))

-- ---- a finish

-- the call's finish, by what it has made
record Finishing (s : State) (c : ℕ) (op : Record) (made : Effect) : Type 0 where
  reached : (n : ℕ) → IsReached s.graph n → IsReached made.graph n ⊎ (made.removed ≡ Some n)
  reserved : (n : ℕ) → op.reserved ≡ Some n → (made.reserved ≡ Some n) ⊎ IsReached made.graph n
  victim : (n : ℕ) → made.removed ≡ Some n → s.holder n ≡ Some c
  to_old : (n : ℕ) (shape : Shape) → made.graph.shape n ≡ Some shape → (t : Shape) × (s.graph.shape n ≡ Some t)
  intact : op.removed ≡ None

finishing : (s : State) → Run s → (c : ℕ) (op : Record) (o : Moved) → s.ops c ≡ Some op → IsUnfinished op → next s.graph op ≡ Finishes o → Finishing s c op (finish s.graph op)
finishing s run c op o is unfinished m = go (ready s.graph op o m)
  where
    inv : Invariant s
    inv = run_keeps s run

    own : Own (limits_of s) s.graph op
    own = (run_keeps s run).own c op is

    old : (n : ℕ) (shape : Shape) → (finish s.graph op).graph.shape n ≡ Some shape → (t : Shape) × (s.graph.shape n ≡ Some t)
    old n shape e = (finish_resizes (limits_of s) s.graph (run_keeps s run).is_graph (run_accounts s run).within op (own_limited (limits_of s) s.graph op ((run_keeps s run).own c op is)) ((run_keeps s run).own c op is).well).to_old n shape e

    go : Ready s.graph op o → Finishing s c op (finish s.graph op)
    go (By_text e text) = record {
      reached = λ n r. inl (subst (λ (made : Effect). IsReached made.graph n) (sym (ap (λ (x : Option Errno). effect_of s.graph op x op.holdings) text)) r);
      reserved = λ n r. inl (ap (λ (x : Option Errno). (effect_of s.graph op x op.holdings).reserved) text ∙ r);
      victim = λ n r. absurd (none_some (finish s.graph op).removed n (ap (λ (x : Option Errno). (effect_of s.graph op x op.holdings).removed) text) r);
      to_old = old;
      intact = ((run_keeps s run).own c op is).intact unfinished;
    }
    go (By_holdings st text on n) = in_place
      where
        keeps : Keeps (numbers s.graph) ((run_keeps s run).key c) op st
        keeps = (run_keeps s run).kept.each c op st is on

        made_is : finish s.graph op ≡ effect_at s.graph op.remaining st op.reserved
        made_is = ap₂ (effect_of s.graph op) text on

        there : Stays s.graph st op.reserved (finish s.graph op)
        there = subst (Stays s.graph st op.reserved) (sym made_is)
            (stays s.graph (run_keeps s run).is_graph ((run_keeps s run).key c) st o op.reserved op.remaining keeps.located keeps.fits (((run_keeps s run).own c op is).well st on) (((run_keeps s run).own c op is).victim unfinished st on) (((run_keeps s run).own c op is).number unfinished text) n)

        in_place : Finishing s c op (finish s.graph op)
        in_place = record {
          reached = there.reached;
          reserved = there.reserved;
          victim = λ x e. (run_keeps s run).held c op st x is on (inr (inr (inr (inr (there.victim x e)))));
          to_old = old;
          intact = ((run_keeps s run).own c op is).intact unfinished;
        }

kept_finished : (s new : State) (c : ℕ) (op : Record) (made : Effect) → s.ops c ≡ Some op → Finishing s c op made → new.ops ≡ set_at c (Some (finished_op op made)) s.ops → new.graph ≡ made.graph → new.holder ≡ s.holder → NumberFacts s → NumberFacts new
kept_finished s new c op made is f ops graph holder k = record {
  no_leak = λ n shape e. (let t : (t : Shape) × (s.graph.shape n ≡ Some t) = f.to_old n shape (ap (λ (g : Graph). g.shape n) (sym graph) ∙ e) in used n (k.no_leak n t.0 t.1));
  held = λ n d e. held n d (ap (λ (h : ℕ → Option ℕ). h n) (sym holder) ∙ e) (k.held n d (ap (λ (h : ℕ → Option ℕ). h n) (sym holder) ∙ e));
}
  where
    here : (d : ℕ) → d ≡ c → new.ops d ≡ Some (finished_op op made)
    here d i = ap (λ (g : Records). g d) ops ∙ ap (set_at c (Some (finished_op op made)) s.ops) i ∙ upd_here c (Some (finished_op op made)) s.ops

    reached_new : (n : ℕ) → IsReached made.graph n → IsReached new.graph n
    reached_new n r = subst (λ (g : Graph). IsReached g n) (sym graph) r

    reached : (n : ℕ) → IsReached made.graph n ⊎ (made.removed ≡ Some n) → IsReached new.graph n ⊎ IsSpared new n
    reached n (inl r) = inl (reached_new n r)
    reached n (inr e) = inr (c, finished_op op made, here c refl, inr e)

    mine : (n : ℕ) → HasSpare op n → IsReached new.graph n ⊎ IsSpared new n
    mine n (inr e) = absurd (none_some op.removed n f.intact e)
    mine n (inl e) = by (f.reserved n e)
      where
        by : (made.reserved ≡ Some n) ⊎ IsReached made.graph n → IsReached new.graph n ⊎ IsSpared new n
        by (inl r) = inr (c, finished_op op made, here c refl, inl r)
        by (inr r) = inl (reached_new n r)

    spared : (n d : ℕ) (q : Record) → s.ops d ≡ Some q → HasSpare q n → Place (Option Record) c (Some (finished_op op made)) s.ops d → IsReached new.graph n ⊎ IsSpared new n
    spared n d q q_is spare (Here i j) = mine n (subst (λ (x : Record). HasSpare x n) (same_op q op (sym q_is ∙ ap s.ops i ∙ is)) spare)
    spared n d q q_is spare (Else h j) = inr (d, q, ap (λ (g : Records). g d) ops ∙ j ∙ q_is, spare)

    used : (n : ℕ) → IsReached s.graph n ⊎ IsSpared s n → IsReached new.graph n ⊎ IsSpared new n
    used n (inl r) = reached n (f.reached n r)
    used n (inr (d, q, q_is, spare)) = spared n d q q_is spare (place c (Some (finished_op op made)) s.ops d)

    victim : (n d : ℕ) → s.holder n ≡ Some d → IsReached made.graph n ⊎ (made.removed ≡ Some n) → IsReached new.graph n ⊎ IsRemovedBy new n d
    victim n d e (inl r) = inl (reached_new n r)
    victim n d e (inr g) = inr (finished_op op made, here d (same_number d c (sym e ∙ f.victim n g)), g)

    held : (n d : ℕ) → s.holder n ≡ Some d → IsReached s.graph n ⊎ IsRemovedBy s n d → IsReached new.graph n ⊎ IsRemovedBy new n d
    held n d e (inl r) = victim n d e (f.reached n r)
    held n d e (inr (q, q_is, gone)) = by (place c (Some (finished_op op made)) s.ops d)
      where
        by : Place (Option Record) c (Some (finished_op op made)) s.ops d → IsReached new.graph n ⊎ IsRemovedBy new n d
        by (Here i j) = absurd (none_some op.removed n f.intact (ap (λ (x : Record). x.removed) (sym (same_op q op (sym q_is ∙ ap s.ops i ∙ is))) ∙ gone))
        by (Else h j) = inr (q, ap (λ (g : Records). g d) ops ∙ j ∙ q_is, gone)

-- ---- a return

kept_returned : (s : State) → Invariant s → (c : ℕ) (op : Record) (r : Reply) → s.ops c ≡ Some op → op.holdings ≡ None → NumberFacts s → NumberFacts (returning s c op r)
kept_returned s inv c op r is off k = record {
  no_leak = λ n shape e. used n shape op.reserved refl e;
  held = λ n d e. either_by (reached op.reserved n) (gone n d) (k.held n d e);
}
  where
    reached : (o : Option ℕ) (n : ℕ) → IsReached s.graph n → IsReached (unreserved o s.graph) n
    reached None n r = r
    reached (Some m) n r = r

    nothing_removed : (n : ℕ) → op.removed ≡ Some n → ⊥
    nothing_removed n e = let g : (st : Holdings) × (op.holdings ≡ Some st) × (st.victim ≡ Some n) = ((inv.own c op is).gone n e).0 in none_some op.holdings g.0 off g.1

    gone : (n d : ℕ) → IsRemovedBy s n d → IsRemovedBy (returning s c op r) n d
    gone n d (q, q_is, e) = by (place c None s.ops d)
      where
        by : Place (Option Record) c None s.ops d → IsRemovedBy (returning s c op r) n d
        by (Here i j) = absurd (nothing_removed n (ap (λ (x : Record). x.removed) (sym (same_op q op (sym q_is ∙ ap s.ops i ∙ is))) ∙ e))
        by (Else h j) = (q, j ∙ q_is, e)

    spared : (n : ℕ) → (op.reserved ≡ Some n → ⊥) → IsSpared s n → IsSpared (returning s c op r) n
    spared n other (d, q, q_is, spare) = by (place c None s.ops d) spare
      where
        by : Place (Option Record) c None s.ops d → HasSpare q n → IsSpared (returning s c op r) n
        by (Here i j) (inl e) = absurd (other (ap (λ (x : Record). x.reserved) (sym (same_op q op (sym q_is ∙ ap s.ops i ∙ is))) ∙ e))
        by (Here i j) (inr e) = absurd (nothing_removed n (ap (λ (x : Record). x.removed) (sym (same_op q op (sym q_is ∙ ap s.ops i ∙ is))) ∙ e))
        by (Else h j) e = (d, q, j ∙ q_is, e)

    used : (n : ℕ) (shape : Shape) (o : Option ℕ) → op.reserved ≡ o → (unreserved op.reserved s.graph).shape n ≡ Some shape → IsReached (unreserved op.reserved s.graph) n ⊎ IsSpared (returning s c op r) n
    used n shape None i e = either_by (reached op.reserved n) (spared n (λ f. none_some op.reserved n i f)) (k.no_leak n shape (ap (λ (o : Option ℕ). (unreserved o s.graph).shape n) (sym i) ∙ e))
    used n shape (Some m) i e = by (place m None s.graph.shape n)
      where
        at_new : set_at m None s.graph.shape n ≡ Some shape
        at_new = ap (λ (o : Option ℕ). (unreserved o s.graph).shape n) (sym i) ∙ e

        by : Place (Option Shape) m None s.graph.shape n → IsReached (unreserved op.reserved s.graph) n ⊎ IsSpared (returning s c op r) n
        by (Here h j) = absurd (none_some (set_at m None s.graph.shape n) shape j at_new)
        by (Else h j) = either_by (reached op.reserved n) (spared n (λ f. h (sym (same_number m n (sym i ∙ f))))) (k.no_leak n shape (sym j ∙ at_new))

-- ---- a begin

kept_began : (s : State) (seat : ℕ) (call : Call) (c : ℕ) (reserved : Option ℕ) (graph : Graph) → s.ops c ≡ None
    → ((n : ℕ) → IsReached s.graph n → IsReached graph n)
    → ((n : ℕ) (shape : Shape) → graph.shape n ≡ Some shape → ((t : Shape) × (s.graph.shape n ≡ Some t)) ⊎ (reserved ≡ Some n))
    → NumberFacts s → NumberFacts (began s seat call c reserved graph)
kept_began s seat call c reserved graph unused reached used k = record {
  no_leak = λ n shape e. by n (used n shape e);
  held = λ n d e. either_by (reached n) (gone n d) (k.held n d e);
}
  where
    old : (d : ℕ) (q : Record) → s.ops d ≡ Some q → set_at c (Some (new_op s.start.limits seat call reserved)) s.ops d ≡ Some q
    old d q e = upd_else c (Some (new_op s.start.limits seat call reserved)) s.ops d (λ i. none_some (s.ops c) q unused (ap s.ops (sym i) ∙ e)) ∙ e

    gone : (n d : ℕ) → IsRemovedBy s n d → IsRemovedBy (began s seat call c reserved graph) n d
    gone n d (q, q_is, e) = (q, old d q q_is, e)

    spared : (n : ℕ) → IsSpared s n → IsSpared (began s seat call c reserved graph) n
    spared n (d, q, q_is, e) = (d, q, old d q q_is, e)

    by : (n : ℕ) → ((t : Shape) × (s.graph.shape n ≡ Some t)) ⊎ (reserved ≡ Some n) → IsReached graph n ⊎ IsSpared (began s seat call c reserved graph) n
    by n (inl (t, e)) = either_by (reached n) (spared n) (k.no_leak n t e)
    by n (inr e) = inr (c, new_op s.start.limits seat call reserved, upd_here c (Some (new_op s.start.limits seat call reserved)) s.ops, inl e)

kept_begin : (s new : State) (seat : ℕ) (call : Call) (answer : Begun) → Run s → Begins s seat call answer new → NumberFacts s → NumberFacts new
kept_begin s new seat call (Err SeatBusy) run (c, on, same) k = subst NumberFacts (sym same) k
kept_begin s new seat call (Err Full) run (off, full, same) k = subst NumberFacts (sym same) k
kept_begin s new seat call (Err OutOfMemory) run (off, room, same) k = subst NumberFacts (sym same) k
kept_begin s new seat call (Ok c) run (off, number, r) k = go (reserved_by call) r
  where
    unused : s.ops c ≡ None
    unused = not_begun s (run_keeps s run) c (let z : c ≡ begins s.timeline + 1 = number in omega (arith, z))

    go : (o : Option Shape) → Reserves s seat call c o new → NumberFacts new
    go None same = subst NumberFacts (sym same) (kept_began s seat call c None s.graph unused (λ n r. r) (λ n shape e. inl (shape, e)) k)
    go (Some shape) (m, less, empty_m, same) = subst NumberFacts (sym same) (kept_began s seat call c (Some m) (reserved_in m shape s.graph) unused (λ n r. r) (λ n t e. by n t e (place m (Some shape) s.graph.shape n)) k)
      where
        by : (n : ℕ) (t : Shape) → set_at m (Some shape) s.graph.shape n ≡ Some t → Place (Option Shape) m (Some shape) s.graph.shape n → ((t : Shape) × (s.graph.shape n ≡ Some t)) ⊎ (◌≡◌ {A = Option ℕ} (Some m) (Some n))
        by n t e (Here i j) = inr (ap (λ (x : ℕ). Some x) (sym i))
        by n t e (Else h j) = inl (t, sym j ∙ e)

-- ---- runs

kept_start : (limit : ℕ) (tree : Start) (graph : Graph) → IsStart limit tree graph → NumberFacts (fresh limit tree graph)
kept_start limit tree graph h = record { no_leak = λ n shape e. inl (h.reached n shape e); held = λ n c e. cc }

walks_on : (op : Record) → op.phase ≡ Walking → IsUnfinished op
walks_on op w r e = let z : ◌≡◌ {A = Phase} Walking (Finished r) = sym w ∙ e in cc

placed_on : (op : Record) (i : ℕ) → op.phase ≡ Placed i → IsUnfinished op
placed_on op i w r e = let z : ◌≡◌ {A = Phase} (Placed i) (Finished r) = sym w ∙ e in cc

kept_step : (s new : State) (seat : ℕ) (answer : Stepped) → Run s → Step s seat answer new → NumberFacts s → NumberFacts new
kept_step s new seat Idle run (off, same) k = subst NumberFacts (sym same) k
kept_step s new seat (Busy n d) run (c, op, moves, held, same) k = subst NumberFacts (sym same) k
kept_step s new seat (Took n) run (c, op, moves, free, same) k = subst NumberFacts (sym same) (kept_took s (run_keeps s run) c op n moves.1 moves.2 k)
kept_step s new seat (LetGo n) run (c, op, moves, same) k = subst NumberFacts (sym same) (kept_let_go s c op n moves.1 k)
kept_step s new seat (Helped d) run (c, op, u, moves, w, pick, q, is, same) k = subst NumberFacts (sym same) (kept_still s (helping s d q) d q (record q { phase = Placed (commit_count s.timeline) }) is refl (refl, refl) refl refl k)
kept_step s new seat Committed run (c, op, o, moves, w, below, same) k = subst NumberFacts (sym same) (kept_finished s (committing s c op) c op (finish s.graph op) moves.1 (finishing s run c op o moves.1 (walks_on op w) moves.2) refl refl refl k)
kept_step s new seat CarriedOut run (c, op, o, i, moves, placed, same) k = subst NumberFacts (sym same) (kept_finished s (carrying s c op) c op (finish s.graph op) moves.1 (finishing s run c op o moves.1 (placed_on op i placed) moves.2) refl refl refl k)
kept_step s new seat (Returned r) run (c, op, moves, ph, same) k = subst NumberFacts (sym same) (kept_returned s (run_keeps s run) c op r moves.1 (ends_nowhere s.graph op r ph moves.2) k)

run_kept : (s : State) → Run s → NumberFacts s
run_kept s (Starting limit tree graph h) = kept_start limit tree graph h
run_kept s (Beginning {old} seat call answer new run begin) = kept_begin old s seat call answer run begin (run_kept old run)
run_kept s (Stepping {old} seat answer new run step) = kept_step old s seat answer run step (run_kept old run)

spared_used : (s : State) → Invariant s → (n : ℕ) → IsSpared s n → IsInUse s n
spared_used s inv n (c, op, is, inl e) = ((inv.own c op is).spare n e).0
spared_used s inv n (c, op, is, inr e) = ((inv.own c op is).gone n e).2

pub numbers_kept : (s : State) → Run s → NumbersAreKept s
numbers_kept s run = record {
  no_leak = λ n used. (run_kept s run).no_leak n used.0 used.1;
  in_use = λ n o. there n o;
  apart = λ n r spared. not_reached n r spared;
  one_call = λ n c d p q f g a b. one n c d p q f g a b (eqb c d) refl;
  held = (run_kept s run).held;
}
  where
    there : (n : ℕ) → IsReached s.graph n ⊎ IsSpared s n → IsInUse s n
    there n (inl (key, e)) = reached_used s.graph (run_keeps s run).is_graph key n e
    there n (inr spared) = spared_used s (run_keeps s run) n spared

    not_reached : (n : ℕ) → IsReached s.graph n → IsSpared s n → ⊥
    not_reached n (key, e) (c, op, is, inl r) = (((run_keeps s run).own c op is).spare n r).1 key e
    not_reached n (key, e) (c, op, is, inr r) = (((run_keeps s run).own c op is).gone n r).1 key e

    one : (n c d : ℕ) (p q : Record) → s.ops c ≡ Some p → s.ops d ≡ Some q → HasSpare p n → HasSpare q n → (b : Bool) → eqb c d ≡ b → c ≡ d
    one n c d p q f g a b true i = eqb_true c d i
    one n c d p q f g a b false i = absurd ((run_keeps s run).apart c d n p q (λ j. (let z : ◌≡◌ {A = Bool} true false = sym (ap (λ (x : ℕ). eqb x d) j ∙ eqb_refl d) ∙ i in cc)) f g a b)
