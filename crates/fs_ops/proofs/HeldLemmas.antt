-- What a finished call still holds, and the machine's let gos.
use Rattle.std.proofs.Common.{◌≡◌, ℕ, zero, suc, ◌+◌, ◌-◌, ◌≤◌, nat_lt, Bool, true, false, List, [], ◌∷◌, ◌++◌, length, take, drop, Option, Some, None, refl, sym, ap, ap₂, ◌∙◌, subst, subst₂, MatchOption, arith, length-append, append_assoc, append-nil, length-drop}
use Rattle.std.proofs.Math.Seq.{take-append_seam}
use Rattle.std.specs.Prelude.{option_map, option_to_list}
use Rattle.std.specs.Option.{is_some}
use Rattle.std.proofs.lemmas.Bool.Decides.{nat_tests}
use Rattle.fs_names.specs.Keys.{Key, parent_of}
use Rattle.fs_names.specs.Names.{Name}
use Rattle.fs_names.proofs.ParentLemmas.{parent_length}
use Rattle.fs_names.specs.Limits.{in_blocks}
use Rattle.fs_names.specs.declared.limits.Limits.{Limits}
use Rattle.fs_calls.specs.Forms.{form, Form, AtNode, AtEntry, AtPair, by_paths}
use Rattle.fs_calls.specs.declared.call.Call.{Call}
use Rattle.fs_calls.specs.declared.errno.Errno.{Errno}
use Rattle.fs_calls.specs.declared.reply.Reply.{Reply}
use Rattle.fs_nodes.specs.Graphs.{Graph}
use Rattle.fs_locks.specs.Held.{first_of, last_of}
use Rattle.fs_walk.specs.Ways.{Way, ForkWay, head_held}
use Rattle.fs_walk.specs.declared.head.Head as count
use Rattle.fs_machine.specs.Leaving.{is_removed, cleared}
use Rattle.fs_machine.specs.Moves.{next_by, last_held, left_last, left_holdings}
use Rattle.fs_machine.specs.Records.{Finished, Holdings, held_on, taken, taken_if}
use Rattle.fs_machine.specs.OpValues.{OpValue, IsLetGo, IsTook, next_of, phase_of, record_of}
use Rattle.fs_machine.proofs.LastTakenGoesFirst.{popped}
use Rattle.fs_ops.specs.OpValue.{Forks, IsOp, IsReady, behind_in, head_of, held_by, holdings_of, holdings_with, left_times, op_value, reply_of, stands, with_held}
use Rattle.fs_ops.specs.code.TakeAndLetGo.{way_let_go, fork_let_go}
use Rattle.fs_ops.specs.declared.stand.Stand.{Stand}
use Rattle.fs_ops.specs.PlanOf.{move_of}
use Rattle.fs_ops.specs.code.NextByNodes.{last_next}
use Rattle.fs_ops.specs.code.TakeAndLetGo.{all_held, heads_held}
use Rattle.fs_ops.specs.declared.outcome.Outcome.{Outcome}
use Rattle.fs_ops.specs.declared.outcome.Outcome.TheVariants.{Open, Fixed}

-- ---- of what was taken, as many are left as did not go

left_after : (reply : Reply) (st : Option Holdings) (k : ℕ) → k ≤ length (taken_if st) → (gone : List ℕ) × ((length gone ≡ k) × (taken_if (left_times reply k st) ++ gone ≡ taken_if st))
left_after reply st zero h = ([], (refl, append-nil (taken_if st)))
left_after reply st (suc k) h =
    let r : (gone : List ℕ) × ((length gone ≡ k) × (taken_if (left_times reply k st) ++ gone ≡ taken_if st)) = left_after reply st k (omega (arith, h)) in
    let all : length (taken_if (left_times reply k st) ++ r.0) ≡ length (taken_if st) = ap length r.1.1 in
    let more : (n : ℕ) × (taken_if (left_holdings (Finished reply) (left_times reply k st)) ++ n ∷ r.0 ≡ taken_if (left_times reply k st) ++ r.0) = one_more (left_times reply k st) r.0 (omega (arith, all, h, r.1.0)) in
    (more.0 ∷ r.0, (ap suc r.1.0, more.1 ∙ r.1.1))
  where
    one_more : (o : Option Holdings) (gone : List ℕ) → suc (length gone) ≤ length (taken_if o ++ gone) → (n : ℕ) × (taken_if (left_holdings (Finished reply) o) ++ n ∷ gone ≡ taken_if o ++ gone)
    one_more None gone less = absurd (omega (arith, less))
    one_more (Some s) gone less = (last_held s s.victim, sym (append_assoc (taken_if (left_last s s.victim)) (last_held s s.victim ∷ []) gone) ∙ ap (λ (l : List ℕ). l ++ gone) (sym (popped s)))

-- two beginnings of one list, to which as much is missing, are one
same_front : (a b c d : List ℕ) → a ++ c ≡ b ++ d → length c ≡ length d → a ≡ b
same_front a b c d e same =
    let all : length (a ++ c) ≡ length (b ++ d) = ap length e in
    let n : length a ≡ length b = (let x : length (a ++ c) ≡ length a + length c = length-append a c in let y : length (b ++ d) ≡ length b + length d = length-append b d in omega (arith, all, x, y, same)) in
    sym (take-append_seam a c) ∙ ap (λ (l : List ℕ). take (length a) l) e ∙ ap (λ (k : ℕ). take k (b ++ d)) n ∙ take-append_seam b d

-- so what is held is what the machine's call holds
held_taken : (reply : Reply) (held : List ℕ) (st : Option Holdings) → (gone : List ℕ) × (held ++ gone ≡ taken_if st) → taken_if (held_by (Fixed reply held) st) ≡ held
held_taken reply held st (gone, e) =
    let all : length (held ++ gone) ≡ length (taken_if st) = ap length e in
    let n : length (held ++ gone) ≡ length held + length gone = length-append held gone in
    let r = left_after reply st (length (taken_if st) - length held) (omega arith) in
    let k : length r.0 ≡ length (taken_if st) - length held = r.1.0 in
    same_front (taken_if (held_by (Fixed reply held) st)) held r.0 gone (r.1.1 ∙ sym e) (omega (arith, all, n, k))

-- ---- the next move

last_pushed : (l : List ℕ) (n : ℕ) → last_of (l ++ n ∷ []) ≡ Some n
last_pushed [] n = refl
last_pushed (m ∷ []) n = refl
last_pushed (m ∷ k ∷ l) n = last_pushed (k ∷ l) n

-- a finished call lets go of what it took last, and one that holds nothing returns
last_next_is : (graph : Graph) (op : OpValue) (reply : Reply) → op.reply ≡ Some reply → move_of (last_next (last_of (taken_if op.holdings))) ≡ next_of graph op
last_next_is graph op reply fixed = by op.holdings refl
  where
    by : (o : Option Holdings) → op.holdings ≡ o → move_of (last_next (last_of (taken_if o))) ≡ next_of graph op
    by None e = sym (ap₂ (next_by graph (record_of 0 None op) (by_paths op.call)) (ap (phase_of None) fixed) e)
    by (Some st) e =
        ap (λ (o : Option ℕ). move_of (last_next o)) (ap last_of (popped st) ∙ last_pushed (taken_if (left_last st st.victim)) (last_held st st.victim))
        ∙ sym (ap₂ (next_by graph (record_of 0 None op) (by_paths op.call)) (ap (phase_of None) fixed) e)

pub finished_next : (graph : Graph) (blocks : Bool) (call : Form) (op now : OpValue) (outcome : Outcome) (reply : Reply) (held : List ℕ) → outcome ≡ Fixed reply held → op.reply ≡ reply_of outcome → IsReady blocks call op.holdings outcome → with_held outcome op ≡ now
    → move_of (last_next (last_of held)) ≡ next_of graph now
finished_next graph blocks call op now outcome reply held is fixed ready view =
    ap (λ (l : List ℕ). move_of (last_next (last_of l))) (sym (held_taken reply held op.holdings (subst (IsReady blocks call op.holdings) is ready)))
    ∙ last_next_is graph (with_held (Fixed reply held) op) reply (fixed ∙ ap reply_of is)
    ∙ ap (next_of graph) (ap (λ (o : Outcome). with_held o op) (sym is) ∙ view)

-- and where it stands is what it took first
first_taken : (o : Option Holdings) → first_of (taken_if o) ≡ option_map (λ (st : Holdings). st.node) o
first_taken None = refl
first_taken (Some st) = refl

pub finished_position : (blocks : Bool) (call : Form) (op now : OpValue) (outcome : Outcome) (reply : Reply) (held : List ℕ) → outcome ≡ Fixed reply held → IsReady blocks call op.holdings outcome → with_held outcome op ≡ now → first_of held ≡ option_map (λ (st : Holdings). st.node) now.holdings
finished_position blocks call op now outcome reply held is ready view =
    ap first_of (sym (held_taken reply held op.holdings (subst (IsReady blocks call op.holdings) is ready)))
    ∙ first_taken (held_by (Fixed reply held) op.holdings)
    ∙ ap (λ (w : OpValue). option_map (λ (st : Holdings). st.node) w.holdings) (ap (λ (o : Outcome). with_held o op) (sym is) ∙ view)

-- ---- a let go

one_gone : (reply : Reply) (st : Option Holdings) (held rest : List ℕ) (n : ℕ) → held ≡ rest ++ n ∷ [] → length held ≤ length (taken_if st) → held_by (Fixed reply rest) st ≡ left_holdings (Finished reply) (held_by (Fixed reply held) st)
one_gone reply st held rest n e within =
    let l : length held ≡ length (rest ++ n ∷ []) = ap length e in
    let m : length (rest ++ n ∷ []) ≡ length rest + 1 = length-append rest (n ∷ []) in
    let k : length (taken_if st) - length rest ≡ suc (length (taken_if st) - length held) = omega (arith, l, m, within) in
    ap (λ (k : ℕ). left_times reply k st) k

-- one that holds nothing stays so
none_gone : (reply : Reply) (o : Option Holdings) → taken_if o ≡ [] → o ≡ left_holdings (Finished reply) o
none_gone reply None e = refl
none_gone reply (Some st) e = absurd (cc)

-- what is held after a let go
held_less : (reply : Reply) (st : Option Holdings) (old new : List ℕ) (last : Option ℕ) → (gone : List ℕ) × (old ++ gone ≡ taken_if st) → MatchOption last ((old ≡ []) × (new ≡ [])) (λ node. old ≡ new ++ node ∷ [])
    → held_by (Fixed reply new) st ≡ left_holdings (Finished reply) (held_by (Fixed reply old) st)
held_less reply st old new None h (e, f) = ap (λ (l : List ℕ). held_by (Fixed reply l) st) (f ∙ sym e) ∙ none_gone reply (held_by (Fixed reply old) st) (held_taken reply old st h ∙ e)
held_less reply st old new (Some n) (gone, e) f =
    let all : length (old ++ gone) ≡ length (taken_if st) = ap length e in
    let m : length (old ++ gone) ≡ length old + length gone = length-append old gone in
    one_gone reply st old new n f (omega (arith, all, m))

pub last_left : (limits : Limits) (call : Call) (stand : Stand) (reserved removed removed_new : Option ℕ) (outcome : Outcome) (reply : Reply) (old new : List ℕ) (last : Option ℕ) (n : ℕ) (now : OpValue)
    → outcome ≡ Fixed reply old → IsReady (in_blocks limits) (form limits call) (stands (form limits call) stand) outcome → MatchOption last ((old ≡ []) × (new ≡ [])) (λ node. old ≡ new ++ node ∷ []) → removed_new ≡ cleared (is_removed removed n) removed
    → with_held outcome (op_value limits call stand reserved removed outcome) ≡ now → IsLetGo now n (with_held (Fixed reply new) (op_value limits call stand reserved removed_new (Fixed reply new)))
last_left limits call stand reserved removed removed_new outcome reply old new last n now is ready pops cleared_is view seat place =
    let st : Option Holdings = stands (form limits call) stand in
    rw (← view, is, cleared_is, held_less reply st old new last (subst (IsReady (in_blocks limits) (form limits call) st) is ready) pops) refl

-- and it is a beginning still
pub held_begins : (old new all : List ℕ) (last : Option ℕ) → (gone : List ℕ) × (old ++ gone ≡ all) → MatchOption last ((old ≡ []) × (new ≡ [])) (λ node. old ≡ new ++ node ∷ []) → (gone : List ℕ) × (new ++ gone ≡ all)
held_begins old new all None (gone, e) (f, g) = (gone, ap (λ (l : List ℕ). l ++ gone) (g ∙ sym f) ∙ e)
held_begins old new all (Some n) (gone, e) f = (n ∷ gone, sym (append_assoc new (n ∷ []) gone) ∙ ap (λ (l : List ℕ). l ++ gone) (sym f) ∙ e)

-- ---- at the finish

-- names that a head has walked
some_name : (k : ℕ) (l : Key) → suc k ≤ length l → (x : Name) × ((r : Key) × (l ≡ x ∷ r))
some_name k [] h = absurd (omega arith)
some_name k (x ∷ r) h = (x, (r, refl))

head_walked : (names j : ℕ) (p : Key) → names + suc j ≤ length (parent_of p) → (x : Name) × ((r : Key) × (take (suc j) (drop names p) ≡ x ∷ r))
head_walked names j p h =
    let e : length (parent_of p) ≡ length p - 1 = parent_length p in
    let l : length (drop names p) ≡ length p - names = length-drop names p in
    let s : (x : Name) × ((r : Key) × (drop names p ≡ x ∷ r)) = some_name j (drop names p) (omega (arith, h, e, l)) in
    (s.0, (take j s.1.0, ap (take (suc j)) s.1.1))

head_held_is : (p : Key) (names : ℕ) (head : count.Head) → names + head.walked ≤ length (parent_of p) → head_held head ≡ held_on (head_of p names head).walked head.node
head_held_is p names head within = by head.walked refl within
  where
    by : (k : ℕ) → head.walked ≡ k → names + k ≤ length (parent_of p) → head_held head ≡ held_on (take k (drop names p)) head.node
    by zero e h = rw e refl
    by (suc j) e h = let r = head_walked names j p h in let t : nat_lt 0 (suc j) ≡ true = grind (arith, nat_tests) in rw (e, t, r.1.1) refl

-- a finish leaves all that had been taken
pub all_held_is : (call : Form) (stand : Stand) → Forks call stand.walk stand.fork → all_held stand.walk.node stand.fork stand.victim ≡ taken_if (stands call stand)
all_held_is call stand h = by stand.walk.node
  where
    heads : (call : Form) (fork : Option ForkWay) → Forks call stand.walk fork → (n : ℕ) → n ∷ heads_held fork ++ option_to_list stand.victim ≡ taken (holdings_with call n (behind_in stand.walk.behind fork) fork stand.victim)
    heads call None h n = refl
    heads (AtNode c p) (Some f) h n = absurd h
    heads (AtEntry c p) (Some f) h n = absurd h
    heads (AtPair c p q) (Some f) h n =
        let s : head_held f.source ≡ held_on (head_of p f.names f.source).walked f.source.node = head_held_is p f.names f.source h.source in
        let d : head_held f.dest ≡ held_on (head_of q f.names f.dest).walked f.dest.node = head_held_is q f.names f.dest h.dest in
        ap₂ (λ (a b : Option ℕ). n ∷ option_to_list a ++ option_to_list b ++ option_to_list stand.victim) s d

    by : (o : Option ℕ) → all_held o stand.fork stand.victim ≡ taken_if (holdings_of call o (behind_in stand.walk.behind stand.fork) stand.fork stand.victim)
    by None = refl
    by (Some n) = heads call stand.fork h n

-- and so none has gone
pub none_went : (reply : Reply) (held : List ℕ) (st : Option Holdings) → held ≡ taken_if st → held_by (Fixed reply held) st ≡ st
none_went reply held st e =
    let n : length held ≡ length (taken_if st) = ap length e in
    let k : length (taken_if st) - length held ≡ 0 = omega (arith, n) in
    ap (λ (k : ℕ). left_times reply k st) k

-- ---- a call that is not finished

-- its value is that of its fields
pub still_open : (outcome : Outcome) (op now : OpValue) → with_held outcome op ≡ now → is_some (reply_of outcome) ≡ false → op ≡ now
still_open (Open prepared) op now e unfinished = e
still_open (Fixed reply held) op now e unfinished = absurd (cc)

-- its room is enough wherever it stands
pub still_ready : (blocks : Bool) (call : Form) (st new : Option Holdings) (outcome : Outcome) → is_some (reply_of outcome) ≡ false → IsReady blocks call st outcome → IsReady blocks call new outcome
still_ready blocks call st new (Open prepared) unfinished h = h
still_ready blocks call st new (Fixed reply held) unfinished h = absurd (cc)

-- what is behind is let go of: the walk and its heads keep their ways
names_kept : (fork : Option ForkWay) (way : Way) → (way_let_go fork way).names ≡ way.names
names_kept None way = refl
names_kept (Some fork) way = refl

within_kept : (fork : Option ForkWay) (way : Way) → way.walked ≤ way.names → (way_let_go fork way).walked ≤ (way_let_go fork way).names
within_kept None way h = h
within_kept (Some fork) way h = h

forks_kept : (call : Form) (way : Way) (fork : Option ForkWay) → Forks call way fork → Forks call (way_let_go fork way) (fork_let_go fork)
forks_kept call way None h = tt
forks_kept (AtPair c p q) way (Some fork) h = record { node = h.node; names = h.names; arrived = h.arrived; source = h.source; dest = h.dest }
forks_kept (AtNode c p) way (Some fork) h = h
forks_kept (AtEntry c p) way (Some fork) h = h

-- so a call that is not finished stays one
pub open_let_go : (limits : Limits) (call : Call) (error : Option Errno) (old new : Stand) (outcome : Outcome) → is_some (reply_of outcome) ≡ false → new.walk ≡ way_let_go old.fork old.walk → new.fork ≡ fork_let_go old.fork → IsOp limits call error old outcome → IsOp limits call error new outcome
open_let_go limits call error old new outcome unfinished walk fork op = record {
  decided = op.decided;
  names = ap (λ (w : Way). w.names) walk ∙ names_kept old.fork old.walk ∙ op.names;
  within = subst (λ (w : Way). w.walked ≤ w.names) (sym walk) (within_kept old.fork old.walk op.within);
  forks = subst₂ (Forks (form limits call)) (sym walk) (sym fork) (forks_kept (form limits call) old.walk old.fork op.forks);
  ready = still_ready _ _ _ _ outcome unfinished op.ready;
}

-- so that is what a take changes
pub open_took : (outcome : Outcome) (old new now : OpValue) (n : ℕ) → with_held outcome old ≡ now → is_some (reply_of outcome) ≡ false → IsTook old n new → IsTook now n (with_held outcome new)
open_took (Open prepared) old new now n e unfinished h = subst (λ (op : OpValue). IsTook op n new) e h
open_took (Fixed reply held) old new now n e unfinished h = absurd (cc)
