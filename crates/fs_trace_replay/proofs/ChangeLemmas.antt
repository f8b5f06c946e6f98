-- What is read of a path, and the last call that changes it.
use Rattle.std.proofs.Common.{◌≡◌, ℕ, ◌+◌, ◌-◌, ◌<◌, ◌≤◌, min, Bool, true, false, List, [], ◌∷◌, ◌++◌, take, drop, Option, Some, None, refl, sym, ap, ◌∙◌, subst, arith, append_assoc, append-nil, leb}
use Rattle.std.proofs.lemmas.List.{take-map}
use Rattle.std.specs.Borrow.{Bor}
use Rattle.std.specs.Prelude.{IsTrue, ◌↔◌, if◌then◌else◌}
use Rattle.fs_names.specs.Limits.{read_limit}
use Rattle.fs_names.specs.declared.limits.Limits.{Limits}
use Rattle.fs_trace_replay.specs.code.Seen.{calls_in}
use Rattle.std.proofs.lemmas.Bool.{leb-true, leb-false}
use mathlib.Core.Path.{fun_ext}
use Rattle.fs_names.specs.Keys.{Key}
use Rattle.fs_names.specs.Names.{Name}
use Rattle.fs_calls.specs.Laws.{HasDirectoriesAbove}
use Rattle.fs_calls.specs.Starts.{Start}
use Rattle.fs_calls.specs.Outcomes.{fault, reply, replied, play, next_start}
use Rattle.fs_names.specs.Failures.{check, first_failure}
use Rattle.fs_calls.specs.Rows.{status}
use Rattle.fs_calls.specs.Sights.{Shape, resolve, resolve_next, shape_of, tree_shapes, is_missing, is_dir, bytes_of}
use Rattle.fs_calls.specs.Tree as tree
use Rattle.fs_calls.specs.Tree.{IsTree, Node, Tree, look}
use Rattle.fs_calls.specs.declared.call.Call.{Call}
use Rattle.fs_calls.specs.declared.call.Call.TheVariants.{Stat, Read}
use Rattle.fs_calls.specs.declared.errno.Errno.{Errno}
use Rattle.fs_calls.specs.declared.errno.Errno.TheVariants.{Enoent, Eisdir}
use Rattle.fs_calls.specs.declared.reply.Reply.{Reply}
use Rattle.fs_calls.specs.declared.reply.Reply.TheVariants as answer
use Rattle.fs_calls.proofs.ResolutionLemmas.{directories_above}
use Rattle.fs_trace_replay.specs.Changes.{Changes, IsLastChange, look_behind}
use Rattle.fs_trace_replay.specs.code.Sights.{StandsAt, bytes_in, kind_in}

-- ---- resolution

-- one name further, where both are there
next_goes : (t : Tree) (d : Key) (x : Name) (n : Node) (rest : Option Errno) (q : Key) → look t d ≡ Some tree.Dir → look t q ≡ Some n → rest ≡ None
    → resolve_next (tree_shapes t d) (tree_shapes t q) rest ≡ None
next_goes t d x tree.Dir rest q dir there none = ap (λ o. resolve_next (shape_of t d o) (tree_shapes t q) rest) dir ∙ ap (λ o. resolve_next (shape_of t d (Some tree.Dir)) (shape_of t q o) rest) there ∙ none
next_goes t d x (tree.File bytes) rest q dir there none = ap (λ o. resolve_next (shape_of t d o) (tree_shapes t q) rest) dir ∙ ap (λ o. resolve_next (shape_of t d (Some tree.Dir)) (shape_of t q o) rest) there ∙ none

-- what is there or above it stands somewhere
child_there : (t : Tree) → HasDirectoriesAbove t → (d rest : Key) (x : Name) (n : Node) → look t (d ++ x ∷ rest) ≡ Some n → (m : Node) × (look t (d ++ x ∷ []) ≡ Some m)
child_there t above d [] x n h = (n, h)
child_there t above d (y ∷ rest) x n h = (tree.Dir, above (d ++ x ∷ []) y rest n (ap (look t) (append_assoc d (x ∷ []) (y ∷ rest)) ∙ h))

resolve_from : (t : Tree) → HasDirectoriesAbove t → (rest d : Key) (n : Node) → look t (d ++ rest) ≡ Some n → resolve (λ k. tree_shapes t (d ++ k)) rest ≡ None
resolve_from t above [] d n h = refl
resolve_from t above (x ∷ rest) d n h =
    let dir : look t (d ++ []) ≡ Some tree.Dir = ap (look t) (append-nil d) ∙ above d x rest n h in
    let child = child_there t above d rest x n h in
    let later : resolve (λ k. tree_shapes t ((d ++ x ∷ []) ++ k)) rest ≡ None = resolve_from t above rest (d ++ x ∷ []) n (ap (look t) (append_assoc d (x ∷ []) rest) ∙ h) in
    let same : ◌≡◌ {A = Option Errno} (resolve (λ k. tree_shapes t (d ++ x ∷ k)) rest) None = subst (λ (f : Key → Key). resolve (λ k. tree_shapes t (f k)) rest ≡ None) (fun_ext (λ k. append_assoc d (x ∷ []) k)) later in
    next_goes t (d ++ []) x child.0 _ (d ++ x ∷ []) dir child.1 same

-- a key that is there resolves
pub resolves : (t : Tree) (p : Key) (n : Node) → IsTree t → look t p ≡ Some n → resolve (tree_shapes t) p ≡ None
resolves t p n is h = resolve_from t (directories_above t is) p [] n h

-- ---- what is read

-- what a stat replies, by the resolution and what stands there; and a read, of which the count is no more than the limit
abbrev stat_by : Option Errno → Option Shape → Reply
stat_by found there = replied (first_failure (found ∷ check (is_missing there) Enoent ∷ [])) (status there)

stat_is : (limits : Limits) (t : Tree) (p : Key) → reply limits t (Stat p) ≡ stat_by (resolve (tree_shapes t) p) (tree_shapes t p)
unfolding reply fault
stat_is limits t p = refl

abbrev read_by : Option Errno → Option Shape → ℕ → ℕ → Reply
read_by found there off count = replied (first_failure (found ∷ check (is_missing there) Enoent ∷ check (is_dir there) Eisdir ∷ [])) (answer.Bytes (take count (drop off (bytes_of there))))

read_is : (limits : Limits) (t : Tree) (p : Key) (off count : ℕ) → reply limits t (Read p off count) ≡ read_by (resolve (tree_shapes t) p) (tree_shapes t p) off (min count (read_limit limits))
unfolding reply fault
read_is limits t p off count = refl

missing : (t : Tree) (p : Key) (found : Option Errno) → look t p ≡ None → StandsAt t p (kind_in (stat_by found None))
missing t p None h = h
missing t p (Some e) h = h

-- what is known by the reply to a stat
pub stat_tells : (limits : Limits) (t : Tree) (p : Key) → IsTree t → StandsAt t p (kind_in (reply limits t (Stat p)))
stat_tells limits t p is = subst (λ r. StandsAt t p (kind_in r)) (sym (stat_is limits t p)) (go (look t p) refl)
  where
    at : (n : Node) → look t p ≡ Some n → stat_by (resolve (tree_shapes t) p) (tree_shapes t p) ≡ stat_by None (shape_of t p (Some n))
    at n h = ap (λ found. stat_by found (tree_shapes t p)) (resolves t p n is h) ∙ ap (λ o. stat_by None (shape_of t p o)) h

    go : (o : Option Node) → look t p ≡ o → StandsAt t p (kind_in (stat_by (resolve (tree_shapes t) p) (tree_shapes t p)))
    go None h = subst (λ o. StandsAt t p (kind_in (stat_by (resolve (tree_shapes t) p) (shape_of t p o)))) (sym h) (missing t p (resolve (tree_shapes t) p) h)
    go (Some tree.Dir) h = subst (λ r. StandsAt t p (kind_in r)) (sym (at tree.Dir h)) h
    go (Some (tree.File bytes)) h = subst (λ r. StandsAt t p (kind_in r)) (sym (at (tree.File bytes) h)) (bytes, h, refl)

-- and by that to a read of no more bytes than one answers
pub read_tells : (limits : Limits) (t : Tree) (p : Key) (bytes : List ℕ) (off count : ℕ) → IsTree t → look t p ≡ Some (tree.File bytes) → count ≤ read_limit limits → bytes_in (reply limits t (Read p off count)) ≡ take count (drop off bytes)
read_tells limits t p bytes off count is h few =
    let all : min count (read_limit limits) ≡ count = omega (arith, few) in
    ap bytes_in (read_is limits t p off count ∙ ap (λ n. read_by (resolve (tree_shapes t) p) (tree_shapes t p) off n) all
    ∙ ap (λ found. read_by found (tree_shapes t p) off count) (resolves t p (tree.File bytes) is h) ∙ ap (λ o. read_by None (shape_of t p o) off count) h)

-- ---- the last change

back : (i : ℕ) → i + 1 - 1 ≡ i
back i = omega arith

-- the look one call further is another one, or the same
pub changed : (start : Start) (calls : List Call) (key : Key) (i : ℕ) (before now : Option Node) → before ≡ look_behind start calls key i → now ≡ look_behind start calls key (i + 1) → (now ≡ before → ⊥) → IsLastChange start calls key (i + 1) (Some (i + 1))
changed start calls key i before now b n other = (omega arith, omega arith, (λ same. other (n ∙ sym same ∙ ap (look_behind start calls key) (back i) ∙ sym b)), (λ m high few. absurd (omega (arith, high, few))))

still : (start : Start) (calls : List Call) (key : Key) (i n : ℕ) → look_behind start calls key i ≡ look_behind start calls key (i + 1) → n ≤ i + 1 → ((m : ℕ) → m ≡ n → m ≤ i → Changes start calls key m → ⊥) → Changes start calls key n → ⊥
still start calls key i n same few below change = go (leb n i) refl
  where
    go : (b : Bool) → leb n i ≡ b → ⊥
    go true e = below n refl (leb-true n i e) change
    go false e =
        let high : i < n = leb-false n i e in
        let last : n ≡ i + 1 = omega (arith, high, few) in
        change (ap (λ m. look_behind start calls key (m - 1)) last ∙ ap (look_behind start calls key) (back i) ∙ same ∙ sym (ap (look_behind start calls key) last))

pub unchanged : (start : Start) (calls : List Call) (key : Key) (i : ℕ) (before now : Option Node) (last : Option ℕ) → before ≡ look_behind start calls key i → now ≡ look_behind start calls key (i + 1) → now ≡ before → IsLastChange start calls key i last → IsLastChange start calls key (i + 1) last
unchanged start calls key i before now None b n same none = λ m some few. still start calls key i m (sym b ∙ sym same ∙ n) few (λ k is below. none k (subst (λ z. 1 ≤ z) (sym is) some) below)
unchanged start calls key i before now (Some last) b n same is = (is.0, omega (arith, is.1), is.2, λ m high few. still start calls key i m (sym b ∙ sym same ∙ n) few (λ k eq below. is.3 k (subst (λ z. last < z) (sym eq) high) below))

pub last_more : (start : Start) (calls : List Call) (key : Key) (i : ℕ) (before now : Option Node) (same : Bool) (last later : Option ℕ) → before ≡ look_behind start calls key i → now ≡ look_behind start calls key (i + 1) → IsTrue same ↔ (now ≡ before)
    → later ≡ (if same then last else Some (i + 1)) → IsLastChange start calls key i last → IsLastChange start calls key (i + 1) later
last_more start calls key i before now same last later b n tells is so_far = subst (IsLastChange start calls key (i + 1)) (sym is) (go same refl)
  where
    go : (v : Bool) → same ≡ v → IsLastChange start calls key (i + 1) (if v then last else Some (i + 1))
    go true e = unchanged start calls key i before now last b n (tells.0 e) so_far
    go false e = changed start calls key i before now b n (λ equal. let both : ◌≡◌ {A = Bool} false true = sym e ∙ tells.1 equal in absurd (cc))

-- what stands there, by the calls that are played
pub behind : (start tree : Start) (ks : List (Bor Call)) (key : Key) (i : ℕ) → tree ≡ next_start start (calls_in (take i ks)) → look tree.tree key ≡ look_behind start (calls_in ks) key i
behind start tree ks key i is = ap (λ (s : Start). look s.tree key) is ∙ ap (λ cs. look (play start cs) key) (sym (take-map (λ (c : Bor Call). c.now) i ks))

-- nothing has changed before the first call
pub nothing_yet : (start : Start) (calls : List Call) (key : Key) → IsLastChange start calls key 0 None
nothing_yet start calls key = λ n some few. absurd (omega (arith, some, few))
