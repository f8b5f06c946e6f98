-- Names of a kind, and keys of another that have only such names: where the start tree has only such names, and the calls that began only such
-- keys, the replies of a lawful timeline tell only such names.
use Rattle.std.proofs.Common.{◌≡◌, ℕ, ◌==◌, Bool, true, false, cond, List, [], ◌∷◌, ◌++◌, map, filter, take, zero, suc, Option, Some, None, refl, subst}
use Rattle.std.specs.List.{AllByRecursion}
use Rattle.std.specs.Ordering.{is_lt}
use Rattle.std.specs.FinMap.{put}
use Rattle.std.specs.FinMap.Entries.{by_order}
use Rattle.std.specs.declared.cmp.Ordering.TheVariants.{Less, Equal, Greater}
use Rattle.fs_names.specs.Names.{Name, same_name, name_cmp, names_above}
use Rattle.fs_names.specs.Keys.{Key, key_cmp, after_prefix}
use Rattle.fs_names.specs.Failures.{or_else}
use Rattle.fs_names.specs.declared.limits.Limits.{Limits}
use Rattle.fs_calls.specs.Tree.{Tree, Node, Dir, File, look, names_in, only_name, with_name, inserted, removed, renamed, exchanged, with_prefix, moved_key, exchanged_key, from_list}
use Rattle.fs_calls.specs.Sights.{Shape, tree_shapes, shape_of, names_of, bytes_of, has_any, is_same}
use Rattle.fs_names.specs.Shapes as shapes
use Rattle.fs_calls.specs.Rows.{status, written}
use Rattle.fs_calls.specs.Starts.{Start}
use Rattle.fs_calls.specs.Outcomes.{fault, after, change, if_sound, filled, success, replied, reply, reply_at, called, play, next_start}
use Rattle.fs_calls.specs.declared.call.Call.{Call}
use Rattle.fs_calls.specs.declared.call.Call.TheVariants.{Mkdir, Mknod, Unlink, Rmdir, Rename, Exchange, Stat, Readdir, ListAfter, Read, Write, Truncate}
use Rattle.fs_calls.specs.declared.reply.Reply.{Reply}
use Rattle.fs_calls.specs.declared.reply.Reply.TheVariants as answer
use Rattle.fs_calls.specs.declared.errno.Errno.{Errno}
use Rattle.fs_timeline.specs.Timeline.{is_commit, call_of, with_call, commits_of, commits, before_commit, reply_after, due, IsAnswered, Each, IsLawful}
use Rattle.fs_timeline.specs.declared.entry.Entry.{Entry}
use Rattle.fs_timeline.specs.declared.entry.Entry.TheVariants.{Begin, Commit, Return}

-- what a call, a reply and an entry name: a call whole keys, and for a list what it needs besides
abbrev pub NamesCall : (Key → Type 0) → Type 0 → Call → Type 0
NamesCall Q L (Mkdir p) = Q p
NamesCall Q L (Mknod p) = Q p
NamesCall Q L (Unlink p) = Q p
NamesCall Q L (Rmdir p) = Q p
NamesCall Q L (Rename p q) = Q p × Q q
NamesCall Q L (Exchange p q) = Q p × Q q
NamesCall Q L (Stat p) = Q p
NamesCall Q L (Readdir p) = Q p
NamesCall Q L (ListAfter count p after) = Q p × Q after × L
NamesCall Q L (Read p off count) = Q p
NamesCall Q L (Write p off bytes) = Q p
NamesCall Q L (Truncate p size) = Q p

abbrev pub NamesReply : (Name → Type 0) → Reply → Type 0
NamesReply P answer.Done = Unit {0}
NamesReply P (answer.Stat kind size) = Unit {0}
NamesReply P (answer.Names names) = AllByRecursion P names
NamesReply P (answer.Bytes bytes) = Unit {0}
NamesReply P (answer.Wrote size) = Unit {0}
NamesReply P (answer.Failed e) = Unit {0}

abbrev pub NamesEntry : (Name → Type 0) → (Key → Type 0) → Type 0 → Entry → Type 0
NamesEntry P Q L (Begin c s call) = NamesCall Q L call
NamesEntry P Q L (Commit c) = Unit {0}
NamesEntry P Q L (Return c r) = NamesReply P r

-- what an entry names, if it begins a call
abbrev pub NamesBegun : (Key → Type 0) → Type 0 → Entry → Type 0
NamesBegun Q L (Begin c s call) = NamesCall Q L call
NamesBegun Q L (Commit c) = Unit {0}
NamesBegun Q L (Return c r) = Unit {0}

-- what a tree names
abbrev pub NamesNode : (Name → Type 0) → Key × Node → Type 0
NamesNode P e = AllByRecursion P e.0

abbrev pub NamesTree : (Name → Type 0) → Tree → Type 0
NamesTree P t = AllByRecursion (NamesNode P) t

module _ (P : Name → Type 0) (Q : Key → Type 0) (L : Type 0) (named : (k : Key) → Q k → AllByRecursion P k) where
  -- ---- keys

  joined : (p q : Key) → AllByRecursion P p → AllByRecursion P q → AllByRecursion P (p ++ q)
  joined [] q h g = g
  joined (x ∷ p) q h g = (h.0, joined p q h.1 g)

  behind : (p k rest : Key) → after_prefix p k ≡ Some rest → AllByRecursion P k → AllByRecursion P rest
  behind [] k rest e h = let same : k ≡ rest = cc in subst (AllByRecursion P) same h
  behind (x ∷ p) [] rest e h = absurd (cc)
  behind (x ∷ p) (y ∷ k) rest e h = go (same_name x y) e (λ f. behind p k rest f h.1)
    where
      go : (b : Bool) → cond {A = Option Key} b (after_prefix p k) None ≡ Some rest → (after_prefix p k ≡ Some rest → AllByRecursion P rest) → AllByRecursion P rest
      go true f later = later f
      go false f later = absurd (cc)

  prefixed : (q k : Key) (o : Option Key) → AllByRecursion P q → AllByRecursion P k → ((rest : Key) → o ≡ Some rest → AllByRecursion P rest) → AllByRecursion P (with_prefix q k o)
  prefixed q k None hq hk each = hk
  prefixed q k (Some rest) hq hk each = joined q rest hq (each rest refl)

  moved : (p q k : Key) → AllByRecursion P q → AllByRecursion P k → AllByRecursion P (moved_key p q k)
  moved p q k hq hk = prefixed q k (after_prefix p k) hq hk (λ rest e. behind p k rest e hk)

  swapped : (p q k : Key) → AllByRecursion P p → AllByRecursion P q → AllByRecursion P k → AllByRecursion P (exchanged_key p q k)
  swapped p q k hp hq hk = prefixed q (moved_key q p k) (after_prefix p k) hq (moved q p k hp hk) (λ rest e. behind p k rest e hk)

  -- ---- trees

  put_kept : (k : Key) (n : Node) (t : Tree) → AllByRecursion P k → NamesTree P t → NamesTree P (put key_cmp k n t)
  put_kept k n [] hk h = (hk, tt)
  put_kept k n (e ∷ t) hk h =
      elim (key_cmp k e.0) as (λ o. NamesTree P (by_order o ((k, n) ∷ e ∷ t) ((e.0, n) ∷ t) (e ∷ put key_cmp k n t))) [
        | Less ↦ (hk, h)
        | Equal ↦ (h.0, h.1)
        | Greater ↦ (h.0, put_kept k n t hk h.1)
      ]

  filter_kept : (p : Key × Node → Bool) (t : Tree) → NamesTree P t → NamesTree P (filter p t)
  filter_kept p [] h = tt
  filter_kept p (e ∷ t) h =
      elim (p e) as (λ b. NamesTree P (cond {A = Tree} b (e ∷ filter p t) (filter p t))) [
        | true ↦ (h.0, filter_kept p t h.1)
        | false ↦ filter_kept p t h.1
      ]

  from_list_kept : (es : Tree) → NamesTree P es → NamesTree P (from_list es)
  from_list_kept [] h = tt
  from_list_kept (e ∷ es) h = put_kept e.0 e.1 (from_list es) h.0 (from_list_kept es h.1)

  mapped_kept : (f : Key → Key) (t : Tree) → ((k : Key) → AllByRecursion P k → AllByRecursion P (f k)) → NamesTree P t → NamesTree P (map (λ (e : Key × Node). (f e.0, e.1)) t)
  mapped_kept f [] each h = tt
  mapped_kept f (e ∷ t) each h = (each e.0 h.0, mapped_kept f t each h.1)

  inserted_kept : (t : Tree) (k : Key) (n : Node) → NamesTree P t → AllByRecursion P k → NamesTree P (inserted t k n)
  unfolding inserted
  inserted_kept t k n h hk = put_kept k n t hk h

  removed_kept : (t : Tree) (k : Key) → NamesTree P t → NamesTree P (removed t k)
  unfolding removed
  removed_kept t k h = filter_kept _ t h

  renamed_kept : (t : Tree) (p q : Key) → NamesTree P t → AllByRecursion P q → NamesTree P (renamed t p q)
  unfolding renamed
  renamed_kept t p q h hq = from_list_kept _ (mapped_kept (moved_key p q) (removed t q) (λ k hk. moved p q k hq hk) (removed_kept t q h))

  exchanged_kept : (t : Tree) (p q : Key) → NamesTree P t → AllByRecursion P p → AllByRecursion P q → NamesTree P (exchanged t p q)
  unfolding exchanged
  exchanged_kept t p q h hp hq = from_list_kept _ (mapped_kept (exchanged_key p q) t (λ k hk. swapped p q k hp hq hk) h)

  -- ---- calls

  either_kept : (b : Bool) (t new : Tree) → NamesTree P t → NamesTree P new → NamesTree P (cond {A = Tree} b t new)
  either_kept true t new h g = h
  either_kept false t new h g = g

  change_kept : (limits : Limits) (t : Tree) (call : Call) → NamesTree P t → NamesCall Q L call → NamesTree P (change limits t call)
  change_kept limits t (Mkdir p) h g = inserted_kept t p Dir h (named p g)
  change_kept limits t (Mknod p) h g = inserted_kept t p (File []) h (named p g)
  change_kept limits t (Unlink p) h g = removed_kept t p h
  change_kept limits t (Rmdir p) h g = removed_kept t p h
  change_kept limits t (Rename p q) h g = either_kept (is_same p q) t (renamed t p q) h (renamed_kept t p q h (named q g.1))
  change_kept limits t (Exchange p q) h g = either_kept (is_same p q) t (exchanged t p q) h (exchanged_kept t p q h (named p g.0) (named q g.1))
  change_kept limits t (Stat p) h g = h
  change_kept limits t (Readdir p) h g = h
  change_kept limits t (ListAfter count p after) h g = h
  change_kept limits t (Read p off count) h g = h
  change_kept limits t (Write p off bytes) h g =
      elim (has_any bytes) as (λ b. NamesTree P (filled t p (cond {A = Option (List ℕ)} b (Some (written (bytes_of (tree_shapes t p)) off bytes)) None))) [
        | true ↦ inserted_kept t p _ h (named p g)
        | false ↦ h
      ]
  change_kept limits t (Truncate p size) h g = inserted_kept t p _ h (named p g)

  sound_kept : (found : Option Errno) (old new : Tree) → NamesTree P old → NamesTree P new → NamesTree P (if_sound found old new)
  sound_kept None old new h g = g
  sound_kept (Some e) old new h g = h

  after_kept : (limits : Limits) (t : Tree) (call : Call) → NamesTree P t → NamesCall Q L call → NamesTree P (after limits t call)
  unfolding after
  after_kept limits t call h g = sound_kept (fault limits t call) t (change limits t call) h (change_kept limits t call h g)

  pub play_kept : (start : Start) (calls : List Call) → NamesTree P start.tree → AllByRecursion (NamesCall Q L) calls → NamesTree P (play start calls)
  play_kept start [] h g = h
  play_kept start (call ∷ calls) h g = play_kept (called start call) calls (after_kept start.limits start.tree call h g.0) g.1

  -- ---- replies

  only_kept : (o : Option Key) (names : List Name) → ((rest : Key) → o ≡ Some rest → AllByRecursion P rest) → AllByRecursion P names → AllByRecursion P (with_name (only_name o) names)
  only_kept None names each h = h
  only_kept (Some []) names each h = h
  only_kept (Some (x ∷ [])) names each h = ((each (x ∷ []) refl).0, h)
  only_kept (Some (x ∷ y ∷ k)) names each h = h

  names_in_kept : (t : Tree) (d : Key) → NamesTree P t → AllByRecursion P (names_in t d)
  names_in_kept [] d h = tt
  names_in_kept (e ∷ t) d h = only_kept (after_prefix d e.0) (names_in t d) (λ rest is. behind d e.0 rest is h.0) (names_in_kept t d h.1)

  shape_kept : (t : Tree) (k : Key) (o : Option Node) → NamesTree P t → AllByRecursion P (names_of (shape_of t k o))
  shape_kept t k None h = tt
  shape_kept t k (Some Dir) h = names_in_kept t k h
  shape_kept t k (Some (File bytes)) h = tt

  names_kept : (x : Name) (names : List Name) → AllByRecursion P names → AllByRecursion P (names_above x names)
  names_kept x [] h = tt
  names_kept x (y ∷ names) h =
      elim (is_lt (name_cmp x y)) as (λ b. AllByRecursion P (cond {A = List Name} b (y ∷ names_above x names) (names_above x names))) [
        | true ↦ (h.0, names_kept x names h.1)
        | false ↦ names_kept x names h.1
      ]

  take_kept : (n : ℕ) (names : List Name) → AllByRecursion P names → AllByRecursion P (take n names)
  take_kept zero names h = tt
  take_kept (suc n) [] h = tt
  take_kept (suc n) (x ∷ names) h = (h.0, take_kept n names h.1)

  status_kept : (there : Option Shape) → NamesReply P (status there)
  status_kept None = tt
  status_kept (Some (shapes.Dir names)) = tt
  status_kept (Some (shapes.File bytes)) = tt

  success_kept : (limits : Limits) (t : Tree) (call : Call) → NamesTree P t → NamesReply P (success limits t call)
  success_kept limits t (Mkdir p) h = tt
  success_kept limits t (Mknod p) h = tt
  success_kept limits t (Unlink p) h = tt
  success_kept limits t (Rmdir p) h = tt
  success_kept limits t (Rename p q) h = tt
  success_kept limits t (Exchange p q) h = tt
  success_kept limits t (Stat p) h = status_kept (tree_shapes t p)
  success_kept limits t (Readdir p) h = shape_kept t p (look t p) h
  success_kept limits t (ListAfter count p after) h = take_kept _ _ (names_kept _ _ (shape_kept t p (look t p) h))
  success_kept limits t (Read p off count) h = tt
  success_kept limits t (Write p off bytes) h = tt
  success_kept limits t (Truncate p size) h = tt

  replied_kept : (found : Option Errno) (well : Reply) → NamesReply P well → NamesReply P (replied found well)
  replied_kept None well h = h
  replied_kept (Some e) well h = tt

  reply_kept : (limits : Limits) (t : Tree) (call : Call) → NamesTree P t → NamesReply P (reply limits t call)
  unfolding reply
  reply_kept limits t call h = replied_kept (fault limits t call) (success limits t call) (success_kept limits t call h)

  -- ---- timelines

  call_kept : (c : ℕ) (es : List Entry) (call : Call) → AllByRecursion (NamesBegun Q L) es → call_of c es ≡ Some call → NamesCall Q L call
  call_kept c [] call h is = absurd (cc)
  call_kept c (Begin d s x ∷ es) call h is = go (c == d) is (λ e. call_kept c es call h.1 e)
    where
      go : (b : Bool) → or_else (cond {A = Option Call} b (Some x) None) (call_of c es) ≡ Some call → (call_of c es ≡ Some call → NamesCall Q L call) → NamesCall Q L call
      go true e later = let same : x ≡ call = cc in subst (NamesCall Q L) same h.0
      go false e later = later e
  call_kept c (Commit d ∷ es) call h is = call_kept c es call h.1 is
  call_kept c (Return d r ∷ es) call h is = call_kept c es call h.1 is

  commits_kept : (whole es : List Entry) → AllByRecursion (NamesBegun Q L) whole → AllByRecursion (NamesCall Q L) (commits_of whole es)
  commits_kept whole [] h = tt
  commits_kept whole (Begin c s call ∷ es) h = commits_kept whole es h
  commits_kept whole (Commit c ∷ es) h = go (call_of c whole) refl (commits_kept whole es h)
    where
      go : (o : Option Call) → call_of c whole ≡ o → AllByRecursion (NamesCall Q L) (commits_of whole es) → AllByRecursion (NamesCall Q L) (with_call o (commits_of whole es))
      go None e rest = rest
      go (Some call) e rest = (call_kept c whole call h e, rest)
  commits_kept whole (Return c r ∷ es) h = commits_kept whole es h

  before_kept : (c : ℕ) (es : List Entry) → AllByRecursion (NamesBegun Q L) es → AllByRecursion (NamesBegun Q L) (before_commit c es)
  before_kept c [] h = tt
  before_kept c (e ∷ es) h =
      elim (is_commit c e) as (λ b. AllByRecursion (NamesBegun Q L) (cond {A = List Entry} b [] (e ∷ before_commit c es))) [
        | true ↦ tt
        | false ↦ (h.0, before_kept c es h.1)
      ]

  due_kept : (start : Start) (c : ℕ) (es : List Entry) (r : Reply) → NamesTree P start.tree → AllByRecursion (NamesBegun Q L) es → due start c es ≡ Some r → NamesReply P r
  due_kept start c es r tree h is = go (call_of c es) is
    where
      calls : List Call
      calls = commits (before_commit c es)

      go : (o : Option Call) → reply_after start calls o ≡ Some r → NamesReply P r
      go None e = absurd (cc)
      go (Some call) e =
          let same : reply_at (next_start start calls) call ≡ r = cc in
          subst (NamesReply P) same (reply_kept start.limits (play start calls) call (play_kept start calls tree (commits_kept (before_commit c es) (before_commit c es) (before_kept c es h))))

  pub one_more : (es : List Entry) (e : Entry) → AllByRecursion (NamesBegun Q L) es → NamesBegun Q L e → AllByRecursion (NamesBegun Q L) (es ++ e ∷ [])
  one_more [] e h g = (g, tt)
  one_more (x ∷ es) e h g = (h.0, one_more es e h.1 g)

  entry_kept : (start : Start) (before : List Entry) (e : Entry) → NamesTree P start.tree → AllByRecursion (NamesBegun Q L) before → NamesBegun Q L e → IsAnswered start before e → NamesEntry P Q L e
  entry_kept start before (Begin c s call) tree h g is = g
  entry_kept start before (Commit c) tree h g is = tt
  entry_kept start before (Return c r) tree h g is = due_kept start c before r tree h is

  entries_kept : (start : Start) (before es : List Entry) → NamesTree P start.tree → AllByRecursion (NamesBegun Q L) before → AllByRecursion (NamesBegun Q L) es → Each (IsAnswered start) before es → AllByRecursion (NamesEntry P Q L) es
  entries_kept start before [] tree h g each = tt
  entries_kept start before (e ∷ es) tree h g each =
      (entry_kept start before e tree h g.0 each.0, entries_kept start (before ++ e ∷ []) es tree (one_more before e h g.0) g.1 each.1)

  pub lawful_kept : (start : Start) (es : List Entry) → IsLawful start es → NamesTree P start.tree → AllByRecursion (NamesBegun Q L) es → AllByRecursion (NamesEntry P Q L) es
  lawful_kept start es law tree h = entries_kept start [] es tree tt h law.replies

  -- the tree that its commits leave
  pub spelled_kept : (start : Start) (es : List Entry) → NamesTree P start.tree → AllByRecursion (NamesBegun Q L) es → NamesTree P (play start (commits es))
  spelled_kept start es tree h = play_kept start (commits es) tree (commits_kept es es h)
