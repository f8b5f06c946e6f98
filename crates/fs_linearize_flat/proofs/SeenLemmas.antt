-- What is seen at a key, by the entry that was found there.
use Rattle.std.proofs.Common.{◌≡◌, ℕ, zero, suc, ◌+◌, ◌<◌, ◌≤◌, min, Bool, true, false, cond, is_some, List, [], ◌∷◌, ◌++◌, length, filter, take, drop, get_or, Some, None, Option, refl, sym, ap, ◌∙◌, arith, append_assoc, append-nil, length-append}
use Rattle.std.specs.Prelude.{nat_lt, nat_le}
use Rattle.std.specs.FinMap.{find}
use Rattle.std.proofs.lemmas.Bool.Decides.{nat_tests}
use Rattle.std.specs.Borrow.{Bor}
use Rattle.std.specs.Ordering.{is_lt}
use Rattle.fs_names.specs.Names.{Name, name_cmp, names_above}
use Rattle.fs_names.specs.Shapes as shapes
use Rattle.fs_names.specs.Keys.{Key, key_cmp, after_prefix}
use Rattle.fs_names.specs.Failures.{or_else}
use Rattle.fs_names.specs.declared.kind.Kind.TheVariants as kinds
use Rattle.fs_names.proofs.LimitLemmas.{empty_has_room}
use Rattle.fs_names.specs.declared.limits.Limits.{Limits}
use Rattle.fs_names.specs.Limits.{entry_limit}
use Rattle.fs_names.specs.declared.limits.TheConstants.{LIST_LIMIT}
use Rattle.fs_calls.specs.Tree.{Tree, Node, Dir, File, look, names_in, name_in, with_name, only_name}
use Rattle.fs_calls.specs.Sights.{tree_shapes, shape_of, has_any, names_of, bytes_of, is_full, resolve, resolve_next, resolve_dir}
use Rattle.fs_calls.specs.Rows.{as_dir, status, node_reply}
use Rattle.fs_calls.specs.Forms as forms
use Rattle.fs_calls.specs.code.Seen.{sight}
use Rattle.fs_calls.specs.declared.rows.Sight.{Sight}
use Rattle.fs_calls.specs.declared.rows.Sight.TheVariants as seen
use Rattle.fs_calls.specs.declared.errno.Errno.{Errno}
use Rattle.fs_calls.specs.declared.errno.Errno.TheVariants.{Enoent, Enotdir}
use Rattle.fs_calls.specs.declared.reply.Reply.TheVariants as answer
use Rattle.fs_calls.proofs.LookLemmas.{look-find}
use Rattle.fs_linearize_flat.proofs.KeyLemmas.{drop_next}
use Rattle.fs_linearize_flat.specs.code.Cells.{lent_names, kind_of, bytes_at, node_in, below_key, IsAt, BelongsAt, GoesOn, IsReached, ReachesOn}

-- what is seen at a key is the shape of what is found there
seen_by : (t : Tree) (k : Key) (o : Option Node) → find key_cmp k t ≡ o → tree_shapes t k ≡ shape_of t k o
seen_by t k o e = ap (shape_of t k) (look-find t k ∙ e)

pub seen_at : (t : Tree) (k : Key) (i : ℕ) (cell : Key × Node) → IsAt t k i → cell ≡ get_or t i cell → tree_shapes t k ≡ shape_of t k (Some cell.1)
seen_at t k i cell at e = seen_by t k (Some cell.1) (at.found cell ∙ ap (λ z. Some z.1) (sym e))

pub seen_nowhere : (t : Tree) (k : Key) (i : ℕ) → BelongsAt t k i → tree_shapes t k ≡ shape_of t k None
seen_nowhere t k i at = seen_by t k None at.absent

-- a node of the kind of directories is one
dir_node : (n : Node) → kinds.Dir ≡ kind_of n → n ≡ Dir
dir_node Dir e = refl
dir_node (File bytes) e = absurd (cc)

-- a node of the kind of files is one
file_node : (n : Node) → kinds.File ≡ kind_of n → n ≡ File (bytes_at n)
file_node Dir e = absurd (cc)
file_node (File bytes) e = refl

module _ (t : Tree) (k : Key) where
  -- a directory that is found is seen with its names
  dir_seen : (n : Node) → tree_shapes t k ≡ shape_of t k (Some n) → kinds.Dir ≡ kind_of n → tree_shapes t k ≡ shape_of t k (Some Dir)
  dir_seen n is dir = is ∙ ap (λ m. shape_of t k (Some m)) (dir_node n dir)

  -- a file with its bytes
  file_seen : (n : Node) → tree_shapes t k ≡ shape_of t k (Some n) → kinds.File ≡ kind_of n → tree_shapes t k ≡ shape_of t k (Some (File (bytes_at n)))
  file_seen n is file = is ∙ ap (λ m. shape_of t k (Some m)) (file_node n file)

  pub sight_nothing : tree_shapes t k ≡ shape_of t k None → sight (tree_shapes t k) ≡ seen.Nothing
  sight_nothing is = ap sight is

  pub sight_file : (n : Node) → tree_shapes t k ≡ shape_of t k (Some n) → kinds.File ≡ kind_of n → sight (tree_shapes t k) ≡ seen.File
  sight_file n is file = ap sight (file_seen n is file)

  pub sight_dir : (n : Node) (r : Sight) → tree_shapes t k ≡ shape_of t k (Some n) → kinds.Dir ≡ kind_of n → sight (Some (shapes.Dir (names_in t k))) ≡ r → sight (tree_shapes t k) ≡ r
  sight_dir n r is dir seen = ap sight (dir_seen n is dir) ∙ seen

  pub nothing_full : (limits : Limits) → tree_shapes t k ≡ shape_of t k None → false ≡ is_full (entry_limit limits) (tree_shapes t k)
  nothing_full limits is = sym (ap (is_full (entry_limit limits)) is ∙ empty_has_room limits)

  pub file_full : (limits : Limits) (n : Node) → tree_shapes t k ≡ shape_of t k (Some n) → kinds.File ≡ kind_of n → false ≡ is_full (entry_limit limits) (tree_shapes t k)
  file_full limits n is file = sym (ap (is_full (entry_limit limits)) (file_seen n is file) ∙ empty_has_room limits)

  pub bytes_there : (n : Node) (bytes : List ℕ) → tree_shapes t k ≡ shape_of t k (Some n) → bytes ≡ bytes_at n → bytes ≡ bytes_of (tree_shapes t k)
  bytes_there n bytes is e = e ∙ by_node n ∙ sym (ap bytes_of is)
    where
      by_node : (n : Node) → bytes_at n ≡ bytes_of (shape_of t k (Some n))
      by_node Dir = refl
      by_node (File bytes) = refl

  pub bytes_nowhere : tree_shapes t k ≡ shape_of t k None → ◌≡◌ {A = List ℕ} [] (bytes_of (tree_shapes t k))
  bytes_nowhere is = sym (ap bytes_of is)

  -- ---- the resolution of a key that should be a directory

  pub lost_dir : (e : Errno) → Some e ≡ resolve (tree_shapes t) k → Some e ≡ resolve_dir (tree_shapes t) k
  lost_dir e h = ap (λ o. as_dir o (tree_shapes t k)) h

  by_both : (found : Option Errno) (o : Option Node) → found ≡ resolve (tree_shapes t) k → tree_shapes t k ≡ shape_of t k o → as_dir found (shape_of t k o) ≡ resolve_dir (tree_shapes t) k
  by_both found o h is = λ i. as_dir (h i) (sym is i)

  pub missing_dir : None ≡ resolve (tree_shapes t) k → tree_shapes t k ≡ shape_of t k None → Some Enoent ≡ resolve_dir (tree_shapes t) k
  missing_dir h is = by_both None None h is

  pub file_dir : (n : Node) → None ≡ resolve (tree_shapes t) k → tree_shapes t k ≡ shape_of t k (Some n) → kinds.File ≡ kind_of n → Some Enotdir ≡ resolve_dir (tree_shapes t) k
  file_dir n h is file = by_both None (Some (File (bytes_at n))) h (file_seen n is file)

  pub dir_dir : (n : Node) → None ≡ resolve (tree_shapes t) k → tree_shapes t k ≡ shape_of t k (Some n) → kinds.Dir ≡ kind_of n → None ≡ resolve_dir (tree_shapes t) k
  dir_dir n h is dir = by_both None (Some Dir) h (dir_seen n is dir)

  -- ---- replies

  pub status_nothing : tree_shapes t k ≡ shape_of t k None → answer.Failed Enoent ≡ status (tree_shapes t k)
  status_nothing is = sym (ap status is)

  pub status_file : (n : Node) (bytes : List ℕ) → tree_shapes t k ≡ shape_of t k (Some n) → kinds.File ≡ kind_of n → bytes ≡ bytes_at n → answer.Stat kinds.File (length bytes) ≡ status (tree_shapes t k)
  status_file n bytes is file e = ap (λ bs. answer.Stat kinds.File (length bs)) e ∙ sym (ap status (file_seen n is file))

  pub status_dir : (n : Node) (count : ℕ) → tree_shapes t k ≡ shape_of t k (Some n) → kinds.Dir ≡ kind_of n → count ≡ length (names_in t k) → answer.Stat kinds.Dir count ≡ status (tree_shapes t k)
  status_dir n count is dir e = ap (answer.Stat kinds.Dir) e ∙ sym (ap status (dir_seen n is dir))

  pub names_nowhere : (p : Key) (names : List (Bor Name)) → k ≡ p → names ≡ [] → tree_shapes t k ≡ shape_of t k None → lent_names names ≡ names_of (tree_shapes t p)
  names_nowhere p names same e is = ap lent_names e ∙ sym (ap names_of is) ∙ ap (λ q. names_of (tree_shapes t q)) same

  pub names_file : (p : Key) (n : Node) (names : List (Bor Name)) → k ≡ p → names ≡ [] → tree_shapes t k ≡ shape_of t k (Some n) → kinds.File ≡ kind_of n → lent_names names ≡ names_of (tree_shapes t p)
  names_file p n names same e is file = ap lent_names e ∙ sym (ap names_of (file_seen n is file)) ∙ ap (λ q. names_of (tree_shapes t q)) same

  pub names_dir : (p : Key) (n : Node) (names : List Name) → k ≡ p → names ≡ names_in t k → tree_shapes t k ≡ shape_of t k (Some n) → kinds.Dir ≡ kind_of n → names ≡ names_of (tree_shapes t p)
  names_dir p n names same e is dir = e ∙ sym (ap names_of (dir_seen n is dir)) ∙ ap (λ q. names_of (tree_shapes t q)) same

  pub read_is : (p : Key) (most off count : ℕ) (bytes found : List ℕ) → k ≡ p → bytes ≡ bytes_of (tree_shapes t k) → found ≡ take (min count most) (drop off bytes) → answer.Bytes found ≡ node_reply (forms.Read most off count) (tree_shapes t p)
  read_is p most off count bytes found same e f =
      ap answer.Bytes (f ∙ ap (λ bs. take (min count most) (drop off bs)) (e ∙ ap (λ q. bytes_of (tree_shapes t q)) same))

-- names of entries, one by one
pub names_next : (cell : Key × Node) (t : Tree) (d : Key) → names_in (cell ∷ t) d ≡ names_in (cell ∷ []) d ++ names_in t d
names_next cell t d = by_name (name_in d cell.0)
  where
    by_name : (o : Option Name) → with_name o (names_in t d) ≡ with_name o [] ++ names_in t d
    by_name None = refl
    by_name (Some x) = refl

-- the names of a directory are those of what stands at its key and below it
below_names : (d : Key) (t : Tree) → names_in (below_key d t) d ≡ names_in t d
below_names d [] = refl
below_names d (cell ∷ t) =
    elim (after_prefix d cell.0) as (λ o. after_prefix d cell.0 ≡ o → names_in (cond {A = Tree} (is_some o) (cell ∷ below_key d t) (below_key d t)) d ≡ names_in (cell ∷ t) d) [
      | None ↦ λ e. below_names d t ∙ sym (ap (λ o. with_name (only_name o) (names_in t d)) e)
      | Some r ↦ λ e. ap (with_name (name_in d cell.0)) (below_names d t)
    ] refl

pub names_below : (d : Key) (t u : Tree) → u ≡ below_key d t → names_in u d ≡ names_in t d
names_below d t u is = ap (λ z. names_in z d) is ∙ below_names d t

-- no more names than entries
few_names : (t : Tree) (d : Key) → length (names_in t d) ≤ length t
few_names [] d = omega arith
few_names (e ∷ t) d = by (name_in d e.0) (few_names t d)
  where
    by : (o : Option Name) → length (names_in t d) ≤ length t → length (with_name o (names_in t d)) ≤ length (e ∷ t)
    by None h = omega arith
    by (Some x) h = omega arith

pub few_there : (most : ℕ) (t : Tree) (d : Key) → nat_le most (length t) ≡ false → false ≡ nat_le most (length (names_in t d))
few_there most t d h = let few : length (names_in t d) ≤ length t = few_names t d in grind (arith, nat_tests)

-- no directory of a tree with fewer entries than one can have is full
pub few_anywhere : (limits : Limits) (t : Tree) (k : Key) → nat_le (entry_limit limits) (length t) ≡ false → false ≡ is_full (entry_limit limits) (tree_shapes t k)
few_anywhere limits t k h = by (look t k)
  where
    by : (o : Option Node) → false ≡ is_full (entry_limit limits) (shape_of t k o)
    by None = sym (empty_has_room limits)
    by (Some Dir) = few_there (entry_limit limits) t k h
    by (Some (File bytes)) = sym (empty_has_room limits)

pub dir_full : (most : ℕ) (t u : Tree) (k : Key) (n : Node) (r : Bool) → tree_shapes t k ≡ shape_of t k (Some n) → kinds.Dir ≡ kind_of n → u ≡ below_key k t → r ≡ nat_le most (length (names_in u k)) → r ≡ is_full most (tree_shapes t k)
dir_full most t u k n r is dir below e = e ∙ ap (λ z. nat_le most (length z)) (names_below k t u below) ∙ sym (ap (is_full most) (dir_seen t k n is dir))

-- ---- what is seen of a directory, by its names

-- more than a number is at least one more
one_more : (most n : ℕ) → nat_lt most n ≡ nat_le (most + 1) n
one_more most n = grind (arith, nat_tests)

none_seen : (names : List Name) → has_any names ≡ false → sight (Some (shapes.Dir names)) ≡ seen.EmptyDir
none_seen [] h = refl
none_seen (x ∷ names) h = absurd (cc)

some_seen : (names : List Name) (b : Bool) → has_any names ≡ true → nat_le (LIST_LIMIT + 1) (length names) ≡ b → sight (Some (shapes.Dir names)) ≡ cond b seen.CrowdedDir seen.Dir
some_seen [] b h e = absurd (cc)
some_seen (x ∷ names) b h e = ap (λ z. cond z seen.CrowdedDir seen.Dir) (one_more LIST_LIMIT (length (x ∷ names)) ∙ e)

module _ (t u : Tree) (k : Key) (below : u ≡ below_key k t) where
  pub dir_empty : has_any (names_in u k) ≡ false → sight (Some (shapes.Dir (names_in t k))) ≡ seen.EmptyDir
  dir_empty none = none_seen (names_in t k) (ap has_any (sym (names_below k t u below)) ∙ none)

  pub dir_many : has_any (names_in u k) ≡ true → nat_le (LIST_LIMIT + 1) (length (names_in u k)) ≡ true → sight (Some (shapes.Dir (names_in t k))) ≡ seen.CrowdedDir
  dir_many some many = some_seen (names_in t k) true (ap has_any (sym (names_below k t u below)) ∙ some) (ap (λ z. nat_le (LIST_LIMIT + 1) (length z)) (sym (names_below k t u below)) ∙ many)

  pub dir_some : has_any (names_in u k) ≡ true → nat_le (LIST_LIMIT + 1) (length (names_in u k)) ≡ false → sight (Some (shapes.Dir (names_in t k))) ≡ seen.Dir
  dir_some some few = some_seen (names_in t k) false (ap has_any (sym (names_below k t u below)) ∙ some) (ap (λ z. nat_le (LIST_LIMIT + 1) (length z)) (sym (names_below k t u below)) ∙ few)

-- ---- the entries of a directory, one by one

module _ (d : Key) (cell : Key × Node) where
  pub entry_true : (x : Name) → Some x ≡ name_in d cell.0 → true ≡ has_any (names_in (cell ∷ []) d)
  entry_true x h = ap (λ o. has_any (with_name o [])) h

  pub entry_false : None ≡ name_in d cell.0 → false ≡ has_any (names_in (cell ∷ []) d)
  entry_false h = ap (λ o. has_any (with_name o [])) h

  pub entry_one : (x : Name) → Some x ≡ name_in d cell.0 → 1 ≡ length (names_in (cell ∷ []) d)
  entry_one x h = ap (λ o. length (with_name o [])) h

  pub entry_none : None ≡ name_in d cell.0 → 0 ≡ length (names_in (cell ∷ []) d)
  entry_none h = ap (λ o. length (with_name o [])) h

-- either of two lists has something
any_first : (xs ys : List Name) → has_any xs ≡ true → has_any (xs ++ ys) ≡ true
any_first [] ys h = absurd (cc)
any_first (x ∷ xs) ys h = refl

any_later : (xs ys : List Name) → has_any xs ≡ false → has_any (xs ++ ys) ≡ has_any ys
any_later [] ys h = refl
any_later (x ∷ xs) ys h = absurd (cc)

-- nothing is left
none_left : (t : Tree) (i : ℕ) → length t ≤ i → drop i t ≡ []
none_left [] zero h = refl
none_left [] (suc i) h = refl
none_left (x ∷ t) zero h = absurd (omega arith)
none_left (x ∷ t) (suc i) h = none_left t i (omega arith)

module _ (t : Tree) (d : Key) (i : ℕ) where
  -- the names from a place on
  names_from : (cell : Key × Node) → i < length t → cell ≡ get_or t i cell → names_in (drop i t) d ≡ names_in (cell ∷ []) d ++ names_in (drop (i + 1) t) d
  names_from cell h here =
      ap (λ z. names_in z d) (drop_next t i cell h ∙ ap (λ c. c ∷ drop (i + 1) t) (sym here)) ∙ names_next cell (drop (i + 1) t) d

  pub has_here : (cell : Key × Node) → i < length t → cell ≡ get_or t i cell → has_any (names_in (cell ∷ []) d) ≡ true → has_any (names_in (drop i t) d) ≡ has_any (names_in t d) → true ≡ has_any (names_in t d)
  has_here cell h here some so_far = sym (sym so_far ∙ ap has_any (names_from cell h here) ∙ any_first (names_in (cell ∷ []) d) (names_in (drop (i + 1) t) d) some)

  pub has_later : (cell : Key × Node) → i < length t → cell ≡ get_or t i cell → has_any (names_in (cell ∷ []) d) ≡ false → has_any (names_in (drop i t) d) ≡ has_any (names_in t d) → has_any (names_in (drop (i + 1) t) d) ≡ has_any (names_in t d)
  has_later cell h here none so_far = sym (any_later (names_in (cell ∷ []) d) (names_in (drop (i + 1) t) d) none) ∙ sym (ap has_any (names_from cell h here)) ∙ so_far

  pub has_none : length t ≤ i → has_any (names_in (drop i t) d) ≡ has_any (names_in t d) → false ≡ has_any (names_in t d)
  has_none past so_far = ap (λ z. has_any (names_in z d)) (sym (none_left t i past)) ∙ so_far

  pub count_more : (cell : Key × Node) (k n total : ℕ) → i < length t → cell ≡ get_or t i cell → n ≡ length (names_in (cell ∷ []) d) → k + length (names_in (drop i t) d) ≡ total → k + n + length (names_in (drop (i + 1) t) d) ≡ total
  count_more cell k n total h here one so_far =
      let both : length (names_in (drop i t) d) ≡ length (names_in (cell ∷ []) d) + length (names_in (drop (i + 1) t) d) = ap length (names_from cell h here) ∙ length-append (names_in (cell ∷ []) d) (names_in (drop (i + 1) t) d) in
      omega (arith, both, one, so_far)

  pub count_end : (k : ℕ) → length t ≤ i → k + length (names_in (drop i t) d) ≡ length (names_in t d) → k ≡ length (names_in t d)
  count_end k past so_far =
      let none : length (names_in (drop i t) d) ≡ 0 = ap (λ z. length (names_in z d)) (none_left t i past) in
      omega (arith, none, so_far)

-- ---- the resolution of a key, name by name

pub reach_start : (t : Tree) (k : Key) → IsReached t k 0
reach_start t k = refl

-- a list from a place on
one_there : (k : Key) (i : ℕ) → i < length k → (x : Name) × (drop i k ≡ x ∷ drop (i + 1) k) × (take (i + 1) k ≡ take i k ++ x ∷ [])
one_there [] i h = absurd (omega arith)
one_there (y ∷ k) zero h = (y, refl, refl)
one_there (y ∷ k) (suc i) h =
    let s : suc (i + 1) ≡ suc i + 1 = omega arith in
    let rest = one_there k i (omega arith) in
    (rest.0, rest.1 ∙ ap (λ m. rest.0 ∷ drop m (y ∷ k)) s, ap (λ m. take m (y ∷ k)) (sym s) ∙ ap (λ z. y ∷ z) rest.2)

-- the resolution of what is left, by one name
by_one : (t : Tree) (d : Key) (x : Name) (later : Key) → resolve (λ z. tree_shapes t (d ++ z)) (x ∷ later) ≡ resolve_next (tree_shapes t d) (tree_shapes t (d ++ x ∷ [])) (resolve (λ z. tree_shapes t ((d ++ x ∷ []) ++ z)) later)
by_one t d x later = λ i. resolve_next (tree_shapes t (append-nil d i)) (tree_shapes t (d ++ x ∷ [])) (resolve (λ z. tree_shapes t (sym (append_assoc d (x ∷ []) z) i)) later)

-- what comes of it
by_step : (t : Tree) (k : Key) (i : ℕ) (a b : Option (Key × Node)) (e : Option Errno) → i < length k → tree_shapes t (take i k) ≡ shape_of t (take i k) (node_in a) → tree_shapes t (take (i + 1) k) ≡ shape_of t (take (i + 1) k) (node_in b) → GoesOn a b e
    → resolve (λ z. tree_shapes t (take i k ++ z)) (drop i k) ≡ or_else e (resolve (λ z. tree_shapes t (take (i + 1) k ++ z)) (drop (i + 1) k))
by_step t k i a b e h here below goes =
    let one = one_there k i h in
    let rest : Option Errno = resolve (λ z. tree_shapes t (take (i + 1) k ++ z)) (drop (i + 1) k) in
    ap (resolve (λ z. tree_shapes t (take i k ++ z))) one.1
    ∙ by_one t (take i k) one.0 (drop (i + 1) k)
    ∙ ap (λ d. resolve_next (tree_shapes t (take i k)) (tree_shapes t d) (resolve (λ z. tree_shapes t (d ++ z)) (drop (i + 1) k))) (sym one.2)
    ∙ (λ j. resolve_next (here j) (below j) rest)
    ∙ goes t (take i k) (take (i + 1) k) rest

pub reaches_on : (t : Tree) (k : Key) (i : ℕ) (a b : Option (Key × Node)) (e : Option Errno) → i < length k → tree_shapes t (take i k) ≡ shape_of t (take i k) (node_in a) → tree_shapes t (take (i + 1) k) ≡ shape_of t (take (i + 1) k) (node_in b) → GoesOn a b e → ReachesOn t k i e
reaches_on t k i a b None h here below goes = λ so_far. so_far ∙ by_step t k i a b None h here below goes
reaches_on t k i a b (Some e) h here below goes = λ so_far. sym (so_far ∙ by_step t k i a b (Some e) h here below goes)

pub reach_end : (t : Tree) (k : Key) (i : ℕ) → length k ≤ i → IsReached t k i → None ≡ resolve (tree_shapes t) k
reach_end t k i past so_far = sym (so_far ∙ ap (resolve (λ z. tree_shapes t (take i k ++ z))) (nothing_left k i past))
  where
    nothing_left : (k : Key) (i : ℕ) → length k ≤ i → drop i k ≡ []
    nothing_left [] zero h = refl
    nothing_left [] (suc i) h = refl
    nothing_left (x ∷ k) zero h = absurd (omega arith)
    nothing_left (x ∷ k) (suc i) h = nothing_left k i (omega arith)

-- ---- names that are lent

-- the ones above a name
pub lent_above : (x : Name) (names : List (Bor Name)) → lent_names (filter (λ y. is_lt (name_cmp x y.now)) names) ≡ names_above x (lent_names names)
lent_above x [] = refl
lent_above x (y ∷ names) =
    elim (is_lt (name_cmp x y.now)) as (λ b. lent_names (cond {A = List (Bor Name)} b (y ∷ filter (λ z. is_lt (name_cmp x z.now)) names) (filter (λ z. is_lt (name_cmp x z.now)) names)) ≡ cond {A = List Name} b (y.now ∷ names_above x (lent_names names)) (names_above x (lent_names names))) [
      | true ↦ ap (λ z. y.now ∷ z) (lent_above x names)
      | false ↦ lent_above x names
    ]
