-- What a binary search finds among links whose names rise.
use Rattle.std.proofs.Common.{◌≡◌, ℕ, zero, suc, ◌<◌, ◌≤◌, Bool, true, false, cond, not, ◌&&◌, List, [], ◌∷◌, length, map, drop, leb, get_or, Some, Option, Result, Ok, Err, refl, sym, ap, subst, ◌∙◌, arith, T, Ordering, Less, Equal, Greater}
use Rattle.std.specs.Ordering.{is_eq, is_lt, ordering_index, ordering_reverse}
use Rattle.std.specs.List.{AllWithin}
use Rattle.std.specs.List.Sorted.{IsNonDecreasingBy, IsPartitionedBy, IsBinarySearchResult, IsSearchInRange}
use Rattle.std.proofs.lemmas.List.Sorted.{IsPartitionedBy-leb}
use Rattle.std.specs.FinMap.{find, put, is_sorted}
use Rattle.std.specs.FinMap.Entries.{by_order, below_all}
use Rattle.fs_names.specs.Names.{Name, name_cmp, same_name, names_above}
use Rattle.fs_names.proofs.Lemmas.{name_total, name_exact, same_name_refl}
use Rattle.fs_seq_nodes.specs.declared.nodes.Link.{Link}
use Rattle.fs_seq_nodes.specs.code.Entries.{pair, pairs, without, IsNameAt, BelongsAt, Searches}
use Rattle.fs_seq_nodes.specs.code.Lists.{Parts, Bisects, is_within}

-- the first of two
pub both_first : (a b : Bool) → T (a && b) → T a
both_first true b p = tt
both_first false b p = p

-- the second of two
pub both_second : (a b : Bool) → T (a && b) → T b
both_second true b p = p
both_second false b p = absurd p

-- what is below is less
pub is_less : (o : Ordering) → T (is_lt o) → o ≡ Less
is_less Less h = refl
is_less Equal h = absurd h
is_less Greater h = absurd h

-- a name below all is below each
below_each : (x : Name) (links : List Link) (i : ℕ) (d : Link) → T (below_all name_cmp x (pairs links)) → i < length links → name_cmp x (get_or links i d).name ≡ Less
below_each x [] i d below h = absurd (omega arith)
below_each x (l ∷ links) zero d below h = is_less _ (both_first _ _ below)
below_each x (l ∷ links) (suc i) d below h = below_each x links i d (both_second _ _ below) (omega arith)

-- an order's number is at most two
pub up_to_two : (o : Ordering) → ordering_index o ≤ 2
up_to_two Less = omega arith
up_to_two Equal = omega arith
up_to_two Greater = omega arith

-- what is below a name is no further than it from each name
lower_index : (a b x : Name) → name_cmp a b ≡ Less → ordering_index (name_cmp a x) ≤ ordering_index (name_cmp b x)
lower_index a b x less =
    elim (name_cmp b x) as (λ o. name_cmp b x ≡ o → ordering_index (name_cmp a x) ≤ ordering_index o) [
      | Less ↦ λ e. let same : ordering_index (name_cmp a x) ≡ 0 = ap ordering_index (name_total.trans a b x less e) in omega (arith, same)
      | Equal ↦ λ e. let at : b ≡ x = name_exact b x e in
          let same : ordering_index (name_cmp a x) ≡ 0 = ap ordering_index (ap (name_cmp a) (sym at) ∙ less) in omega (arith, same)
      | Greater ↦ λ e. up_to_two (name_cmp a x)
    ] refl

-- rising names can be searched
pub searchable : (x : Name) (links : List Link) → T (is_sorted name_cmp (pairs links)) → IsNonDecreasingBy (λ (l : Link). ordering_index (name_cmp l.name x)) links
searchable x [] sorted i j d le h = absurd (omega arith)
searchable x (l ∷ links) sorted zero zero d le h = omega arith
searchable x (l ∷ links) sorted zero (suc j) d le h = lower_index l.name (get_or links j d).name x (below_each l.name links j d (both_first _ _ sorted) (omega arith))
searchable x (l ∷ links) sorted (suc i) zero d le h = absurd (omega arith)
searchable x (l ∷ links) sorted (suc i) (suc j) d le h = searchable x links (both_second _ _ sorted) i j d (omega arith) (omega arith)

-- an order the other way round
pub turned : (x y : Name) (o : Ordering) → name_cmp y x ≡ o → name_cmp x y ≡ ordering_reverse o
turned x y o e = name_total.antisymm x y ∙ ap ordering_reverse e

-- what is below all is put first
put_first : (x : Name) (n : ℕ) (e : Name × ℕ) (es : List (Name × ℕ)) → name_cmp x e.0 ≡ Less → put name_cmp x n (e ∷ es) ≡ (x, n) ∷ e ∷ es
put_first x n e es h = ap (λ o. by_order o ((x, n) ∷ e ∷ es) ((e.0, n) ∷ es) (e ∷ put name_cmp x n es)) h

-- what is above the first is put behind it
put_later : (x : Name) (n : ℕ) (e : Name × ℕ) (es : List (Name × ℕ)) → name_cmp x e.0 ≡ Greater → put name_cmp x n (e ∷ es) ≡ e ∷ put name_cmp x n es
put_later x n e es h = ap (λ o. by_order o ((x, n) ∷ e ∷ es) ((e.0, n) ∷ es) (e ∷ put name_cmp x n es)) h

-- what is not the first is found behind it
find_later : (x : Name) (e : Name × ℕ) (es : List (Name × ℕ)) → same_name x e.0 ≡ false → find name_cmp x (e ∷ es) ≡ find name_cmp x es
find_later x e es h = ap (λ b. cond {A = Option ℕ} b (Some e.1) (find name_cmp x es)) h

-- the name is not there, and is put at the place
pub parted : (x : Name) (links : List Link) (i : ℕ) → Parts x links i → BelongsAt (pairs links) x i
parted x [] zero parts = record { within = omega arith; absent = refl; placed = λ n. refl }
parted x [] (suc i) parts = absurd (let h = parts.within in omega arith)
parted x (l ∷ links) zero parts =
    let above : name_cmp x l.name ≡ Less = turned x l.name Greater (parts.higher 0 l (omega arith) (omega arith)) in
    let rest : BelongsAt (pairs links) x 0 = parted x links zero (record {
      lower = λ k d h. absurd (omega arith);
      higher = λ k d h g. parts.higher (suc k) d (omega arith) (omega arith);
      within = omega arith;
    }) in
    record {
      within = omega arith;
      absent = find_later x (pair l) (pairs links) (ap is_eq above) ∙ rest.absent;
      placed = λ n. put_first x n (pair l) (pairs links) above;
    }
parted x (l ∷ links) (suc i) parts =
    let below : name_cmp x l.name ≡ Greater = turned x l.name Less (parts.lower 0 l (omega arith)) in
    let near = parts.within in
    let rest : BelongsAt (pairs links) x i = parted x links i (record {
      lower = λ k d h. parts.lower (suc k) d (omega arith);
      higher = λ k d h g. parts.higher (suc k) d (omega arith) (omega arith);
      within = omega arith;
    }) in
    let inner = rest.within in
    record {
      within = omega arith;
      absent = find_later x (pair l) (pairs links) (ap is_eq below) ∙ rest.absent;
      placed = λ n. put_later x n (pair l) (pairs links) below ∙ ap (λ es. pair l ∷ es) (rest.placed n);
    }

-- nothing of what is above a name has it
kept_all : (x : Name) (es : List (Name × ℕ)) → T (below_all name_cmp x es) → without x es ≡ es
kept_all x [] below = refl
kept_all x (e ∷ es) below =
    ap (λ b. cond {A = List (Name × ℕ)} (not b) (e ∷ without x es) (without x es)) (ap is_eq (is_less _ (both_first _ _ below))) ∙ ap (λ z. e ∷ z) (kept_all x es (both_second _ _ below))

-- one more on both sides
one_more : (i n : ℕ) → i < n → suc i < suc n
one_more i n h = omega arith

-- where a name is found, it stands
pub in_place : (x : Name) (links : List Link) (i : ℕ) → T (is_sorted name_cmp (pairs links)) → i < length links → ((d : Link) → name_cmp (get_or links i d).name x ≡ Equal) → IsNameAt (pairs links) x i
in_place x [] i sorted h at = absurd (omega arith)
in_place x (l ∷ links) zero sorted h at =
    let same : l.name ≡ x = name_exact l.name x (at l) in
    let here : same_name x l.name ≡ true = ap (same_name x) same ∙ same_name_refl x in
    record {
      within = omega arith;
      named = ap (λ z. Some z) same;
      found = ap (λ b. cond {A = Option ℕ} b (Some l.node) (find name_cmp x (pairs links))) here;
      others = sym (ap (λ b. cond {A = List (Name × ℕ)} (not b) (pair l ∷ without x (pairs links)) (without x (pairs links))) here ∙ kept_all x (pairs links) (subst (λ y. T (below_all name_cmp y (pairs links))) same (both_first _ _ sorted)));
    }
in_place x (l ∷ links) (suc i) sorted h at =
    let same : (get_or links i l).name ≡ x = name_exact _ x (at l) in
    let less : name_cmp l.name x ≡ Less = ap (name_cmp l.name) (sym same) ∙ below_each l.name links i l (both_first _ _ sorted) (omega arith) in
    let apart : same_name x l.name ≡ false = ap is_eq (turned x l.name Less less) in
    let near : i < length links = omega arith in
    let rest : IsNameAt (pairs links) x i = in_place x links i (both_second _ _ sorted) near at in
    record {
      within = one_more i (length (pairs links)) rest.within;
      named = rest.named;
      found = find_later x (pair l) (pairs links) apart ∙ rest.found;
      others = ap (λ z. pair l ∷ z) rest.others ∙ sym (ap (λ b. cond {A = List (Name × ℕ)} (not b) (pair l ∷ without x (pairs links)) (without x (pairs links))) apart);
    }

-- what is true holds
pub true_T : (b : Bool) → b ≡ true → T b
true_T b e = subst T (sym e) tt

-- what a binary search answers
pub bisected : (x : Name) (links : List Link) (r : Result ℕ ℕ) → is_sorted name_cmp (pairs links) ≡ true → IsSearchInRange r (length links) → IsBinarySearchResult (λ (l : Link). name_cmp l.name x) links r → Bisects x links r
bisected x links (Ok i) sorted range at = record { within = range; same = at }
bisected x links (Err i) sorted range at =
    let cut = at (searchable x links (true_T _ sorted)) in
    record { lower = λ k d h. cut.0 k d (omega arith) h; higher = λ k d h g. cut.1 k d h g; within = range }

-- so the name is there, or belongs there
pub searched : (x : Name) (links : List Link) (r : Result ℕ ℕ) → is_sorted name_cmp (pairs links) ≡ true → Bisects x links r → Searches (pairs links) x r
searched x links (Ok i) sorted at = in_place x links i (true_T _ sorted) at.within at.same
searched x links (Err i) sorted at = parted x links i at

-- ---- names above a name

-- an order is not less the other way round where its number is at most one
up_to_one : (o : Ordering) → not (is_lt (ordering_reverse o)) ≡ leb (ordering_index o) 1
up_to_one Less = refl
up_to_one Equal = refl
up_to_one Greater = refl

within_index : (x y : Name) → not (is_lt (name_cmp x y)) ≡ leb (ordering_index (name_cmp y x)) 1
within_index x y = ap (λ o. not (is_lt o)) (turned x y _ refl) ∙ up_to_one (name_cmp y x)

-- of rising names those that are not above one come first
pub parts : (x : Name) (links : List Link) → is_sorted name_cmp (pairs links) ≡ true → IsPartitionedBy (is_within x) links
parts x links sorted i j d le h within =
    within_index x (get_or links i d).name
    ∙ IsPartitionedBy-leb (λ (l : Link). ordering_index (name_cmp l.name x)) links 1 (searchable x links (true_T _ sorted)) i j d le h (sym (within_index x (get_or links j d).name) ∙ within)

-- a name that is not above another, and one that is
abbrev Kept : Name → Name → List Name → Bool → List Name
Kept x y names within = cond {A = List Name} within names (y ∷ names)

kept : (x y : Name) (names : List Name) (b : Bool) → not (is_lt (name_cmp x y)) ≡ b → names_above x (y ∷ names) ≡ Kept x y (names_above x names) b
kept x y names b e = go (is_lt (name_cmp x y)) b e
  where
    go : (a b : Bool) → not a ≡ b → cond {A = List Name} a (y ∷ names_above x names) (names_above x names) ≡ Kept x y (names_above x names) b
    go true b e = ap (Kept x y (names_above x names)) e
    go false b e = ap (Kept x y (names_above x names)) e

-- the names behind the place up to which none is above a name are those above it
pub past : (x : Name) (links : List Link) (i : ℕ) → AllWithin (λ l. is_within x l ≡ true) links 0 i → AllWithin (λ l. is_within x l ≡ false) links i (length links)
    → map (λ l. l.0) (pairs (drop i links)) ≡ names_above x (map (λ l. l.0) (pairs links))
past x [] zero before behind = refl
past x [] (suc i) before behind = refl
past x (l ∷ links) zero before behind =
    ap (λ z. l.name ∷ z) (past x links zero (λ k d h g. absurd (omega arith)) (λ k d h g. behind (suc k) d (omega arith) (omega arith)))
    ∙ sym (kept x l.name (map (λ k. k.0) (pairs links)) false (behind 0 l (omega arith) (omega arith)))
past x (l ∷ links) (suc i) before behind =
    past x links i (λ k d h g. before (suc k) d (omega arith) (omega arith)) (λ k d h g. behind (suc k) d (omega arith) (omega arith))
    ∙ sym (kept x l.name (map (λ k. k.0) (pairs links)) true (before 0 l (omega arith) (omega arith)))
