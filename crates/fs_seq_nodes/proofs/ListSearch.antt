-- A name is looked up among several lists.
use Rattle.std.proofs.Common.{◌≡◌, ℕ, zero, suc, ◌+◌, ◌-◌, ◌<◌, ◌≤◌, Bool, true, false, not, ◌&&◌, ◌⊎◌, inl, inr, List, [], ◌∷◌, ◌++◌, length, take, drop, get_or, Result, Ok, Err, refl, sym, ap, subst, ◌∙◌, arith, T, Ordering, Less, Equal, Greater, length-append}
use Rattle.std.specs.Ordering.{is_lt, ordering_index, ordering_reverse}
use Rattle.std.specs.List.{AllWithin}
use Rattle.std.specs.List.Sorted.{IsPartitionedBy}
use Rattle.std.specs.FinMap.{is_sorted}
use Rattle.std.specs.FinMap.Entries.{below_all}
use Rattle.std.proofs.lemmas.List.{get_or_default}
use Rattle.std.proofs.lemmas.List.Concat.{get_or-flat_map}
use Rattle.std.proofs.lemmas.List.Elements.{All-get_or}
use Rattle.fs_names.specs.Names.{Name, name_cmp}
use Rattle.fs_seq_nodes.specs.declared.nodes.Link.{Link}
use Rattle.fs_seq_nodes.specs.code.Entries.{pairs}
use Rattle.fs_seq_nodes.specs.code.Lists.{flat, before, list_at, AllSome, Parts, HasName, Bisects, is_within, IsCut, begins_above, IsListOf, shifted, Looks}
use Rattle.fs_seq_nodes.proofs.SearchLemmas.{both_first, both_second, true_T, turned, searchable, parts, in_place}
use Rattle.fs_seq_nodes.proofs.NodeLemmas.{number_read, length-pairs}
use Rattle.fs_seq_nodes.proofs.FlatLemmas.{joined, joined_at, before_next, before_within}

-- some link
some_link : Link
some_link = record { name = []; node = 0 }

-- the first name of a list that is not empty
first_of : (x : Name) (l : List Link) (e : Link) → 0 < length l → not (begins_above x l) ≡ is_within x (get_or l 0 e)
first_of x [] e h = absurd (omega arith)
first_of x (m ∷ l) e h = refl

-- lists further on begin further on
none_before : (i : ℕ) → before [] i ≡ 0
none_before zero = refl
none_before (suc i) = refl

pub before_up : (ls : List (List Link)) (i j : ℕ) → i ≤ j → before ls i ≤ before ls j
before_up [] i j h = omega (arith, none_before i, none_before j)
before_up (l ∷ ls) zero j h = omega arith
before_up (l ∷ ls) (suc i) zero h = absurd (omega arith)
before_up (l ∷ ls) (suc i) (suc j) h =
    let rest = before_up ls i j (omega arith) in
    omega (arith, rest, length-append l (flat (take i ls)), length-append l (flat (take j ls)))

-- an entry of a list, among all
entry_at : (ls : List (List Link)) (i at : ℕ) (d : Link) → i < length ls → at < length (list_at ls i) → get_or (flat ls) (before ls i + at) d ≡ get_or (list_at ls i) at d
entry_at ls i at d h within = get_or-flat_map (λ l. l) ls i at [] d h within

-- the first entry of a list, among all
first_at : (ls : List (List Link)) (i : ℕ) (d : Link) → i < length ls → 0 < length (list_at ls i) → get_or (flat ls) (before ls i) d ≡ get_or (list_at ls i) 0 d
first_at ls i d h some = let same : before ls i ≡ before ls i + 0 = omega arith in ap (λ n. get_or (flat ls) n d) same ∙ entry_at ls i 0 d h some

-- no list is empty
some_at : (ls : List (List Link)) (i : ℕ) → AllSome ls → i < length ls → 0 < length (list_at ls i)
some_at ls i some h = All-get_or (λ l. 0 < length l) ls i [] h some

-- lists that begin no further than a name come first
pub lists_parted : (x : Name) (ls : List (List Link)) → is_sorted name_cmp (pairs (flat ls)) ≡ true → AllSome ls → IsPartitionedBy (λ l. not (begins_above x l)) ls
lists_parted x ls sorted some i j d le h begins =
    let e = some_link in
    let hi : i < length ls = omega arith in
    let some_i = some_at ls i some hi in
    let some_j = some_at ls j some h in
    let same_i : get_or ls i d ≡ list_at ls i = get_or_default ls i d [] hi in
    let same_j : get_or ls j d ≡ list_at ls j = get_or_default ls j d [] h in
    let up = before_up ls i j le in
    let room = before_within ls j h in
    let there : is_within x (get_or (flat ls) (before ls j) e) ≡ true = ap (is_within x) (first_at ls j e h some_j) ∙ sym (first_of x (list_at ls j) e some_j) ∙ ap (λ l. not (begins_above x l)) (sym same_j) ∙ begins in
    ap (λ l. not (begins_above x l)) same_i ∙ first_of x (list_at ls i) e some_i ∙ ap (is_within x) (sym (first_at ls i e hi some_i))
    ∙ parts x (flat ls) sorted (before ls i) (before ls j) e up (omega (arith, room, some_j)) there

-- what is not true is false
not_true : (b : Bool) → not b ≡ true → b ≡ false
not_true true e = absurd (cc)
not_true false e = refl

-- and what is not false is true
not_false : (b : Bool) → not b ≡ false → b ≡ true
not_false true e = refl
not_false false e = absurd (cc)

-- the list before the place from which lists begin above a name
pub list_found : (x : Name) (ls : List (List Link)) (n i : ℕ) → 0 < length ls → n ≤ length ls → i ≡ n - 1
    → AllWithin (λ l. not (begins_above x l) ≡ true) ls 0 n → AllWithin (λ l. not (begins_above x l) ≡ false) ls n (length ls) → IsListOf x ls i
list_found x ls n i some bound is first second = record {
  list = omega arith;
  begins = λ h. not_true _ (first i [] (omega arith) (omega arith));
  next = λ h. not_false _ (second (i + 1) [] (omega arith) h);
}

-- of rising links those at the end rise
sorted_end : (front bs : List Link) → T (is_sorted name_cmp (pairs (front ++ bs))) → T (is_sorted name_cmp (pairs bs))
sorted_end [] bs sorted = sorted
sorted_end (a ∷ front) bs sorted = sorted_end front bs (both_second _ _ sorted)

-- what is below all is below some of them
below_front : (y : Name) (front bs : List Link) → T (below_all name_cmp y (pairs (front ++ bs))) → T (below_all name_cmp y (pairs front))
below_front y [] bs below = tt
below_front y (a ∷ front) bs below = both_of _ _ (both_first _ _ below) (below_front y front bs (both_second _ _ below))
  where
    both_of : (p q : Bool) → T p → T q → T (p && q)
    both_of true q s t = t
    both_of false q s t = absurd s

-- and those at the front rise
sorted_front : (front bs : List Link) → T (is_sorted name_cmp (pairs (front ++ bs))) → T (is_sorted name_cmp (pairs front))
sorted_front [] bs sorted = tt
sorted_front (a ∷ front) bs sorted = both_of _ _ (below_front a.name front bs (both_first _ _ sorted)) (sorted_front front bs (both_second _ _ sorted))
  where
    both_of : (p q : Bool) → T p → T q → T (p && q)
    both_of true q s t = t
    both_of false q s t = absurd s

-- what holds is true
T_true : (b : Bool) → T b → b ≡ true
T_true true t = refl
T_true false t = absurd t

-- the names of each list rise
pub sorted_at : (ls : List (List Link)) (i : ℕ) → i < length ls → is_sorted name_cmp (pairs (flat ls)) ≡ true → is_sorted name_cmp (pairs (list_at ls i)) ≡ true
sorted_at ls i h sorted =
    let whole : T (is_sorted name_cmp (pairs (joined (take i ls) ++ (list_at ls i ++ joined (drop (suc i) ls))))) = subst (λ z. T (is_sorted name_cmp (pairs z))) (joined_at ls i h) (true_T _ sorted) in
    T_true _ (sorted_front (list_at ls i) (joined (drop (suc i) ls)) (sorted_end (joined (take i ls)) (list_at ls i ++ joined (drop (suc i) ls)) whole))

-- an order by its number
is_least : (o : Ordering) → ordering_index o ≤ ordering_index Less → o ≡ Less
is_least Less h = refl
is_least Equal h = absurd (omega arith)
is_least Greater h = absurd (omega arith)

is_most : (o : Ordering) → ordering_index Greater ≤ ordering_index o → o ≡ Greater
is_most Less h = absurd (omega arith)
is_most Equal h = absurd (omega arith)
is_most Greater h = refl

-- a place is after all lower names if it is after its neighbour, and so above
parts_from : (x : Name) (links : List Link) (n : ℕ) → is_sorted name_cmp (pairs links) ≡ true → n ≤ length links
    → ((d : Link) → 0 < n → name_cmp (get_or links (n - 1) d).name x ≡ Less) → ((d : Link) → n < length links → name_cmp (get_or links n d).name x ≡ Greater) → Parts x links n
parts_from x links n sorted within lower higher = record {
  lower = λ k d h. is_least _ (subst (λ o. ordering_index (name_cmp (get_or links k d).name x) ≤ ordering_index o) (lower d (omega arith)) (searchable x links (true_T _ sorted) k (n - 1) d (omega arith) (omega arith)));
  higher = λ k d h g. is_most _ (subst (λ o. ordering_index o ≤ ordering_index (name_cmp (get_or links k d).name x)) (higher d (omega arith)) (searchable x links (true_T _ sorted) n k d h g));
  within = within;
}

-- a name that is above another
above_less : (x y : Name) → is_lt (name_cmp x y) ≡ true → name_cmp y x ≡ Greater
above_less x y e = turned y x _ refl ∙ ap ordering_reverse (is_less (name_cmp x y) (true_T _ e))
  where
    is_less : (o : Ordering) → T (is_lt o) → o ≡ Less
    is_less Less h = refl
    is_less Equal h = absurd h
    is_less Greater h = absurd h

-- what comes before a list that is not the first
some_before : (ls : List (List Link)) (i : ℕ) → 0 < before ls i → 0 < i
some_before [] zero h = absurd (omega arith)
some_before [] (suc i) h = omega arith
some_before (l ∷ ls) zero h = absurd (omega arith)
some_before (l ∷ ls) (suc i) h = omega arith

-- a place in a list or at its end
at_end : (a n : ℕ) → (a < n) ⊎ (n ≤ a)
at_end a zero = inr (omega arith)
at_end zero (suc n) = inl (omega arith)
at_end (suc a) (suc n) = up (at_end a n)
  where
    up : (a < n) ⊎ (n ≤ a) → (suc a < suc n) ⊎ (suc n ≤ suc a)
    up (inl p) = inl (omega arith)
    up (inr p) = inr (omega arith)

-- if entries come after a list, so does another list
next_list : (ks : List (List Link)) (k n : ℕ) → n ≡ before ks (suc k) → n < length (flat ks) → k < length ks → suc k < length ks
next_list [] k n e h g = absurd (omega arith)
next_list (l ∷ []) zero n e h g = absurd (let same : length (flat (l ∷ [])) ≡ before (l ∷ []) 1 = refl in omega (arith, same))
next_list (l ∷ m ∷ ks) zero n e h g = omega arith
next_list (l ∷ ks) (suc k) n e h g =
    let inner = next_list ks k (before ks (suc k)) refl (omega (arith, e, length-append l (flat ks), length-append l (flat (take (suc k) ks)))) (omega arith) in
    omega arith

-- the list after one, at whose end a place is
record IsAfter (x : Name) (ls : List (List Link)) (i n : ℕ) : Type 0 where
  end : n ≡ before ls (suc i)
  more : suc i < length ls
  some : 0 < length (list_at ls (suc i))
  begins : begins_above x (list_at ls (suc i)) ≡ true

after_list : {x : Name} (ls : List (List Link)) (i at : ℕ) → AllSome ls → IsListOf x ls i → before ls i + at < length (flat ls) → at ≤ length (list_at ls i) → length (list_at ls i) ≤ at → IsAfter x ls i (before ls i + at)
after_list {x} ls i at some of h within far =
    let step = before_next ls i of.list in
    let end : before ls i + at ≡ before ls (suc i) = omega arith in
    let more : suc i < length ls = next_list ls i (before ls i + at) end h of.list in
    let one : i + 1 ≡ suc i = omega arith in
    record {
      end = end;
      more = more;
      some = some_at ls (suc i) some more;
      begins = subst (λ n. begins_above x (list_at ls n) ≡ true) one (of.next (subst (λ n. n < length ls) (sym one) more));
    }

-- where a name is in its list, or belongs there, it is among all, or belongs
pub whole_place : (x : Name) (ls : List (List Link)) (i : ℕ) (r : Result ℕ ℕ) → is_sorted name_cmp (pairs (flat ls)) ≡ true → AllSome ls → IsListOf x ls i → Bisects x (list_at ls i) r → Bisects x (flat ls) (shifted (before ls i) r)
whole_place x ls i (Ok at) sorted some of there =
    let room = before_within ls i of.list in
    let near = there.within in
    record {
      within = omega (arith, room, near);
      same = λ d. ap (λ (z : Link). name_cmp z.name x) (entry_at ls i at d of.list near) ∙ there.same d;
    }
whole_place x ls i (Err at) sorted some of there =
    let room = before_within ls i of.list in
    let near = there.within in
    parts_from x (flat ls) (before ls i + at) sorted (omega (arith, room, near)) (lower at there) higher
  where
    lower : (at : ℕ) → Parts x (list_at ls i) at → (d : Link) → 0 < before ls i + at → name_cmp (get_or (flat ls) (before ls i + at - 1) d).name x ≡ Less
    lower zero there d h =
        let some_i = some_at ls i some of.list in
        let up : 0 < i = some_before ls i (omega arith) in
        let far : name_cmp (get_or (list_at ls i) 0 d).name x ≡ Greater = there.higher 0 d (omega arith) some_i in
        let within : not (is_lt (name_cmp x (get_or (list_at ls i) 0 d).name)) ≡ true = sym (first_of x (list_at ls i) d some_i) ∙ ap not (of.begins up) in
        let less : is_lt (name_cmp x (get_or (list_at ls i) 0 d).name) ≡ true = ap is_lt (turned x (get_or (list_at ls i) 0 d).name Greater far) in
        let wrong : false ≡ true = sym (ap not less) ∙ within in
        absurd (cc)
    lower (suc at) there d h =
        let near = there.within in
        let same : before ls i + suc at - 1 ≡ before ls i + at = omega arith in
        ap (λ n. name_cmp (get_or (flat ls) n d).name x) same ∙ ap (λ (z : Link). name_cmp z.name x) (entry_at ls i at d of.list (omega (arith, near))) ∙ there.lower at d (omega arith)

    higher : (d : Link) → before ls i + at < length (flat ls) → name_cmp (get_or (flat ls) (before ls i + at) d).name x ≡ Greater
    higher d h = go (at_end at (length (list_at ls i)))
      where
        go : (at < length (list_at ls i)) ⊎ (length (list_at ls i) ≤ at) → name_cmp (get_or (flat ls) (before ls i + at) d).name x ≡ Greater
        go (inl near) = ap (λ (z : Link). name_cmp z.name x) (entry_at ls i at d of.list near) ∙ there.higher at d (omega arith) near
        go (inr far) =
            let next = after_list ls i at some of h there.within far in
            let above : is_lt (name_cmp x (get_or (list_at ls (suc i)) 0 d).name) ≡ true = not_false _ (sym (first_of x (list_at ls (suc i)) d next.some) ∙ ap not next.begins) in
            ap (λ n. name_cmp (get_or (flat ls) n d).name x) next.end ∙ ap (λ (z : Link). name_cmp z.name x) (first_at ls (suc i) d next.more next.some) ∙ above_less x _ above

-- what is looked up, and its number
pub looked_at : (x : Name) (ls : List (List Link)) (i at : ℕ) (l : Link) → is_sorted name_cmp (pairs (flat ls)) ≡ true → i < length ls → at < length (list_at ls i) → HasName x (flat ls) (before ls i + at) → l ≡ get_or (list_at ls i) at l → Looks x (flat ls) (Ok (before ls i + at, l.node))
looked_at x ls i at l sorted h within there is =
    let bound : before ls i + at < length (pairs (flat ls)) = subst (λ n. before ls i + at < n) (sym (length-pairs (flat ls))) there.within in
    (in_place x (flat ls) (before ls i + at) (true_T _ sorted) there.within there.same, number_read (flat ls) (before ls i + at) l bound (is ∙ sym (entry_at ls i at l h within)))

-- what is never true is false
never : (b : Bool) → (b ≡ true → ⊥) → b ≡ false
never true f = absurd (f refl)
never false f = refl

-- a place up to which no name is above one, and from which all are, by its neighbours
cut_from : (x : Name) (links : List Link) (n : ℕ) → is_sorted name_cmp (pairs links) ≡ true → n ≤ length links
    → ((d : Link) → 0 < n → is_within x (get_or links (n - 1) d) ≡ true) → ((d : Link) → n < length links → is_within x (get_or links n d) ≡ false) → IsCut x links n
cut_from x links n sorted within lower higher = record {
  first = λ k d le h. parts x links sorted k (n - 1) d (omega arith) (omega arith) (lower d (omega arith));
  second = λ k d le h. never (is_within x (get_or links k d)) (λ e. let wrong : true ≡ false = sym (parts x links sorted n k d le h e) ∙ higher d (omega arith) in cc);
  within = within;
}

-- the same among all, from that in a list
pub cut_whole : (x : Name) (ls : List (List Link)) (i at : ℕ) → is_sorted name_cmp (pairs (flat ls)) ≡ true → AllSome ls → IsListOf x ls i → IsCut x (list_at ls i) at → IsCut x (flat ls) (before ls i + at)
cut_whole x ls i at sorted some of there =
    let room = before_within ls i of.list in
    let near = there.within in
    cut_from x (flat ls) (before ls i + at) sorted (omega (arith, room, near)) (lower at there) higher
  where
    lower : (at : ℕ) → IsCut x (list_at ls i) at → (d : Link) → 0 < before ls i + at → is_within x (get_or (flat ls) (before ls i + at - 1) d) ≡ true
    lower zero there d h =
        let some_i = some_at ls i some of.list in
        let up : 0 < i = some_before ls i (omega arith) in
        let within : is_within x (get_or (list_at ls i) 0 d) ≡ true = sym (first_of x (list_at ls i) d some_i) ∙ ap not (of.begins up) in
        let wrong : true ≡ false = sym within ∙ there.second 0 d (omega arith) some_i in
        absurd (cc)
    lower (suc at) there d h =
        let near = there.within in
        let same : before ls i + suc at - 1 ≡ before ls i + at = omega arith in
        ap (λ n. is_within x (get_or (flat ls) n d)) same ∙ ap (is_within x) (entry_at ls i at d of.list (omega (arith, near))) ∙ there.first at d (omega arith) (omega arith)

    higher : (d : Link) → before ls i + at < length (flat ls) → is_within x (get_or (flat ls) (before ls i + at) d) ≡ false
    higher d h = go (at_end at (length (list_at ls i)))
      where
        go : (at < length (list_at ls i)) ⊎ (length (list_at ls i) ≤ at) → is_within x (get_or (flat ls) (before ls i + at) d) ≡ false
        go (inl near) = ap (is_within x) (entry_at ls i at d of.list near) ∙ there.second at d (omega arith) near
        go (inr far) =
            let next = after_list ls i at some of h there.within far in
            ap (λ n. is_within x (get_or (flat ls) n d)) next.end ∙ ap (is_within x) (first_at ls (suc i) d next.more next.some) ∙ sym (first_of x (list_at ls (suc i)) d next.some) ∙ ap not next.begins
