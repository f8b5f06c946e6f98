-- On names that are told one after another.
use Rattle.std.proofs.Common.{◌≡◌, ◌≢◌, ℕ, ◌+◌, ◌<◌, ◌≤◌, Bool, true, false, IsTrue, List, [], ◌∷◌, ◌++◌, length, take, Option, Some, None, refl, ap, sym, ◌∙◌, arith, append_assoc, append-nil, length-append, subst}
use Rattle.std.specs.Prelude.{option_map, nat_lt}
use Rattle.std.proofs.lemmas.Bool.Decides.{nat_tests}
use Rattle.std.specs.List.{find}
use Rattle.std.specs.Ordering.{is_lt}
use Rattle.std.proofs.lemmas.List.{take_all, take_at}
use Rattle.fs_names.specs.Names as orders
use Rattle.fs_names.specs.Names.{Name, name_cmp, can_name}
use Rattle.fs_names.specs.Rooms.{RoomForNames, IsRoomFor}
use Rattle.fs_names.specs.Shapes.{Shape, Dir, File, names_of}
use Rattle.fs_names.specs.Failures.{check, first_failure}
use Rattle.fs_names.specs.declared.limits.TheConstants.{LIST_LIMIT}
use Rattle.fs_calls.specs.Forms.{Readdir}
use Rattle.fs_calls.specs.Rows.{answered, node_fault, node_row}
use Rattle.fs_calls.specs.declared.errno.Errno.TheVariants.{Eoverflow}
use Rattle.fs_calls.specs.declared.reply.Reply.TheVariants.{Names}
use Rattle.fs_nodes.specs.Graphs.{Graph}
use Rattle.fs_nodes.specs.Seen.{Ascends}
use Rattle.fs_nodes.specs.Stores.{is_above, names_above, next_entry, IsNextName, IsEntryAfter, IsNameAfter}
use Rattle.fs_nodes.proofs.EntryLemmas.{entry_child}
use Rattle.fs_ops_effects.specs.Lows.{bytes_above}
use Rattle.fs_names.specs.declared.name_list.TheConstants.{NAME_TEXT}
use Rattle.fs_ops_effects.proofs.Listing.{last_listed, IsListed, IsListing}

-- all names are above none
pub all_above : (names : List Name) → names_above None names ≡ names
all_above [] = refl
all_above (x ∷ names) = ap (λ (l : List Name). x ∷ l) (all_above names)

-- so as many as there may be are all
pub all_taken : (most : ℕ) (names : List Name) → length names ≤ most → take most (names_above None names) ≡ names
all_taken most names h = ap (take most) (all_above names) ∙ take_all most names h

-- what a call without an error answers of them
pub all_told : (s : Option Shape) → node_fault Readdir None s ≡ None → Names (take LIST_LIMIT (names_above None (names_of s))) ≡ (node_row Readdir None s).0
all_told None none = cc
all_told (Some (File bytes)) none = cc
all_told (Some (Dir names)) none = go (nat_lt LIST_LIMIT (length names)) refl none
  where
    go : (b : Bool) → nat_lt LIST_LIMIT (length names) ≡ b → first_failure (check b Eoverflow ∷ []) ≡ None → Names (take LIST_LIMIT (names_above None names)) ≡ (answered {C = Option (List ℕ)} (first_failure (check b Eoverflow ∷ [])) None (Names names) None).0
    go true e h = cc
    go false e h = ap Names (all_taken LIST_LIMIT names (grind (arith, nat_tests)))

-- ---- names above no bytes

-- what is above a name has bytes
above_bytes : (x y : Name) → is_lt (name_cmp x y) ≡ true → is_lt (name_cmp [] y) ≡ true
above_bytes [] [] h = h
above_bytes (a ∷ x) [] h = cc
above_bytes x (b ∷ y) h = refl

-- so names that ascend from one are above no bytes
above_nothing : (x : Name) (names : List Name) → Ascends (Some x) names → orders.names_above [] names ≡ names
above_nothing x [] a = refl
above_nothing x (y ∷ names) a = rw (above_bytes x y a.0) (ap (λ (l : List Name). y ∷ l) (above_nothing y names a.1))

-- the names above one, by its bytes
above_one : (x : Name) (names : List Name) → names_above (Some x) names ≡ orders.names_above x names
above_one x names = refl

-- where the first name has bytes, all are above none as above no bytes
above_first : (names : List Name) (x : Name) (rest : List Name) → Ascends None names → names ≡ x ∷ rest → IsTrue (can_name x) → names_above None names ≡ orders.names_above [] names
above_first [] x rest a e named = cc
above_first ([] ∷ names) x rest a e named = let same : x ≡ [] = cc in let z : IsTrue (can_name []) = subst (λ (y : Name). IsTrue (can_name y)) same named in cc
above_first ((b ∷ y) ∷ names) x rest a e named = all_above ((b ∷ y) ∷ names) ∙ ap (λ (l : List Name). (b ∷ y) ∷ l) (sym (above_nothing (b ∷ y) names a.1))

-- what is above a name, or above none, is above its bytes, where the first name has some
pub above_some : (low : Option Name) (names : List Name) (x : Name) → Ascends None names → IsNextName names low (Some x) → IsTrue (can_name x) → names_above low names ≡ orders.names_above (bytes_above low) names
above_some (Some y) names x a rest named = above_one y names
above_some None names x a rest named = above_first names x (names_above (Some x) names) a (sym (all_above names) ∙ rest) named

-- and where there is none
pub above_none : (low : Option Name) (names : List Name) → IsNextName names low None → names_above low names ≡ orders.names_above (bytes_above low) names
above_none (Some y) names rest = above_one y names
above_none None names rest = rest ∙ sym (ap (orders.names_above []) (sym (all_above names) ∙ rest))

-- ---- names told so far

-- the last one where one was added
pub last_pushed : (low : Option Name) (told : List Name) (x : Name) → last_listed low (told ++ x ∷ []) ≡ Some x
last_pushed low [] x = refl
last_pushed low (y ∷ told) x = last_pushed (Some y) told x

-- at first, and after one more
told_first : (low : Option Name) (most : ℕ) (names : List Name) → IsListed low most [] names
told_first low most names = record { all = refl; within = omega arith }

told_more : (low : Option Name) (most : ℕ) (told names : List Name) (x : Name) → IsListed low most told names → length told ≢ most → names_above (last_listed low told) names ≡ x ∷ names_above (Some x) names → IsListed low most (told ++ x ∷ []) names
told_more low most told names x h fewer e = record {
  all = append_assoc told (x ∷ []) (names_above (last_listed low (told ++ x ∷ [])) names) ∙ ap (λ (o : Option Name). told ++ x ∷ names_above o names) (last_pushed low told x) ∙ ap (λ (rest : List Name). told ++ rest) (sym e) ∙ h.all;
  within = (let k : length (told ++ x ∷ []) ≡ length told + 1 = length-append told (x ∷ []) in let w = h.within in omega (arith, k, w, fewer));
}

-- at the end: no name is left, or so many are told
told_all : (low : Option Name) (most : ℕ) (told names : List Name) → IsListed low most told names → names_above (last_listed low told) names ≡ [] → told ≡ take most (names_above low names)
told_all low most told names h e =
    let all : told ≡ names_above low names = sym (append-nil told) ∙ ap (λ (rest : List Name). told ++ rest) (sym e) ∙ h.all in
    all ∙ sym (take_all most (names_above low names) (subst (λ (l : List Name). length l ≤ most) all h.within))

told_most : (low : Option Name) (most : ℕ) (told names : List Name) → IsListed low most told names → length told ≡ most → told ≡ take most (names_above low names)
told_most low most told names h e = sym (take_at told (names_above (last_listed low told) names) most e) ∙ ap (take most) h.all

-- ---- the same of a directory

pub listing_first : (graph : Graph) (dir : ℕ) (low : Option Name) (most : ℕ) (list : RoomForNames) (next : Option (Name × ℕ)) → IsRoomFor most list → next ≡ next_entry graph dir low → IsNextName (names_of (graph.shape dir)) low (option_map (λ entry. entry.0) next)
    → IsListing graph dir low most list most next
listing_first graph dir low most list next h entry rest =
    record {
      is_told = subst (λ (l : List Name). IsListed low most l (names_of (graph.shape dir))) (sym h.0) (told_first low most (names_of (graph.shape dir)));
      count = (let e : length list.names ≡ 0 = ap length h.0 in omega (arith, e));
      fits = h.1;
      next_is = entry ∙ ap (λ (l : List Name). next_entry graph dir (last_listed low l)) (sym h.0);
      rest = subst (λ (l : List Name). IsNextName (names_of (graph.shape dir)) (last_listed low l) (option_map (λ entry. entry.0) next)) (sym h.0) rest;
    }

pub listing_pushed : (graph : Graph) (dir : ℕ) (low : Option Name) (most : ℕ) (list new : RoomForNames) (left fewer : ℕ) (next after : Option (Name × ℕ)) (x : Name) (n : ℕ) → IsListing graph dir low most list left next → next ≡ Some (x, n) → left ≡ fewer + 1
    → new.names ≡ list.names ++ x ∷ [] → list.room ≤ new.room + NAME_TEXT → IsEntryAfter graph n after → IsNameAfter graph n (option_map (λ entry. entry.0) after) → IsListing graph dir low most new fewer after
listing_pushed graph dir low most list new left fewer next after x n l is one pushed room entry rest =
    let names : List Name = names_of (graph.shape dir) in
    let child : graph.child dir x ≡ Some n = entry_child (graph.child dir) (find (is_above (last_listed low list.names)) names) x n (sym is ∙ l.next_is) in
    let name : names_above (last_listed low list.names) names ≡ x ∷ names_above (Some x) names = subst (λ (o : Option (Name × ℕ)). IsNextName names (last_listed low list.names) (option_map (λ entry. entry.0) o)) is l.rest in
    let last : last_listed low new.names ≡ Some x = ap (last_listed low) pushed ∙ last_pushed low list.names x in
    let longer : length new.names ≡ length list.names + 1 = ap length pushed ∙ length-append list.names (x ∷ []) in
    let c = l.count in
    let f = l.fits in
    record {
      is_told = subst (λ (z : List Name). IsListed low most z names) (sym pushed) (told_more low most list.names names x l.is_told (omega (arith, c, one)) name);
      count = omega (arith, longer, c, one);
      fits = omega (arith, f, room, one);
      next_is = entry dir x child ∙ ap (next_entry graph dir) (sym last);
      rest = subst (λ (o : Option Name). IsNextName names o (option_map (λ entry. entry.0) after)) (sym last) (rest dir x child);
    }

pub listing_all : (graph : Graph) (dir : ℕ) (low : Option Name) (most : ℕ) (list : RoomForNames) (left : ℕ) (next : Option (Name × ℕ)) → IsListing graph dir low most list left next → next ≡ None → list.names ≡ take most (names_above low (names_of (graph.shape dir)))
listing_all graph dir low most list left next l is =
    told_all low most list.names (names_of (graph.shape dir)) l.is_told (subst (λ (o : Option (Name × ℕ)). IsNextName (names_of (graph.shape dir)) (last_listed low list.names) (option_map (λ entry. entry.0) o)) is l.rest)

pub listing_most : (graph : Graph) (dir : ℕ) (low : Option Name) (most : ℕ) (list : RoomForNames) (left : ℕ) (next : Option (Name × ℕ)) → IsListing graph dir low most list left next → left ≡ 0 → list.names ≡ take most (names_above low (names_of (graph.shape dir)))
listing_most graph dir low most list left next l none = let c = l.count in told_most low most list.names (names_of (graph.shape dir)) l.is_told (omega (arith, c, none))
