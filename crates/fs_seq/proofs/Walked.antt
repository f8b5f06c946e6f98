-- The walk through a graph in the order of the keys, step by step.
use Rattle.std.proofs.Common.{◌≡◌, ℕ, suc, ◌+◌, ◌-◌, ◌<◌, Bool, true, false, cond, List, [], ◌∷◌, ◌++◌, length, map, reverse, Some, None, Option, refl, sym, ap, ap₂, subst, ◌∙◌, arith, T, append_assoc, append-nil, length-append}
use Rattle.std.specs.List.{flat_map, AllByRecursion}
use Rattle.std.specs.Ordering.{is_eq}
use Rattle.std.specs.FinMap.{find, is_sorted}
use Rattle.std.specs.FinMap.Entries.{below_all}
use Rattle.std.proofs.lemmas.List.{reverse-append, reverse-reverse, map-append}
use Rattle.std.proofs.lemmas.Grind.{flat_map-append}
use Rattle.slab.specs.Slab.{Slab, get}
use Rattle.fs_names.specs.Names.{Name, name_cmp, same_name}
use Rattle.fs_names.specs.Keys.{Key}
use Rattle.fs_names.proofs.Lemmas.{same_name_exact, same_name_refl}
use Rattle.fs_calls.specs.Tree.{Node}
use Rattle.fs_calls.proofs.ListLemmas.{true_T}
use Rattle.fs_seq_nodes.specs.declared.nodes.Node.TheVariants as nodes
use Rattle.fs_seq.specs.declared.rows.Row.{Row}
use Rattle.fs_seq.specs.Rows.{row_of}
use Rattle.fs_seq_nodes.specs.code.Nodes.{graph, place}
use Rattle.fs_seq_nodes.specs.code.Slots.{Slots, links_of, node_of, links_at, walk, node_at, keys_from, with_node, nodes_at, tree_of, IsForest}
use Rattle.fs_seq.specs.code.Walks.{entries_below, keys_at, pending}
use Rattle.fs_seq_nodes.proofs.GraphLemmas.{shorter}
use Rattle.fs_seq_nodes.proofs.NodeLemmas.{place_got, links_got}
use Rattle.fs_seq_nodes.proofs.Resolving.{spelled_at, walk_on, child-find}
use Rattle.fs_seq.proofs.RisingLemmas.{walked_rows}
use Rattle.fs_seq_nodes.proofs.SearchLemmas.{both_first, both_second, is_less}

-- ---- a node that is visited

-- its entries come ahead of what was
pub ahead_by : (s : Slab nodes.the_data) (at : Key × ℕ) (n : ℕ) (key : Key) (node : nodes.the_data) (old new : List (Key × ℕ))
    → (key, n) ≡ at → get s n ≡ Some node → new ≡ old ++ reverse (entries_below key (links_of (Some (place node))))
    → new ≡ old ++ reverse (entries_below at.0 (links_at (graph s) at.1))
ahead_by s at n key node old new same got went =
    went ∙ ap (λ ls. old ++ reverse (entries_below key ls)) (sym (links_got (graph s) n _ (place_got s n node got)))
    ∙ ap (λ (a : Key × ℕ). old ++ reverse (entries_below a.0 (links_at (graph s) a.1))) same

-- its row is told
pub told_by : (s : Slab nodes.the_data) (at : Key × ℕ) (n : ℕ) (key : Key) (node : nodes.the_data) (row : Row) (old new : List Row)
    → (key, n) ≡ at → get s n ≡ Some node → with_node key (node_of (Some (place node))) [] ≡ row_of row ∷ [] → new ≡ old ++ row ∷ []
    → map row_of new ≡ map row_of old ++ with_node at.0 (node_at (graph s) at.1) []
told_by s at n key node row old new same got read went =
    ap (map row_of) went ∙ map-append row_of old (row ∷ [])
    ∙ ap (λ z. map row_of old ++ z) (sym read ∙ ap (λ o. with_node key (node_of o) []) (sym (place_got s n node got)))
    ∙ ap (λ (a : Key × ℕ). map row_of old ++ with_node a.0 (node_at (graph s) a.1) []) same

-- ---- what is to come

-- an entry that is ahead leads to its node
abbrev pub Leads : Slots → List (Key × ℕ) → Type 0
Leads g = AllByRecursion (λ (at : Key × ℕ). walk g at.0 ≡ Some at.1)

Leads-append : (g : Slots) (a b : List (Key × ℕ)) → Leads g a → Leads g b → Leads g (a ++ b)
Leads-append g [] b p q = q
Leads-append g (x ∷ a) b p q = (p.0, Leads-append g a b p.1 q)

Leads-front : (g : Slots) (a b : List (Key × ℕ)) → Leads g (a ++ b) → Leads g a
Leads-front g [] b p = tt
Leads-front g (x ∷ a) b p = (p.0, Leads-front g a b p.1)

pub Leads-last : (g : Slots) (a : List (Key × ℕ)) (x : Key × ℕ) → Leads g (a ++ x ∷ []) → walk g x.0 ≡ Some x.1
Leads-last g [] x p = p.0
Leads-last g (y ∷ a) x p = Leads-last g a x p.1

Leads-reverse : (g : Slots) (a : List (Key × ℕ)) → Leads g a → Leads g (reverse a)
Leads-reverse g [] p = tt
Leads-reverse g (x ∷ a) p = subst (Leads g) (sym (reverse-append (x ∷ []) a)) (Leads-append g (reverse a) (x ∷ []) (Leads-reverse g a p.1) (p.0, tt))

-- nothing is found among names that are all above
find-below : (x : Name) (ls : List (Name × ℕ)) → T (below_all name_cmp x ls) → find name_cmp x ls ≡ None
find-below x [] h = refl
find-below x (l ∷ ls) h = ap (λ b. cond {A = Option ℕ} b (Some l.1) (find name_cmp x ls)) (ap is_eq (is_less _ (both_first _ _ h))) ∙ find-below x ls (both_second _ _ h)

-- what is found behind the first is found
find-later : (l m : Name × ℕ) (ls : List (Name × ℕ)) → T (below_all name_cmp l.0 ls) → find name_cmp m.0 ls ≡ Some m.1 → find name_cmp m.0 (l ∷ ls) ≡ Some m.1
find-later l m ls below found = go (same_name m.0 l.0) refl
  where
    go : (b : Bool) → same_name m.0 l.0 ≡ b → cond {A = Option ℕ} b (Some l.1) (find name_cmp m.0 ls) ≡ Some m.1
    go true e = let none : find name_cmp m.0 ls ≡ None = ap (λ x. find name_cmp x ls) (same_name_exact m.0 l.0 e) ∙ find-below l.0 ls below in absurd (cc)
    go false e = found

-- a key that leads to a number leads on by its links
leads_below : (g : Slots) (k : Key) (n : ℕ) (ls : List (Name × ℕ)) → T (is_sorted name_cmp ls) → ((l : Name × ℕ) → find name_cmp l.0 ls ≡ Some l.1 → walk g (k ++ l.0 ∷ []) ≡ Some l.1) → Leads g (entries_below k ls)
leads_below g k n [] sorted on = tt
leads_below g k n (l ∷ ls) sorted on =
    (on l (first l), leads_below g k n ls (both_second _ _ sorted) (λ m f. on m (find-later l m ls (both_first _ _ sorted) f)))
  where
    first : (l : Name × ℕ) → find name_cmp l.0 (l ∷ ls) ≡ Some l.1
    first l = ap (λ b. cond {A = Option ℕ} b (Some l.1) (find name_cmp l.0 ls)) (same_name_refl l.0)

module _ (g : Slots) (forest : IsForest g) where
  -- the keys under one name, behind the key
  keys_under : (many : ℕ) (key : Key) (x : Name) (n : ℕ) (ks : List Key) → map (λ (k : Key). key ++ k) (map (λ (k : Key). x ∷ k) ks) ≡ map (λ (k : Key). (key ++ x ∷ []) ++ k) ks
  keys_under many key x n [] = refl
  keys_under many key x n (k ∷ ks) = ap₂ (λ (a : Key) (b : List Key). a ∷ b) (sym (append_assoc key (x ∷ []) k)) (keys_under many key x n ks)

  -- the keys that lead on by some links are those of the entries
  keys_by : (key : Key) (many : ℕ) → many ≡ length g - (length key + 1) → (ls : List (Name × ℕ))
      → map (λ (k : Key). key ++ k) (flat_map (λ (l : Name × ℕ). map (λ (k : Key). l.0 ∷ k) (keys_from many g l.1)) ls) ≡ flat_map (keys_at g) (entries_below key ls)
  keys_by key many e [] = refl
  keys_by key many e (l ∷ ls) =
      let deep : many ≡ length g - length (key ++ l.0 ∷ []) = e ∙ ap (λ n. length g - n) (sym (length-append key (l.0 ∷ []))) in
      map-append (λ (k : Key). key ++ k) (map (λ (k : Key). l.0 ∷ k) (keys_from many g l.1)) _
      ∙ ap₂ (λ (a b : List Key). a ++ b)
      (keys_under many key l.0 l.1 (keys_from many g l.1) ∙ ap (λ m. map (λ (k : Key). (key ++ l.0 ∷ []) ++ k) (keys_from m g l.1)) deep)
      (keys_by key many e ls)

  -- an entry's keys are its own and those of its entries
  keys_on : (key : Key) (n : ℕ) → walk g key ≡ Some n → keys_at g (key, n) ≡ key ∷ flat_map (keys_at g) (entries_below key (links_at g n))
  keys_on key n w =
      let short : length key < length g = shorter g 0 key n forest.once (λ k m v. forest.inside k m v) w in
      let many = length g - (length key + 1) in
      let more : length g - length key ≡ suc many = omega arith in
      ap (λ m. map (λ (k : Key). key ++ k) (keys_from m g n)) more
      ∙ ap₂ (λ (a : Key) (b : List Key). a ∷ b) (append-nil key) (keys_by key many refl (links_at g n))

  -- what is to come, where the next entry was visited
  pub pending_on : (old : List (Key × ℕ)) (at : Key × ℕ) → walk g at.0 ≡ Some at.1 → pending g (old ++ at ∷ []) ≡ at.0 ∷ pending g (old ++ reverse (entries_below at.0 (links_at g at.1)))
  pending_on old at w =
      let ls = entries_below at.0 (links_at g at.1) in
      ap (flat_map (keys_at g)) (reverse-append old (at ∷ []))
      ∙ ap (λ z. z ++ pending g old) (keys_on at.0 at.1 w)
      ∙ ap (λ z. at.0 ∷ z) (sym (ap (flat_map (keys_at g)) (reverse-append old (reverse ls) ∙ ap (λ z. z ++ reverse old) (reverse-reverse ls)) ∙ flat_map-append (keys_at g) ls (reverse old)))

  -- its entries lead to their nodes
  pub leads_on : (old : List (Key × ℕ)) (at : Key × ℕ) → Leads g (old ++ at ∷ []) → Leads g (old ++ reverse (entries_below at.0 (links_at g at.1)))
  leads_on old at leads =
      Leads-append g old _ (Leads-front g old (at ∷ []) leads)
      (Leads-reverse g _ (leads_below g at.0 at.1 (links_at g at.1) (true_T (forest.rising at.1))
      (λ l f. walk_on g at.0 at.1 l.0 l.1 (Leads-last g old at leads) (child-find g at.1 l.0 ∙ f))))

  -- at the start all keys are to come
  all_keys : (ks : List Key) → map (λ (k : Key). [] ++ k) ks ++ [] ≡ ks
  all_keys [] = refl
  all_keys (k ∷ ks) = ap (λ (z : List Key). k ∷ z) (all_keys ks)

  pub rows_first : (rows : List Row) (ahead : List (Key × ℕ)) (key : Key) → rows ≡ [] → key ≡ [] → ahead ≡ (key, 0) ∷ []
      → map row_of rows ++ nodes_at g (pending g ahead) ≡ nodes_at g (keys_from (length g) g 0)
  rows_first rows ahead key none root e =
      ap (λ (z : List Row). map row_of z ++ nodes_at g (pending g ahead)) none
      ∙ ap (λ (z : List (Key × ℕ)). nodes_at g (pending g z)) (e ∙ ap (λ (k : Key). (k, 0) ∷ []) root)
      ∙ ap (nodes_at g) (ap (λ (n : ℕ). map (λ (k : Key). [] ++ k) (keys_from n g 0) ++ []) whole ∙ all_keys (keys_from (length g) g 0))
    where
      whole : length g - 0 ≡ length g
      whole = omega arith

  pub leads_first : (ahead : List (Key × ℕ)) (key : Key) → key ≡ [] → ahead ≡ (key, 0) ∷ [] → Leads g ahead
  leads_first ahead key root e = subst (Leads g) (sym (e ∙ ap (λ (k : Key). (k, 0) ∷ []) root)) (refl, tt)

  -- an entry where there is one, before others
  with_more : (k : Key) (o : Option Node) (rest : List (Key × Node)) → with_node k o [] ++ rest ≡ with_node k o rest
  with_more k None rest = refl
  with_more k (Some e) rest = refl

  -- a round of the walk
  module _ (old : List (Key × ℕ)) (at : Key × ℕ) (ahead ahead' : List (Key × ℕ)) (was : ahead ≡ old ++ at ∷ []) (went : ahead' ≡ old ++ reverse (entries_below at.0 (links_at g at.1))) (leads : Leads g ahead) where
    pub walked_to : walk g at.0 ≡ Some at.1
    walked_to = Leads-last g old at (subst (Leads g) was leads)

    pub leads_next : Leads g ahead'
    leads_next = subst (Leads g) (sym went) (leads_on old at (subst (Leads g) was leads))

    come : pending g ahead ≡ at.0 ∷ pending g ahead'
    come = ap (pending g) was ∙ pending_on old at walked_to ∙ ap (λ (z : List (Key × ℕ)). at.0 ∷ pending g z) (sym went)

    pub fewer_next : length (pending g ahead') < length (pending g ahead)
    fewer_next = omega (arith, ap length come)

    pub rows_next : (rows rows' : List Row) (whole : List (Key × Node)) → map row_of rows' ≡ map row_of rows ++ with_node at.0 (node_at g at.1) [] → map row_of rows ++ nodes_at g (pending g ahead) ≡ whole
        → map row_of rows' ++ nodes_at g (pending g ahead') ≡ whole
    rows_next rows rows' whole told all =
        ap (λ (z : List (Key × Node)). z ++ nodes_at g (pending g ahead')) told
        ∙ append_assoc (map row_of rows) (with_node at.0 (node_at g at.1) []) (nodes_at g (pending g ahead'))
        ∙ ap (λ (z : List (Key × Node)). map row_of rows ++ z)
        (with_more at.0 (node_at g at.1) (nodes_at g (pending g ahead'))
        ∙ ap (λ (o : Option Node). with_node at.0 o (nodes_at g (pending g ahead'))) (sym (spelled_at g at.0 at.1 walked_to))
        ∙ ap (nodes_at g) (sym come))
        ∙ all

  -- at the end the rows are the tree
  pub rows_last : (rows : List Row) (ahead : List (Key × ℕ)) → length ahead ≡ 0 → map row_of rows ++ nodes_at g (pending g ahead) ≡ nodes_at g (keys_from (length g) g 0) → map row_of rows ≡ tree_of g
  rows_last rows [] none all = sym (append-nil (map row_of rows)) ∙ all ∙ sym (walked_rows g forest)
  rows_last rows (at ∷ ahead) none all = absurd (omega arith)
