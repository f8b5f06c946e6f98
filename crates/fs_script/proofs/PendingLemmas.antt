-- What a walk through a forest has still to come, step by step.
use Rattle.std.proofs.Common.{◌≡◌, ℕ, zero, suc, ◌<◌, List, [], ◌∷◌, ◌++◌, length, map, Some, None, Option, refl, sym, ap, subst, ◌∙◌, arith, append_assoc}
use Rattle.std.specs.List.{flat_map}
use Rattle.std.proofs.lemmas.Grind.{flat_map-append}
use Rattle.fs_names.specs.Names.{Name}
use Rattle.fs_names.specs.Keys.{Key}
use Rattle.fs_seq_nodes.specs.code.Slots.{Place, links_of, node_of, place_at, links_at, child, walk_from, walk, node_at, spelled, keys_from, with_node, nodes_at, tree_of, IsForest}
use Rattle.fs_seq_nodes.specs.code.Slots as forest
use Rattle.fs_script.specs.code.Walks.{key_above, Leads, links_above, keys_behind, pending}
use Rattle.fs_script.specs.declared.tree.Step.{Step}

-- ---- what is to come

behind_append : (many : ℕ) (g : forest.Slots) (key : Key) (a b : List (Name × ℕ)) → keys_behind many g key (a ++ b) ≡ keys_behind many g key a ++ keys_behind many g key b
behind_append many g key a b = flat_map-append (λ (l : Name × ℕ). map (λ (k : Key). key ++ l.0 ∷ k) (keys_from many g l.1)) a b

all_links : (ls : List (Name × ℕ)) → links_above None ls ≡ ls
all_links [] = refl
all_links (l ∷ ls) = ap (λ (z : List (Name × ℕ)). l ∷ z) (all_links ls)

-- a name behind a key, and the rest behind that
map_longer : (key : Key) (x : Name) (ks : List Key) → map (λ (k : Key). key ++ x ∷ k) ks ≡ map (λ (k : Key). (key ++ x ∷ []) ++ k) ks
map_longer key x [] = refl
map_longer key x (k ∷ ks) = ap (λ (z : Key). z ∷ map (λ (q : Key). key ++ x ∷ q) ks) (sym (append_assoc key (x ∷ []) k)) ∙ ap (λ (z : List Key). ((key ++ x ∷ []) ++ k) ∷ z) (map_longer key x ks)

map_app : {A B : Type 0} (f : A → B) (a b : List A) → map f (a ++ b) ≡ map f a ++ map f b
map_app {B = B} f [] b = refl
map_app {B = B} f (x ∷ a) b = ap (λ (z : List B). f x ∷ z) (map_app f a b)

map_under : (key : Key) (y : Name) (ks : List Key) → map (λ (k : Key). key ++ k) (map (λ (k : Key). y ∷ k) ks) ≡ map (λ (k : Key). key ++ y ∷ k) ks
map_under key y [] = refl
map_under key y (k ∷ ks) = ap (λ (z : List Key). (key ++ y ∷ k) ∷ z) (map_under key y ks)

behind_prefixed : (many : ℕ) (g : forest.Slots) (key : Key) (ls : List (Name × ℕ)) → map (λ (k : Key). key ++ k) (flat_map (λ (l : Name × ℕ). map (λ (k : Key). l.0 ∷ k) (keys_from many g l.1)) ls) ≡ keys_behind many g key ls
behind_prefixed many g key [] = refl
behind_prefixed many g key (l ∷ ls) =
    map_app (λ (k : Key). key ++ k) (map (λ (k : Key). l.0 ∷ k) (keys_from many g l.1)) (flat_map (λ (r : Name × ℕ). map (λ (k : Key). r.0 ∷ k) (keys_from many g r.1)) ls)
    ∙ ap (λ (z : List Key). z ++ map (λ (k : Key). key ++ k) (flat_map (λ (r : Name × ℕ). map (λ (k : Key). r.0 ∷ k) (keys_from many g r.1)) ls)) (map_under key l.0 (keys_from many g l.1))
    ∙ ap (λ (z : List Key). map (λ (k : Key). key ++ l.0 ∷ k) (keys_from many g l.1) ++ z) (behind_prefixed many g key ls)

-- the keys behind one link: its own, and those behind the links of its node
behind_link : (many : ℕ) (g : forest.Slots) (key : Key) (x : Name) (m : ℕ) → map (λ (k : Key). key ++ x ∷ k) (keys_from (suc many) g m) ≡ (key ++ x ∷ []) ∷ keys_behind many g (key ++ x ∷ []) (links_above None (links_at g m))
behind_link many g key x m =
    ap (λ (z : List Key). (key ++ x ∷ []) ∷ z)
    (map_longer key x (flat_map (λ (l : Name × ℕ). map (λ (k : Key). l.0 ∷ k) (keys_from many g l.1)) (links_at g m))
    ∙ behind_prefixed many g (key ++ x ∷ []) (links_at g m) ∙ ap (keys_behind many g (key ++ x ∷ [])) (sym (all_links (links_at g m))))

-- down by the next link
pub down : (many : ℕ) (g : forest.Slots) (key : Key) (steps : List Step) (dir : ℕ) (low : Option Name) (x : Name) (m : ℕ)
    → links_above low (links_at g dir) ≡ (x, m) ∷ links_above (Some x) (links_at g dir) → length steps < many
    → pending many g key steps dir low ≡ (key ++ (key_above steps ++ x ∷ [])) ∷ pending many g key (steps ++ record { dir = dir; name = x } ∷ []) m None
down zero g key [] dir low x m e h = absurd (omega arith)
down (suc many) g key [] dir low x m e h =
    ap (keys_behind (suc many) g key) e
    ∙ ap (λ (z : List Key). z ++ keys_behind (suc many) g key (links_above (Some x) (links_at g dir))) (behind_link many g key x m)
down zero g key (s ∷ steps) dir low x m e h = absurd (omega arith)
down (suc many) g key (s ∷ steps) dir low x m e h =
    let rest = keys_behind (suc many) g key (links_above (Some s.name) (links_at g s.dir)) in
    ap (λ (z : List Key). z ++ rest) (down many g (key ++ s.name ∷ []) steps dir low x m e (omega arith))
    ∙ ap (λ (z : Key). z ∷ (pending many g (key ++ s.name ∷ []) (steps ++ record { dir = dir; name = x } ∷ []) m None ++ rest)) (append_assoc key (s.name ∷ []) (key_above steps ++ x ∷ []))

-- up, where no link is left
pub up : (many : ℕ) (g : forest.Slots) (key : Key) (steps : List Step) (s : Step) (dir : ℕ) (low : Option Name)
    → links_above low (links_at g dir) ≡ [] → length steps < many → pending many g key (steps ++ s ∷ []) dir low ≡ pending many g key steps s.dir (Some s.name)
up zero g key [] s dir low e h = absurd (omega arith)
up (suc many) g key [] s dir low e h = ap (λ (z : List (Name × ℕ)). keys_behind many g (key ++ s.name ∷ []) z ++ keys_behind (suc many) g key (links_above (Some s.name) (links_at g s.dir))) e
up zero g key (t ∷ steps) s dir low e h = absurd (omega arith)
up (suc many) g key (t ∷ steps) s dir low e h =
    ap (λ (z : List Key). z ++ keys_behind (suc many) g key (links_above (Some t.name) (links_at g t.dir))) (up many g (key ++ t.name ∷ []) steps s dir low e (omega arith))

-- the end, where no link and no step is left
pub no_more : (many : ℕ) (g : forest.Slots) (key : Key) (dir : ℕ) (low : Option Name) → links_above low (links_at g dir) ≡ [] → pending many g key [] dir low ≡ []
no_more many g key dir low e = ap (keys_behind many g key) e

-- ---- where the steps lead

pub leads_down : (g : forest.Slots) (n : ℕ) (steps : List Step) (dir : ℕ) (x : Name) (m : ℕ) → Leads g n steps dir → child g dir x ≡ Some m → Leads g n (steps ++ record { dir = dir; name = x } ∷ []) m
leads_down g n [] dir x m l e = (l, m, subst (λ (d : ℕ). child g d x ≡ Some m) (sym l) (e), refl)
leads_down g n (s ∷ steps) dir x m l e = (l.0, l.1, l.2, leads_down g l.1 steps dir x m l.3 e)

pub leads_up : (g : forest.Slots) (n : ℕ) (steps : List Step) (s : Step) (dir : ℕ) → Leads g n (steps ++ s ∷ []) dir → Leads g n steps s.dir
leads_up g n [] s dir l = l.0
leads_up g n (t ∷ steps) s dir l = (l.0, l.1, l.2, leads_up g l.1 steps s dir l.3)

pub led : (g : forest.Slots) (n : ℕ) (steps : List Step) (dir : ℕ) → Leads g n steps dir → walk_from g n (key_above steps) ≡ Some dir
led g n [] dir l = ap Some l
led g n (s ∷ steps) dir l = rw l.2 (led g l.1 steps dir l.3)

-- at the start all keys but the root's are to come
pub behind_all : (many : ℕ) (g : forest.Slots) → keys_from (suc many) g 0 ≡ [] ∷ pending many g [] [] 0 None
behind_all many g = ap (λ (z : List Key). [] ∷ z) (same_keys (links_at g 0) ∙ ap (keys_behind many g []) (sym (all_links (links_at g 0))))
  where
    same_keys : (ls : List (Name × ℕ)) → flat_map (λ (l : Name × ℕ). map (λ (k : Key). l.0 ∷ k) (keys_from many g l.1)) ls ≡ keys_behind many g [] ls
    same_keys ls = refl
