-- What two calls keep is kept by each change.
use Rattle.std.proofs.Common.{◌≡◌, ℕ, ◌<◌, true, [], ◌∷◌, ◌++◌, Option, Some, None, refl, sym, ap, ap₂, ◌∙◌, arith, append_assoc, append-nil, subst, ◌⊎◌, inl, inr}
use Rattle.std.proofs.lemmas.List.{same_from_push}
use Rattle.fs_names.specs.Keys.{Key, after_prefix}
use Rattle.fs_names.specs.Names.{Name, same_name}
use Rattle.fs_names.specs.Parts.{HasNames}
use Rattle.fs_laws.specs.Maps.{Map, move, swap, swapped}
use Rattle.fs_machine.specs.Records.{Finished, Holds, Phase, Placed, Holdings, Walking, Source, Side, head_on}
use Rattle.fs_laws.specs.Placed.{rekey_by, Aside}
use Rattle.fs_laws.specs.CallFacts.{IsAfter, IsClear, Located, Pair}
use Rattle.fs_laws.proofs.trees.Prefixes.{same_refl, prefix_some, prefix_both, prefix_deeper, prefix_none, prefix_append}
use Rattle.fs_laws.proofs.trees.Commuting.{Lies, Below_first, Below_second, Below_neither, lies, move_to, move_else, swapped_first, swapped_second, swapped_else, swapped_twice, swapped_on}
use Rattle.fs_laws.proofs.helping.FinishPassesPlaced.{child_cases}

-- one key for each number
abbrev pub OneKey : Map ℕ → Type 0
OneKey tree = (a b : Key) (n : ℕ) → tree a ≡ Some n → tree b ≡ Some n → a ≡ b

-- a list that is more than nothing ends in a name
pub record Ends (u : Key) : Type 0 where
  pub front : Key
  pub last : Name
  pub is : u ≡ front ++ last ∷ []

pub ends : (u : Key) → HasNames u → Ends u
ends [] m = absurd m
ends (x ∷ []) m = record { front = []; last = x; is = refl }
ends (x ∷ y ∷ u) m = let e : Ends (y ∷ u) = ends (y ∷ u) tt in record { front = x ∷ e.front; last = e.last; is = ap (λ (l : Key). x ∷ l) e.is }

-- two lists with the same last name have the same front
pub ends_same : (a b : Key) (x y : Name) → a ++ x ∷ [] ≡ b ++ y ∷ [] → (a ≡ b) × (x ≡ y)
ends_same a b x y e = same_from_push a b x y e

-- the other call takes a child of a node that it holds: nothing strictly between is taken
pub clear_take : (tree : Map ℕ) → OneKey tree → (key walked : Key) (st other : Holdings) (km : Key) (m n : ℕ) (x : Name) (new : Holdings)
    → tree key ≡ Some st.node → ((q : ℕ) → Holds st q → Holds other q → ⊥)
    → tree km ≡ Some m → Holds other m → tree (km ++ x ∷ []) ≡ Some n
    → ((q : ℕ) → Holds new q → Holds other q ⊎ (q ≡ n))
    → IsClear tree key walked other → IsClear tree key walked new
clear_take tree one key walked st other km m n x new here apart at_m holds at_n grows clear u v q mu mv is at_q has = go (grows q has)
  where
    child : (e : Ends u) → (f : Key) → e.front ≡ f → q ≡ n → ⊥
    child e f i j =
        let k : key ++ u ≡ km ++ x ∷ [] = one (key ++ u) (km ++ x ∷ []) n (at_q ∙ ap Some j) at_n in
        let s : (key ++ e.front ≡ km) × (e.last ≡ x) = ends_same (key ++ e.front) km e.last x (append_assoc key e.front (e.last ∷ []) ∙ ap (λ (l : Key). key ++ l) (sym e.is) ∙ k) in
        by f i s.0
      where
        by : (f : Key) → e.front ≡ f → key ++ e.front ≡ km → ⊥
        by [] i g =
            let h : key ≡ km = sym (append-nil key) ∙ ap (λ (l : Key). key ++ l) (sym i) ∙ g in
            let w : ◌≡◌ {A = Option ℕ} (Some st.node) (Some m) = sym here ∙ ap tree h ∙ at_m in
            apart m (inl (let z : st.node ≡ m = cc in z)) holds
        by (y ∷ f) i g =
            clear e.front (e.last ∷ v) m (subst HasNames (sym i) tt) tt (is ∙ ap (λ (l : Key). l ++ v) e.is ∙ append_assoc e.front (e.last ∷ []) v) (ap tree g ∙ at_m) holds

    go : Holds other q ⊎ (q ≡ n) → ⊥
    go (inl h) = clear u v q mu mv is at_q h
    go (inr e) = child (ends u mu) (ends u mu).front refl e

-- the call's own head walks on: what it leaves between is its own
pub clear_walk : (tree : Map ℕ) (key walked : Key) (x : Name) (h : ℕ) (st other : Holdings) → tree (key ++ walked) ≡ Some h → Holds st h → ((q : ℕ) → Holds st q → Holds other q → ⊥) → IsClear tree key walked other → IsClear tree key (walked ++ x ∷ []) other
clear_walk tree key walked x h st other at_h holds apart clear u v q mu mv is at_q has = go (ends v mv)
  where
    go : Ends v → ⊥
    go e = by e.front refl
      where
        same_name : walked ≡ u ++ e.front
        same_name = (ends_same walked (u ++ e.front) x e.last (is ∙ ap (λ (l : Key). u ++ l) e.is ∙ sym (append_assoc u e.front (e.last ∷ [])))).0

        by : (f : Key) → e.front ≡ f → ⊥
        by [] i =
            let w : walked ≡ u = same_name ∙ ap (λ (l : Key). u ++ l) i ∙ append-nil u in
            let z : ◌≡◌ {A = Option ℕ} (Some h) (Some q) = sym at_h ∙ ap (λ (l : Key). tree (key ++ l)) w ∙ at_q in
            let y : h ≡ q = cc in
            apart h holds (subst (Holds other) (sym y) has)
        by (y ∷ f) i = clear u e.front q mu (subst HasNames (sym i) tt) same_name at_q has

-- the other call walks on: it does not come to a position below ours
pub after_take : (tree : Map ℕ) (key other : Key) (st : Holdings) (n : ℕ) (x : Name) → tree key ≡ Some st.node → tree (other ++ x ∷ []) ≡ Some n → (Holds st n → ⊥) → after_prefix key other ≡ None → after_prefix key (other ++ x ∷ []) ≡ None
after_take tree key other st n x here at_n free e = go (child_cases key other x e)
  where
    go : (after_prefix key (other ++ x ∷ []) ≡ None) ⊎ (key ≡ other ++ x ∷ []) → after_prefix key (other ++ x ∷ []) ≡ None
    go (inl h) = h
    go (inr h) = let z : ◌≡◌ {A = Option ℕ} (Some st.node) (Some n) = sym here ∙ ap tree h ∙ at_n in absurd (free (inl (let y : st.node ≡ n = cc in y)))

-- the other call takes the root
pub after_take_root : (tree : Map ℕ) (key : Key) (st : Holdings) (n : ℕ) → tree key ≡ Some st.node → tree [] ≡ Some n → (Holds st n → ⊥) → after_prefix key [] ≡ None
after_take_root tree [] st n here at_n free = let z : ◌≡◌ {A = Option ℕ} (Some st.node) (Some n) = sym here ∙ at_n in absurd (free (inl (let y : st.node ≡ n = cc in y)))
after_take_root tree (x ∷ key) st n here at_n free = refl

-- we walk on
pub after_walk : (key other : Key) (x : Name) → after_prefix key other ≡ None → after_prefix (key ++ x ∷ []) other ≡ None
after_walk key other x e = prefix_deeper key (x ∷ []) other e

-- two ways to part a list
pub record Parted (a c b d : Key) : Type 0 where
  pub mid : Key
  pub more : HasNames mid
  pub left : c ≡ a ++ mid
  pub right : b ≡ mid ++ d

pub parted : (a b c d : Key) → a ++ b ≡ c ++ d → after_prefix c a ≡ None → Parted a c b d
parted a b [] d e f = cc
parted [] b (x ∷ c) d e f = record { mid = x ∷ c; more = tt; left = refl; right = e }
parted (y ∷ a) b (x ∷ c) d e f =
    let n : y ≡ x = cc in
    let g : a ++ b ≡ c ++ d = cc in
    let s : same_name x y ≡ true = rw n (same_refl x) in
    let p : Parted a c b d = parted a b c d g (rw s at f) in
    record { mid = p.mid; more = p.more; left = (let l : c ≡ a ++ p.mid = p.left in cc); right = p.right }

-- a node that the other holds, and that hangs from its position by what a head has walked, is not below ours
pub held_off : (tree : Map ℕ) (key : Key) (st other : Holdings) (other_key walked : Key) (h : ℕ)
    → tree key ≡ Some st.node → ((q : ℕ) → Holds st q → Holds other q → ⊥)
    → tree (other_key ++ walked) ≡ Some h → Holds other h
    → IsClear tree other_key walked st
    → after_prefix key other_key ≡ None → after_prefix key (other_key ++ walked) ≡ None
held_off tree key st other other_key walked h here apart at_h holds clear off = go (after_prefix key (other_key ++ walked)) refl
  where
    between : (r : Key) → (p : Parted other_key key walked r) → (f : Key) → r ≡ f → ⊥
    between r p [] i =
        let k : key ≡ other_key ++ walked = p.left ∙ ap (λ (l : Key). other_key ++ l) (sym (p.right ∙ ap (λ (l : Key). p.mid ++ l) i ∙ append-nil p.mid)) in
        let z : ◌≡◌ {A = Option ℕ} (Some st.node) (Some h) = sym here ∙ ap tree k ∙ at_h in
        apart h (inl (let y : st.node ≡ h = cc in y)) holds
    between r p (x ∷ f) i = clear p.mid r st.node p.more (subst HasNames (sym i) tt) p.right (sym (ap tree p.left) ∙ here) (inl refl)

    go : (o : Option Key) → after_prefix key (other_key ++ walked) ≡ o → o ≡ None
    go None e = refl
    go (Some r) e = let p : Parted other_key key walked r = parted other_key walked key r (prefix_some key (other_key ++ walked) r e) off in absurd (between r p r refl)

-- what we have walked does not go through an entry of a node that the other holds
pub walked_off : (tree : Map ℕ) (key walked : Key) (st other : Holdings) (kf : Key) (x : Name) (h : ℕ)
    → tree key ≡ Some st.node → ((q : ℕ) → Holds st q → Holds other q → ⊥)
    → tree kf ≡ Some h → Holds other h
    → IsClear tree key walked other
    → (u v : Key) → after_prefix (kf ++ x ∷ []) key ≡ None → walked ≡ u ++ v → after_prefix (kf ++ x ∷ []) (key ++ u) ≡ None
walked_off tree key walked st other kf x h here apart at_h holds clear u v off is = go (after_prefix (kf ++ x ∷ []) (key ++ u)) refl
  where
    between : (r : Key) (p : Parted key (kf ++ x ∷ []) u r) (e : Ends p.mid) → (f : Key) → e.front ≡ f → ⊥
    between r p e f i =
        let s : (kf ≡ key ++ e.front) × (x ≡ e.last) = ends_same kf (key ++ e.front) x e.last (p.left ∙ ap (λ (l : Key). key ++ l) e.is ∙ sym (append_assoc key e.front (e.last ∷ []))) in
        by f i s.0
      where
        by : (f : Key) → e.front ≡ f → kf ≡ key ++ e.front → ⊥
        by [] i g =
            let k : kf ≡ key = g ∙ ap (λ (l : Key). key ++ l) i ∙ append-nil key in
            let z : ◌≡◌ {A = Option ℕ} (Some st.node) (Some h) = sym here ∙ sym (ap tree k) ∙ at_h in
            apart h (inl (let y : st.node ≡ h = cc in y)) holds
        by (y ∷ f) i g =
            clear e.front (e.last ∷ (r ++ v)) h (subst HasNames (sym i) tt) tt
            (is ∙ ap (λ (l : Key). l ++ v) (p.right ∙ ap (λ (l : Key). l ++ r) e.is ∙ append_assoc e.front (e.last ∷ []) r) ∙ append_assoc e.front (e.last ∷ r) v)
            (sym (ap tree g) ∙ at_h) holds

    go : (o : Option Key) → after_prefix (kf ++ x ∷ []) (key ++ u) ≡ o → o ≡ None
    go None e = refl
    go (Some r) e =
        let p : Parted key (kf ++ x ∷ []) u r = parted key u (kf ++ x ∷ []) r (prefix_some (kf ++ x ∷ []) (key ++ u) r e) off in
        let w : Ends p.mid = ends p.mid p.more in
        absurd (between r p w w.front refl)

-- a key that is there does not begin with one below which nothing is
pub present_off : (tree : Map ℕ) (t key v : Key) (n : ℕ) → ((r : Key) → tree (t ++ r) ≡ None) → tree (key ++ v) ≡ Some n → after_prefix t key ≡ None
present_off tree t key v n none e = go (after_prefix t key) refl
  where
    go : (o : Option Key) → after_prefix t key ≡ o → o ≡ None
    go None i = refl
    go (Some r) i = let z : ◌≡◌ {A = Option ℕ} (Some n) None = sym e ∙ ap (λ (l : Key). tree (l ++ v)) (prefix_some t key r i) ∙ ap tree (append_assoc t r v) ∙ none (r ++ v) in cc

-- what a spared call has walked is there as before, from where it stands now
pub chain_kept : (tree : Map ℕ) (s t key walked u v : Key) (n : ℕ) → ((r : Key) → tree (t ++ r) ≡ None) → tree (key ++ walked) ≡ Some n
    → (after_prefix s key ≡ None → after_prefix s (key ++ u) ≡ None) → walked ≡ u ++ v
    → move s t tree (rekey_by t key (after_prefix s key) ++ u) ≡ tree (key ++ u)
chain_kept tree s t key walked u v n none there spared is = go (after_prefix s key) refl
  where
    go : (o : Option Key) → after_prefix s key ≡ o → move s t tree (rekey_by t key o ++ u) ≡ tree (key ++ u)
    go (Some r) e = ap (move s t tree) (append_assoc t r u) ∙ move_to s t tree (r ++ u) ∙ sym (ap tree (ap (λ (l : Key). l ++ u) (prefix_some s key r e) ∙ append_assoc s r u))
    go None e = move_else s t tree (key ++ u) (present_off tree t (key ++ u) v n none (ap tree (append_assoc key u v) ∙ ap (λ (l : Key). tree (key ++ l)) (sym is) ∙ there)) (spared e)

-- nobody gets below a position by a move
pub after_moved : (tree : Map ℕ) (s t kc kd kt : Key) (y : Name) (c d : ℕ) → ((r : Key) → tree (t ++ r) ≡ None) → t ≡ kt ++ y ∷ []
    → tree kc ≡ Some c → tree kd ≡ Some d → after_prefix kc kt ≡ None
    → after_prefix kc kd ≡ None → after_prefix (rekey_by t kc (after_prefix s kc)) (rekey_by t kd (after_prefix s kd)) ≡ None
after_moved tree s t kc kd kt y c d none ends_in at_c at_d off e = go (after_prefix s kc) (after_prefix s kd) refl refl
  where
    t_off : (k : Key) (n : ℕ) → tree k ≡ Some n → after_prefix t k ≡ None
    t_off k n h = present_off tree t k [] n none (ap tree (append-nil k) ∙ h)

    kc_off : after_prefix kc t ≡ None
    kc_off = by (child_cases kc kt y off)
      where
        by : (after_prefix kc (kt ++ y ∷ []) ≡ None) ⊎ (kc ≡ kt ++ y ∷ []) → after_prefix kc t ≡ None
        by (inl h) = ap (after_prefix kc) ends_in ∙ h
        by (inr h) = let z : ◌≡◌ {A = Option ℕ} (Some c) None = sym at_c ∙ ap tree (h ∙ sym ends_in ∙ sym (append-nil t)) ∙ none [] in cc

    go : (o u : Option Key) → after_prefix s kc ≡ o → after_prefix s kd ≡ u → after_prefix (rekey_by t kc o) (rekey_by t kd u) ≡ None
    go (Some a) (Some b) i j = prefix_both t a b ∙ sym (prefix_both s a b) ∙ ap₂ after_prefix (sym (prefix_some s kc a i)) (sym (prefix_some s kd b j)) ∙ e
    go (Some a) None i j = prefix_deeper t a kd (t_off kd d at_d)
    go None (Some b) i j = prefix_none kc t b kc_off (t_off kc c at_c)
    go None None i j = e

-- the whole pair goes past the move of a third call
pub pair_moved : (tree : Map ℕ) (s t kt : Key) (y : Name) (kc : Key) (c : Holdings) (pc : Phase) (kd : Key) (d : Holdings) (pd : Phase)
    → ((r : Key) → tree (t ++ r) ≡ None) → t ≡ kt ++ y ∷ []
    → Located tree kc c → Located tree kd d
    → ((side : Side) (u v : Key) → after_prefix s kc ≡ None → (head_on side c).walked ≡ u ++ v → after_prefix s (kc ++ u) ≡ None)
    → (IsAfter pc pd → (after_prefix kc kt ≡ None) ⊎ ((after_prefix s kc ≡ None) × (after_prefix s kd ≡ None)))
    → Pair tree kc c pc kd d pd
    → Pair (move s t tree) (rekey_by t kc (after_prefix s kc)) c pc (rekey_by t kd (after_prefix s kd)) d pd
pair_moved tree s t kt y kc c pc kd d pd none ends_in lc ld spared off pair = record {
  apart = pair.apart;
  after = λ h. by (off h) (pair.after h);
  clear = λ side u v n mu mv is at_n has. pair.clear side u v n mu mv is (sym (chain_kept tree s t kc (head_on side c).walked u v (head_on side c).node none (lc.head side) (λ i. spared side u v i is) is) ∙ at_n) has;
}
  where
    by : (after_prefix kc kt ≡ None) ⊎ ((after_prefix s kc ≡ None) × (after_prefix s kd ≡ None)) → after_prefix kc kd ≡ None → after_prefix (rekey_by t kc (after_prefix s kc)) (rekey_by t kd (after_prefix s kd)) ≡ None
    by (inl h) e = after_moved tree s t kc kd kt y c.node d.node none ends_in lc.here ld.here h e
    by (inr h) e = rw (h.0, h.1) e

-- and so does where it stands
pub located_moved : (tree : Map ℕ) (s t kc : Key) (c : Holdings) → ((r : Key) → tree (t ++ r) ≡ None) → Located tree kc c
    → ((side : Side) (u v : Key) → after_prefix s kc ≡ None → (head_on side c).walked ≡ u ++ v → after_prefix s (kc ++ u) ≡ None)
    → Located (move s t tree) (rekey_by t kc (after_prefix s kc)) c
located_moved tree s t kc c none l spared = record {
  here =
      ap (move s t tree) (sym (append-nil (rekey_by t kc (after_prefix s kc))))
      ∙ chain_kept tree s t kc c.source.walked [] c.source.walked c.source.node none (l.head Source) (λ i. spared Source [] c.source.walked i refl) refl
      ∙ ap tree (append-nil kc) ∙ l.here;
  head = λ side. chain_kept tree s t kc (head_on side c).walked (head_on side c).walked [] (head_on side c).node none (l.head side) (λ i. spared side (head_on side c).walked [] i (sym (append-nil (head_on side c).walked))) (sym (append-nil (head_on side c).walked)) ∙ l.head side;
}

-- the same of an exchange: what a call has walked is there as before, from where it stands now
pub chain_swapped : (tree : Map ℕ) (s t key u : Key) → Aside s t → (after_prefix s key ≡ None → after_prefix s (key ++ u) ≡ None) → (after_prefix t key ≡ None → after_prefix t (key ++ u) ≡ None) → swap s t tree (swapped s t key ++ u) ≡ tree (key ++ u)
chain_swapped tree s t key u aside f g = ap (swap s t tree) (sym (swapped_on s t key u aside.0 aside.1 f g)) ∙ ap tree (swapped_twice s t (key ++ u) aside.0 aside.1)

-- nobody gets below a position by an exchange of entries of directories that are not below it
pub after_swapped : (kf kt : Key) (x y : Name) (kc kd : Key) → Aside (kf ++ x ∷ []) (kt ++ y ∷ []) → after_prefix kc kf ≡ None → after_prefix kc kt ≡ None → after_prefix kc kd ≡ None
    → after_prefix (swapped (kf ++ x ∷ []) (kt ++ y ∷ []) kc) (swapped (kf ++ x ∷ []) (kt ++ y ∷ []) kd) ≡ None
after_swapped kf kt x y kc kd aside off_f off_t e = go (lies (kf ++ x ∷ []) (kt ++ y ∷ []) kc) (lies (kf ++ x ∷ []) (kt ++ y ∷ []) kd)
  where
    itself : (a b : Key) → a ≡ b → after_prefix b a ≡ None → ⊥
    itself a b i h = let z : ◌≡◌ {A = Option Key} (Some []) None = sym (ap (after_prefix b) (i ∙ sym (append-nil b)) ∙ prefix_append b []) ∙ h in cc

    -- a key that is below neither entry is above neither
    above : (d : Key) (z : Name) → after_prefix kc d ≡ None → after_prefix (d ++ z ∷ []) kc ≡ None → after_prefix kc (d ++ z ∷ []) ≡ None
    above d z off h = by (child_cases kc d z off)
      where
        by : (after_prefix kc (d ++ z ∷ []) ≡ None) ⊎ (kc ≡ d ++ z ∷ []) → after_prefix kc (d ++ z ∷ []) ≡ None
        by (inl i) = i
        by (inr i) = absurd (itself kc (d ++ z ∷ []) i h)

    same : (s t a b : Key) → kc ≡ s ++ a → kd ≡ s ++ b → after_prefix (t ++ a) (t ++ b) ≡ None
    same s t a b i j = prefix_both t a b ∙ sym (prefix_both s a b) ∙ sym (ap₂ after_prefix i j) ∙ e

    go : Lies (kf ++ x ∷ []) (kt ++ y ∷ []) kc → Lies (kf ++ x ∷ []) (kt ++ y ∷ []) kd → after_prefix (swapped (kf ++ x ∷ []) (kt ++ y ∷ []) kc) (swapped (kf ++ x ∷ []) (kt ++ y ∷ []) kd) ≡ None
    go c d = ap₂ after_prefix (at kc c) (at kd d) ∙ by c d
      where
        to : (k : Key) → Lies (kf ++ x ∷ []) (kt ++ y ∷ []) k → Key
        to k (Below_first r i) = (kt ++ y ∷ []) ++ r
        to k (Below_second r i) = (kf ++ x ∷ []) ++ r
        to k (Below_neither i h) = k

        at : (k : Key) (l : Lies (kf ++ x ∷ []) (kt ++ y ∷ []) k) → swapped (kf ++ x ∷ []) (kt ++ y ∷ []) k ≡ to k l
        at k (Below_first r i) = ap (swapped (kf ++ x ∷ []) (kt ++ y ∷ [])) i ∙ swapped_first (kf ++ x ∷ []) (kt ++ y ∷ []) r
        at k (Below_second r i) = ap (swapped (kf ++ x ∷ []) (kt ++ y ∷ [])) i ∙ swapped_second (kf ++ x ∷ []) (kt ++ y ∷ []) r aside.0 aside.1
        at k (Below_neither i h) = swapped_else (kf ++ x ∷ []) (kt ++ y ∷ []) k i h

        by : (c : Lies (kf ++ x ∷ []) (kt ++ y ∷ []) kc) (d : Lies (kf ++ x ∷ []) (kt ++ y ∷ []) kd) → after_prefix (to kc c) (to kd d) ≡ None
        by (Below_first a i) (Below_first b j) = same (kf ++ x ∷ []) (kt ++ y ∷ []) a b i j
        by (Below_first a i) (Below_second b j) = prefix_deeper (kt ++ y ∷ []) a ((kf ++ x ∷ []) ++ b) (prefix_none (kt ++ y ∷ []) (kf ++ x ∷ []) b aside.1 aside.0)
        by (Below_first a i) (Below_neither j h) = prefix_deeper (kt ++ y ∷ []) a kd h
        by (Below_second a i) (Below_first b j) = prefix_deeper (kf ++ x ∷ []) a ((kt ++ y ∷ []) ++ b) (prefix_none (kf ++ x ∷ []) (kt ++ y ∷ []) b aside.0 aside.1)
        by (Below_second a i) (Below_second b j) = same (kt ++ y ∷ []) (kf ++ x ∷ []) a b i j
        by (Below_second a i) (Below_neither j h) = prefix_deeper (kf ++ x ∷ []) a kd j
        by (Below_neither i h) (Below_first b j) = prefix_none kc (kt ++ y ∷ []) b (above kt y off_t h) h
        by (Below_neither i h) (Below_second b j) = prefix_none kc (kf ++ x ∷ []) b (above kf x off_f i) i
        by (Below_neither i h) (Below_neither j g) = e

-- neither key is below one of two entries
abbrev pub OffBoth : Key → Key → Key → Type 0
OffBoth s t k = (after_prefix s k ≡ None) × (after_prefix t k ≡ None)

-- the whole pair goes past the exchange of a third call
pub pair_swapped : (tree : Map ℕ) (kf kt : Key) (x y : Name) (kc : Key) (c : Holdings) (pc : Phase) (kd : Key) (d : Holdings) (pd : Phase) → Aside (kf ++ x ∷ []) (kt ++ y ∷ [])
    → ((side : Side) (u v : Key) → after_prefix (kf ++ x ∷ []) kc ≡ None → (head_on side c).walked ≡ u ++ v → after_prefix (kf ++ x ∷ []) (kc ++ u) ≡ None)
    → ((side : Side) (u v : Key) → after_prefix (kt ++ y ∷ []) kc ≡ None → (head_on side c).walked ≡ u ++ v → after_prefix (kt ++ y ∷ []) (kc ++ u) ≡ None)
    → (IsAfter pc pd → ((after_prefix kc kf ≡ None) × (after_prefix kc kt ≡ None)) ⊎ (OffBoth (kf ++ x ∷ []) (kt ++ y ∷ []) kc × OffBoth (kf ++ x ∷ []) (kt ++ y ∷ []) kd))
    → Pair tree kc c pc kd d pd
    → Pair (swap (kf ++ x ∷ []) (kt ++ y ∷ []) tree) (swapped (kf ++ x ∷ []) (kt ++ y ∷ []) kc) c pc (swapped (kf ++ x ∷ []) (kt ++ y ∷ []) kd) d pd
pair_swapped tree kf kt x y kc c pc kd d pd aside one other off pair = record {
  apart = pair.apart;
  after = λ h. by (off h) (pair.after h);
  clear = λ side u v n mu mv is at_n has. pair.clear side u v n mu mv is (sym (chain_swapped tree (kf ++ x ∷ []) (kt ++ y ∷ []) kc u aside (λ i. one side u v i is) (λ i. other side u v i is)) ∙ at_n) has;
}
  where
    by : ((after_prefix kc kf ≡ None) × (after_prefix kc kt ≡ None)) ⊎ (OffBoth (kf ++ x ∷ []) (kt ++ y ∷ []) kc × OffBoth (kf ++ x ∷ []) (kt ++ y ∷ []) kd) → after_prefix kc kd ≡ None
        → after_prefix (swapped (kf ++ x ∷ []) (kt ++ y ∷ []) kc) (swapped (kf ++ x ∷ []) (kt ++ y ∷ []) kd) ≡ None
    by (inl h) e = after_swapped kf kt x y kc kd aside h.0 h.1 e
    by (inr (h, g)) e = ap₂ after_prefix (swapped_else (kf ++ x ∷ []) (kt ++ y ∷ []) kc h.0 h.1) (swapped_else (kf ++ x ∷ []) (kt ++ y ∷ []) kd g.0 g.1) ∙ e

-- a helped call: the walking ones are not below it, and it comes last
pub pair_helped_first : (tree : Map ℕ) (kc : Key) (c : Holdings) (i : ℕ) (kd : Key) (d : Holdings) (pd : Phase) → Pair tree kc c Walking kd d pd → (pd ≡ Walking → after_prefix kc kd ≡ None) → ((j : ℕ) → pd ≡ Placed j → j < i) → Pair tree kc c (Placed i) kd d pd
pair_helped_first tree kc c i kd d pd pair none_below last = record {
  apart = pair.apart;
  after = after_of pd none_below last;
  clear = pair.clear;
}
  where
    after_of : (pd : Phase) → (pd ≡ Walking → after_prefix kc kd ≡ None) → ((j : ℕ) → pd ≡ Placed j → j < i) → IsAfter (Placed i) pd → after_prefix kc kd ≡ None
    after_of Walking n l h = n refl
    after_of (Placed j) n l h = let k : j < i = l j refl in absurd (omega arith)
    after_of (Finished r) n l h = absurd h

pub pair_helped_second : (tree : Map ℕ) (kc : Key) (c : Holdings) (pc : Phase) (kd : Key) (d : Holdings) (i : ℕ) → Pair tree kc c pc kd d Walking → Pair tree kc c pc kd d (Placed i)
pair_helped_second tree kc c pc kd d i pair = record {
  apart = pair.apart;
  after = after_of pc pair.after;
  clear = pair.clear;
}
  where
    after_of : (pc : Phase) → (IsAfter pc Walking → after_prefix kc kd ≡ None) → IsAfter pc (Placed i) → after_prefix kc kd ≡ None
    after_of Walking f h = absurd h
    after_of (Placed j) f h = f tt
    after_of (Finished r) f h = absurd h
