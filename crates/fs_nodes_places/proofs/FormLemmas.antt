-- Each file of a store is in blocks, or each is in one vector, also after a change.
use Rattle.std.proofs.Common.{◌≡◌, ℕ, zero, suc, Bool, List, [], ◌∷◌, ◌++◌, Option, Some, None, IsTrue, set, get_or, refl, sym, subst}
use Rattle.std.specs.Prelude.{slice_get}
use Rattle.fs_blocks.specs.Files.{FileValue}
use Rattle.fs_names.specs.Shapes.{is_file}
use Rattle.fs_names.specs.declared.kind.Kind.{Kind}
use Rattle.fs_names.specs.declared.kind.Kind.TheVariants as kinds
use Rattle.fs_nodes_places.specs.declared.node.Content.{Content}
use Rattle.fs_nodes_places.specs.declared.node.Content.TheVariants as contents
use Rattle.fs_nodes_places.specs.declared.node.Link.{Link}
use Rattle.fs_nodes_places.specs.declared.node.Node.{Node}
use Rattle.fs_calls.specs.Graphs.{then_at}
use Rattle.fs_nodes_places.specs.Stores.{content_of, content_at, shape_in}
use Rattle.fs_nodes_places.specs.code.PlainEdits.{relinked, new_content, new_node, with_file, refilled, handed_out, given_back, HasForm, HaveForm}
use Rattle.fs_nodes_places.proofs.PlainEditLemmas.{file_within, read_at}

-- a place that is read
pub form_at : (b : Bool) (ps : List (Option Node)) (n : ℕ) (p : Option Node) → HaveForm b ps → slice_get ps n ≡ Some p → HasForm b (content_of p)
form_at b [] n p h e = absurd (cc)
form_at b (q ∷ ps) zero p h e = let f : q ≡ p = cc in subst (λ (r : Option Node). HasForm b (content_of r)) f h.0
form_at b (q ∷ ps) (suc n) p h e = form_at b ps n p h.1 e

-- a file that is read
pub file_form : (b : Bool) (ps : List (Option Node)) (n : ℕ) (file : FileValue) → HaveForm b ps → content_at ps n ≡ Some (contents.File file) → file.in_blocks ≡ b
file_form b ps n file h e = go (slice_get ps n) refl e
  where
    go : (o : Option (Option Node)) → slice_get ps n ≡ o → then_at o content_of ≡ Some (contents.File file) → file.in_blocks ≡ b
    go None f g = absurd (cc)
    go (Some p) f g = subst (HasForm b) g (form_at b ps n p h f)

-- a place that is changed
pub form_set : (b : Bool) (ps : List (Option Node)) (m : ℕ) (p q : Option Node) → HaveForm b ps → p ≡ get_or ps m p → (HasForm b (content_of p) → HasForm b (content_of q)) → HaveForm b (set ps m q)
form_set b [] m p q h e f = tt
form_set b (r ∷ ps) zero p q h e f = (f (subst (λ (s : Option Node). HasForm b (content_of s)) (sym e) h.0), h.1)
form_set b (r ∷ ps) (suc m) p q h e f = (h.0, form_set b ps m p q h.1 e f)

-- one place more
pub form_push : (b : Bool) (ps : List (Option Node)) (q : Option Node) → HaveForm b ps → HasForm b (content_of q) → HaveForm b (ps ++ q ∷ [])
form_push b [] q h f = (f, tt)
form_push b (p ∷ ps) q h f = (h.0, form_push b ps q h.1 f)

-- a new node
pub form_new : (b : Bool) (kind : Kind) → HasForm b (Some (new_content b kind))
form_new b kinds.Dir = tt
form_new b kinds.File = refl

-- another entry names the node
pub form_relinked : (b : Bool) (p : Option Node) (link : Option Link) → HasForm b (content_of p) → HasForm b (content_of (relinked p link))
form_relinked b None link h = h
form_relinked b (Some node) link h = h

-- another file of the same form
pub form_content : (b : Bool) (content : Content) (file : FileValue) → file.in_blocks ≡ b → HasForm b (Some (refilled content file))
form_content b contents.Dir file e = tt
form_content b (contents.File old) file e = e

-- the same of a place
pub form_with : (b : Bool) (p : Option Node) (file : FileValue) → file.in_blocks ≡ b → HasForm b (content_of (with_file p file))
form_with b None file e = tt
form_with b (Some node) file e = form_content b node.content file e

-- the file that comes back for it
pub form_given : (b : Bool) (content : Content) (file : FileValue) → file.in_blocks ≡ b → HasForm b (Some content) → (given_back content file).in_blocks ≡ b
form_given b contents.Dir file e h = e
form_given b (contents.File old) file e h = h

-- the same of a place
pub form_handed : (b : Bool) (p : Option Node) (file : FileValue) → file.in_blocks ≡ b → HasForm b (content_of p) → (handed_out p file).in_blocks ≡ b
form_handed b None file e h = e
form_handed b (Some node) file e h = form_given b node.content file e h

-- the same of the place that the code reads
pub form_old : (b : Bool) (ps : List (Option Node)) (n m : ℕ) (p : Option Node) (file : FileValue) → HaveForm b ps → IsTrue (is_file (shape_in ps n)) → m ≡ n → p ≡ get_or ps m p → file.in_blocks ≡ b → (handed_out p file).in_blocks ≡ b
form_old b ps n m p file h at_file e v same = form_handed b p file same (form_at b ps n p h (read_at ps n m p (file_within ps n at_file) e v))

-- ---- the changes that the code makes, at the index m, where p stood

-- another entry
pub form_relink : (b : Bool) (ps : List (Option Node)) (m : ℕ) (p q : Option Node) (link : Option Link) → HaveForm b ps → p ≡ get_or ps m p → q ≡ relinked p link → HaveForm b (set ps m q)
form_relink b ps m p q link h v edit = form_set b ps m p q h v (λ g. subst (λ (r : Option Node). HasForm b (content_of r)) (sym edit) (form_relinked b p link g))

-- another file
pub form_swap : (b : Bool) (ps : List (Option Node)) (m : ℕ) (p q : Option Node) (file : FileValue) → HaveForm b ps → p ≡ get_or ps m p → q ≡ with_file p file → file.in_blocks ≡ b → HaveForm b (set ps m q)
form_swap b ps m p q file h v edit same = form_set b ps m p q h v (λ g. subst (λ (r : Option Node). HasForm b (content_of r)) (sym edit) (form_with b p file same))

-- no node
pub form_release : (b : Bool) (ps : List (Option Node)) (m : ℕ) (p q : Option Node) → HaveForm b ps → p ≡ get_or ps m p → q ≡ None → HaveForm b (set ps m q)
form_release b ps m p q h v edit = form_set b ps m p q h v (λ g. subst (λ (r : Option Node). HasForm b (content_of r)) (sym edit) tt)

-- a new node
pub form_reserve : (b : Bool) (ps : List (Option Node)) (m : ℕ) (p q : Option Node) (kind : Kind) → HaveForm b ps → p ≡ get_or ps m p → q ≡ Some (new_node b kind) → HaveForm b (set ps m q)
form_reserve b ps m p q kind h v edit = form_set b ps m p q h v (λ g. subst (λ (r : Option Node). HasForm b (content_of r)) (sym edit) (form_new b kind))

-- a new node behind all others
pub form_reserve_next : (b : Bool) (ps qs : List (Option Node)) (kind : Kind) → HaveForm b ps → qs ≡ ps ++ Some (new_node b kind) ∷ [] → HaveForm b qs
form_reserve_next b ps qs kind h edit = subst (HaveForm b) (sym edit) (form_push b ps (Some (new_node b kind)) h (form_new b kind))
