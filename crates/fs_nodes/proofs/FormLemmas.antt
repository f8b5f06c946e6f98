-- Each file of a store is in blocks, or each is in one vector, also after a change.
use Rattle.std.proofs.Common.{◌≡◌, ℕ, zero, suc, ◌+◌, ◌-◌, Bool, List, [], ◌∷◌, ◌++◌, Option, Some, None, sym, subst}
use Rattle.fs_blocks.specs.Files.{FileValue}
use Rattle.fs_names.specs.Names.{Name}
use Rattle.fs_names.specs.declared.kind.Kind.{Kind}
use Rattle.fs_nodes_places.specs.declared.node.Content.{Content}
use Rattle.fs_nodes_places.specs.declared.node.Content.TheVariants as contents
use Rattle.fs_nodes_places.specs.declared.node.Link.{Link}
use Rattle.fs_nodes_places.specs.Stores.{content_of, content_at}
use Rattle.fs_nodes_places.specs.code.PlainEdits.{new_content, HasForm}
use Rattle.fs_nodes_places.specs.code.PlainEdits as plain_edits
use Rattle.fs_nodes_places.proofs.FormLemmas.{form_new, form_content, form_given}
use Rattle.fs_nodes_places.proofs.FormLemmas as plain_forms
use Rattle.fs_nodes_places.specs.declared.place.Place.{Place}
use Rattle.fs_nodes_places.specs.Plains.{link_with, plain_with, plains}
use Rattle.fs_nodes_places.specs.code.Edits.{edited, vacated, filled, content_with, with_content}
use Rattle.fs_nodes.specs.code.Linked.{with_first, with_next, with_prev, with_entries, entered, led, followed, put_between, taken_out, bared}
use Rattle.fs_nodes.specs.code.Forms.{HaveForm}

-- a place that is changed
form_edited : (b : Bool) (n : ℕ) (f : Place → Place) (ps : List Place) → ((p : Place) → HasForm b p.content → HasForm b (f p).content) → HaveForm b ps → HaveForm b (edited n f ps)
form_edited b n f [] g h = tt
form_edited b zero f (p ∷ ps) g h = (g p h.0, h.1)
form_edited b (suc n) f (p ∷ ps) g h = (h.0, form_edited b n f ps g h.1)

-- the ways to an entry and back
form_led : (b : Bool) (dir : ℕ) (prev to : Option ℕ) (ps : List Place) → HaveForm b ps → HaveForm b (led dir prev to ps)
form_led b dir None to ps h = form_edited b dir (with_first to) ps (λ p g. g) h
form_led b dir (Some prev) to ps h = form_edited b prev (with_next to) ps (λ p g. g) h

form_followed : (b : Bool) (next to : Option ℕ) (ps : List Place) → HaveForm b ps → HaveForm b (followed next to ps)
form_followed b None to ps h = h
form_followed b (Some next) to ps h = form_edited b next (with_prev to) ps (λ p g. g) h

-- a node comes between two siblings
pub form_put : (b : Bool) (dir n : ℕ) (name : Name) (prev next : Option ℕ) (ps qs : List Place) → qs ≡ put_between dir n name prev next ps → HaveForm b ps → HaveForm b qs
form_put b dir n name prev next ps qs e h = subst (HaveForm b) (sym e)
    (form_edited b n (entered (Some dir) name prev next) _ (λ p g. g) (form_followed b next (Some n) _ (form_led b dir prev (Some n) _ (form_edited b dir (λ p. with_entries (p.entries + 1) p) ps (λ p g. g) h))))

-- a node leaves its place between two siblings
pub form_taken : (b : Bool) (dir n : ℕ) (blank : Name) (prev next : Option ℕ) (ps qs : List Place) → qs ≡ taken_out dir n blank prev next ps → HaveForm b ps → HaveForm b qs
form_taken b dir n blank prev next ps qs e h = subst (HaveForm b) (sym e)
    (form_edited b n (entered None blank None None) _ (λ p g. g) (form_followed b next prev _ (form_led b dir prev next _ (form_edited b dir (λ p. with_entries (p.entries - 1) p) ps (λ p g. g) h))))

-- what is told of the tree beside the siblings says nothing of files
form_bare : (b : Bool) (ps : List Place) → HaveForm b ps → HaveForm b (bared ps)
form_bare b [] h = tt
form_bare b (p ∷ ps) h = (h.0, form_bare b ps h.1)

form_of_bare : (b : Bool) (ps : List Place) → HaveForm b (bared ps) → HaveForm b ps
form_of_bare b [] h = tt
form_of_bare b (p ∷ ps) h = (h.0, form_of_bare b ps h.1)

pub form_bared : (b : Bool) (ps qs : List Place) → bared qs ≡ bared ps → HaveForm b ps → HaveForm b qs
form_bared b ps qs e h = form_of_bare b qs (subst (HaveForm b) (sym e) (form_bare b ps h))

-- a number leaves use
pub form_vacated : (b : Bool) (n : ℕ) (next : Option ℕ) (ps qs : List Place) → qs ≡ edited n (vacated next) ps → HaveForm b ps → HaveForm b qs
form_vacated b n next ps qs e h = subst (HaveForm b) (sym e) (form_edited b n (vacated next) ps (λ p g. tt) h)

-- a number with a place comes into use
pub form_filled : (b : Bool) (n : ℕ) (kind : Kind) (ps qs : List Place) → qs ≡ edited n (filled (new_content b kind)) ps → HaveForm b ps → HaveForm b qs
form_filled b n kind ps qs e h = subst (HaveForm b) (sym e) (form_edited b n (filled (new_content b kind)) ps (λ p g. form_new b kind) h)

-- a number with a new place comes into use
form_more : (b : Bool) (ps : List Place) (p : Place) → HaveForm b ps → HasForm b p.content → HaveForm b (ps ++ p ∷ [])
form_more b [] p h g = (g, tt)
form_more b (q ∷ ps) p h g = (h.0, form_more b ps p h.1 g)

pub form_pushed : (b : Bool) (kind : Kind) (ps qs : List Place) (p : Place) → p.content ≡ Some (new_content b kind) → qs ≡ ps ++ p ∷ [] → HaveForm b ps → HaveForm b qs
form_pushed b kind ps qs p content e h = subst (HaveForm b) (sym e) (form_more b ps p h (subst (HasForm b) (sym content) (form_new b kind)))

-- another file comes in the place of one
form_with : (b : Bool) (file : FileValue) (content : Option Content) → file.in_blocks ≡ b → HasForm b content → HasForm b (content_with file content)
form_with b file None e h = tt
form_with b file (Some content) e h = form_content b content file e

pub form_swapped : (b : Bool) (n : ℕ) (file : FileValue) (ps qs : List Place) → file.in_blocks ≡ b → qs ≡ edited n (with_content file) ps → HaveForm b ps → HaveForm b qs
form_swapped b n file ps qs same e h = subst (HaveForm b) (sym e) (form_edited b n (with_content file) ps (λ p g. form_with b file p.content same g) h)

-- the nodes, as a store without links has them
pub form_plains : (b : Bool) (ps : List Place) → HaveForm b ps → plain_edits.HaveForm b (plains ps)
form_plains b [] h = tt
form_plains b (p ∷ ps) h = (go p.content (link_with p.parent p.name) h.0, form_plains b ps h.1)
  where
    go : (content : Option Content) (link : Option Link) → HasForm b content → HasForm b (content_of (plain_with content link))
    go None link g = tt
    go (Some content) link g = g

-- a file that is read
pub file_form : (b : Bool) (ps : List Place) (n : ℕ) (file : FileValue) → HaveForm b ps → content_at (plains ps) n ≡ Some (contents.File file) → file.in_blocks ≡ b
file_form b ps n file h e = plain_forms.file_form b (plains ps) n file (form_plains b ps h) e
