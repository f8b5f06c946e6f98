-- The words of nodes, as they are written.
use Rattle.std.proofs.Common.{◌≡◌, ℕ, true, false, List, [], ◌∷◌, ◌++◌, length, refl, sym, ap, ◌∙◌, append_assoc}
use Rattle.std.specs.Prelude.{◌==◌}
use Rattle.std.specs.List.{AllByRecursion, flat_map}
use Rattle.std.proofs.lemmas.Grind.{flat_map-append}
use Rattle.fs_names.specs.Names.{Name}
use Rattle.fs_names.specs.Limits.{largest}
use Rattle.fs_text.specs.Fits.{FitsName}
use Rattle.fs_names.specs.Keys.{Key, names_text, is_root}
use Rattle.fs_words.specs.Words.{escaped, path_word}
use Rattle.fs_words.proofs.WriteLemmas.{escaped_append, escaped_none, slash_escaped, root_word}
use Rattle.fs_script.specs.code.Walks.{key_above}
use Rattle.fs_script.specs.declared.tree.Step.{Step}

-- each name behind a slash
abbrev pub spelled : Key → List ℕ
spelled key = flat_map (λ (n : Name). 47 ∷ escaped n) key

names_spelled : (key : Key) → escaped (names_text key) ≡ spelled key
names_spelled [] = escaped_none
names_spelled (x ∷ key) = slash_escaped (x ++ names_text key) ∙ ap (λ (z : List ℕ). 47 ∷ z) (escaped_append x (names_text key)) ∙ ap (λ (z : List ℕ). 47 ∷ (escaped x ++ z)) (names_spelled key)

pub path_spelled : (x : Name) (key : Key) → path_word (x ∷ key) ≡ spelled (x ∷ key)
path_spelled x key = names_spelled (x ∷ key)

steps_spelled : (steps : List Step) → flat_map (λ (s : Step). 47 ∷ escaped s.name) steps ≡ spelled (key_above steps)
steps_spelled [] = refl
steps_spelled (s ∷ steps) = ap (λ (z : List ℕ). 47 ∷ (escaped s.name ++ z)) (steps_spelled steps)

-- the root
pub root_pushed : (line new : List ℕ) (key : Key) → is_root key ≡ true → new ≡ line ++ 47 ∷ [] → new ≡ line ++ path_word key
root_pushed line new [] root e = e ∙ ap (λ (z : List ℕ). line ++ z) (sym (root_word [] refl))
root_pushed line new (x ∷ key) root e = absurd (cc)

some_key : (line : List ℕ) (key : Key) → is_root key ≡ false → line ++ spelled key ≡ line ++ path_word key
some_key line [] some = absurd (cc)
some_key line (x ∷ key) some = ap (λ (z : List ℕ). line ++ z) (sym (path_spelled x key))

-- the names of the steps and the others were written
pub key_pushed : (line one two : List ℕ) (steps : List Step) (names : Key) → is_root (key_above steps ++ names) ≡ false
    → one ≡ line ++ flat_map (λ (s : Step). 47 ∷ escaped s.name) steps → two ≡ one ++ spelled names → two ≡ line ++ path_word (key_above steps ++ names)
key_pushed line one two steps names some a b =
    b ∙ ap (λ (z : List ℕ). z ++ spelled names) a
    ∙ append_assoc line (flat_map (λ (s : Step). 47 ∷ escaped s.name) steps) (spelled names)
    ∙ ap (λ (z : List ℕ). line ++ (z ++ spelled names)) (steps_spelled steps)
    ∙ ap (λ (z : List ℕ). line ++ z) (sym (flat_map-append (λ (n : Name). 47 ∷ escaped n) (key_above steps) names))
    ∙ some_key line (key_above steps ++ names) some

pub steps_lead : (steps : List Step) (names : Key) → (length steps == 0) ≡ false → is_root (key_above steps ++ names) ≡ false
steps_lead [] names some = absurd (cc)
steps_lead (s ∷ steps) names some = refl

-- the key of the root has no names
pub root_fits : (steps : List Step) (names : Key) → is_root (key_above steps ++ names) ≡ true → AllByRecursion (FitsName largest) names
root_fits [] [] root = tt
root_fits [] (x ∷ names) root = absurd (cc)
root_fits (s ∷ steps) names root = absurd (cc)
