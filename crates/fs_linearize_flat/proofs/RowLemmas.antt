-- Entries that are the same.
use Rattle.std.proofs.Common.{◌≡◌, ℕ, true, List, refl, ap, ◌∙◌, subst}
use Rattle.fs_names.specs.Keys.{same_key}
use Rattle.fs_names.specs.declared.kind.Kind.{Kind}
use Rattle.fs_names.specs.declared.kind.Kind.TheVariants as kind
use Rattle.fs_calls.specs.Replies.{same_kind}
use Rattle.fs_calls.specs.Tree.{Node, File}
use Rattle.fs_calls.proofs.LookLemmas.{same_key_exact, same_key_refl}
use Rattle.fs_seq.specs.Rows.{node_of_kind}
use Rattle.fs_linearize_flat.specs.code.Cells.{entry_of}
use Rattle.fs_linearize_flat.specs.declared.cell.Entry.{Entry}

-- ---- nodes by kind and bytes

nodes_exact : (a b : Kind) (x y : List ℕ) → same_kind a b ≡ true → (a ≡ kind.File → x ≡ y) → node_of_kind a x ≡ node_of_kind b y
nodes_exact kind.Dir kind.Dir x y same bytes = refl
nodes_exact kind.Dir kind.File x y same bytes = absurd (cc)
nodes_exact kind.File kind.Dir x y same bytes = absurd (cc)
nodes_exact kind.File kind.File x y same bytes = ap File (bytes refl)

nodes_kind : (a b : Kind) (x y : List ℕ) → node_of_kind a x ≡ node_of_kind b y → same_kind a b ≡ true
nodes_kind kind.Dir kind.Dir x y same = refl
nodes_kind kind.Dir kind.File x y same = absurd (cc)
nodes_kind kind.File kind.Dir x y same = absurd (cc)
nodes_kind kind.File kind.File x y same = refl

nodes_bytes : (a b : Kind) (x y : List ℕ) → a ≡ kind.File → node_of_kind a x ≡ node_of_kind b y → x ≡ y
nodes_bytes kind.Dir b x y file same = absurd (cc)
nodes_bytes kind.File kind.Dir x y file same = absurd (cc)
nodes_bytes kind.File kind.File x y file same = cc

-- ---- entries

pub entries_exact : (r s : Entry) → same_key r.key.items s.key.items ≡ true → same_kind r.kind s.kind ≡ true → (r.kind ≡ kind.File → r.content ≡ s.content) → entry_of r ≡ entry_of s
entries_exact r s keys kinds bytes =
    ap (λ (k : List (List ℕ)). (k, node_of_kind r.kind r.content)) (same_key_exact r.key.items s.key.items keys)
    ∙ ap (λ (n : Node). (s.key.items, n)) (nodes_exact r.kind s.kind r.content s.content kinds bytes)

pub entries_key : (r s : Entry) → entry_of r ≡ entry_of s → same_key r.key.items s.key.items ≡ true
entries_key r s same = let keys : r.key.items ≡ s.key.items = ap (λ p. p.0) same in subst (λ (k : List (List ℕ)). same_key r.key.items k ≡ true) keys (same_key_refl r.key.items)

pub entries_kind : (r s : Entry) → entry_of r ≡ entry_of s → same_kind r.kind s.kind ≡ true
entries_kind r s same = nodes_kind r.kind s.kind r.content s.content (ap (λ p. p.1) same)

pub entries_bytes : (r s : Entry) → r.kind ≡ kind.File → entry_of r ≡ entry_of s → r.content ≡ s.content
entries_bytes r s file same = nodes_bytes r.kind s.kind r.content s.content file (ap (λ p. p.1) same)
