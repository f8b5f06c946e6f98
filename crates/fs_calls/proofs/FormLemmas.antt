-- A call is known by its form, and what no limit changes of it.
use Rattle.std.proofs.Common.{◌≡◌, refl, sym, ap, ◌∙◌}
use Rattle.fs_names.specs.Keys.{Key}
use Rattle.fs_names.specs.Limits.{entry_limit, file_limit, read_limit}
use Rattle.fs_names.specs.declared.limits.Limits.{Limits}
use Rattle.fs_names.specs.declared.limits.Limits.TheVariants.{V1}
use Rattle.fs_calls.specs.Forms.{form, Form, AtNode, AtEntry, AtPair, by_text, by_paths, reserves, reserved_by, under}
use Rattle.fs_calls.specs.Forms as forms
use Rattle.fs_calls.specs.code.Targets.{entry_call, pair_call}
use Rattle.fs_calls.specs.declared.target.EntryCall.{EntryCall}
use Rattle.fs_calls.specs.declared.target.EntryCall.TheVariants as entries
use Rattle.fs_calls.specs.declared.target.PairCall.{PairCall}
use Rattle.fs_calls.specs.declared.target.PairCall.TheVariants as pairs
use Rattle.fs_calls.specs.declared.call.Call.{Call}
use Rattle.fs_calls.specs.declared.call.Call.TheVariants.{Mkdir, Mknod, Unlink, Rmdir, Rename, Exchange, Stat, Readdir, ListAfter, Read, Write, Truncate}

-- the call of a form
abbrev of_form : Form → Call
of_form (AtEntry (forms.Mkdir most) p) = Mkdir p
of_form (AtEntry (forms.Mknod most) p) = Mknod p
of_form (AtEntry forms.Unlink p) = Unlink p
of_form (AtEntry forms.Rmdir p) = Rmdir p
of_form (AtPair (forms.Rename most) p q) = Rename p q
of_form (AtPair forms.Exchange p q) = Exchange p q
of_form (AtNode forms.Stat p) = Stat p
of_form (AtNode forms.Readdir p) = Readdir p
of_form (AtNode (forms.ListAfter after count) p) = ListAfter count p after
of_form (AtNode (forms.Read most off count) p) = Read p off count
of_form (AtNode (forms.Write most off bytes) p) = Write p off bytes
of_form (AtNode (forms.Truncate most size) p) = Truncate p size

back : (limits : Limits) (call : Call) → of_form (form limits call) ≡ call
back limits (Mkdir p) = refl
back limits (Mknod p) = refl
back limits (Unlink p) = refl
back limits (Rmdir p) = refl
back limits (Rename p q) = refl
back limits (Exchange p q) = refl
back limits (Stat p) = refl
back limits (Readdir p) = refl
back limits (ListAfter count p after) = refl
back limits (Read p off count) = refl
back limits (Write p off bytes) = refl
back limits (Truncate p size) = refl

-- calls of one form are one
pub same_call : (a b : Call) → form V1 a ≡ form V1 b → a ≡ b
same_call a b e = sym (back V1 a) ∙ ap of_form e ∙ back V1 b

-- what is done to an entry, of the code
abbrev of_entry : forms.EntryCall → EntryCall
of_entry (forms.Mkdir most) = entries.Mkdir
of_entry (forms.Mknod most) = entries.Mknod
of_entry forms.Unlink = entries.Unlink
of_entry forms.Rmdir = entries.Rmdir

entry_back : (c : EntryCall) → of_entry (entry_call V1 c) ≡ c
entry_back entries.Mkdir = refl
entry_back entries.Mknod = refl
entry_back entries.Unlink = refl
entry_back entries.Rmdir = refl

-- it is known by the limits of any set
pub same_entry_call : (a b : EntryCall) → entry_call V1 a ≡ entry_call V1 b → a ≡ b
same_entry_call a b e = sym (entry_back a) ∙ ap of_entry e ∙ entry_back b

-- what is done to two entries, of the code
abbrev of_pair : forms.PairCall → PairCall
of_pair (forms.Rename most) = pairs.Rename
of_pair forms.Exchange = pairs.Exchange

pair_back : (c : PairCall) → of_pair (pair_call V1 c) ≡ c
pair_back pairs.Rename = refl
pair_back pairs.Exchange = refl

pub same_pair_call : (a b : PairCall) → pair_call V1 a ≡ pair_call V1 b → a ≡ b
same_pair_call a b e = sym (pair_back a) ∙ ap of_pair e ∙ pair_back b

-- what paths decide alone is the same by every limit
pub by_text_any : (limits : Limits) (call : Call) → by_text (form limits call) ≡ by_paths call
by_text_any limits (Mkdir p) = refl
by_text_any limits (Mknod p) = refl
by_text_any limits (Unlink p) = refl
by_text_any limits (Rmdir p) = refl
by_text_any limits (Rename p q) = refl
by_text_any limits (Exchange p q) = refl
by_text_any limits (Stat p) = refl
by_text_any limits (Readdir p) = refl
by_text_any limits (ListAfter count p after) = refl
by_text_any limits (Read p off count) = refl
by_text_any limits (Write p off bytes) = refl
by_text_any limits (Truncate p size) = refl

-- and so is what a call reserves a node for
pub reserves_any : (limits : Limits) (call : Call) → reserves (form limits call) ≡ reserved_by call
reserves_any limits (Mkdir p) = refl
reserves_any limits (Mknod p) = refl
reserves_any limits (Unlink p) = refl
reserves_any limits (Rmdir p) = refl
reserves_any limits (Rename p q) = refl
reserves_any limits (Exchange p q) = refl
reserves_any limits (Stat p) = refl
reserves_any limits (Readdir p) = refl
reserves_any limits (ListAfter count p after) = refl
reserves_any limits (Read p off count) = refl
reserves_any limits (Write p off bytes) = refl
reserves_any limits (Truncate p size) = refl

-- ---- the limits of a form

-- a call on a node has these limits, if it has one
abbrev pub HasLimit : Limits → forms.NodeCall → Type 0
HasLimit limits forms.Stat = Unit {0}
HasLimit limits forms.Readdir = Unit {0}
HasLimit limits (forms.ListAfter after count) = Unit {0}
HasLimit limits (forms.Read m off count) = m ≡ read_limit limits
HasLimit limits (forms.Write m off bytes) = m ≡ file_limit limits
HasLimit limits (forms.Truncate m size) = m ≡ file_limit limits

-- the same of a call on an entry
abbrev pub EntryHasLimit : Limits → forms.EntryCall → Type 0
EntryHasLimit limits (forms.Mkdir m) = m ≡ entry_limit limits
EntryHasLimit limits (forms.Mknod m) = m ≡ entry_limit limits
EntryHasLimit limits forms.Unlink = Unit {0}
EntryHasLimit limits forms.Rmdir = Unit {0}

-- the same of a call on two entries
abbrev pub PairHasLimit : Limits → forms.PairCall → Type 0
PairHasLimit limits (forms.Rename m) = m ≡ entry_limit limits
PairHasLimit limits forms.Exchange = Unit {0}

-- the same of each form of call
abbrev pub LimitedTo : Limits → Form → Type 0
LimitedTo limits (AtNode c p) = HasLimit limits c
LimitedTo limits (AtEntry c p) = EntryHasLimit limits c
LimitedTo limits (AtPair c p q) = PairHasLimit limits c

-- a call's form has the limits that it is made with
pub form_limited : (limits : Limits) (call : Call) → LimitedTo limits (form limits call)
form_limited limits (Mkdir p) = refl
form_limited limits (Mknod p) = refl
form_limited limits (Unlink p) = tt
form_limited limits (Rmdir p) = tt
form_limited limits (Rename p q) = refl
form_limited limits (Exchange p q) = tt
form_limited limits (Stat p) = tt
form_limited limits (Readdir p) = tt
form_limited limits (ListAfter count p after) = tt
form_limited limits (Read p off count) = refl
form_limited limits (Write p off bytes) = refl
form_limited limits (Truncate p size) = refl

-- and so has what is left of it
pub under_limited : (limits : Limits) (k : Key) (f : Form) → LimitedTo limits (under k f) → LimitedTo limits f
under_limited limits k (AtNode c p) h = h
under_limited limits k (AtEntry c p) h = h
under_limited limits k (AtPair c p q) h = h
