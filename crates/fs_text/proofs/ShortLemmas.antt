-- What fits, and has few and short names, fits smaller limits.
use Rattle.std.proofs.Common.{List, [], ◌∷◌}
use Rattle.std.specs.Prelude.{IsTrue}
use Rattle.std.specs.List.{AllByRecursion}
use Rattle.fs_names.specs.Keys.{Key}
use Rattle.fs_names.specs.Limits.{has_list}
use Rattle.fs_names.specs.declared.limits.Limits.{Limits}
use Rattle.fs_names.proofs.ReadingLemmas.{KeepsLimits}
use Rattle.fs_calls.specs.declared.call.Call.{Call}
use Rattle.fs_calls.specs.declared.call.Call.TheVariants as call
use Rattle.fs_calls.specs.declared.reply.Reply.{Reply}
use Rattle.fs_calls.specs.declared.reply.Reply.TheVariants as reply
use Rattle.fs_timeline.specs.declared.entry.Entry.{Entry}
use Rattle.fs_timeline.specs.declared.entry.Entry.TheVariants.{Begin, Commit, Return}
use Rattle.fs_timeline.proofs.KeptNames.{NamesCall, NamesReply, NamesEntry}
use Rattle.fs_words.proofs.PathLemmas.{IsShort}
use Rattle.fs_text.specs.Fits.{FitsName, FitsPath, FitsCall, FitsReply, FitsEntry, AllFit}

module _ (more limits : Limits) where
  pub short_names : (ns : Key) → AllByRecursion (FitsName more) ns → AllByRecursion (IsShort limits) ns → AllByRecursion (FitsName limits) ns
  short_names [] h s = tt
  short_names (n ∷ ns) h s = (record { is_name = h.0.is_name; short = s.0 }, short_names ns h.1 s.1)

  short_path : (p : Key) → FitsPath more p → KeepsLimits limits p → FitsPath limits p
  short_path p h s = record { few = s.few; names = short_names p h.names s.short }

  short_call : (c : Call) → FitsCall more c → NamesCall (KeepsLimits limits) (IsTrue (has_list limits)) c → FitsCall limits c
  short_call (call.Mkdir p) h s = short_path p h s
  short_call (call.Mknod p) h s = short_path p h s
  short_call (call.Unlink p) h s = short_path p h s
  short_call (call.Rmdir p) h s = short_path p h s
  short_call (call.Rename p q) h s = (short_path p h.0 s.0, short_path q h.1 s.1)
  short_call (call.Exchange p q) h s = (short_path p h.0 s.0, short_path q h.1 s.1)
  short_call (call.Stat p) h s = short_path p h s
  short_call (call.Readdir p) h s = short_path p h s
  short_call (call.ListAfter count p after) h s = (short_path p h.0 s.0, short_path after h.1 s.1, h.2, s.2)
  short_call (call.Read p off count) h s = (short_path p h.0 s, h.1, h.2)
  short_call (call.Write p off bytes) h s = (short_path p h.0 s, h.1, h.2)
  short_call (call.Truncate p size) h s = (short_path p h.0 s, h.1)

  short_reply : (r : Reply) → FitsReply more r → NamesReply (IsShort limits) r → FitsReply limits r
  short_reply reply.Done h s = h
  short_reply (reply.Stat k size) h s = h
  short_reply (reply.Names names) h s = short_names names h s
  short_reply (reply.Bytes bytes) h s = h
  short_reply (reply.Wrote size) h s = h
  short_reply (reply.Failed e) h s = h

  short_entry : (e : Entry) → FitsEntry more e → NamesEntry (IsShort limits) (KeepsLimits limits) (IsTrue (has_list limits)) e → FitsEntry limits e
  short_entry (Begin c s x) h g = (h.0, h.1, short_call x h.2 g)
  short_entry (Commit c) h g = h
  short_entry (Return c r) h g = (h.0, short_reply r h.1 g)

  -- entries that fit, and whose names are few and short
  pub all_short : (es : List Entry) → AllFit more es → AllByRecursion (NamesEntry (IsShort limits) (KeepsLimits limits) (IsTrue (has_list limits))) es → AllFit limits es
  all_short [] h s = tt
  all_short (e ∷ es) h s = (short_entry e h.0 s.0, all_short es h.1 s.1)
