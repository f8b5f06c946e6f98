use Rattle.fs_trace.specs.code.ObjectTexts.{HasObjects}
use Rattle.fs_trace.proofs.Making.{told_all, objects_made}
use Rattle.fs_trace.proofs.Objecting.{objects_none}
use Rattle.fs_trace.proofs.running.object_bytes.Goals as goal

pub returns-in-Ok-object_text-clause-traced : goal.returns-in-Ok-object_text-clause-traced
returns-in-Ok-object_text-clause-traced c =
    let script = c.in_ok-read.read in
    let start = c.in-Ok.page in
    let old = c.in-Ok-new.teller in
    let new = c.watch.new.witness in
    let ran = c.in_ok-ran.ran in
    let watched = c.in_ok-ran.ensures.watches in
    let has = told_all HasObjects c.args.every c.args.schedule script start old new ran (c.in-Ok-new.ensures start (objects_none start)) watched in
    objects_made c.args.schedule c.args.every c.args.script.now c.in-Ok-object_text.text.items script old new ran c.in_ok-read.ensures.script watched
    (c.in-Ok-object_text.ensures c.args.every start watched.moments c.in-Ok.ensures has)
