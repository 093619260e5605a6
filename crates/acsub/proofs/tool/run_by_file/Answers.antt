-- What holds for the rules holds for their bytes.
use Rattle.acsub.specs.Given.{form_wanted}
use Rattle.acsub.proofs.early.EarlyFileLemmas.{early-unread_line}
use Rattle.acsub.proofs.tool.ByFileLemmas.{by-file, by-file_no_line, by-file_unread, file-counted}
use Rattle.acsub.proofs.tool.run_by_file.Goals as goal

pub returns-in-Ok-clause-ran : goal.returns-in-Ok-clause-ran
returns-in-Ok-clause-ran g c =
    let ran = c.run_by_rules in
    let read = rw c.form.ensures at c.in-Ok.ensures in
    by-file g.R.Read.remaining g.W.Write.contents c.args.task.now.asked.now (c.args.reader.now, c.args.writer.now)
    (ran.new.reader, ran.new.writer) c.args.file.now c.in-Ok.rules read.rules ran.result ran.ensures.ran

pub returns-in-Ok-clause-fault : goal.returns-in-Ok-clause-fault
returns-in-Ok-clause-fault g c =
    let ran = c.run_by_rules in
    let read = rw c.form.ensures at c.in-Ok.ensures in
    by-file_no_line g.R.Read.remaining g.W.Write.contents c.args.task.now.asked.now
    (c.args.reader.now, c.args.writer.now) (ran.new.reader, ran.new.writer) c.args.file.now c.in-Ok.rules read.rules
    ran.result ran.ensures.ran

pub returns-in-Err-clause-ran : goal.returns-in-Err-clause-ran
returns-in-Err-clause-ran g c =
    let read = rw c.form.ensures at c.in-Err.ensures in
    rw c.unread.ensures
    (by-file_unread g.R.Read.remaining g.W.Write.contents c.args.task.now.asked.now
    (c.args.reader.now, c.args.writer.now) c.args.file.now c.in-Err.error read)

pub returns-in-Err-clause-fault : goal.returns-in-Err-clause-fault
returns-in-Err-clause-fault g c =
    let read = rw c.form.ensures at c.in-Err.ensures in
    rw c.unread.ensures
    (early-unread_line (form_wanted c.args.task.now.asked.now) c.args.file.now c.in-Err.error read)

pub returns-in-Ok-clause-counts : goal.returns-in-Ok-clause-counts
returns-in-Ok-clause-counts g c =
    let ran = c.run_by_rules in
    let read = rw c.form.ensures at c.in-Ok.ensures in
    file-counted c.args.task.now.asked.now c.in-Ok.rules c.args.reader.now ran.new.reader c.args.tally.now ran.new.tally
    c.args.file.now ran.result read.rules c.requires.fresh ran.ensures.counts
