use Rattle.std.proofs.Common.{◌++◌}
use Rattle.trail_file.specs.Text.{block}
use Rattle.trail_words.specs.declared.steps.TrailStep.{TrailStep}
use Rattle.trail_words.proofs.Entries.{block-read, moments-read, step-read}
use Rattle.trail_words.proofs.reading.read_entries.Goals as goal

pub entries-preserved : goal.entries-preserved
entries-preserved c =
    let s : TrailStep = record { seconds = c.seconds_in.result; note = c.in-Some.note; line = c.in-Some.line } in
    let found = c.in-Some.ensures in
    let more = c.in_ok-push.ensures.items in
    let front = c.entries.invariant.front in
    let old = c.entries.steps.items in
    let new = c.push.new.self.items in
    record {
      front = (
        front.0 ++ block s.note.now s.line.now,
        block-read c.args.file.now front.0 c.entries.rest.now s.note.now s.line.now c.in-Some.after.now front.1 found.0,
        step-read front.0 old new s more front.2 found.1 found.2,
      );
      moments = moments-read old new s more c.entries.invariant.moments c.seconds_in.ensures;
    }
