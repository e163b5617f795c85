use Rattle.std.proofs.Common.{ap, subst, Err, List, ℕ}
use Rattle.trail_file.specs.Text.{recovered}
use Rattle.trail_words.specs.Printing.{HasNoHead, IsPrinted}
use Rattle.trail_words.specs.declared.form.TrailForm.{TrailForm}
use Rattle.meter_server.specs.Trailing.{form_asked}
use Rattle.meter_server.proofs.Trails.{printed-begun}
use Rattle.meter_server.proofs.trailing.print_text.Goals as goal

pub returns-in-Ok-from_str : goal.returns-in-Ok-from_str
returns-in-Ok-from_str g c =
    let is = ap Err c.in-Err-NoTrail.field-0-is in
    let none = subst (λ (t : List ℕ). HasNoHead (recovered t)) c.as_bytes.ensures.value (c.in-Err-NoTrail.ensures.no_trail is) in (c.in-Ok-from_str.ensures.ok, none, c.in-Err-NoTrail.ensures.unwritten is)

pub returns-in-Err-from_str : goal.returns-in-Err-from_str
returns-in-Err-from_str g c =
    let before = g.O.Write.contents c.args.output.now in
    let after = g.O.Write.contents c.write_trail.new.output in
    let wanted = c.args.wanted.now in
    let printed = c.in-Err-Damaged.ensures.printed (ap Err c.in-Err-Damaged.field-0-is) in
    let of_text = subst (λ (t : List ℕ). IsPrinted c.form_of.result wanted t before after) c.as_bytes.ensures.value printed in
    printed-begun (form_asked c.args.is_json) wanted c.args.text.now before after (subst (λ (f : TrailForm). IsPrinted f wanted c.args.text.now before after) c.form_of.ensures of_text)
