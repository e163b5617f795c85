use Rattle.std.proofs.Common.{rules, ◌≡◌, ◌∙◌}
use Rattle.xdlms_services.specs.Requests.{request_bytes}
use Rattle.xdlms_services.specs.declared.request.Request.TheVariants as requests
use Rattle.step_words.specs.declared.requests.TheConstants.{USUAL_INVOKE}
use Rattle.trail_lines.proofs.Written.{act-asked, act-asks}
use Rattle.trail_lines.proofs.writing.act_line.Goals as goal

pub returns-clause-says : goal.returns-clause-says
returns-clause-says c =
    let d = c.args.method.now in
    let a = c.args.argument.now in
    let items : c.put_parameter.new.apdu.items ≡ request_bytes (requests.Act USUAL_INVOKE d a) = search rules in
    let bytes : c.deref.result.now ≡ request_bytes (requests.Act USUAL_INVOKE d a) = c.deref.ensures.value ∙ items in
    c.asked_line.ensures.says (act-asked c.args.client d a)
    (act-asks c.args.client d a c.deref.result.now bytes c.in_ok-put_parameter.ensures.writable c.know_descriptor.ensures c.in_ok-put_parameter.ensures.ranges)
