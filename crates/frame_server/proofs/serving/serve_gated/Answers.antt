use Rattle.frame_server.proofs.Exact.{exact-wrap, exact-cut, exact-whole}
use Rattle.frame_server.proofs.serving.serve_gated.Goals as goal

pub returns-clause-wrong_header : goal.returns-clause-wrong_header
returns-clause-wrong_header g c = exact-wrap g.A.Asker.answers c.args.plan.now _ _ c.answer_input.result c.answer_input.ensures.serves

pub returns-clause-cut : goal.returns-clause-cut
returns-clause-cut g c = exact-cut g.A.Asker.answers c.args.plan.now _ _ c.answer_input.result c.answer_input.ensures.serves

pub returns-clause-whole : goal.returns-clause-whole
returns-clause-whole g c = exact-whole g.A.Asker.answers c.args.plan.now _ _ c.answer_input.result c.answer_input.ensures.serves
