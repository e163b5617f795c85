use Rattle.std.proofs.Common.{refl, ap, subst, ◌∙◌}
use Rattle.meter_server.specs.Answering.{TellsError}
use Rattle.meter_server.specs.Outcomes.{status_of}
use Rattle.meter_server.proofs.Ends.{helped-ends, mistaken-ends}
use Rattle.meter_server.proofs.program.run_program.Goals as goal

pub returns-clause-runs : goal.returns-clause-runs
returns-clause-runs g c =
    let ends = c.unless_closed-outcome.ensures in record {
      between = record { unread = g.I.Read.remaining c.asked-outcome.new.input; written = g.O.Write.contents c.asked-outcome.new.output };
      error_between = g.E.Write.contents c.asked-outcome.new.errors;
      outcome = c.asked-outcome.result;
      does = c.asked-outcome.ensures.does;
      quiet = c.asked-outcome.ensures.quiet;
      told = c.with_verdict-outcome.result;
      tells = c.with_verdict-outcome.ensures;
      is_closed = c.is_closed.result;
      written = c.write_error.result;
      explains = subst (λ outcome. TellsError outcome (g.E.Write.contents c.asked-outcome.new.errors) (g.E.Write.contents c.write_error.new.errors) c.write_error.result) ends c.write_error.ensures;
      left = refl;
      ends = c.status.ensures ∙ ap status_of ends;
    }

pub returns-clause-mistaken : goal.returns-clause-mistaken
returns-clause-mistaken g c = λ mistaken.
    rw (c.status.ensures, c.unless_closed-outcome.ensures) (mistaken-ends _ mistaken c.asked-outcome.result c.with_verdict-outcome.result c.is_closed.result _ _
    (c.asked-outcome.ensures.does.no_command mistaken.no_command).0 c.with_verdict-outcome.ensures)

pub returns-clause-helped : goal.returns-clause-helped
returns-clause-helped g c = λ asks.
    rw (c.status.ensures, c.unless_closed-outcome.ensures) (helped-ends _ asks c.asked-outcome.result c.with_verdict-outcome.result c.is_closed.result _ _
    (c.asked-outcome.ensures.does.no_command asks.no_command).0 c.with_verdict-outcome.ensures)
