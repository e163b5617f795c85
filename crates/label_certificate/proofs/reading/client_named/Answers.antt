use Rattle.std.specs.Str.{bytes_eq}
use Rattle.label_certificate.proofs.Gathered.{place_below}
use Rattle.label_certificate.proofs.reading.client_named.Goals as goal

pub returns-clause-few : goal.returns-clause-few
returns-clause-few c =
    place_below (λ client. bytes_eq client.name c.args.name.now) c.args.plan.now.clients 16 c.client_named.result c.client_named.ensures c.known.ensures.sound.few_clients
