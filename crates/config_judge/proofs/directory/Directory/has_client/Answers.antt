use Rattle.std.proofs.Common.{◌∙◌, ap}
use Rattle.std.specs.Prelude.{is_some}
use Rattle.std.specs.Str.{bytes_eq}
use Rattle.config_judge.proofs.FirstPlace.{is_some-position_from}
use Rattle.config_judge.proofs.directory.Directory.has_client.Goals as goal

pub returns : goal.returns
returns c =
    c.is_some.ensures
    ∙ (ap is_some c.client_place.ensures
    ∙ is_some-position_from (λ client. bytes_eq client.name c.args.name.now) 0 c.args.self.now.config.now.clients)
