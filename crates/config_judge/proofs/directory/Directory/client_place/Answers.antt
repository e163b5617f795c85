use Rattle.std.proofs.Common.{◌∙◌}
use Rattle.config_judge.proofs.directory.Directory.client_place.Goals as goal

pub returns : goal.returns
returns c = c.copied.ensures ∙ (c.get.ensures.value ∙ c.args.self.now.client_places c.args.name.now)
