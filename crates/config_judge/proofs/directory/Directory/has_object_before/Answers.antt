use Rattle.std.proofs.Common.{◌∙◌, ap}
use Rattle.std.specs.Str.{bytes_eq}
use Rattle.config_judge.proofs.FirstPlace.{is_before, before_place}
use Rattle.config_judge.proofs.directory.Directory.has_object_before.Goals as goal

pub returns-in-Some : goal.returns-in-Some
returns-in-Some c =
    ap (is_before c.args.place) c.in-Some.ensures
    ∙ before_place (λ o. bytes_eq o.name c.args.name.now) c.args.self.now.config.now.objects c.args.place

pub returns-in-None : goal.returns-in-None
returns-in-None c =
    ap (is_before c.args.place) c.in-None.ensures
    ∙ before_place (λ o. bytes_eq o.name c.args.name.now) c.args.self.now.config.now.objects c.args.place
