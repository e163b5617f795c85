-- What is told of how far an audit is.
use Rattle.std.specs.Prelude.{◌++◌, ◌-◌, List, ℕ, codes}
use Rattle.std.specs.Fmt.{decimal}
use Rattle.fleet_audit.specs.declared.progress.Figures.{Figures}

-- how many are done, refused and left, and how many a second that is (own profile)
abbrev pub figures_text : Figures → List ℕ
figures_text f =
    decimal f.done ++ (codes " of " ++ (decimal f.all ++ (codes " done, " ++ (decimal f.refused ++ (codes " refused, "
    ++ (decimal (f.all - f.done) ++ (codes " left, " ++ (decimal f.rate ++ codes " a second"))))))))
