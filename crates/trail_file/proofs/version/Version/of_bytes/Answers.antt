use Rattle.std.proofs.Common.{◌≡◌, ℕ, true, List, ◌∷◌, ◌++◌, Some, None, subst}
use Rattle.std.specs.Fmt.{decimal}
use Rattle.trail_file.specs.Text.{lacks}
use Rattle.trail_file.proofs.Versions.{at_major, version_parts}
use Rattle.trail_file.proofs.Lacking.{has_mark}
use Rattle.trail_file.proofs.version.Version.of_bytes.Goals as goal

none_is : (n : ℕ) → None ≡ Some n → ⊥
none_is n e = cc

some_is : (x y : ℕ) → Some x ≡ Some y → x ≡ y
some_is x y e = cc

pub returns-in_err-major-clause-exact : goal.returns-in_err-major-clause-exact
returns-in_err-major-clause-exact c v is e =
    absurd (has_mark 46 (decimal v.major) (decimal v.minor ++ 46 ∷ decimal v.patch) (subst (λ (t : List ℕ). lacks 46 t ≡ true) e c.in_err-major.ensures))

pub returns-in_err-minor-clause-exact : goal.returns-in_err-minor-clause-exact
returns-in_err-minor-clause-exact c v is e =
    let first = at_major c.args.text.now c.in_ok-major.major.now c.in_ok-major.rest.now v is e c.in_ok-major.ensures.0 c.in_ok-major.ensures.1 in
    absurd (has_mark 46 (decimal v.minor) (decimal v.patch) (subst (λ (t : List ℕ). lacks 46 t ≡ true) first.1 c.in_err-minor.ensures))

pub returns-in_err-number-clause-exact : goal.returns-in_err-number-clause-exact
returns-in_err-number-clause-exact c v is e =
    let first = at_major c.args.text.now c.in_ok-major.major.now c.in_ok-major.rest.now v is e c.in_ok-major.ensures.0 c.in_ok-major.ensures.1 in
    absurd (none_is v.major (c.in_err-number.ensures.exact v.major is.major first.0))

pub returns-in_err-number-2-clause-exact : goal.returns-in_err-number-2-clause-exact
returns-in_err-number-2-clause-exact c v is e =
    let all = version_parts c.args.text.now c.in_ok-major.major.now c.in_ok-major.rest.now c.in_ok-minor.minor.now c.in_ok-minor.patch.now v is e c.in_ok-major.ensures.0 c.in_ok-major.ensures.1 c.in_ok-minor.ensures.0 c.in_ok-minor.ensures.1 in
    absurd (none_is v.minor (c.in_err-number-2.ensures.exact v.minor is.minor all.minor))

pub returns-in_err-number-3-clause-exact : goal.returns-in_err-number-3-clause-exact
returns-in_err-number-3-clause-exact c v is e =
    let all = version_parts c.args.text.now c.in_ok-major.major.now c.in_ok-major.rest.now c.in_ok-minor.minor.now c.in_ok-minor.patch.now v is e c.in_ok-major.ensures.0 c.in_ok-major.ensures.1 c.in_ok-minor.ensures.0 c.in_ok-minor.ensures.1 in
    absurd (none_is v.patch (c.in_err-number-3.ensures.exact v.patch is.patch all.patch))

pub returns-clause-exact : goal.returns-clause-exact
returns-clause-exact c v is e =
    let all = version_parts c.args.text.now c.in_ok-major.major.now c.in_ok-major.rest.now c.in_ok-minor.minor.now c.in_ok-minor.patch.now v is e c.in_ok-major.ensures.0 c.in_ok-major.ensures.1 c.in_ok-minor.ensures.0 c.in_ok-minor.ensures.1 in
    let major = some_is c.in_ok-number.field-0 v.major (c.in_ok-number.ensures.exact v.major is.major all.major) in
    let minor = some_is c.in_ok-number-2.field-0 v.minor (c.in_ok-number-2.ensures.exact v.minor is.minor all.minor) in
    let patch = some_is c.in_ok-number-3.field-0 v.patch (c.in_ok-number-3.ensures.exact v.patch is.patch all.patch) in
    λ i. Some (record { major = major i; minor = minor i; patch = patch i })
