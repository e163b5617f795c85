-- Requests that are permitted.
use Rattle.std.proofs.Common.{◌≡◌, refl}
use Rattle.std.specs.Prelude.{is_ok}
use Rattle.std.specs.Result.{result_err}
use Rattle.association_views.specs.Permits.{permitted}
use Rattle.meter_theory.specs.Access.{is_success}
use Rattle.meter_core.specs.Judging.{refused_by}
use Rattle.meter_theory.specs.declared.access.AccessCode.{AccessCode}
use Rattle.meter_theory.specs.declared.access.AccessCode.TheVariants as codes

-- a request is permitted where its code is success
pub permits : (code : AccessCode) → is_ok (permitted code) ≡ is_success code
permits codes.Success = refl
permits codes.TemporaryFailure = refl
permits codes.ReadWriteDenied = refl
permits codes.ObjectUndefined = refl
permits codes.ObjectClassInconsistent = refl
permits codes.TypeUnmatched = refl
permits codes.ScopeOfAccessViolated = refl
permits codes.OtherReason = refl

-- and refused by it where it is another
pub refuses : (code : AccessCode) → result_err (permitted code) ≡ refused_by code
refuses codes.Success = refl
refuses codes.TemporaryFailure = refl
refuses codes.ReadWriteDenied = refl
refuses codes.ObjectUndefined = refl
refuses codes.ObjectClassInconsistent = refl
refuses codes.TypeUnmatched = refl
refuses codes.ScopeOfAccessViolated = refl
refuses codes.OtherReason = refl
