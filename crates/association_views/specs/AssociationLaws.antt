-- The laws of class 15.
use Rattle.std.proofs.Common.{◌≡◌, true, false}
use Rattle.std.specs.Prelude.{None}
use Rattle.std.proofs.lemmas.Bool.{false≢true}
use Rattle.cosem_class.specs.Objects.{DependsOnlyOnSources, KeepsRules, WritesItsValue}
use Rattle.cosem_class.specs.Judged.{settable_of_accepted}
use Rattle.association_views.specs.AssociationClass.{is_association_attribute, association_refusal, association_touched, association_new_value, AssociationMeetsRule}

-- nothing is touched: own profile
pub association_depends_only_on_sources : DependsOnlyOnSources association_touched (λ _ _ _. false) (λ _ _. false) association_new_value
association_depends_only_on_sources view op argument row other_row cells others i inside agree same_row = absurd (false≢true inside)

-- every write is refused: own profile
pub association_writes_its_value : WritesItsValue association_refusal association_touched association_new_value
association_writes_its_value view index value cells accepted =
    let settable : false ≡ true = settable_of_accepted false (is_association_attribute index) None accepted in
    absurd (false≢true settable)

-- nothing is touched: own profile
pub association_keeps_rules : KeepsRules association_refusal (λ _ _ _. Unit {0}) AssociationMeetsRule association_touched association_new_value
association_keeps_rules view op argument row cells i accepted is_row meets_all inside = absurd (false≢true inside)
