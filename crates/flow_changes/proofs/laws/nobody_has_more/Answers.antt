use Rattle.flow_changes.proofs.Promises.{may-kept, open-kept, policy-kept, right-kept, sap-kept, view-kept}
use Rattle.flow_changes.proofs.laws.nobody_has_more.Goals as goal

pub returns-clause-may : goal.returns-clause-may
returns-clause-may c = may-kept

pub returns-clause-saps : goal.returns-clause-saps
returns-clause-saps c = sap-kept

pub returns-clause-passwords : goal.returns-clause-passwords
returns-clause-passwords c = open-kept

pub returns-clause-views : goal.returns-clause-views
returns-clause-views c = view-kept

pub returns-clause-rights : goal.returns-clause-rights
returns-clause-rights c = right-kept

pub returns-clause-policy : goal.returns-clause-policy
returns-clause-policy c = policy-kept
