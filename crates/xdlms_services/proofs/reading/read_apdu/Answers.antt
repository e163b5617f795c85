use Rattle.xdlms_services.proofs.Requesting.{is_found, is_only, is_unreadable, is_refused}
use Rattle.xdlms_services.proofs.reading.read_apdu.Goals as goal

pub returns-clause-found : goal.returns-clause-found
returns-clause-found c = is_found c.args.bytes.now c.request_of.result (λ i. (c.type_inv.bytes i).fits) c.request_of.ensures

pub returns-clause-only : goal.returns-clause-only
returns-clause-only c = is_only c.args.bytes.now c.request_of.result (λ i. (c.type_inv.bytes i).fits) c.request_of.ensures

pub returns-clause-unreadable : goal.returns-clause-unreadable
returns-clause-unreadable c = is_unreadable c.args.bytes.now c.request_of.result (λ i. (c.type_inv.bytes i).fits) c.request_of.ensures

pub returns-clause-refused : goal.returns-clause-refused
returns-clause-refused c = is_refused c.args.bytes.now c.request_of.result (λ i. (c.type_inv.bytes i).fits) c.request_of.ensures
