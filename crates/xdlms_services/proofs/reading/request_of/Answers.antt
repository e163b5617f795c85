use Rattle.std.proofs.Common.{◌≡◌, ◌-◌, ℕ, List, Result, drop, take, length, refl, sym, ap, subst, ◌∙◌}
use Rattle.std.proofs.lemmas.List.{take_rest}
use Rattle.xdlms_services.specs.declared.request.Request.{Request}
use Rattle.xdlms_services.specs.declared.reading.ApduFault.{ApduFault}
use Rattle.xdlms_services.specs.declared.reading.Front.{Front}
use Rattle.xdlms_services.specs.Reading.{Reads, front_at, service_of, request_at}
use Rattle.xdlms_services.proofs.Requesting.{request-there}
use Rattle.xdlms_services.proofs.reading.request_of.Goals as goal

-- what the service read is what the whole reads
reads_there : (bytes : List ℕ) (f : Front) (r : Result Request ApduFault) → f ≡ front_at bytes → Reads r (service_of f (take (length bytes - 13) (drop 13 bytes)))
    → request_at bytes ≡ service_of (front_at bytes) (drop 13 bytes) → Reads r (request_at bytes)
reads_there bytes f r e h there =
    subst (Reads r) (ap (service_of f) (take_rest bytes 13) ∙ ap (λ (g : Front). service_of g (drop 13 bytes)) e ∙ sym there) h

pub returns-then-front-eq-NORMAL : goal.returns-then-front-eq-NORMAL
returns-then-front-eq-NORMAL c =
    let one = ap (λ (f : Front). f.form) (sym c.front_of-front.ensures) ∙ c.if-front-eq-NORMAL.true in
    reads_there c.args.bytes.now c.front_of-front.result c.service_request.result c.front_of-front.ensures c.service_request.ensures
    (request-there c.args.bytes.now (drop 13 c.args.bytes.now) (front_at c.args.bytes.now) c.if-bytes-lt13.false one refl refl)
