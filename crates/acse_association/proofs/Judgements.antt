-- What is accepted is in range, and of a client of the plan.
use Rattle.std.proofs.Common.{◌≡◌, ℕ, ◌≤◌, Bool, true, false, cond, eqb, List, [], ◌∷◌, ap, Option, Some, None, Result, Ok, Err, refl, sym, ◌∙◌, subst, arith, inl, inr, ◌⊎◌}
use Rattle.std.specs.Prelude.{IfOk, min, is_none, not}
use Rattle.std.proofs.lemmas.Bool.{eqb-false}
use Rattle.meter_theory.specs.Plan.{Plan}
use Rattle.acse_association.specs.Fields.{◌>>=◌, content_at}
use Rattle.acse_association.specs.Initiate.{initiate_at}
use Rattle.acse_association.specs.Contents.{Contents}
use Rattle.acse_association.specs.Judging.{logical_names, is_content, knows_mechanism, client_at, password_of, password_at, names_password, gives_password, initiate_of, places, first_refusal, limit_of, agreed, answer, refusal, judged, InRange, IsClientOf}
use Rattle.acse_association.specs.declared.association.Association.{Association}
use Rattle.acse_association.specs.declared.conformance.Conformance.{Conformance}
use Rattle.acse_association.specs.declared.diagnostic.Diagnostic.{Diagnostic}
use Rattle.acse_association.specs.declared.initiate.Initiate.{Initiate}
use Rattle.acse_association.proofs.FieldsRead.{bind_some}
use Rattle.acse_association.proofs.InitiateRead.{takes-some}
use Rattle.acse_association.proofs.Clients.{client-within, client-sap}

-- an answer that accepts has both the client and the InitiateRequest
record Accepts (source : ℕ) (client : Option ℕ) (initiate : Option Initiate) (association : Association) : Type 0 where
  place : ℕ
  request : Initiate
  client_is : client ≡ Some place
  initiate_is : initiate ≡ Some request
  agreed_is : agreed source place request ≡ association

ok_is : (x y : Association) → (let r : Result Association Diagnostic = Ok x in r) ≡ Ok y → x ≡ y
ok_is x y e = cc

answer-ok : (source : ℕ) (d : Option Diagnostic) (c : Option ℕ) (i : Option Initiate) (a : Association) → answer source d c i ≡ Ok a → Accepts source c i a
answer-ok source (Some d) c i a e = absurd cc
answer-ok source None None i a e = absurd cc
answer-ok source None (Some c) None a e = absurd cc
answer-ok source None (Some c) (Some i) a e = record { place = c; request = i; client_is = refl; initiate_is = refl; agreed_is = ok_is (agreed source c i) a e }

limit-range : (n : ℕ) → (n ≡ 0) ⊎ (16 ≤ n) → (16 ≤ limit_of n) × (limit_of n ≤ 1024)
limit-range n h =
    let at : (b : Bool) → eqb n 0 ≡ b → (16 ≤ cond b 1024 (min n 1024)) × (cond b 1024 (min n 1024) ≤ 1024) =
    λ b. elim b as (λ v. eqb n 0 ≡ v → (16 ≤ cond v 1024 (min n 1024)) × (cond v 1024 (min n 1024) ≤ 1024)) [
      | true ↦ λ e. (omega arith, omega arith)
      | false ↦ λ e. elim h [
        | inl zero_is ↦ absurd (eqb-false n 0 e zero_is)
        | inr le ↦ (omega arith, omega arith)
      ]
    ] in
    at (eqb n 0) refl

read-some : (contents : Option Contents) (initiate : Initiate) → (contents >>= λ c. initiate_of c.information) ≡ Some initiate → (initiate.max_pdu ≡ 0) ⊎ (16 ≤ initiate.max_pdu)
read-some contents initiate e =
    let c = bind_some contents (λ c. initiate_of c.information) initiate e in
    let b = bind_some (c.0.information >>= content_at 4) initiate_at initiate c.2 in
    takes-some initiate b.0 b.2

judged-range : (P : Plan) (source : ℕ) (contents : Option Contents) (a : Association) → judged P source contents ≡ Ok a → InRange a
judged-range P source contents a e =
    let h = answer-ok source (refusal P source contents) (client_at P source) (contents >>= λ c. initiate_of c.information) a e in
    let range = limit-range h.request.max_pdu (read-some contents h.request h.initiate_is) in
    let agreed_range : InRange (agreed source h.place h.request) = record { least = range.0; most = range.1 } in
    subst InRange h.agreed_is agreed_range

judged-client : (P : Plan) (source : ℕ) (contents : Option Contents) (a : Association) → judged P source contents ≡ Ok a → IsClientOf P source a
judged-client P source contents a e =
    let h = answer-ok source (refusal P source contents) (client_at P source) (contents >>= λ c. initiate_of c.information) a e in
    let of_agreed : IsClientOf P source (agreed source h.place h.request) = record {
      source_is = refl;
      client_is = h.client_is;
      within = client-within P source h.place h.client_is;
      sap_is = client-sap P source h.place h.client_is;
    } in
    subst (IsClientOf P source) h.agreed_is of_agreed

pub accepted-range : (P : Plan) (source : ℕ) (contents : Option Contents) (r : Result Association Diagnostic) → r ≡ judged P source contents → IfOk r InRange
accepted-range P source contents (Ok a) e = judged-range P source contents a (sym e)
accepted-range P source contents (Err d) e = tt

pub accepted-client : (P : Plan) (source : ℕ) (contents : Option Contents) (r : Result Association Diagnostic) → r ≡ judged P source contents → IfOk r (IsClientOf P source)
accepted-client P source contents (Ok a) e = judged-client P source contents a (sym e)
accepted-client P source contents (Err d) e = tt

-- ---- what isn't refused

accepts : (source : ℕ) (d : Option Diagnostic) (c : Option ℕ) (i : Option Initiate) (client : ℕ) (initiate : Initiate) → d ≡ None → c ≡ Some client → i ≡ Some initiate → answer source d c i ≡ Ok (agreed source client initiate)
accepts source d c i client initiate none client_is initiate_is = rw (none, client_is, initiate_is) refl

no-place : (a b c d e f : Bool) (u v w x y z : Diagnostic) → a ≡ false → b ≡ false → c ≡ false → d ≡ false → e ≡ false → f ≡ false
    → first_refusal ((a, u) ∷ (b, v) ∷ (c, w) ∷ (d, x) ∷ (e, y) ∷ (f, z) ∷ []) ≡ None
no-place a b c d e f u v w x y z ha hb hc hd he hf = rw (ha, hb, hc, hd, he, hf) refl

-- an AARQ that no place refuses is accepted
pub judged-accepts : (P : Plan) (source : ℕ) (contents : Contents) (client : ℕ) (initiate : Initiate) (password : Option (List ℕ))
    → is_content logical_names contents.context ≡ true → client_at P source ≡ Some client → knows_mechanism contents.mechanism ≡ true
    → password_of P client ≡ password → names_password password contents.mechanism ≡ true → gives_password password contents.authentication ≡ true
    → initiate_of contents.information ≡ Some initiate → judged P source (Some contents) ≡ Ok (agreed source client initiate)
judged-accepts P source contents client initiate password context client_is known password_is named given initiate_is =
    let at : password_at P source ≡ password = ap (λ (c : Option ℕ). c >>= password_of P) client_is ∙ password_is in
    let none : first_refusal (places P source contents) ≡ None =
    no-place _ _ _ _ _ _ _ _ _ _ _ _
    (ap not context) (ap is_none client_is) (ap not known)
    (ap (λ (p : Option (List ℕ)). not (names_password p contents.mechanism)) at ∙ ap not named)
    (ap (λ (p : Option (List ℕ)). not (gives_password p contents.authentication)) at ∙ ap not given)
    (ap is_none initiate_is) in
    accepts source _ _ _ client initiate none client_is initiate_is

-- an association by its parts
pub association-is : (source client limit other : ℕ) (c d : Conformance) → limit ≡ other → c.0 ≡ d.0
    → (let a : Association = record { source = source; client = client; limit = limit; conformance = c } in a) ≡ record { source = source; client = client; limit = other; conformance = d }
association-is source client limit other c d l e =
    ap (λ (n : ℕ). let a : Association = record { source = source; client = client; limit = n; conformance = c } in a) l
    ∙ ap (λ (n : ℕ). let a : Association = record { source = source; client = client; limit = other; conformance = record { 0 = n } } in a) e
