-- The shortest bytes of a request are a form of it, and are read as it.
use Rattle.std.proofs.Common.{◌≡◌, ℕ, false, true, List, [], ◌∷◌, ◌++◌, Some, None, Result, Ok, Err, refl, ap, ◌∙◌, append_assoc}
use Rattle.std.specs.Prelude.{OnOk}
use Rattle.std.specs.Int.{w8, w16, w32, to_be_bytes, cast_unsigned}
use Rattle.cosem_data.specs.View.{tree}
use Rattle.cosem_data.specs.declared.memory.Memory.{Memory}
use Rattle.cosem_axdr.specs.Canonical.{canonical}
use Rattle.cosem_axdr.proofs.Prefixes.{canonical_is_encoding}
use Rattle.meter_theory.specs.declared.refs.Descriptor.{Descriptor}
use Rattle.object_model.specs.declared.argument.Argument.{Argument}
use Rattle.object_model.specs.declared.argument.Argument.TheVariants.{Absent, Value, Unreadable}
use Rattle.xdlms_services.specs.declared.request.Request.{Request}
use Rattle.xdlms_services.specs.declared.request.Request.TheVariants.{Get, Set, Act, Next}
use Rattle.xdlms_services.specs.Grammar.{IsArgument, IsHeaded, IsRequest}
use Rattle.xdlms_services.specs.Reading.{argument_at}
use Rattle.xdlms_services.specs.Requests.{front_bytes, argument_bytes, next_bytes, request_bytes, IsWritableValue, IsDescriptorInRange, IsArgumentInRange, CanAsk, WrittenRequestsAreRead}
use Rattle.xdlms_services.proofs.Requesting.{value-again, headed-again, next-again}

-- three lists and the rest
in_three : (a b c rest : List ℕ) → (a ++ (b ++ c)) ++ rest ≡ a ++ (b ++ (c ++ rest))
in_three a b c rest = append_assoc a (b ++ c) rest ∙ ap (λ (t : List ℕ). a ++ t) (append_assoc b c rest)

-- the front is that of a form, whatever follows
front-is : (service invoke : ℕ) (d : Descriptor) (rest : List ℕ) → IsDescriptorInRange d → IsHeaded service invoke d (front_bytes service invoke d ++ rest) rest
front-is service invoke d rest r = record {
  class_bytes = to_be_bytes w16 d.class_id;
  class_is = (r.0, refl);
  name_length = r.1;
  index_bytes = to_be_bytes w8 (cast_unsigned w8 d.index);
  index_is = (r.3, refl);
  whole = ap (λ (t : List ℕ). service ∷ 1 ∷ invoke ∷ t) (in_three (to_be_bytes w16 d.class_id) d.name.0 (to_be_bytes w8 (cast_unsigned w8 d.index)) rest);
}

-- the shortest encoding of an argument is one of its encodings
argument-is : (a : Argument) → IsWritableValue a → IsArgumentInRange a → IsArgument a (argument_bytes a)
argument-is (Value v) w r = (canonical_is_encoding (tree v) w.0 r, w.1)
argument-is _ w r = absurd w

-- and it is read as that argument
shortest-again : (a : Argument) → IsWritableValue a → IsArgumentInRange a → argument_at (argument_bytes a) ≡ a
shortest-again (Value v) w r = value-again v (canonical (tree v)) (canonical_is_encoding (tree v) w.0 r) w.1
shortest-again _ w r = absurd w

-- the shortest bytes are a form of the request
pub shortest_is_request : (request : Request) → CanAsk request → IsRequest request (request_bytes request)
shortest_is_request (Get invoke d None) c = (0 ∷ [], front-is 192 invoke d (0 ∷ []) c.1.1, refl)
shortest_is_request (Get invoke d (Some s)) c =
    (1 ∷ s.0 ∷ argument_bytes s.1, front-is 192 invoke d (1 ∷ s.0 ∷ argument_bytes s.1) c.1.1, (argument_bytes s.1, argument-is s.1 c.0 c.1.2.1, refl))
shortest_is_request (Set invoke d false value) c =
    (0 ∷ argument_bytes value, front-is 193 invoke d (0 ∷ argument_bytes value) c.1.1, (argument_bytes value, argument-is value c.0.1 c.1.2, refl))
shortest_is_request (Set invoke d true value) c = let e : true ≡ false = c.0.0 in absurd cc
shortest_is_request (Act invoke d Absent) c = (0 ∷ [], front-is 195 invoke d (0 ∷ []) c.1.1, refl)
shortest_is_request (Act invoke d (Value v)) c =
    (1 ∷ canonical (tree v), front-is 195 invoke d (1 ∷ canonical (tree v)) c.1.1, (canonical (tree v), argument-is (Value v) c.0 c.1.2, refl))
shortest_is_request (Act invoke d Unreadable) c = absurd c.0
shortest_is_request (Next invoke block) c = (to_be_bytes w32 block, (c.1.1, refl), refl)

pub written_requests_are_read_lem : WrittenRequestsAreRead
written_requests_are_read_lem (Get invoke d None) c = headed-again 192 invoke d (front_bytes 192 invoke d ++ 0 ∷ []) 0 [] (front-is 192 invoke d (0 ∷ []) c.1.1)
written_requests_are_read_lem (Get invoke d (Some s)) c =
    let rest = s.0 ∷ argument_bytes s.1 in
    headed-again 192 invoke d (front_bytes 192 invoke d ++ 1 ∷ rest) 1 rest (front-is 192 invoke d (1 ∷ rest) c.1.1)
    ∙ ap (λ (a : Argument). Some (Get invoke d (Some (s.0, a)))) (shortest-again s.1 c.0 c.1.2.1)
written_requests_are_read_lem (Set invoke d false value) c =
    let rest = argument_bytes value in
    headed-again 193 invoke d (front_bytes 193 invoke d ++ 0 ∷ rest) 0 rest (front-is 193 invoke d (0 ∷ rest) c.1.1)
    ∙ ap (λ (a : Argument). Some (Set invoke d false a)) (shortest-again value c.0.1 c.1.2)
written_requests_are_read_lem (Set invoke d true value) c = let e : true ≡ false = c.0.0 in absurd cc
written_requests_are_read_lem (Act invoke d Absent) c = headed-again 195 invoke d (front_bytes 195 invoke d ++ 0 ∷ []) 0 [] (front-is 195 invoke d (0 ∷ []) c.1.1)
written_requests_are_read_lem (Act invoke d (Value v)) c =
    let rest = canonical (tree v) in
    headed-again 195 invoke d (front_bytes 195 invoke d ++ 1 ∷ rest) 1 rest (front-is 195 invoke d (1 ∷ rest) c.1.1)
    ∙ ap (λ (a : Argument). Some (Act invoke d a)) (shortest-again (Value v) c.0 c.1.2)
written_requests_are_read_lem (Act invoke d Unreadable) c = absurd c.0
written_requests_are_read_lem (Next invoke block) c = next-again invoke block (next_bytes invoke block) (to_be_bytes w32 block, (c.1.1, refl), refl)

-- and so wherever they were written
pub form_on_ok : (request : Request) (r : Result (Unit {0}) Memory) → CanAsk request → OnOk r (IsRequest request (request_bytes request))
form_on_ok request (Ok x) c = shortest_is_request request c
form_on_ok request (Err e) c = tt
