-- Reading an APDU and its forms are one.
use Rattle.std.proofs.Common.{◌≡◌, ℕ, ℤ, zero, suc, ◌<◌, ◌≤◌, ◌==◌, ◌&&◌, true, false, List, [], ◌∷◌, ◌++◌, length, drop, get_or, Option, Some, None, Result, Ok, Err, refl, sym, ap, subst, ◌∙◌, append-nil, arith, inl, inr, IfOk}
use Rattle.std.specs.Prelude.{nat_lt, slice_index, MatchResult, IsSome, IsErrOf}
use Rattle.std.specs.Option.{option_map}
use Rattle.std.specs.Int.{w8, w16, w32, from_be_bytes, to_be_bytes, cast_signed, cast_unsigned}
use Rattle.std.proofs.lemmas.Bool.{and_parts, ltb-false, le-ltb, eqb-true, ne_eqb}
use Rattle.cosem_data.specs.Tree.{Tree, depth}
use Rattle.cosem_data.specs.View.{tree, data_of-tree, tree-data_of}
use Rattle.cosem_data.specs.declared.data.Data.{Data}
use Rattle.cosem_data.specs.declared.name.LogicalName.{LogicalName}
use Rattle.meter_theory.specs.declared.refs.Descriptor.{Descriptor}
use Rattle.cosem_axdr.specs.declared.fault.ReadFault.{ReadFault}
use Rattle.cosem_axdr.specs.Grammar.{IsEncoding}
use Rattle.cosem_axdr.specs.Reading.{data_at}
use Rattle.cosem_axdr.proofs.Numbers.{IsBytes, IsBytes-drop, IsBytes-behind, chosen, wide8, wide16, wide32, signed8}
use Rattle.cosem_axdr.proofs.Values.{data_takes, data_again}
use Rattle.object_model.specs.declared.argument.Argument.{Argument}
use Rattle.object_model.specs.declared.argument.Argument.TheVariants.{Absent, Value, Unreadable}
use Rattle.xdlms_services.specs.declared.request.Request.{Request}
use Rattle.xdlms_services.specs.declared.request.Request.TheVariants.{Get, Set, Act, Next}
use Rattle.xdlms_services.specs.declared.reading.Front.{Front}
use Rattle.xdlms_services.specs.declared.reading.ApduFault.{ApduFault}
use Rattle.xdlms_services.specs.declared.reading.ApduFault.TheVariants as faults
use Rattle.xdlms_services.specs.Grammar.{IsArgument, IsHeaded, IsInvocation, IsNext, IsRequest, IsNoRequest, OneRequest}
use Rattle.xdlms_services.specs.Reading.{ReadingIsGrammar, Reads, argument_from, argument_at, selected_at, get_with, get_of, set_of, act_with, act_of, service_of, front_at, next_at, request_at}

-- ---- arguments

-- two values that are there are equal
some_is : {A : Type 0} (x y : A) → ◌≡◌ {A = Option A} (Some x) (Some y) → x ≡ y
some_is x y e = cc

-- the bytes behind what was read
abbrev behind : Result (Tree × List ℕ) ReadFault → List ℕ
behind (Ok x) = x.1
behind (Err e) = []

-- what is read of a text is an argument that the text is
from_read : (text : List ℕ) (r : Result (Tree × List ℕ) ReadFault) → IsBytes text → data_at 16 text ≡ r → IsArgument (argument_from r) text
from_read text (Ok (t, [])) b e =
    let h = data_takes 16 text t [] b e in
    let same : h.text ≡ text = sym (append-nil h.text) ∙ sym h.front in
    subst (λ (u : Tree). IsEncoding u text × (depth u ≤ 16)) (sym (tree-data_of t)) (subst (IsEncoding t) same h.is, h.nested)
from_read text (Ok (t, c ∷ rest)) b e = λ u is deep.
    let again = data_again 16 u text [] is deep in
    let other : ◌≡◌ {A = Result (Tree × List ℕ) ReadFault} (Ok (u, [])) (Ok (t, c ∷ rest)) = sym again ∙ ap (data_at 16) (append-nil text) ∙ e in
    let gone : [] ≡ c ∷ rest = ap behind other in
    absurd cc
from_read text (Err f) b e = λ u is deep.
    let again = data_again 16 u text [] is deep in
    let other : ◌≡◌ {A = Result (Tree × List ℕ) ReadFault} (Ok (u, [])) (Err f) = sym again ∙ ap (data_at 16) (append-nil text) ∙ e in
    absurd cc

-- the argument that is read of a text is one that the text is
argument-takes : (text : List ℕ) → IsBytes text → IsArgument (argument_at text) text
argument-takes text b = from_read text (data_at 16 text) b refl

-- a text that is no encoding has no other argument than that
unreadable-again : (text : List ℕ) (a : Argument) → IsArgument a text → ((t : Tree) → IsEncoding t text → depth t ≤ 16 → ⊥) → a ≡ Unreadable
unreadable-again text Absent h n = absurd h
unreadable-again text (Value d) h n = absurd (n (tree d) h.0 h.1)
unreadable-again text Unreadable h n = refl

-- a value that a text is an encoding of, is read of it
pub value-again : (d : Data) (text : List ℕ) → IsEncoding (tree d) text → depth (tree d) ≤ 16 → argument_at text ≡ Value d
value-again d text is nested =
    let e : data_at 16 text ≡ Ok (tree d, []) = ap (data_at 16) (sym (append-nil text)) ∙ data_again 16 (tree d) text [] is nested in
    ap argument_from e ∙ ap Value (data_of-tree d)

-- an argument that a text is, is read of it
pub argument-again : (a : Argument) (text : List ℕ) → IsBytes text → IsArgument a text → argument_at text ≡ a
argument-again Absent text b h = absurd h
argument-again (Value d) text b h = value-again d text h.0 h.1
argument-again Unreadable text b h = unreadable-again text (argument_at text) (argument-takes text b) h

-- ---- what stands in front

-- the front of a normal request
abbrev front : ℕ → ℕ → Descriptor → ℕ → Front
front service invoke d flag = record { service = service; form = 1; invoke = invoke; descriptor = d; flag = flag }

-- a list of one byte
one_byte : (xs : List ℕ) → length xs ≡ 1 → (a : ℕ) × (xs ≡ a ∷ [])
one_byte (a ∷ []) h = (a, refl)
one_byte _ h = absurd (omega arith)

-- a list of two bytes
two_bytes : (xs : List ℕ) → length xs ≡ 2 → (a b : ℕ) × (xs ≡ a ∷ b ∷ [])
two_bytes (a ∷ b ∷ []) h = (a, b, refl)
two_bytes _ h = absurd (omega arith)

-- a list of four bytes
four_bytes : (xs : List ℕ) → length xs ≡ 4 → (a b c d : ℕ) × (xs ≡ a ∷ b ∷ c ∷ d ∷ [])
four_bytes (a ∷ b ∷ c ∷ d ∷ []) h = (a, b, c, d, refl)
four_bytes _ h = absurd (omega arith)

-- a list of six bytes
six_bytes : (xs : List ℕ) → length xs ≡ 6 → (a b c d e f : ℕ) × (xs ≡ a ∷ b ∷ c ∷ d ∷ e ∷ f ∷ [])
six_bytes (a ∷ b ∷ c ∷ d ∷ e ∷ f ∷ []) h = (a, b, c, d, e, f, refl)
six_bytes _ h = absurd (omega arith)

-- thirteen bytes with 01 second are the front that is read of them
pub headed-takes : (bytes : List ℕ) → 13 ≤ length bytes → IsBytes bytes → slice_index bytes 1 ≡ 1
    → IsHeaded (front_at bytes).service (front_at bytes).invoke (front_at bytes).descriptor bytes ((front_at bytes).flag ∷ drop 13 bytes)
headed-takes (a ∷ one ∷ i ∷ c0 ∷ c1 ∷ n0 ∷ n1 ∷ n2 ∷ n3 ∷ n4 ∷ n5 ∷ x ∷ flag ∷ rest) h b e =
    let word : IsBytes (c0 ∷ c1 ∷ []) = λ k. two c0 c1 k (b 3) (b 4) in
    record {
      class_bytes = c0 ∷ c1 ∷ [];
      class_is = (wide16.below (c0 ∷ c1 ∷ []) word, sym (wide16.back (c0 ∷ c1 ∷ []) refl word));
      name_length = refl;
      index_bytes = x ∷ [];
      index_is = (signed8.fits x (b 11), sym (ap (to_be_bytes w8) (signed8.undo x (b 11)) ∙ ap (to_be_bytes w8) (sym (single x)) ∙ wide8.back (x ∷ []) refl (λ k. lone x k (b 11))));
      whole = ap (λ (y : ℕ). a ∷ y ∷ i ∷ c0 ∷ c1 ∷ n0 ∷ n1 ∷ n2 ∷ n3 ∷ n4 ∷ n5 ∷ x ∷ flag ∷ rest) e;
    }
  where
    two : (c d k : ℕ) → c < 256 → d < 256 → get_or (c ∷ d ∷ []) k 0 < 256
    two c d zero p q = p
    two c d (suc zero) p q = q
    two c d (suc (suc k)) p q = omega arith

    lone : (c k : ℕ) → c < 256 → get_or (c ∷ []) k 0 < 256
    lone c zero p = p
    lone c (suc k) p = omega arith

    single : (c : ℕ) → from_be_bytes w8 (c ∷ []) ≡ c
    single c = omega arith
headed-takes _ h b e = absurd (omega arith)

-- ---- all of an APDU

-- where thirteen bytes stand with 01 second, the service reads the rest
pub request-there : (bytes text : List ℕ) (f : Front) → 13 ≤ length bytes → slice_index bytes 1 ≡ 1 → front_at bytes ≡ f → drop 13 bytes ≡ text → request_at bytes ≡ service_of f text
unfolding request_at
request-there bytes text f le one e d =
    let other : (length bytes == 7) ≡ false = ne_eqb (length bytes) 7 (λ e. omega arith) in
    let long : nat_lt (length bytes) 13 ≡ false = le-ltb (length bytes) 13 le in
    rw other (rw long (rw one (ap (λ (g : Front). service_of g (drop 13 bytes)) e ∙ ap (service_of f) d)))

-- the same of bytes written out
explicit-again : (service invoke c0 c1 n0 n1 n2 n3 n4 n5 x flag : ℕ) (text : List ℕ) (d : Descriptor)
    → from_be_bytes w16 (c0 ∷ c1 ∷ []) ≡ d.class_id → n0 ∷ n1 ∷ n2 ∷ n3 ∷ n4 ∷ n5 ∷ [] ≡ d.name.0 → cast_signed w8 x ≡ d.index
    → request_at (service ∷ 1 ∷ invoke ∷ c0 ∷ c1 ∷ n0 ∷ n1 ∷ n2 ∷ n3 ∷ n4 ∷ n5 ∷ x ∷ flag ∷ text) ≡ service_of (front service invoke d flag) text
explicit-again service invoke c0 c1 n0 n1 n2 n3 n4 n5 x flag text d c n i =
    let named : LogicalName = record { 0 = n0 ∷ n1 ∷ n2 ∷ n3 ∷ n4 ∷ n5 ∷ [] } in
    request-there (service ∷ 1 ∷ invoke ∷ c0 ∷ c1 ∷ n0 ∷ n1 ∷ n2 ∷ n3 ∷ n4 ∷ n5 ∷ x ∷ flag ∷ text) text (front service invoke d flag) (omega arith) refl
    (ap (λ (k : ℕ). front service invoke (record { class_id = k; name = named; index = cast_signed w8 x }) flag) c
    ∙ ap (λ (k : List ℕ). let m : LogicalName = record { 0 = k } in front service invoke (record { class_id = d.class_id; name = m; index = cast_signed w8 x }) flag) n
    ∙ ap (λ (k : ℤ). front service invoke (record { class_id = d.class_id; name = d.name; index = k }) flag) i)
    refl

-- a number of one byte is that byte
first-of : (x : ℕ) → from_be_bytes w8 (x ∷ []) ≡ x
first-of x = omega arith

-- bytes with this front are read by the service
pub headed-again : (service invoke : ℕ) (d : Descriptor) (bytes : List ℕ) (flag : ℕ) (text : List ℕ) → IsHeaded service invoke d bytes (flag ∷ text)
    → request_at bytes ≡ service_of (front service invoke d flag) text
headed-again service invoke d bytes flag text h =
    let w = two_bytes h.class_bytes (ap (λ (t : List ℕ). length t) h.class_is.1 ∙ wide16.len d.class_id) in
    let n = six_bytes d.name.0 h.name_length in
    let i = one_byte h.index_bytes (ap (λ (t : List ℕ). length t) h.index_is.1 ∙ wide8.len (cast_unsigned w8 d.index)) in
    let class_again : from_be_bytes w16 (w.0 ∷ w.1 ∷ []) ≡ d.class_id = ap (from_be_bytes w16) (sym w.2 ∙ h.class_is.1) ∙ wide16.again d.class_id h.class_is.0 in
    let byte_again : i.0 ≡ cast_unsigned w8 d.index = sym (first-of i.0) ∙ ap (from_be_bytes w8) (sym i.1 ∙ h.index_is.1) ∙ wide8.again (cast_unsigned w8 d.index) (signed8.small d.index h.index_is.0) in
    let split : bytes ≡ service ∷ 1 ∷ invoke ∷ w.0 ∷ w.1 ∷ n.0 ∷ n.1 ∷ n.2 ∷ n.3 ∷ n.4 ∷ n.5 ∷ i.0 ∷ flag ∷ text =
    h.whole
    ∙ ap (λ (t : List ℕ). service ∷ 1 ∷ invoke ∷ (t ++ (d.name.0 ++ (h.index_bytes ++ flag ∷ text)))) w.2
    ∙ ap (λ (t : List ℕ). service ∷ 1 ∷ invoke ∷ w.0 ∷ w.1 ∷ (t ++ (h.index_bytes ++ flag ∷ text))) n.6
    ∙ ap (λ (t : List ℕ). service ∷ 1 ∷ invoke ∷ w.0 ∷ w.1 ∷ n.0 ∷ n.1 ∷ n.2 ∷ n.3 ∷ n.4 ∷ n.5 ∷ (t ++ flag ∷ text)) i.1 in
    ap request_at split
    ∙ explicit-again service invoke w.0 w.1 n.0 n.1 n.2 n.3 n.4 n.5 i.0 flag text d class_again (sym n.6) (ap (cast_signed w8) byte_again ∙ signed8.redo d.index h.index_is.0)

-- what stands behind a front is bytes
rest-bytes : (service invoke : ℕ) (d : Descriptor) (bytes rest : List ℕ) → IsBytes bytes → IsHeaded service invoke d bytes rest → IsBytes rest
rest-bytes service invoke d bytes rest b h =
    let all = subst IsBytes h.whole b in
    IsBytes-behind h.index_bytes rest (IsBytes-behind d.name.0 (h.index_bytes ++ rest) (IsBytes-behind h.class_bytes (d.name.0 ++ (h.index_bytes ++ rest)) (λ k. all (suc (suc (suc k))))))

-- an ACTION with a parameter is read as that ACTION
parameter-again : (invoke : ℕ) (d : Descriptor) (a : Argument) (bytes rest text : List ℕ) → IsBytes bytes → IsHeaded 195 invoke d bytes rest → IsArgument a text → rest ≡ 1 ∷ text
    → request_at bytes ≡ Some (Act invoke d a)
parameter-again invoke d a bytes rest text b h is e =
    let headed = subst (IsHeaded 195 invoke d bytes) e h in
    let text_bytes : IsBytes text = λ k. rest-bytes 195 invoke d bytes (1 ∷ text) b headed (suc k) in
    headed-again 195 invoke d bytes 1 text headed ∙ ap (λ (x : Argument). Some (Act invoke d x)) (argument-again a text text_bytes is)

-- seven bytes written out are read as a request for the next block
seven-again : (invoke a b c d block : ℕ) → from_be_bytes w32 (a ∷ b ∷ c ∷ d ∷ []) ≡ block → request_at (192 ∷ 2 ∷ invoke ∷ a ∷ b ∷ c ∷ d ∷ []) ≡ Some (Next invoke block)
unfolding request_at
seven-again invoke a b c d block e = ap (λ (n : ℕ). Some (Next invoke n)) e

-- a request for the next block is read as that request
pub next-again : (invoke block : ℕ) (bytes : List ℕ) → IsNext invoke block bytes → request_at bytes ≡ Some (Next invoke block)
next-again invoke block bytes h =
    let number = h.0 in
    let is = h.1 in
    let f = four_bytes number (ap (λ (t : List ℕ). length t) is.1 ∙ wide32.len block) in
    let again : from_be_bytes w32 (f.0 ∷ f.1 ∷ f.2 ∷ f.3 ∷ []) ≡ block = ap (from_be_bytes w32) (sym f.4 ∙ is.1) ∙ wide32.again block is.0 in
    ap request_at (h.2 ∙ ap (λ (t : List ℕ). 192 ∷ 2 ∷ invoke ∷ t) f.4) ∙ seven-again invoke f.0 f.1 f.2 f.3 block again

-- a form of a request is read as that request
pub request-again : (r : Request) (bytes : List ℕ) → IsBytes bytes → IsRequest r bytes → request_at bytes ≡ Some r
request-again (Get invoke d None) bytes b h =
    headed-again 192 invoke d bytes 0 [] (subst (IsHeaded 192 invoke d bytes) h.2 h.1)
request-again (Get invoke d (Some s)) bytes b h =
    let p = h.2 in
    let headed = subst (IsHeaded 192 invoke d bytes) p.2 h.1 in
    let text_bytes : IsBytes p.0 = λ k. rest-bytes 192 invoke d bytes (1 ∷ s.0 ∷ p.0) b headed (suc (suc k)) in
    headed-again 192 invoke d bytes 1 (s.0 ∷ p.0) headed
    ∙ ap (λ (a : Argument). Some (Get invoke d (Some (s.0, a)))) (argument-again s.1 p.0 text_bytes p.1)
request-again (Set invoke d false value) bytes b h =
    let p = h.2 in
    let headed = subst (IsHeaded 193 invoke d bytes) p.2 h.1 in
    let text_bytes : IsBytes p.0 = λ k. rest-bytes 193 invoke d bytes (0 ∷ p.0) b headed (suc k) in
    headed-again 193 invoke d bytes 0 p.0 headed ∙ ap (λ (a : Argument). Some (Set invoke d false a)) (argument-again value p.0 text_bytes p.1)
request-again (Set invoke d true value) bytes b h =
    let p = h.2 in
    headed-again 193 invoke d bytes 1 p.0 (subst (IsHeaded 193 invoke d bytes) p.2 h.1)
    ∙ ap (λ (a : Argument). Some (Set invoke d true a)) (sym p.1)
request-again (Act invoke d Absent) bytes b h =
    headed-again 195 invoke d bytes 0 [] (subst (IsHeaded 195 invoke d bytes) h.2 h.1)
request-again (Act invoke d (Value v)) bytes b h =
    let p = h.2 in
    parameter-again invoke d (Value v) bytes h.0 p.0 b h.1 p.1 p.2
request-again (Act invoke d Unreadable) bytes b h =
    let p = h.2 in
    parameter-again invoke d Unreadable bytes h.0 p.0 b h.1 p.1 p.2
request-again (Next invoke block) bytes b h = next-again invoke block bytes h

-- ---- and back

-- an empty list
no_bytes : (xs : List ℕ) → length xs ≡ 0 → xs ≡ []
no_bytes [] h = refl
no_bytes (x ∷ xs) h = absurd (omega arith)

-- the bytes are this front and the rest
abbrev Headed : ℕ → Front → List ℕ → List ℕ → Type 0
Headed service f bytes rest = IsHeaded service f.invoke f.descriptor bytes rest

-- the flag is the one that was tested
with_flag : (service : ℕ) (f : Front) (bytes rest : List ℕ) (flag : ℕ) → Headed service f bytes (f.flag ∷ rest) → (f.flag == flag) ≡ true → Headed service f bytes (flag ∷ rest)
with_flag service f bytes rest flag h e = subst (λ (k : ℕ). Headed service f bytes (k ∷ rest)) (eqb-true f.flag flag e) h

-- nothing stands behind the flag
with_none : (service : ℕ) (f : Front) (bytes rest : List ℕ) → Headed service f bytes (0 ∷ rest) → (length rest == 0) ≡ true → Headed service f bytes (0 ∷ [])
with_none service f bytes rest h e = subst (λ (t : List ℕ). Headed service f bytes (0 ∷ t)) (no_bytes rest (eqb-true (length rest) 0 e)) h

-- what is read behind a GET's flag 01 has this form
selected-takes : (f : Front) (bytes rest : List ℕ) (r : Request) → IsBytes rest → Headed 192 f bytes (1 ∷ rest) → option_map (λ s. get_with f (Some s)) (selected_at rest) ≡ Some r → IsRequest r bytes
selected-takes f bytes [] r b h e = absurd cc
selected-takes f bytes (s ∷ text) r b h e =
    subst (λ (q : Request). IsRequest q bytes) (some_is (get_with f (Some (s, argument_at text))) r e) (1 ∷ s ∷ text, h, (text, argument-takes text (λ k. b (suc k)), refl))

-- what is read of a GET has this form
get-takes : (f : Front) (bytes rest : List ℕ) (r : Request) → IsBytes rest → Headed 192 f bytes (f.flag ∷ rest) → get_of f rest ≡ Some r → IsRequest r bytes
get-takes f bytes rest r b h e =
    elim (chosen (f.flag == 0) _ _ (Some r) e) [
      | inl p ↦ elim (chosen (length rest == 0) _ _ (Some r) p.1) [
        | inl q ↦ subst (λ (x : Request). IsRequest x bytes) (some_is (get_with f None) r q.1) (0 ∷ [], with_none 192 f bytes rest (with_flag 192 f bytes rest 0 h p.0) q.0, refl)
        | inr q ↦ absurd cc
      ]
      | inr p ↦ elim (chosen (f.flag == 1) _ _ (Some r) p.1) [
        | inl q ↦ selected-takes f bytes rest r b (with_flag 192 f bytes rest 1 h q.0) q.1
        | inr q ↦ absurd cc
      ]
    ]

-- what is read of a SET has this form
set-takes : (f : Front) (bytes rest : List ℕ) (r : Request) → IsBytes rest → Headed 193 f bytes (f.flag ∷ rest) → set_of f rest ≡ Some r → IsRequest r bytes
set-takes f bytes rest r b h e =
    elim (chosen (f.flag == 0) _ _ (Some r) e) [
      | inl p ↦ subst (λ (x : Request). IsRequest x bytes) (some_is (Set f.invoke f.descriptor false (argument_at rest)) r p.1)
          (0 ∷ rest, with_flag 193 f bytes rest 0 h p.0, (rest, argument-takes rest b, refl))
      | inr p ↦ elim (chosen (f.flag == 1) _ _ (Some r) p.1) [
        | inl q ↦ subst (λ (x : Request). IsRequest x bytes) (some_is (Set f.invoke f.descriptor true Absent) r q.1)
            (1 ∷ rest, with_flag 193 f bytes rest 1 h q.0, (rest, refl, refl))
        | inr q ↦ absurd cc
      ]
    ]

-- an argument stands behind an ACTION's flag 01
invocation-takes : (a : Argument) (text : List ℕ) → IsArgument a text → IsInvocation a (1 ∷ text)
invocation-takes Absent text h = absurd h
invocation-takes _ text h = (text, h, refl)

-- what is read of an ACTION has this form
act-takes : (f : Front) (bytes rest : List ℕ) (r : Request) → IsBytes rest → Headed 195 f bytes (f.flag ∷ rest) → act_of f rest ≡ Some r → IsRequest r bytes
act-takes f bytes rest r b h e =
    elim (chosen (f.flag == 0) _ _ (Some r) e) [
      | inl p ↦ elim (chosen (length rest == 0) _ _ (Some r) p.1) [
        | inl q ↦ subst (λ (x : Request). IsRequest x bytes) (some_is (act_with f Absent) r q.1) (0 ∷ [], with_none 195 f bytes rest (with_flag 195 f bytes rest 0 h p.0) q.0, refl)
        | inr q ↦ absurd cc
      ]
      | inr p ↦ elim (chosen (f.flag == 1) _ _ (Some r) p.1) [
        | inl q ↦ subst (λ (x : Request). IsRequest x bytes) (some_is (act_with f (argument_at rest)) r q.1)
            (1 ∷ rest, with_flag 195 f bytes rest 1 h q.0, invocation-takes (argument_at rest) rest (argument-takes rest b))
        | inr q ↦ absurd cc
      ]
    ]

-- what a service reads has this form
service-takes : (f : Front) (bytes rest : List ℕ) (r : Request) → IsBytes rest → Headed f.service f bytes (f.flag ∷ rest) → service_of f rest ≡ Some r → IsRequest r bytes
service-takes f bytes rest r b h e =
    elim (chosen (f.service == 192) _ _ (Some r) e) [
      | inl p ↦ get-takes f bytes rest r b (subst (λ (s : ℕ). Headed s f bytes (f.flag ∷ rest)) (eqb-true f.service 192 p.0) h) p.1
      | inr p ↦ elim (chosen (f.service == 193) _ _ (Some r) p.1) [
        | inl q ↦ set-takes f bytes rest r b (subst (λ (s : ℕ). Headed s f bytes (f.flag ∷ rest)) (eqb-true f.service 193 q.0) h) q.1
        | inr q ↦ elim (chosen (f.service == 195) _ _ (Some r) q.1) [
          | inl t ↦ act-takes f bytes rest r b (subst (λ (s : ℕ). Headed s f bytes (f.flag ∷ rest)) (eqb-true f.service 195 t.0) h) t.1
          | inr t ↦ absurd cc
        ]
      ]
    ]

-- what is read of seven bytes has this form
next-takes : (bytes : List ℕ) (r : Request) → length bytes ≡ 7 → IsBytes bytes → next_at bytes ≡ Some r → IsRequest r bytes
next-takes (s ∷ form ∷ i ∷ n0 ∷ n1 ∷ n2 ∷ n3 ∷ []) r len b e =
    elim (chosen (s == 192 && form == 2) _ _ (Some r) e) [
      | inl p ↦
          let both = and_parts (s == 192) (form == 2) p.0 in
          let number : IsBytes (n0 ∷ n1 ∷ n2 ∷ n3 ∷ []) = IsBytes-drop 3 (s ∷ form ∷ i ∷ n0 ∷ n1 ∷ n2 ∷ n3 ∷ []) b in
          subst (λ (x : Request). IsRequest x (s ∷ form ∷ i ∷ n0 ∷ n1 ∷ n2 ∷ n3 ∷ [])) (some_is (Next i (from_be_bytes w32 (n0 ∷ n1 ∷ n2 ∷ n3 ∷ []))) r p.1) (
            n0 ∷ n1 ∷ n2 ∷ n3 ∷ [],
            (wide32.below (n0 ∷ n1 ∷ n2 ∷ n3 ∷ []) number, sym (wide32.back (n0 ∷ n1 ∷ n2 ∷ n3 ∷ []) refl number)),
            ap (λ (y : ℕ). y ∷ form ∷ i ∷ n0 ∷ n1 ∷ n2 ∷ n3 ∷ []) (eqb-true s 192 both.0) ∙ ap (λ (y : ℕ). 192 ∷ y ∷ i ∷ n0 ∷ n1 ∷ n2 ∷ n3 ∷ []) (eqb-true form 2 both.1),
          )
      | inr p ↦ absurd cc
    ]
next-takes _ r len b e = absurd (omega arith)

-- what is read has this form
pub request-takes : (bytes : List ℕ) (r : Request) → IsBytes bytes → request_at bytes ≡ Some r → IsRequest r bytes
unfolding request_at
request-takes bytes r b e =
    elim (chosen (length bytes == 7) _ _ (Some r) e) [
      | inl seven ↦ next-takes bytes r (eqb-true (length bytes) 7 seven.0) b seven.1
      | inr other ↦ elim (chosen (nat_lt (length bytes) 13) _ _ (Some r) other.1) [
        | inl p ↦ absurd cc
        | inr p ↦ elim (chosen (slice_index bytes 1 == 1) _ _ (Some r) p.1) [
          | inl q ↦ service-takes (front_at bytes) bytes (drop 13 bytes) r (IsBytes-drop 13 bytes b) (headed-takes bytes (ltb-false (length bytes) 13 p.0) b (eqb-true (slice_index bytes 1) 1 q.0)) q.1
          | inr q ↦ absurd cc
        ]
      ]
    ]

-- ---- what `read_apdu` says

-- what is returned has this form
pub is_found : (bytes : List ℕ) (r : Result Request ApduFault) → IsBytes bytes → Reads r (request_at bytes) → IfOk r (λ request. IsRequest request bytes)
is_found bytes (Ok x) b h = request-takes bytes x b h
is_found bytes (Err e) b h = tt

-- a form is returned as its request, unless memory ran out
pub is_only : (bytes : List ℕ) (r : Result Request ApduFault) → IsBytes bytes → Reads r (request_at bytes) → (request : Request) → IsRequest request bytes → MatchResult r (λ read. read ≡ request) (λ fault. fault ≡ faults.Memory)
is_only bytes (Ok x) b h request is = some_is x request (sym h ∙ request-again request bytes b is)
is_only bytes (Err faults.Unreadable) b h request is = let e : ◌≡◌ {A = Option Request} None (Some request) = sym h ∙ request-again request bytes b is in absurd cc
is_only bytes (Err faults.Memory) b h request is = refl

-- unreadable bytes are no form
pub is_unreadable : (bytes : List ℕ) (r : Result Request ApduFault) → IsBytes bytes → Reads r (request_at bytes) → IsErrOf r faults.Unreadable → IsNoRequest bytes
is_unreadable bytes (Ok x) b h u request is = absurd cc
is_unreadable bytes (Err faults.Unreadable) b h u request is = let e : ◌≡◌ {A = Option Request} None (Some request) = sym h ∙ request-again request bytes b is in absurd cc
is_unreadable bytes (Err faults.Memory) b h u request is = absurd cc

-- there is no request where none has a form
no_request : (bytes : List ℕ) (read : Option Request) → IsBytes bytes → request_at bytes ≡ read → IsNoRequest bytes → IsSome read → ⊥
no_request bytes None b e none some = absurd cc
no_request bytes (Some x) b e none some = none x (request-takes bytes x b e)

-- bytes that are no form are unreadable
pub is_refused : (bytes : List ℕ) (r : Result Request ApduFault) → IsBytes bytes → Reads r (request_at bytes) → IsNoRequest bytes → IsErrOf r faults.Unreadable
is_refused bytes (Ok x) b h none = absurd (none x (request-takes bytes x b h))
is_refused bytes (Err faults.Unreadable) b h none = refl
is_refused bytes (Err faults.Memory) b h none = absurd (no_request bytes (request_at bytes) b refl none h)

pub one_request_lem : OneRequest
one_request_lem r q bytes b h k = some_is r q (sym (request-again r bytes b h) ∙ request-again q bytes b k)

pub reading_is_grammar_lem : ReadingIsGrammar
reading_is_grammar_lem request bytes b = (request-takes bytes request b, request-again request bytes b)
