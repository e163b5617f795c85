-- What a client asks in words is, as bytes, told by the same words.
use Rattle.std.proofs.Common.{◌≡◌, ℕ, ◌+◌, ◌<◌, ◌≤◌, Bool, true, false, cond, eqb, List, [], ◌∷◌, ◌++◌, length, take, Option, Some, None, Result, Ok, refl, sym, ap, subst, ◌∙◌, append_assoc, arith, inl, inr}
use Rattle.std.specs.Prelude.{codes, option_and_then, is_some, unwrap_or, IfSome}
use Rattle.std.specs.List.{prefix_len}
use Rattle.std.proofs.lemmas.Bool.{eqb-true}
use Rattle.std.proofs.lemmas.List.{append-nil}
use Rattle.hex.specs.Hex.{encode_upper}
use Rattle.cosem_data.specs.Tree.{Tree, depth}
use Rattle.cosem_data.specs.View.{tree, data_of, tree-data_of}
use Rattle.cosem_axdr.specs.Canonical.{HasLengths}
use Rattle.cosem_axdr.specs.Laws.{HasRanges}
use Rattle.meter_theory.specs.Selection.{EntryDescriptor}
use Rattle.meter_theory.specs.declared.refs.Descriptor.{Descriptor}
use Rattle.object_model.specs.declared.argument.Argument.{Argument}
use Rattle.object_model.specs.declared.argument.Argument.TheVariants.{Value}
use Rattle.value_words.specs.declared.fault.Asked.TheVariants as kinds
use Rattle.value_words.specs.Words.{octet_words}
use Rattle.value_words.specs.declared.stop.Stop.{Stop}
use Rattle.value_words.specs.Stopping.{◌>>=◌, stops, found, behind, front, past}
use Rattle.value_words.specs.WordReading.{bytes_in, is_digit, octets_at}
use Rattle.value_words.proofs.Steps.{bind_ok, done, ok_is, chosen, found_ok}
use Rattle.value_words.proofs.Behind.{behind-takes}
use Rattle.value_words.proofs.Octets.{octets_take}
use Rattle.xdlms_services.specs.declared.request.Request.{Request}
use Rattle.xdlms_services.specs.declared.request.Request.TheVariants.{Get, Set, Act}
use Rattle.xdlms_services.specs.Requests.{request_bytes, IsWritableValue, IsArgumentInRange, CanAsk}
use Rattle.xdlms_services.proofs.Shortest.{written_requests_are_read_lem}
use Rattle.step_words.specs.declared.fault.Asked.{Asked}
use Rattle.step_words.specs.declared.fault.Asked.TheVariants as asked
use Rattle.step_words.specs.Parts.{CanBeSent, ended}
use Rattle.step_words.specs.RequestWords.{descriptor_words, named_words, entries_words, given_words, invoke_words, get_words, request_words, apdu_words}
use Rattle.step_words.specs.RequestReading.{descriptor_at, entries_at, selection_step, selection_at, given_at, parameter_at, invoke_at, parameter_of, get_at, set_at, act_at, words_in, wordless, bytes_at, apdu_at, request_or, apdu_or, asked_bytes}
use Rattle.step_words.specs.StepLines.{ask_words}
use Rattle.step_words.proofs.Ranges.{AreBytes, bytes_low}
use Rattle.step_words.proofs.Stops.{ended_ok}
use Rattle.step_words.proofs.Bytes.{request_are_bytes, request_has_bytes}
use Rattle.step_words.proofs.Forms.{descriptor_takes, IsEntries, entries_take}
use Rattle.step_words.proofs.Given.{IsGiven, given_takes, parameter_takes, invoke_takes}

-- ---- requests

parted : (s d w i : List ℕ) → ((s ++ d) ++ w) ++ i ≡ s ++ (d ++ (w ++ i))
parted s d w i = append_assoc (s ++ d) w i ∙ append_assoc s d (w ++ i)

-- a selection that was read has words, and can be asked
record IsSelection (text : List ℕ) (s : Option (ℕ × Argument)) (rest : List ℕ) : Type 0 where
  part : List ℕ
  is : text ≡ part ++ rest
  said : (invoke : ℕ) (d : Descriptor) → get_words invoke d s ≡ Some ((named_words (codes "get ") d ++ part) ++ invoke_words invoke)
  writable : IfSome s (λ x. IsWritableValue x.1)
  in_range : IfSome s (λ x. (x.0 < 256) × IsArgumentInRange x.1)

by_entries : (text : List ℕ) (e : EntryDescriptor) (rest : List ℕ) → IsEntries text e rest → IsSelection (codes " entries " ++ text) (Some (2, Value (data_of (parameter_of e)))) rest
by_entries text e rest h =
    let a = h.from_low in
    let b = h.to_low in
    let c = h.first_low in
    let d = h.last_low in
    record {
      part = entries_words e;
      is = h.is;
      said = λ invoke d. refl;
      writable = ((omega arith, (tt, (tt, (tt, (tt, tt))))), omega arith);
      in_range = (omega arith, (omega arith, (omega arith, (omega arith, (omega arith, tt)))));
    }

selection_takes : (text : List ℕ) (s : Option (ℕ × Argument)) (rest : List ℕ) → selection_at text ≡ Ok (s, rest) → IsSelection text s rest
unfolding selection_at
selection_takes text s rest e = at (behind (codes " entries ") text) refl e
  where
    at : (o : Option (List ℕ)) → behind (codes " entries ") text ≡ o → selection_step text o ≡ Ok (s, rest) → IsSelection text s rest
    at None is h =
        let same = ok_is {A = Option (ℕ × Argument) × List ℕ} (None, text) (s, rest) h in
        subst (λ (x : Option (ℕ × Argument) × List ℕ). IsSelection text x.0 x.1) same
        (record {
          part = [];
          is = refl;
          said = λ invoke d. ap (λ (t : List ℕ). Some (t ++ invoke_words invoke)) (sym (append-nil (named_words (codes "get ") d)));
          writable = tt;
          in_range = tt;
        })
    at (Some left) is h =
        let b = bind_ok (entries_at left) (λ x. Ok (Some (2, Value (data_of (parameter_of x.0))), x.1)) (s, rest) h in
        let same = ok_is {A = Option (ℕ × Argument) × List ℕ} (Some (2, Value (data_of (parameter_of b.0.0))), b.0.1) (s, rest) b.2 in
        subst (λ (x : Option (ℕ × Argument) × List ℕ). IsSelection text x.0 x.1) same
        (subst (λ (t : List ℕ). IsSelection t (Some (2, Value (data_of (parameter_of b.0.0)))) b.0.1) (sym (behind-takes (codes " entries ") text left is))
        (by_entries left b.0.0 b.0.1 (entries_take left b.0.0 b.0.1 b.1)))

-- a request that can be asked, and its words
abbrev IsAsked : List ℕ → Request → Type 0
IsAsked text r = (request_words r ≡ Some text) × CanAsk r

-- the request that is read has the words that were read, and can be asked
get_takes : (text : List ℕ) (r : Request) → get_at text ≡ Ok r → IsAsked (codes "get " ++ text) r
unfolding get_at
get_takes text r e =
    let d = bind_ok (descriptor_at text) _ r e in
    let s = bind_ok (selection_at d.0.1) _ r d.2 in
    let i = bind_ok (invoke_at s.0.1) _ r s.2 in
    let named = descriptor_takes text d.0.0 d.0.1 d.1 in
    let selected = selection_takes d.0.1 s.0.0 s.0.1 s.1 in
    let invoked = invoke_takes s.0.1 i.0 i.1 in
    let is = ok_is {A = Request} (Get i.0 d.0.0 s.0.0) r i.2 in
    subst (λ (x : Request). IsAsked (codes "get " ++ text) x) is (
      selected.said i.0 d.0.0
          ∙ ap (λ (t : List ℕ). Some t) (parted (codes "get ") (descriptor_words d.0.0) selected.part (invoke_words i.0)
          ∙ ap (λ (t : List ℕ). codes "get " ++ (descriptor_words d.0.0 ++ (selected.part ++ t))) (sym invoked.0)
          ∙ ap (λ (t : List ℕ). codes "get " ++ (descriptor_words d.0.0 ++ t)) (sym selected.is)
          ∙ ap (λ (t : List ℕ). codes "get " ++ t) (sym named.0)),
      (selected.writable, (invoked.1, named.1, selected.in_range)),
    )

-- a value that is given can be written
can_give : (t : Tree) → CanBeSent t → IsWritableValue (Value (data_of t)) × IsArgumentInRange (Value (data_of t))
can_give t h = ((subst HasLengths (sym (tree-data_of t)) h.lengths, subst (λ (u : Tree). depth u ≤ 16) (sym (tree-data_of t)) h.nested), subst HasRanges (sym (tree-data_of t)) h.ranges)

-- the words of a request with a value
with_value : (service text left rest : List ℕ) (d : Descriptor) (t : Tree) (n : ℕ) → text ≡ descriptor_words d ++ left → left ≡ given_words t ++ rest → rest ≡ invoke_words n
    → (named_words service d ++ given_words (tree (data_of t))) ++ invoke_words n ≡ service ++ text
with_value service text left rest d t n named given invoked =
    ap (λ (u : Tree). (named_words service d ++ given_words u) ++ invoke_words n) (tree-data_of t)
    ∙ parted service (descriptor_words d) (given_words t) (invoke_words n)
    ∙ ap (λ (x : List ℕ). service ++ (descriptor_words d ++ (given_words t ++ x))) (sym invoked)
    ∙ ap (λ (x : List ℕ). service ++ (descriptor_words d ++ x)) (sym given)
    ∙ ap (λ (x : List ℕ). service ++ x) (sym named)

set_takes : (text : List ℕ) (r : Request) → set_at text ≡ Ok r → IsAsked (codes "set " ++ text) r
unfolding set_at
set_takes text r e =
    let d = bind_ok (descriptor_at text) _ r e in
    let v = bind_ok (given_at d.0.1) _ r d.2 in
    let i = bind_ok (invoke_at v.0.1) _ r v.2 in
    let named = descriptor_takes text d.0.0 d.0.1 d.1 in
    let given = given_takes d.0.1 v.0.0 v.0.1 v.1 in
    let invoked = invoke_takes v.0.1 i.0 i.1 in
    let can = can_give given.value given.sent in
    let is = ok_is {A = Request} (Set i.0 d.0.0 false v.0.0) r i.2 in
    subst (λ (x : Request). IsAsked (codes "set " ++ text) x) (ap (λ (a : Argument). Set i.0 d.0.0 false a) given.argument ∙ is) (
      ap (λ (t : List ℕ). Some t) (with_value (codes "set ") text d.0.1 v.0.1 d.0.0 given.value i.0 named.0 given.is invoked.0),
      ((refl, can.0), (invoked.1, named.1, can.1)),
    )

act_with : (text left rest : List ℕ) (d : Descriptor) (a : Argument) (n : ℕ) → text ≡ descriptor_words d ++ left → IsGiven left a rest → rest ≡ invoke_words n → request_words (Act n d a) ≡ Some (codes "act " ++ text)
act_with text left rest d a n named given invoked =
    ap (λ (b : Argument). request_words (Act n d b)) (sym given.argument)
    ∙ ap (λ (t : List ℕ). Some t) (with_value (codes "act ") text left rest d given.value n named given.is invoked)

act_takes : (text : List ℕ) (r : Request) → act_at text ≡ Ok r → IsAsked (codes "act " ++ text) r
unfolding act_at
act_takes text r e =
    let d = bind_ok (descriptor_at text) _ r e in
    let v = bind_ok (parameter_at d.0.1) _ r d.2 in
    let i = bind_ok (invoke_at v.0.1) _ r v.2 in
    let named = descriptor_takes text d.0.0 d.0.1 d.1 in
    let invoked = invoke_takes v.0.1 i.0 i.1 in
    let is = ok_is {A = Request} (Act i.0 d.0.0 v.0.0) r i.2 in
    elim (parameter_takes d.0.1 v.0.0 v.0.1 v.1) [
      | inl p ↦
          subst (λ (x : Request). IsAsked (codes "act " ++ text) x) (ap (λ (a : Argument). Act i.0 d.0.0 a) p.0 ∙ is) (
            ap (λ (t : List ℕ). Some t) (append_assoc (codes "act ") (descriptor_words d.0.0) (invoke_words i.0)
                ∙ ap (λ (t : List ℕ). codes "act " ++ (descriptor_words d.0.0 ++ t)) (sym invoked.0)
                ∙ ap (λ (t : List ℕ). codes "act " ++ (descriptor_words d.0.0 ++ t)) (sym p.1)
                ∙ ap (λ (t : List ℕ). codes "act " ++ t) (sym named.0)),
            (tt, (invoked.1, named.1, tt)),
          )
      | inr given ↦
          let can = can_give given.value given.sent in
          subst (λ (x : Request). IsAsked (codes "act " ++ text) x) (ap (λ (a : Argument). Act i.0 d.0.0 a) given.argument ∙ is) (
            ap (λ (t : List ℕ). Some t) (with_value (codes "act ") text d.0.1 v.0.1 d.0.0 given.value i.0 named.0 given.is invoked.0),
            (can.0, (invoked.1, named.1, can.1)),
          )
    ]

-- ---- bytes

-- bytes that the words are told of
pub record IsTold (text bytes : List ℕ) : Type 0 where
  pub said : ask_words bytes ≡ text
  pub some : 0 < length bytes
  pub are_bytes : AreBytes bytes

told : (text bytes : List ℕ) (r : Request) → IsAsked text r → request_bytes r ≡ bytes → IsTold text bytes
unfolding words_in
told text bytes r h is =
    subst (λ (b : List ℕ). IsTold text b) is
    (record {
      said =
          ap (λ (o : Option Request). unwrap_or (option_and_then request_words o) (apdu_words (request_bytes r))) (written_requests_are_read_lem r h.1)
          ∙ ap (λ (o : Option (List ℕ)). unwrap_or o (apdu_words (request_bytes r))) h.0;
      some = request_has_bytes r;
      are_bytes = request_are_bytes r h.1;
    })

-- nothing that fails the test is in front
front_none : (p : ℕ → Bool) (c : ℕ) (text : List ℕ) → p c ≡ false → front p (c ∷ text) ≡ []
front_none p c text e = ap (λ (b : Bool). take (cond b (1 + prefix_len p text) 0) (c ∷ text)) e

no_sign : (c : ℕ) → is_digit c ≡ true → eqb c 45 ≡ false
no_sign c e = at (eqb c 45) refl
  where
    at : (t : Bool) → eqb c 45 ≡ t → t ≡ false
    at false is = refl
    at true is = let wrong : is_digit 45 ≡ true = ap is_digit (sym (eqb-true c 45 is)) ∙ e in absurd cc

as_octets : (c : ℕ) (digits bytes left : List ℕ) → is_digit c ≡ true → bytes_in (front is_digit (c ∷ digits)) ≡ Some bytes → past is_digit (c ∷ digits) ≡ left → octets_at (c ∷ digits) ≡ Ok (bytes, left)
unfolding octets_at
as_octets c digits bytes left is f g =
    ap (λ (b : Bool). cond b (Ok ([], digits)) (found kinds.HexDigits (c ∷ digits) (bytes_in (front is_digit (c ∷ digits))) (past is_digit (c ∷ digits)))) (no_sign c is)
    ∙ ap (λ (o : Option (List ℕ)). found kinds.HexDigits (c ∷ digits) o (past is_digit (c ∷ digits))) f
    ∙ ap (λ (s : List ℕ). done {A = List ℕ × List ℕ} (bytes, s)) g

abbrev AreRead : List ℕ → List ℕ → List ℕ → Type 0
AreRead digits left bytes = (digits ≡ encode_upper bytes ++ left) × (0 < length bytes) × AreBytes bytes

octets_are : (c : ℕ) (digits left bytes : List ℕ) → is_digit c ≡ true → c ∷ digits ≡ octet_words bytes ++ left → AreBytes bytes → AreRead (c ∷ digits) left bytes
octets_are c digits left [] is h low = let same : c ≡ 45 = cc in let wrong : is_digit 45 ≡ true = ap is_digit (sym same) ∙ is in absurd cc
octets_are c digits left (b ∷ s) is h low = (h, omega arith, low)

-- upper-case hex digits are the bytes that they were read as
hex_takes : (digits bytes left : List ℕ) → bytes_at digits ≡ Ok (bytes, left) → AreRead digits left bytes
unfolding bytes_at
hex_takes [] bytes left e = absurd cc
hex_takes (c ∷ digits) bytes left e =
    let f = found_ok asked.Bytes (c ∷ digits) (bytes_in (front is_digit (c ∷ digits))) (past is_digit (c ∷ digits)) bytes left e in
    at (is_digit c) refl f.0 f.1
  where
    at : (b : Bool) → is_digit c ≡ b → bytes_in (front is_digit (c ∷ digits)) ≡ Some bytes → past is_digit (c ∷ digits) ≡ left → AreRead (c ∷ digits) left bytes
    at false is f g = let wrong : bytes_in [] ≡ Some bytes = ap bytes_in (sym (front_none is_digit c digits is)) ∙ f in absurd cc
    at true is f g = octets_are c digits left bytes is (octets_take (c ∷ digits) bytes left (as_octets c digits bytes left is f g)) (bytes_low (front is_digit (c ∷ digits)) bytes f)

-- the bytes behind the word of a request
request_case : (word text rest : List ℕ) (reader : List ℕ → Result Request (Stop Asked)) (bytes : List ℕ) → ((t : List ℕ) (r : Request) → reader t ≡ Ok r → IsAsked (word ++ t) r)
    → text ≡ word ++ rest → (reader rest >>= λ r. Ok (request_bytes r)) ≡ Ok bytes → IsTold text bytes
request_case word text rest reader bytes takes is e =
    let b = bind_ok (reader rest) (λ r. Ok (request_bytes r)) bytes e in
    subst (λ (t : List ℕ). IsTold t bytes) (sym is) (told (word ++ rest) bytes b.0 (takes rest b.0 b.1) (ok_is (request_bytes b.0) bytes b.2))

apdu_takes : (text digits bytes : List ℕ) → text ≡ codes "apdu " ++ digits → apdu_at text digits ≡ Ok bytes → IsTold text bytes
unfolding apdu_at
apdu_takes text digits bytes is e =
    let b = bind_ok (bytes_at digits) _ bytes e in
    let w = bind_ok (ended b.0.0 b.0.1) (wordless text) bytes b.2 in
    let hex = hex_takes digits b.0.0 b.0.1 b.1 in
    let end = ended_ok b.0.0 b.0.1 w.0 w.1 in
    elim (chosen (is_some (words_in w.0)) (stops asked.Request text) (Ok w.0) (Ok bytes) w.2) [
      | inl p ↦ let wrong = p.1 in absurd cc
      | inr p ↦
          let same : w.0 ≡ bytes = ok_is w.0 bytes p.1 in
          subst (λ (b : List ℕ). IsTold text b) (end.1 ∙ same)
          (record {
            said =
                none_said (words_in b.0.0) (apdu_words b.0.0) (ap (λ (x : List ℕ). is_some (words_in x)) end.1 ∙ p.0)
                ∙ ap (λ (t : List ℕ). codes "apdu " ++ t) (sym (hex.0 ∙ ap (λ (t : List ℕ). encode_upper b.0.0 ++ t) end.0 ∙ append-nil (encode_upper b.0.0)))
                ∙ sym is;
            some = hex.1;
            are_bytes = hex.2;
          })
    ]
  where
    none_said : (o : Option (List ℕ)) (x : List ℕ) → is_some o ≡ false → unwrap_or o x ≡ x
    none_said None x h = refl
    none_said (Some y) x h = absurd cc

by_word : (word text : List ℕ) (reader : List ℕ → Result Request (Stop Asked)) (bytes : List ℕ) → ((t : List ℕ) (r : Request) → reader t ≡ Ok r → IsAsked (word ++ t) r)
    → (other : Result (List ℕ) (Stop Asked)) → request_or (behind word text) reader other ≡ Ok bytes → (other ≡ Ok bytes → IsTold text bytes) → IsTold text bytes
by_word word text reader bytes takes other e next = at (behind word text) refl e
  where
    at : (o : Option (List ℕ)) → behind word text ≡ o → request_or o reader other ≡ Ok bytes → IsTold text bytes
    at None is h = next h
    at (Some rest) is h = request_case word text rest reader bytes takes (behind-takes word text rest is) h

-- what a client asks in words, as bytes, is told by these words
pub asked_takes : (text bytes : List ℕ) → asked_bytes text ≡ Ok bytes → IsTold text bytes
unfolding asked_bytes
asked_takes text bytes e =
    by_word (codes "get ") text get_at bytes get_takes _ e
    (λ e1. by_word (codes "set ") text set_at bytes set_takes _ e1
    (λ e2. by_word (codes "act ") text act_at bytes act_takes _ e2
    (λ e3. last (behind (codes "apdu ") text) refl e3)))
  where
    last : (o : Option (List ℕ)) → behind (codes "apdu ") text ≡ o → apdu_or text o ≡ Ok bytes → IsTold text bytes
    last None is h = absurd cc
    last (Some digits) is h = apdu_takes text digits bytes (behind-takes (codes "apdu ") text digits is) h
