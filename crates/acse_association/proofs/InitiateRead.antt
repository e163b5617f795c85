-- An InitiateRequest that is read is one that stands there, and one that stands there is read.
use Rattle.std.proofs.Common.{◌≡◌, ℕ, zero, suc, ◌^◌, ◌<◌, ◌≤◌, ◌/◌, ◌%◌, Bool, true, false, cond, eqb, leb, List, [], ◌∷◌, ◌++◌, length, take, drop, Some, None, refl, sym, ap, subst, ◌∙◌, arith, inl, inr, ◌⊎◌}
use Rattle.std.specs.Prelude.{◌&&◌, ◌||◌, nat_eq}
use Rattle.std.specs.List.{starts_with}
use Rattle.std.specs.Int.{w16, w32, from_be_bytes, to_be_bytes, bytes_high_first}
use Rattle.std.proofs.lemmas.Bool.{eqb-true, eq-eqb, le-leb, leb-true}
use Rattle.std.proofs.lemmas.Slice.Eq.{bytes_eq-Decides}
use Rattle.std.proofs.lemmas.List.{take_at, drop_at, take-append-drop, length-take, length-drop}
use Rattle.std.proofs.lemmas.Nat.{be_bytes_2, be_bytes_4, from_be_bytes-to_be_bytes_2, from_be_bytes-to_be_bytes_4}
use Rattle.acse_association.specs.Initiate.{front, version, takes_length, IsOptional, IsProposal, proposal, IsInitiate, behind, behind_optional, proposal_at, initiate_at}
use Rattle.acse_association.specs.Laws.{AreBytes, InitiateIsRead}
use Rattle.acse_association.specs.declared.initiate.Initiate.{Initiate}
use Rattle.acse_association.proofs.FieldsRead.{bind_some, when_some, some_is, both, AreBytes-behind, AreBytes-drop, AreBytes-take}

-- ---- a fixed text

behind_takes : (text bytes rest : List ℕ) → behind text bytes ≡ Some rest → bytes ≡ text ++ rest
unfolding behind
behind_takes text bytes rest e =
    let g = when_some (starts_with nat_eq bytes text) (drop (length text) bytes) rest e in
    let same : text ≡ take (length text) bytes = (bytes_eq-Decides text (take (length text) bytes)).0 g.0 in
    sym (take-append-drop (length text) bytes) ∙ ap (λ (x : List ℕ). x ++ drop (length text) bytes) (sym same) ∙ ap (λ (x : List ℕ). text ++ x) g.1

behind_again : (text rest : List ℕ) → behind text (text ++ rest) ≡ Some rest
unfolding behind
behind_again text rest =
    let same : starts_with nat_eq (text ++ rest) text ≡ true = (bytes_eq-Decides text (take (length text) (text ++ rest))).1 (sym (take_at text rest (length text) refl)) in
    rw (same, drop_at text rest (length text) refl) refl

-- ---- an optional byte

optional_takes : (bytes rest : List ℕ) → behind_optional bytes ≡ Some rest → (text : List ℕ) × IsOptional text × (bytes ≡ text ++ rest)
unfolding behind_optional
optional_takes [] rest e = absurd cc
optional_takes (flag ∷ bytes) rest e =
    let at : (b : Bool) → eqb flag 0 ≡ b → cond b (Some bytes) (cond (eqb flag 1 && leb 1 (length bytes)) (Some (drop 1 bytes)) None) ≡ Some rest → (text : List ℕ) × IsOptional text × ((flag ∷ bytes) ≡ text ++ rest) =
    λ b. elim b as (λ c. eqb flag 0 ≡ c → cond c (Some bytes) (cond (eqb flag 1 && leb 1 (length bytes)) (Some (drop 1 bytes)) None) ≡ Some rest → (text : List ℕ) × IsOptional text × ((flag ∷ bytes) ≡ text ++ rest)) [
      | true ↦ λ is h. (0 ∷ [], inl refl, ap (λ (x : ℕ). x ∷ bytes) (eqb-true flag 0 is) ∙ ap (λ (x : List ℕ). 0 ∷ x) (some_is bytes rest h))
      | false ↦ λ is h. with_byte flag bytes rest h
    ] in
    at (eqb flag 0) refl e
  where
    with_byte : (flag : ℕ) (bytes rest : List ℕ) → cond (eqb flag 1 && leb 1 (length bytes)) (Some (drop 1 bytes)) None ≡ Some rest → (text : List ℕ) × IsOptional text × ((flag ∷ bytes) ≡ text ++ rest)
    with_byte flag [] rest h = let g = when_some (eqb flag 1 && leb 1 0) [] rest h in absurd (omega (arith, leb-true 1 0 (both (eqb flag 1) (leb 1 0) g.0).1))
    with_byte flag (b ∷ bytes) rest h =
        let g = when_some (eqb flag 1 && leb 1 (length (b ∷ bytes))) bytes rest h in
        (1 ∷ b ∷ [], inr (b, refl), ap (λ (x : ℕ). x ∷ b ∷ bytes) (eqb-true flag 1 (both _ _ g.0).0) ∙ ap (λ (x : List ℕ). 1 ∷ b ∷ x) g.1)

optional_again : (text rest : List ℕ) → IsOptional text → behind_optional (text ++ rest) ≡ Some rest
unfolding behind_optional
optional_again text rest (inl e) = rw e refl
optional_again text rest (inr (byte, e)) = rw (e, le-leb 1 (suc (length rest)) (omega arith)) refl

-- ---- the numbers

tail : List ℕ → List ℕ
tail [] = []
tail (b ∷ bytes) = bytes

back_three : (bytes : List ℕ) → length bytes ≡ 3 → AreBytes bytes → bytes_high_first 3 (from_be_bytes w32 (0 ∷ bytes)) ≡ bytes
unfolding tail
back_three bytes len fits = ap tail (be_bytes_4 (0 ∷ bytes) (from_be_bytes w32 (0 ∷ bytes)) (ap suc len) (elim [ zero ↦ omega arith | suc i ↦ fits i ]) refl)

again_three : (n : ℕ) → n < 2 ^ 24 → from_be_bytes w32 (0 ∷ bytes_high_first 3 n) ≡ n
again_three n lt =
    let top : n / 256 ^ 3 % 256 ≡ 0 = omega arith in
    ap (λ (b : ℕ). from_be_bytes w32 (b ∷ bytes_high_first 3 n)) (sym top) ∙ from_be_bytes-to_be_bytes_4 n (omega arith)

or-cases : (a b : Bool) → (a || b) ≡ true → (a ≡ true) ⊎ (b ≡ true)
or-cases true b e = inl refl
or-cases false b e = inr e

or-right : (a b : Bool) → b ≡ true → (a || b) ≡ true
or-right true b e = refl
or-right false b e = e

takes-cases : (n : ℕ) → takes_length n ≡ true → (n ≡ 0) ⊎ (16 ≤ n)
takes-cases n e = elim (or-cases (eqb n 0) (leb 16 n) e) [ inl h ↦ inl (eqb-true n 0 h) | inr h ↦ inr (leb-true 16 n h) ]

takes-is : (n : ℕ) → (n ≡ 0) ⊎ (16 ≤ n) → takes_length n ≡ true
takes-is n (inl e) = rw (eq-eqb n 0 e) refl
takes-is n (inr le) = or-right (eqb n 0) (leb 16 n) (le-leb 16 n le)

proposal_takes : (bytes : List ℕ) (initiate : Initiate) → AreBytes bytes → proposal_at bytes ≡ Some initiate → IsProposal initiate × (bytes ≡ proposal initiate)
unfolding proposal_at
proposal_takes bytes initiate fits e =
    let high = from_be_bytes w32 (0 ∷ take 3 bytes) in
    let low = from_be_bytes w16 (drop 3 bytes) in
    let made : Initiate = record { conformance = high; max_pdu = low } in
    let g = when_some (eqb (length bytes) 5 && takes_length low) made initiate e in
    let tests = both _ _ g.0 in
    let len : length bytes ≡ 5 = eqb-true _ _ tests.0 in
    let front_fits = AreBytes-take 3 bytes fits in
    let back_fits = AreBytes-drop 3 bytes fits in
    let front_is : bytes_high_first 3 high ≡ take 3 bytes = back_three (take 3 bytes) (omega (arith, length-take 3 bytes)) front_fits in
    let back_is : to_be_bytes w16 low ≡ drop 3 bytes = be_bytes_2 (drop 3 bytes) low (omega (arith, length-drop 3 bytes)) back_fits refl in
    let whole : bytes ≡ proposal made = sym (take-append-drop 3 bytes) ∙ ap (λ (x : List ℕ). x ++ drop 3 bytes) (sym front_is) ∙ ap (λ (x : List ℕ). bytes_high_first 3 high ++ x) (sym back_is) in
    let range : IsProposal made = (omega (arith, front_fits 0, front_fits 1, front_fits 2), omega (arith, back_fits 0, back_fits 1), takes-cases low tests.1) in
    subst (λ (x : Initiate). IsProposal x × (bytes ≡ proposal x)) g.1 (range, whole)

proposal_again : (initiate : Initiate) → IsProposal initiate → proposal_at (proposal initiate) ≡ Some initiate
unfolding proposal_at
proposal_again initiate h =
    let high : from_be_bytes w32 (0 ∷ bytes_high_first 3 initiate.conformance) ≡ initiate.conformance = again_three initiate.conformance h.0 in
    let low : from_be_bytes w16 (to_be_bytes w16 initiate.max_pdu) ≡ initiate.max_pdu = from_be_bytes-to_be_bytes_2 initiate.max_pdu h.1 in
    rw (high, low, takes-is initiate.max_pdu h.2) refl

-- ---- the whole

initiate_takes : (initiate : Initiate) (bytes : List ℕ) → AreBytes bytes → initiate_at bytes ≡ Some initiate → IsInitiate initiate bytes
unfolding initiate_at
initiate_takes initiate bytes fits e =
    let a = bind_some (behind front bytes) _ initiate e in
    let b = bind_some (behind_optional a.0) _ initiate a.2 in
    let c = bind_some (behind_optional b.0) _ initiate b.2 in
    let d = bind_some (behind version c.0) proposal_at initiate c.2 in
    let first = behind_takes front bytes a.0 a.1 in
    let response = optional_takes a.0 b.0 b.1 in
    let quality = optional_takes b.0 c.0 c.1 in
    let second = behind_takes version c.0 d.0 d.1 in
    let fits_a : AreBytes a.0 = AreBytes-behind front a.0 (subst AreBytes first fits) in
    let fits_b : AreBytes b.0 = AreBytes-behind response.0 b.0 (subst AreBytes response.2 fits_a) in
    let fits_c : AreBytes c.0 = AreBytes-behind quality.0 c.0 (subst AreBytes quality.2 fits_b) in
    let fits_d : AreBytes d.0 = AreBytes-behind version d.0 (subst AreBytes second fits_c) in
    let numbers = proposal_takes d.0 initiate fits_d d.2 in (
      response.0,
      quality.0,
      response.1,
      quality.1,
      numbers.0,
      first
          ∙ ap (λ (x : List ℕ). front ++ x) (response.2
          ∙ ap (λ (x : List ℕ). response.0 ++ x) (quality.2
          ∙ ap (λ (x : List ℕ). quality.0 ++ x) (second ∙ ap (λ (x : List ℕ). version ++ x) numbers.1))),
    )

initiate_again : (initiate : Initiate) (bytes : List ℕ) → IsInitiate initiate bytes → initiate_at bytes ≡ Some initiate
unfolding initiate_at
initiate_again initiate bytes h =
    let first = behind_again front (h.0 ++ (h.1 ++ (version ++ proposal initiate))) in
    let response = optional_again h.0 (h.1 ++ (version ++ proposal initiate)) h.2 in
    let quality = optional_again h.1 (version ++ proposal initiate) h.3 in
    let second = behind_again version (proposal initiate) in
    ap initiate_at h.5 ∙ rw (first, response, quality, second) (proposal_again initiate h.4)

-- the client takes APDUs of such a length
pub takes-some : (initiate : Initiate) (bytes : List ℕ) → initiate_at bytes ≡ Some initiate → (initiate.max_pdu ≡ 0) ⊎ (16 ≤ initiate.max_pdu)
unfolding initiate_at proposal_at
takes-some initiate bytes e =
    let a = bind_some (behind front bytes) _ initiate e in
    let b = bind_some (behind_optional a.0) _ initiate a.2 in
    let c = bind_some (behind_optional b.0) _ initiate b.2 in
    let d = bind_some (behind version c.0) proposal_at initiate c.2 in
    let low = from_be_bytes w16 (drop 3 d.0) in
    let made : Initiate = record { conformance = from_be_bytes w32 (0 ∷ take 3 d.0); max_pdu = low } in
    let g = when_some (eqb (length d.0) 5 && takes_length low) made initiate d.2 in
    subst (λ (x : Initiate). (x.max_pdu ≡ 0) ⊎ (16 ≤ x.max_pdu)) g.1 (takes-cases low (both _ _ g.0).1)

pub initiate_is_read : InitiateIsRead
initiate_is_read = λ initiate bytes fits. (initiate_takes initiate bytes fits, initiate_again initiate bytes)
