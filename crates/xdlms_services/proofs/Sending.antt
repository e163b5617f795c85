-- Blocks that are sent until nothing is left.
use Rattle.std.proofs.Common.{◌≡◌, ℕ, zero, suc, ◌+◌, ◌<◌, ◌≤◌, false, List, [], ◌∷◌, ◌++◌, length, take, refl, sym, ap, ◌∙◌, subst, arith, inl, inr}
use Rattle.std.proofs.lemmas.Bool.{cases_lt, eq-eqb, ne_eqb}
use Rattle.std.proofs.lemmas.List.{take-append-drop, length-take, length-take-le, length-drop, nil_from_length}
use Rattle.std.proofs.lemmas.List.Elements.{All-nil, All-cons}
use Rattle.cosem_axdr.specs.Canonical.{canonical}
use Rattle.xdlms_services.specs.Blocks.{Transfer, Block, block_size, most_raw, start, behind, next_block}
use Rattle.xdlms_services.specs.BlockLaws.{Sends, IsFull, Bring, BlocksBringValue, BlocksEnd}
use Rattle.xdlms_services.proofs.Sizes.{most_fits, most_most, most_some, block_size_grows}

-- what is sent next and what is left are what was unsent
parts : (t : Transfer) → (next_block t).raw ++ (behind t).unsent ≡ t.unsent
parts t = take-append-drop (most_raw t.limit) t.unsent

-- where something is left behind it, a block isn't the last, and is full
more_behind : (t : Transfer) → 16 ≤ t.limit → 0 < length (behind t).unsent → ((next_block t).is_last ≡ false) × IsFull t.limit (next_block t)
more_behind t room more =
    let m = most_raw t.limit in
    let n = length (take m t.unsent) in
    let e : n ≡ m = length-take-le m t.unsent (omega (arith, length-drop m t.unsent)) in
    let fits : block_size m ≤ t.limit = most_fits t.limit (omega arith) in
    let full : t.limit < block_size (m + 1) =
    elim (cases_lt t.limit (block_size (m + 1))) [
      | inl lt ↦ lt
      | inr le ↦ absurd (omega (arith, most_most t.limit (m + 1) le))
    ] in
    (ne_eqb (length (behind t).unsent) 0 (λ z. omega arith), (subst (λ (k : ℕ). block_size k ≤ t.limit) (sym e) fits, subst (λ (k : ℕ). t.limit < block_size (k + 1)) (sym e) full))

-- as many bytes as that keep within the limit
within : (t : Transfer) → 16 ≤ t.limit → block_size (length (next_block t).raw) ≤ t.limit
within t room =
    let m = most_raw t.limit in
    let grows : block_size (length (take m t.unsent)) ≤ block_size m = block_size_grows (length (take m t.unsent)) m (omega (arith, length-take {A = ℕ})) in
    let fits : block_size m ≤ t.limit = most_fits t.limit (omega arith) in
    omega arith

-- where something is unsent, the next block has some of it
some_next : (t : Transfer) → 16 ≤ t.limit → 0 < length t.unsent → 0 < length (next_block t).raw
some_next t room some = omega (arith, most_some t.limit (omega arith), length-take {A = ℕ})

-- the blocks that are sent bring what was unsent
pub sent_bring : (t : Transfer) (blocks : List Block) → 16 ≤ t.limit → 0 < length t.unsent → Sends t blocks → Bring t.unsent (t.number + 1) t.limit blocks
sent_bring t [] room some sends = absurd (omega (arith, ap (λ (bytes : List ℕ). length bytes) sends))
sent_bring t (block ∷ []) room some sends =
    subst (λ (b : Block). Bring t.unsent (t.number + 1) t.limit (b ∷ [])) (sym sends.1) (record {
      joined = ap (λ (bytes : List ℕ). (next_block t).raw ++ bytes) (sym sends.2) ∙ parts t;
      numbers = refl;
      front = [];
      last = next_block t;
      order = refl;
      each_of_front = All-nil (λ (b : Block). (b.is_last ≡ false) × IsFull t.limit b);
      last_is_marked = eq-eqb (length (behind t).unsent) 0 (ap (λ (bytes : List ℕ). length bytes) sends.2);
      last_fits = within t room;
      last_has_some = some_next t room some;
    })
sent_bring t (block ∷ other ∷ blocks) room some sends =
    let rest : Bring (behind t).unsent ((behind t).number + 1) t.limit (other ∷ blocks) = sent_bring (behind t) (other ∷ blocks) room sends.2.0 sends.2 in
    subst (λ (b : Block). Bring t.unsent (t.number + 1) t.limit (b ∷ other ∷ blocks)) (sym sends.1) (record {
      joined = ap (λ (bytes : List ℕ). (next_block t).raw ++ bytes) rest.joined ∙ parts t;
      numbers = ap (λ (numbers : List ℕ). (t.number + 1) ∷ numbers) rest.numbers;
      front = next_block t ∷ rest.front;
      last = rest.last;
      order = ap (λ (bs : List Block). next_block t ∷ bs) rest.order;
      each_of_front = All-cons (λ (b : Block). (b.is_last ≡ false) × IsFull t.limit b) (next_block t) rest.front (more_behind t room sends.2.0) rest.each_of_front;
      last_is_marked = rest.last_is_marked;
      last_fits = rest.last_fits;
      last_has_some = rest.last_has_some;
    })

pub blocks_bring_value : BlocksBringValue
blocks_bring_value value limit room blocks sends = sent_bring (start value limit) blocks room (omega arith) sends

-- blocks are sent until nothing is left, of what has at most so many bytes
send_all : (n : ℕ) (t : Transfer) → 16 ≤ t.limit → length t.unsent ≤ n → (blocks : List Block) × Sends t blocks
send_all zero t room few = ([], nil_from_length t.unsent (omega arith))
send_all (suc n) t room few =
    elim (cases_lt 0 (length t.unsent)) [
      | inl some ↦
          let rest = send_all n (behind t) room (omega (arith, most_some t.limit (omega arith), length-drop (most_raw t.limit) t.unsent)) in
          (next_block t ∷ rest.0, (some, refl, rest.1))
      | inr none ↦ ([], nil_from_length t.unsent (omega arith))
    ]

pub blocks_end : BlocksEnd
blocks_end value limit room = send_all (length (canonical value)) (start value limit) room (omega arith)
